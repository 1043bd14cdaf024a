-- How two linked lists of keys a server stand for its messages.
use Rattle.std.specs.Prelude.{◌≡◌, ℕ, ◌<◌, ◌≤◌, ◌^◌, Bool, List, All, filter, length, map}
use Rattle.links.specs.Linked.{Linked, list_at}
use Rattle.state_rows.specs.declared.messages.Message.{Message}
use Rattle.state_rows.specs.declared.messages.MessageRows.{MessageRows}
use Rattle.state_rows.specs.MessageRows.{is_at, waits_at}
use Rattle.messages.specs.declared.records.Stored.{Stored}
use Rattle.messages.specs.Kept.{Store}

-- what the store, the two numbers and the lists stand for
abbrev pub rows_of : ℕ → ℕ → Store → Linked → MessageRows
rows_of pool accepted store outstanding =
    record { objects = length outstanding.lists; pool = pool; accepted = accepted; outstanding = map (λ stored. stored.message) store.stored }

-- the keys of the messages that pass a test, in order of acceptance
abbrev pub keys_where : (Message → Bool) → List Stored → List ℕ
keys_where test stored = map (λ one. one.key) (filter (λ one. test one.message) stored)

-- by server the list of a number has the keys of its messages that pass a test
pub record AreQueued (test : ℕ → Message → Bool) (store : Store) (objects : ℕ) (links : Linked) : Type 0 where
  pub nodes : links.nodes ≡ store.keys
  pub lists : length links.lists ≡ objects
  pub listed : (server : ℕ) → list_at links server ≡ keys_where (test server) store.stored

-- the queues are those of each server's messages, and of those that it hasn't taken; no number was given out later; and
-- servers are objects below a number
pub record AreMessages (objects accepted : ℕ) (store : Store) (outstanding untaken : Linked) : Type 0 where
  pub sized : length outstanding.lists ≡ objects
  pub small : length outstanding.lists < 2 ^ 16
  pub all : AreQueued is_at store (length outstanding.lists) outstanding
  pub waiting : AreQueued waits_at store (length outstanding.lists) untaken
  pub numbers : All (λ stored. stored.message.number.0 ≤ accepted) store.stored
