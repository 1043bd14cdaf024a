-- How a slab of messages and the lists of their numbers and keys stand for the messages in order of acceptance.
use Rattle.std.specs.Prelude.{◌≡◌, ℕ, ◌<◌, ◌≤◌, ◌^◌, Bool, false, ◌==◌, if◌then◌else◌, List, [], Option, Some, None, All, length, map, IsSome, pos}
use Rattle.std.specs.List.{AllPairs, find}
use Rattle.slab.specs.Slab.{Slab, get, slab_len}
use Rattle.sym_base.specs.declared.kind.Slots.TheVariants.{Pool}
use Rattle.state_rows.specs.declared.messages.Way.TheVariants.{Sync}
use Rattle.state_rows.specs.declared.messages.MsgRow.{MsgRow}
use Rattle.sym_base.specs.declared.number.MsgNo.{MsgNo}
use Rattle.state_rows.specs.declared.messages.Message.{Message}
use Rattle.messages.specs.declared.records.Stored.{Stored}
use Rattle.state_rows.specs.MessageRows.{has_number, most_messages}

-- keys are below a number; the messages stand in order of acceptance
pub record Store : Type 0 where
  pub keys : ℕ
  pub stored : List Stored

-- what a key without a message would have; it is never asked for
abbrev pub no_message : Message
no_message =
    record {
      number = record { 0 = 0 };
      slots = Pool;
      row = record {
        session = record { 0 = 0 };
        server = record { 0 = 0 };
        client = record { 0 = 0 };
        function = pos 0;
        args = [];
        way = Sync;
        taken = false;
      };
    }

abbrev pub message_or : Option Message → Message
message_or None = no_message
message_or (Some message) = message

-- the message under a key
abbrev pub stored_at : Slab Message → ℕ → Stored
stored_at slab key = record { key = key; message = message_or (get slab key) }

abbrev pub number_at : Slab Message → ℕ → ℕ
number_at slab key = (stored_at slab key).message.number.0

-- what the keys and the slab stand for
abbrev pub store_of : List ℕ → Slab Message → Store
store_of keys slab = record { keys = slab.capacity; stored = map (stored_at slab) keys }

-- each number is less than those behind it
abbrev pub IsRising : List ℕ → Type 0
IsRising numbers = AllPairs (λ one other. one < other) numbers

-- the listed keys are those of the messages, and beside them stand the rising numbers
pub record AreKept (numbers keys : List ℕ) (slab : Slab Message) : Type 0 where
  pub small : slab.capacity < 2 ^ 32
  pub few : length keys ≤ most_messages
  pub as_many : slab_len slab ≡ length keys
  pub numbered : numbers ≡ map (number_at slab) keys
  pub there : All (λ key. IsSome (get slab key)) keys
  pub below : All (λ key. key < slab.capacity) keys
  pub rising : IsRising numbers

-- whether a message has a number, and whether it is kept under a key
abbrev pub is_numbered : MsgNo → Stored → Bool
is_numbered m stored = has_number m stored.message

abbrev pub has_key : ℕ → Stored → Bool
has_key key stored = stored.key == key

abbrev pub stored_under : Store → ℕ → Option Stored
stored_under store key = find (has_key key) store.stored

-- the row under a key is another
abbrev pub with_row : ℕ → MsgRow → Stored → Stored
with_row key row stored =
    if has_key key stored then record stored { message = record stored.message { row = row } } else stored

-- a message stands under its key, and of all messages it alone has the key, and it alone has the number
pub record IsUnder (store : Store) (one : Stored) : Type 0 where
  pub stands : stored_under store one.key ≡ Some one
  pub numbered : find (is_numbered one.message.number) store.stored ≡ Some one
  pub below : one.key < store.keys
  pub alike : All (λ other. has_key one.key other ≡ is_numbered one.message.number other) store.stored
  pub same : All (λ other. other.key ≡ one.key → other ≡ one) store.stored
