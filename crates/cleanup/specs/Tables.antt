-- The parts of the lists are made for the same threads and objects.
use Rattle.std.specs.Prelude.{◌≡◌, ℕ, ◌*◌, ◌^◌, ◌<◌, List, length}
use Rattle.state_rows.specs.declared.duty.Owed.{Owed}
use Rattle.links.specs.Linked.{Linked}

pub record AreSized (threads : ℕ) (duties : List (List Owed)) (mutexes servers logons : Linked) : Type 0 where
  pub few_threads : threads < 2 ^ 16
  pub few_objects : mutexes.nodes < 2 ^ 16
  pub duties_sized : length duties ≡ threads
  pub mutexes_sized : length mutexes.lists ≡ threads
  pub servers_sized : length servers.lists ≡ threads
  pub same_objects : servers.nodes ≡ mutexes.nodes
  pub logons_sized : length logons.lists ≡ threads
  pub statuses : logons.nodes ≡ threads * 16
