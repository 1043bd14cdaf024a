-- Names as numbers, and the lists of the numbers of the names that a script's lines have taken.
use Rattle.std.specs.Int.{w128, from_le_bytes}
use Rattle.std.specs.List.{list_all, list_any}
use Rattle.std.specs.Prelude.{◌≡◌, ℕ, ◌≤◌, Bool, ◌==◌, ◌||◌, IsTrue, List, ◌++◌, length, drop, replicate, ⊤}
use Rattle.std.specs.Str.{bytes_eq}
use Rattle.script_read.specs.declared.judge.Judged.{Judged}
use Rattle.script_read.specs.declared.judge.Judged.TheVariants as judged
use Rattle.script_read.specs.declared.taken_names.TakenNames.{TakenNames}
use Rattle.script_types.specs.Context.{after}
use Rattle.script_types.specs.declared.context.Context.{Context}
use Rattle.script_types.specs.declared.declaration.DfcDecl.{DfcDecl}
use Rattle.script_types.specs.declared.declaration.IdfcDecl.{IdfcDecl}
use Rattle.script_types.specs.declared.declaration.ProcessDecl.{ProcessDecl}
use Rattle.script_types.specs.declared.declaration.QueueDecl.{QueueDecl}
use Rattle.script_types.specs.declared.declaration.ThreadDecl.{ThreadDecl}
use Rattle.script_types.specs.declared.script.Script.{Script}
use Rattle.sym_base.specs.NameText.{name_byte}

-- the bytes of a name
pub record IsNameText (name : List ℕ) : Type 0 where
  pub text : IsTrue (list_all name_byte name)
  pub short : length name ≤ 16

-- a name with zeros behind it is 16 bytes, and these write a number, the first the lowest
abbrev pub padded : List ℕ → List ℕ
padded name = name ++ drop (length name) (replicate 16 0)

abbrev pub name_number : List ℕ → ℕ
name_number name = from_le_bytes w128 (padded name)

-- the number of a name is in a list
abbrev pub lists_name : List ℕ → List ℕ → Bool
lists_name numbers name = list_any (λ n. name_number name == n) numbers

-- a list has the number of one name more, and of no other that it had not
abbrev pub AddsName : List ℕ → List ℕ → List ℕ → Type 0
AddsName old new name = (other : List ℕ) → IsNameText other → lists_name new other ≡ (lists_name old other || bytes_eq other name)

-- one of some declared things has this name
abbrev pub any_named : {A : Type 0} → (A → List ℕ) → List A → List ℕ → Bool
any_named name_of things name = list_any (λ thing. bytes_eq name (name_of thing)) things

-- a queue or a thread of a script has this name
abbrev pub has_thread : Script → List ℕ → Bool
has_thread s name = any_named (λ (q : QueueDecl). q.name) s.queues name || any_named (λ (t : ThreadDecl). t.name) s.threads name

-- a list has the numbers of the names that pass a test, and of no other name
abbrev pub ListsThose : List ℕ → (List ℕ → Bool) → Type 0
ListsThose numbers test = (name : List ℕ) → IsNameText name → lists_name numbers name ≡ test name

-- each list has the numbers of the names of its kind that a script declares, and of no other name
pub record ListsNames (taken : TakenNames) (s : Script) : Type 0 where
  pub threads : ListsThose taken.threads (has_thread s)
  pub processes : ListsThose taken.processes (any_named (λ (p : ProcessDecl). p.name) s.processes)
  pub dfcs : ListsThose taken.dfcs (any_named (λ (d : DfcDecl). d.name) s.dfcs)
  pub idfcs : ListsThose taken.idfcs (any_named (λ (d : IdfcDecl). d.name) s.idfcs)

-- where a line is judged to be a line, its name is listed too
abbrev pub ListsJudged : TakenNames → Context → Judged → Type 0
ListsJudged taken c judged.Skipped = ListsNames taken c.script
ListsJudged taken c (judged.Line l) = ListsNames taken (after c l).script
ListsJudged taken c (judged.Bad why) = ⊤
