-- What is said of a step's answer, where it is an entry, and where the actor may not act.
use Rattle.entry_log.specs.declared.entry.Entry.{Entry}
use Rattle.plain_machine.specs.declared.stepped.Stepped.{Stepped}
use Rattle.plain_machine.specs.declared.stepped.Stepped.TheVariants as stepped

abbrev pub IfEntry : (Entry → Type 0) → Stepped → Type 0
IfEntry P (stepped.Entry entry) = P entry
IfEntry P stepped.NotLegal = Unit {0}

abbrev pub IfNotLegal : Type 0 → Stepped → Type 0
IfNotLegal P (stepped.Entry entry) = Unit {0}
IfNotLegal P stepped.NotLegal = P
