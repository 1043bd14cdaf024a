-- What lines declare, their canonical lines declare too.
use Rattle.std.proofs.Common.{◌≡◌, inl, inr, ℕ, suc, zero, ◌≤◌, Bool, true, false, List, [], ◌∷◌, ◌++◌, map, refl, subst, Some, arith}
use Rattle.std.proofs.lemmas.Bool.Decides.{nat_tests}
use Rattle.std.specs.List.{list_all}
use Rattle.std.specs.Prelude.{◌==◌, ◌||◌, not, codes, decimal}
use Rattle.std.specs.Str.{bytes_eq}
use Rattle.script_print.proofs.DeclaredAgain.{tells, said}
use Rattle.script_print.proofs.Front.{so_far}
use Rattle.script_print.proofs.ScheduleAgain.{last_line}
use Rattle.script_types.specs.Context.{empty_script, may_stand, kind_of, rank_of, told, is_process}
use Rattle.script_types.specs.Names.{Declared, first_two, declares, is_declared, is_thread_declared, is_irq_declared, is_known_op, is_known_instr, is_known}
use Rattle.script_types.specs.SourceWords.{source_words}
use Rattle.script_types.specs.Stands.{AllStand}
use Rattle.script_types.specs.declared.context.Context.{Context}
use Rattle.script_types.specs.declared.declaration.Op.{Op}
use Rattle.script_types.specs.declared.declaration.Op.TheVariants as op
use Rattle.script_types.specs.declared.instruction.Instr.{Instr}
use Rattle.script_types.specs.declared.instruction.Instr.TheVariants as instr
use Rattle.script_types.specs.declared.script.Script.{Script}
use Rattle.script_types.specs.declared.source_line.LineKind.TheVariants as of
use Rattle.script_types.specs.declared.source_line.SourceLine.{SourceLine}
use Rattle.script_types.specs.declared.source_line.SourceLine.TheVariants as line
use Rattle.script_types.proofs.LimitLaws.{both, or_true}
use Rattle.std.proofs.lemmas.Bool.{or_right}
use Rattle.script_types.proofs.NameLaws.{all_as}

-- what lines declare
abbrev pub twos : List SourceLine → List Declared
twos lines = map first_two (map source_words lines)

-- all that one file declares, another declares too
pub record Carries (file other : List Declared) : Type 0 where
  pub queues : (name : List ℕ) → is_declared file (codes "dfcq") name ≡ true → is_declared other (codes "dfcq") name ≡ true
  pub dfcs : (name : List ℕ) → is_declared file (codes "dfc") name ≡ true → is_declared other (codes "dfc") name ≡ true
  pub idfcs : (name : List ℕ) → is_declared file (codes "idfc") name ≡ true → is_declared other (codes "idfc") name ≡ true
  pub threads : (name : List ℕ) → is_thread_declared file name ≡ true → is_thread_declared other name ≡ true
  pub irqs : (number : List ℕ) → is_irq_declared file number ≡ true → is_irq_declared other number ≡ true

-- so what a line names is known there too
op_again : (file other : List Declared) → Carries file other → (what : Op) → is_known_op file what ≡ true → is_known_op other what ≡ true
op_again file other t (op.Idfc name) h = t.idfcs name h
op_again file other t (op.Dfc name) h = t.dfcs name h
op_again file other t (op.Fssignal name) h = t.threads name h
op_again file other t (op.Device x code) h = refl
op_again file other t (op.Queue name) h = t.dfcs name h

instr_again : (file other : List Declared) (fast : ℕ) → Carries file other → (what : Instr)
    → is_known_instr file fast what ≡ true → is_known_instr other fast what ≡ true
instr_again file other fast t (instr.Flock x) h = h
instr_again file other fast t (instr.Funlock x) h = h
instr_again file other fast t (instr.Fssignal name) h = t.threads name h
instr_again file other fast t (instr.Queue name) h = t.dfcs name h
instr_again file other fast t _ h = refl

or_as : (a b c : Bool) → (b ≡ true → c ≡ true) → (a || b) ≡ true → (a || c) ≡ true
or_as true b c go h = refl
or_as false b c go h = go h

or_either : (a b c d : Bool) → (a ≡ true → c ≡ true) → (b ≡ true → d ≡ true) → (a || b) ≡ true → (c || d) ≡ true
or_either true b c d one other h = rw (one refl) refl
or_either false b true d one other h = refl
or_either false b false d one other h = other h

pub known_again : (file other : List Declared) → Carries file other → (c : Context) (l : SourceLine) → is_known file c l ≡ true → is_known other c l ≡ true
known_again file other t c (line.Dfc name queue p ops) h =
    let parts = both (bytes_eq queue (codes "supervisor") || is_declared file (codes "dfcq") queue) (list_all (is_known_op file) ops) h in
    rw (
      or_as (bytes_eq queue (codes "supervisor")) (is_declared file (codes "dfcq") queue)
          (is_declared other (codes "dfcq") queue) (t.queues queue) parts.0,
      all_as (is_known_op file) (is_known_op other) (op_again file other t) ops parts.1,
    ) refl
known_again file other t c (line.Idfc name ops) h = all_as (is_known_op file) (is_known_op other) (op_again file other t) ops h
known_again file other t c (line.IrqBody k ops) h = all_as (is_known_op file) (is_known_op other) (op_again file other t) ops h
known_again file other t c (line.Instr what) h = instr_again file other c.script.fast t what h
known_again file other t c (line.IrqSlot k) h = t.irqs (decimal k) h
known_again file other t c _ h = refl

-- a sort of names that no line declares which isn't among the canonical ones
record IsKept (sort : List ℕ) : Type 0 where
  pool : bytes_eq (codes "pool") sort ≡ false
  fast : bytes_eq (codes "fast") sort ≡ false
  schedule : bytes_eq (codes "schedule") sort ≡ false
  go : bytes_eq (codes "go") sort ≡ false
  irq : bytes_eq (codes "irq") sort ≡ false
  tick : bytes_eq (codes "tick") sort ≡ false
  last : bytes_eq (codes "end") sort ≡ false

first_is : (sort name : List ℕ) (two : Declared) → declares sort name two ≡ true → bytes_eq two.0 sort ≡ true
first_is sort name two h = (both (bytes_eq two.0 sort) (bytes_eq two.1 name) h).0

-- a line that declares a name of a sort stays
line_carries : (sort name : List ℕ) (l : SourceLine) → IsKept sort
    → declares sort name (first_two (source_words l)) ≡ true → is_declared (twos (tells l)) sort name ≡ true
line_carries sort name (line.Pool n) kept h =
    let e : bytes_eq (codes "pool") sort ≡ true = first_is sort name (first_two (source_words (line.Pool n))) h in
    let off = kept.pool in
    absurd (cc)
line_carries sort name (line.Fast n) kept h =
    let e : bytes_eq (codes "fast") sort ≡ true = first_is sort name (first_two (source_words (line.Fast n))) h in
    let off = kept.fast in
    absurd (cc)
line_carries sort name line.Schedule kept h =
    let e : bytes_eq (codes "schedule") sort ≡ true = first_is sort name (first_two (source_words line.Schedule)) h in
    let off = kept.schedule in
    absurd (cc)
line_carries sort name (line.Go n) kept h =
    let e : bytes_eq (codes "go") sort ≡ true = first_is sort name (first_two (source_words (line.Go n))) h in
    let off = kept.go in
    absurd (cc)
line_carries sort name (line.IrqSlot k) kept h =
    let e : bytes_eq (codes "irq") sort ≡ true = first_is sort name (first_two (source_words (line.IrqSlot k))) h in
    let off = kept.irq in
    absurd (cc)
line_carries sort name line.Tick kept h =
    let e : bytes_eq (codes "tick") sort ≡ true = first_is sort name (first_two (source_words line.Tick)) h in
    let off = kept.tick in
    absurd (cc)
line_carries sort name line.End kept h =
    let e : bytes_eq (codes "end") sort ≡ true = first_is sort name (first_two (source_words line.End)) h in
    let off = kept.last in
    absurd (cc)
line_carries sort name _ kept h = rw h refl

-- one of two parts declares it
in_front : (sort name : List ℕ) (xs ys : List SourceLine) → is_declared (twos xs) sort name ≡ true → is_declared (twos (xs ++ ys)) sort name ≡ true
in_front sort name [] ys h = absurd (cc)
in_front sort name (x ∷ xs) ys h =
    or_as (declares sort name (first_two (source_words x))) (is_declared (twos xs) sort name)
    (is_declared (twos (xs ++ ys)) sort name) (in_front sort name xs ys) h

in_rest : (sort name : List ℕ) (xs ys : List SourceLine) → is_declared (twos ys) sort name ≡ true → is_declared (twos (xs ++ ys)) sort name ≡ true
in_rest sort name [] ys h = h
in_rest sort name (x ∷ xs) ys h =
    or_right (declares sort name (first_two (source_words x))) (is_declared (twos (xs ++ ys)) sort name)
    (in_rest sort name xs ys h)

names_carry : (sort : List ℕ) → IsKept sort → (lines : List SourceLine) (name : List ℕ)
    → is_declared (twos lines) sort name ≡ true → is_declared (twos (said lines)) sort name ≡ true
names_carry sort kept [] name h = absurd (cc)
names_carry sort kept (l ∷ ls) name h =
    elim (or_true (declares sort name (first_two (source_words l))) (is_declared (twos ls) sort name) h) as
    (λ _. is_declared (twos (tells l ++ said ls)) sort name ≡ true) [
      | inl e ↦ in_front sort name (tells l) (said ls) (line_carries sort name l kept e)
      | inr e ↦ in_rest sort name (tells l) (said ls) (names_carry sort kept ls name e)
    ]

-- no slot stands before `schedule`
pub no_slot : (awaits : Bool) (rank : ℕ) → rank ≤ 8 → may_stand (Some rank) awaits of.Slot ≡ true → ⊥
no_slot true rank le h = cc
no_slot false rank le h = grind (arith, nat_tests)

pub not_zero : (n : ℕ) → (suc n == 0) ≡ false
not_zero n = grind (arith, nat_tests)

-- the interrupts that lines declare
keeps : (number : List ℕ) (two : Declared) (file other : List Declared)
    → (is_irq_declared file number ≡ true → is_irq_declared other number ≡ true)
    → is_irq_declared (two ∷ file) number ≡ true → is_irq_declared (two ∷ other) number ≡ true
keeps number two file other go h =
    let parts = both (not (bytes_eq two.0 (codes "schedule"))) (declares (codes "irq") number two || is_irq_declared file number) h in
    rw (parts.0, or_as (declares (codes "irq") number two) (is_irq_declared file number) (is_irq_declared other number) go parts.1) refl

irqs_carry : (file : List Declared) (s : Script) (rank : ℕ) (awaits : Bool) (lines rest : List SourceLine)
    (number : List ℕ)
    → rank ≤ 8 → AllStand file (so_far s rank awaits) lines → is_irq_declared (twos lines) number ≡ true
    → is_irq_declared (twos (said lines ++ rest)) number ≡ true
irqs_carry file s rank awaits [] rest number le stand h = absurd (cc)
irqs_carry file s rank awaits (line.Pool zero ∷ ls) rest number le stand h =
    irqs_carry file (told s (line.Pool zero)) 1 false ls rest number (omega arith) stand.1 h
irqs_carry file s rank awaits (line.Pool (suc n) ∷ ls) rest number le stand h =
    rw (not_zero n) (irqs_carry file (told s (line.Pool (suc n))) 1 false ls rest number (omega arith) stand.1 h)
irqs_carry file s rank awaits (line.Fast zero ∷ ls) rest number le stand h =
    irqs_carry file (told s (line.Fast zero)) 2 false ls rest number (omega arith) stand.1 h
irqs_carry file s rank awaits (line.Fast (suc n) ∷ ls) rest number le stand h =
    rw (not_zero n) (irqs_carry file (told s (line.Fast (suc n))) 2 false ls rest number (omega arith) stand.1 h)
irqs_carry file s rank awaits (line.Schedule ∷ ls) rest number le stand h = absurd (cc)
irqs_carry file s rank awaits (line.End ∷ ls) rest number le stand h =
    let none = last_line file s ls stand.1 in
    let alone : is_irq_declared (twos (line.End ∷ [])) number ≡ true =
    subst (λ (xs : List SourceLine). is_irq_declared (twos (line.End ∷ xs)) number ≡ true) none h in
    absurd (cc)
irqs_carry file s rank awaits (line.Go count ∷ ls) rest number le stand h = absurd (no_slot awaits rank le stand.0.order)
irqs_carry file s rank awaits (line.IrqSlot k ∷ ls) rest number le stand h = absurd (no_slot awaits rank le stand.0.order)
irqs_carry file s rank awaits (line.Tick ∷ ls) rest number le stand h = absurd (no_slot awaits rank le stand.0.order)
irqs_carry file s rank awaits (l ∷ ls) rest number le stand h =
    keeps number (first_two (source_words l)) (twos ls) (twos (said ls ++ rest))
    (irqs_carry file (told s l) (rank_of rank (kind_of l)) (is_process (kind_of l)) ls rest number
    (omega arith) stand.1) h

-- the lines behind the header, and what stands behind those of them that declare
pub carries : (file : List Declared) (version : ℕ) (lines rest : List SourceLine)
    → AllStand file (so_far (record empty_script { version = version }) 0 false) lines
    → Carries (twos (line.Header version ∷ lines)) (twos (line.Header version ∷ (said lines ++ rest)))
carries file version lines rest stand =
    let all : List SourceLine = line.Header version ∷ lines in
    let name_carries : (sort : List ℕ) → IsKept sort → (name : List ℕ) → is_declared (twos all) sort name ≡ true
    → is_declared (twos (said all ++ rest)) sort name ≡ true =
    λ sort kept name h. in_front sort name (said all) rest (names_carry sort kept all name h) in
    let queues = name_carries (codes "dfcq") (record { pool = refl; fast = refl; schedule = refl; go = refl; irq = refl; tick = refl; last = refl }) in
    let threads = name_carries (codes "thread") (record { pool = refl; fast = refl; schedule = refl; go = refl; irq = refl; tick = refl; last = refl }) in
    let kernel = name_carries (codes "kthread") (record { pool = refl; fast = refl; schedule = refl; go = refl; irq = refl; tick = refl; last = refl }) in
    record {
      queues = queues;
      dfcs = name_carries (codes "dfc") (record { pool = refl; fast = refl; schedule = refl; go = refl; irq = refl; tick = refl; last = refl });
      idfcs = name_carries (codes "idfc") (record { pool = refl; fast = refl; schedule = refl; go = refl; irq = refl; tick = refl; last = refl });
      threads =
          λ name. or_either (is_declared (twos all) (codes "thread") name || is_declared (twos all) (codes "kthread") name)
          (is_declared (twos all) (codes "dfcq") name)
          (is_declared (twos (said all ++ rest)) (codes "thread") name || is_declared (twos (said all ++ rest))
          (codes "kthread") name) (is_declared (twos (said all ++ rest)) (codes "dfcq") name)
          (or_either (is_declared (twos all) (codes "thread") name) (is_declared (twos all) (codes "kthread") name)
          (is_declared (twos (said all ++ rest)) (codes "thread") name)
          (is_declared (twos (said all ++ rest)) (codes "kthread") name) (threads name) (kernel name))
          (queues name);
      irqs =
          λ number. keeps number (first_two (source_words (line.Header version))) (twos lines) (twos (said lines ++ rest))
          (irqs_carry file (record empty_script { version = version }) 0 false lines rest number (omega arith) stand);
    }
