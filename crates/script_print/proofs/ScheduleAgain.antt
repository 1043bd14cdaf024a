-- The canonical lines of a schedule stand where its own lines stood, and make the same slots.
use Rattle.std.proofs.Common.{◌≡◌, ℕ, zero, suc, ◌+◌, ◌<◌, ◌≤◌, true, false, List, [], ◌∷◌, ◌++◌, append_assoc, length, length-append, replicate, refl, ap, sym, subst, ◌∙◌, Some, arith}
use Rattle.std.proofs.lemmas.Bool.{le-leb, lt-ltb, leb-true, ltb-true}
use Rattle.std.proofs.lemmas.List.{length-replicate}
use Rattle.std.specs.List.{AllByRecursion}
use Rattle.std.specs.Prelude.{IsTrue, ⊤, nat_le, decimal}
use Rattle.script_print.specs.CanonicalText.{with_slot, slots_lines, schedule_lines}
use Rattle.script_print.proofs.DeclaredAgain.{tells, said}
use Rattle.script_print.proofs.Front.{so_far}
use Rattle.script_types.specs.Context.{after, after_all, is_ended, is_in_order}
use Rattle.script_types.specs.Names.{Declared, is_irq_declared}
use Rattle.script_types.specs.Ranges.{is_source_line}
use Rattle.script_types.specs.Stands.{AllStand}
use Rattle.script_types.specs.declared.context.Context.{Context}
use Rattle.script_types.specs.declared.script.Script.{Script}
use Rattle.script_types.specs.declared.script.Slot.{Slot}
use Rattle.script_types.specs.declared.script.Slot.TheVariants as slot
use Rattle.script_types.specs.declared.source_line.LineKind.TheVariants as of
use Rattle.script_types.specs.declared.source_line.SourceLine.{SourceLine}
use Rattle.script_types.specs.declared.source_line.SourceLine.TheVariants as line

-- a script with these slots, behind lines of this rank
abbrev pub at_rank : Script → ℕ → List Slot → Context
at_rank s rank slots = record { script = record s { slots = slots }; rank = Some rank; awaits_thread = false }

-- an interrupt that comes has a body in the file, and its line is one
pub record Comes (file : List Declared) (k : ℕ) : Type 0 where
  pub ranges : IsTrue (is_source_line (line.IrqSlot k))
  pub known : IsTrue (is_irq_declared file (decimal k))

abbrev pub IsKnown : List Declared → Slot → Type 0
IsKnown file (slot.Irq k) = Comes file k
IsKnown file _ = ⊤

abbrev pub AreKnown : List Declared → List Slot → Type 0
AreKnown file slots = AllByRecursion (IsKnown file) slots

known_append : (file : List Declared) (xs ys : List Slot) → AreKnown file xs → AreKnown file ys → AreKnown file (xs ++ ys)
known_append file [] ys all more = more
known_append file (x ∷ xs) ys all more = (all.0, known_append file xs ys all.1 more)

pub known_run : (file : List Declared) (count : ℕ) → AreKnown file (replicate count slot.Go)
known_run file zero = tt
known_run file (suc n) = (tt, known_run file n)

-- what the lines of a schedule make. They declare nothing
pub record IsScheduled (file : List Declared) (s : Script) (lines : List SourceLine) (made : Context) : Type 0 where
  pub slots : List Slot
  pub makes : made ≡ at_rank s 11 slots
  pub few : length slots ≤ 65536
  pub known : AreKnown file slots
  pub silent : said lines ≡ []

-- behind `end` no line stands
pub last_line : (file : List Declared) (s : Script) (lines : List SourceLine) → AllStand file (so_far s 11 false) lines → lines ≡ []
last_line file s [] stand = refl
last_line file s (line.Instr what ∷ ls) stand = let order = stand.0.order in absurd (cc)
last_line file s (l ∷ ls) stand = let order = stand.0.order in absurd (cc)

ends_schedule : (file : List Declared) (s : Script) (slots : List Slot) (ls : List SourceLine) → length slots ≤ 65536
    → AreKnown file slots → AllStand file (at_rank s 11 slots) ls
    → IsScheduled file s (line.End ∷ ls) (after_all (at_rank s 11 slots) ls)
ends_schedule file s slots ls few known stand =
    let none = last_line file (record s { slots = slots }) ls stand in
    record { slots = slots; makes = ap (after_all (at_rank s 11 slots)) none; few = few; known = known; silent = ap said none }

more_silent : (file : List Declared) (s : Script) (l : SourceLine) (ls : List SourceLine) (made : Context)
    → tells l ≡ [] → IsScheduled file s ls made → IsScheduled file s (l ∷ ls) made
more_silent file s l ls made none m = record {
  slots = m.slots;
  makes = m.makes;
  few = m.few;
  known = m.known;
  silent = ap (λ (xs : List SourceLine). xs ++ said ls) none ∙ m.silent;
}

-- the lines of a schedule behind its first
slots_make : (file : List Declared) (s : Script) (slots : List Slot) (lines : List SourceLine) → length slots ≤ 65536
    → AreKnown file slots → AllStand file (at_rank s 10 slots) lines
    → is_ended (after_all (at_rank s 10 slots) lines) ≡ true
    → IsScheduled file s lines (after_all (at_rank s 10 slots) lines)
slots_make file s slots [] few known stand ended = absurd (cc)
slots_make file s slots (line.Go count ∷ ls) few known stand ended =
    let room = leb-true (length slots + count) 65536 stand.0.within in
    let size : length (slots ++ replicate count slot.Go) ≤ 65536 = simp (length-append, length-replicate) room in
    more_silent file s (line.Go count) ls _ refl
    (slots_make file s (slots ++ replicate count slot.Go) ls size
    (known_append file slots (replicate count slot.Go) known (known_run file count)) stand.1 ended)
slots_make file s slots (line.IrqSlot k ∷ ls) few known stand ended =
    let room = ltb-true (length slots) 65536 stand.0.within in
    let size : length (slots ++ slot.Irq k ∷ []) ≤ 65536 = simp length-append (omega arith) in
    let comes : Comes file k = record { ranges = stand.0.ranges; known = stand.0.known } in
    more_silent file s (line.IrqSlot k) ls _ refl
    (slots_make file s (slots ++ slot.Irq k ∷ []) ls size
    (known_append file slots (slot.Irq k ∷ []) known (comes, tt)) stand.1 ended)
slots_make file s slots (line.Tick ∷ ls) few known stand ended =
    let room = ltb-true (length slots) 65536 stand.0.within in
    let size : length (slots ++ slot.Tick ∷ []) ≤ 65536 = simp length-append (omega arith) in
    more_silent file s line.Tick ls _ refl (slots_make file s (slots ++ slot.Tick ∷ []) ls size
    (known_append file slots (slot.Tick ∷ []) known (tt, tt)) stand.1 ended)
slots_make file s slots (line.End ∷ ls) few known stand ended = ends_schedule file s slots ls few known stand.1
slots_make file s slots (line.Instr what ∷ ls) few known stand ended = let order = stand.0.order in absurd (cc)
slots_make file s slots (l ∷ ls) few known stand ended = let order = stand.0.order in absurd (cc)

-- all lines behind `schedule`
pub schedule_makes : (file : List Declared) (s : Script) (lines : List SourceLine)
    → AllStand file (at_rank s 9 []) lines → is_ended (after_all (at_rank s 9 []) lines) ≡ true
    → IsScheduled file s lines (after_all (at_rank s 9 []) lines)
schedule_makes file s [] stand ended = absurd (cc)
schedule_makes file s (line.Go count ∷ ls) stand ended =
    let room = leb-true (0 + count) 65536 stand.0.within in
    let size : length (replicate count slot.Go) ≤ 65536 = simp length-replicate (omega arith) in
    more_silent file s (line.Go count) ls _ refl (slots_make file s (replicate count slot.Go) ls size (known_run file count) stand.1 ended)
schedule_makes file s (line.IrqSlot k ∷ ls) stand ended =
    let comes : Comes file k = record { ranges = stand.0.ranges; known = stand.0.known } in
    more_silent file s (line.IrqSlot k) ls _ refl (slots_make file s (slot.Irq k ∷ []) ls (omega arith) (comes, tt) stand.1 ended)
schedule_makes file s (line.Tick ∷ ls) stand ended =
    more_silent file s line.Tick ls _ refl (slots_make file s (slot.Tick ∷ []) ls (omega arith) (tt, tt) stand.1 ended)
schedule_makes file s (line.End ∷ ls) stand ended = ends_schedule file s [] ls (omega arith) tt stand.1
schedule_makes file s (line.Instr what ∷ ls) stand ended = let order = stand.0.order in absurd (cc)
schedule_makes file s (l ∷ ls) stand ended = let order = stand.0.order in absurd (cc)

-- lines one behind another
pub stand_append : (file : List Declared) (c : Context) (xs ys : List SourceLine) → AllStand file c xs
    → AllStand file (after_all c xs) ys → AllStand file c (xs ++ ys)
stand_append file c [] ys one other = other
stand_append file c (x ∷ xs) ys one other = (one.0, stand_append file (after c x) xs ys one.1 other)

pub after_append : (c : Context) (xs ys : List SourceLine) → after_all c (xs ++ ys) ≡ after_all (after_all c xs) ys
after_append c [] ys = refl
after_append c (x ∷ xs) ys = after_append (after c x) xs ys

-- lines that stand behind others, and make this
pub record Stand (file : List Declared) (c : Context) (lines : List SourceLine) (made : Context) : Type 0 where
  pub stand : AllStand file c lines
  pub makes : after_all c lines ≡ made

-- behind slots
abbrev behind : Context → List Slot → Context
behind c [] = c
behind c (x ∷ xs) = at_rank c.script 10 (c.script.slots ++ x ∷ xs)

-- a run grows by one slot in front
run_grows : (file : List Declared) (c : Context) (count : ℕ) (ls : List SourceLine) (made : Context)
    → is_in_order c of.Slot ≡ true → Stand file (after c (line.Go 1)) (line.Go count ∷ ls) made
    → Stand file c (line.Go (suc count) ∷ ls) made
run_grows file c count ls made order h =
    let size : length (c.script.slots ++ slot.Go ∷ []) ≡ length c.script.slots + 1 = simp length-append in
    let room = leb-true (length (c.script.slots ++ slot.Go ∷ []) + count) 65536 h.stand.0.within in
    let ranges : is_source_line (line.Go (suc count)) ≡ true = rw (le-leb 1 (suc count) (omega arith), le-leb (suc count) 65536 (omega arith)) refl in
    let within : nat_le (length c.script.slots + suc count) 65536 ≡ true = le-leb (length c.script.slots + suc count) 65536 (omega arith) in
    let same : after (after c (line.Go 1)) (line.Go count) ≡ after c (line.Go (suc count)) =
    ap (λ (xs : List Slot). at_rank c.script 10 xs)
    (append_assoc c.script.slots (slot.Go ∷ []) (replicate count slot.Go)) in
    record {
      stand = (
        record { order = order; ranges = ranges; kind = refl; new = refl; known = refl; within = within },
        subst (λ (d : Context). AllStand file d ls) same h.stand.1,
      );
      makes = ap (λ (d : Context). after_all d ls) (sym same) ∙ h.makes;
    }

go_joins : (file : List Declared) (c : Context) (ls : List SourceLine) (made : Context) → is_in_order c of.Slot ≡ true
    → length c.script.slots < 65536 → Stand file (after c (line.Go 1)) ls made
    → Stand file c (with_slot slot.Go ls) made
go_joins file c (line.Go count ∷ ls) made order few h = run_grows file c count ls made order h
go_joins file c ls made order few h =
    let within : nat_le (length c.script.slots + 1) 65536 ≡ true = le-leb (length c.script.slots + 1) 65536 (omega arith) in
    record { stand = (record { order = order; ranges = refl; kind = refl; new = refl; known = refl; within = within }, h.stand); makes = h.makes }

tick_joins : (file : List Declared) (c : Context) (ls : List SourceLine) (made : Context) → is_in_order c of.Slot ≡ true
    → length c.script.slots < 65536 → Stand file (after c line.Tick) ls made → Stand file c (line.Tick ∷ ls) made
tick_joins file c ls made order few h =
    record {
      stand = (
        record {
          order = order;
          ranges = refl;
          kind = refl;
          new = refl;
          known = refl;
          within = lt-ltb (length c.script.slots) 65536 few;
        },
        h.stand,
      );
      makes = h.makes;
    }

irq_joins : (file : List Declared) (c : Context) (k : ℕ) (ls : List SourceLine) (made : Context)
    → is_in_order c of.Slot ≡ true → length c.script.slots < 65536 → Comes file k
    → Stand file (after c (line.IrqSlot k)) ls made → Stand file c (line.IrqSlot k ∷ ls) made
irq_joins file c k ls made order few comes h =
    record {
      stand = (
        record {
          order = order;
          ranges = comes.ranges;
          kind = refl;
          new = refl;
          known = comes.known;
          within = lt-ltb (length c.script.slots) 65536 few;
        },
        h.stand,
      );
      makes = h.makes;
    }

behind_more : (s : Script) (xs ys : List Slot) (x : Slot) → behind (at_rank s 10 (xs ++ x ∷ [])) ys ≡ at_rank s 10 (xs ++ x ∷ ys)
behind_more s xs [] x = refl
behind_more s xs (y ∷ ys) x = ap (λ (zs : List Slot). at_rank s 10 zs) (append_assoc xs (x ∷ []) (y ∷ ys))

slots_stand : (file : List Declared) (c : Context) (slots : List Slot) → is_in_order c of.Slot ≡ true
    → length c.script.slots + length slots ≤ 65536 → AreKnown file slots
    → Stand file c (slots_lines slots) (behind c slots)
slots_stand file c [] order few known = record { stand = tt; makes = refl }
slots_stand file c (slot.Go ∷ xs) order few known =
    let size : length (c.script.slots ++ slot.Go ∷ []) ≡ length c.script.slots + 1 = simp length-append in
    let later = slots_stand file (at_rank c.script 10 (c.script.slots ++ slot.Go ∷ [])) xs refl (omega arith) known.1 in
    let h : Stand file (after c (line.Go 1)) (slots_lines xs) (behind c (slot.Go ∷ xs)) = record {
      stand = later.stand;
      makes = later.makes ∙ behind_more c.script c.script.slots xs slot.Go;
    } in
    go_joins file c (slots_lines xs) (behind c (slot.Go ∷ xs)) order (omega arith) h
slots_stand file c (slot.Tick ∷ xs) order few known =
    let size : length (c.script.slots ++ slot.Tick ∷ []) ≡ length c.script.slots + 1 = simp length-append in
    let later = slots_stand file (at_rank c.script 10 (c.script.slots ++ slot.Tick ∷ [])) xs refl (omega arith) known.1 in
    let h : Stand file (after c line.Tick) (slots_lines xs) (behind c (slot.Tick ∷ xs)) = record {
      stand = later.stand;
      makes = later.makes ∙ behind_more c.script c.script.slots xs slot.Tick;
    } in
    tick_joins file c (slots_lines xs) (behind c (slot.Tick ∷ xs)) order (omega arith) h
slots_stand file c (slot.Irq k ∷ xs) order few known =
    let size : length (c.script.slots ++ slot.Irq k ∷ []) ≡ length c.script.slots + 1 = simp length-append in
    let later = slots_stand file (at_rank c.script 10 (c.script.slots ++ slot.Irq k ∷ [])) xs refl (omega arith) known.1 in
    let h : Stand file (after c (line.IrqSlot k)) (slots_lines xs) (behind c (slot.Irq k ∷ xs)) = record {
      stand = later.stand;
      makes = later.makes ∙ behind_more c.script c.script.slots xs (slot.Irq k);
    } in
    irq_joins file c k (slots_lines xs) (behind c (slot.Irq k ∷ xs)) order (omega arith) known.0 h

-- the canonical lines from `schedule` or `end` on
pub schedule_stands : (file : List Declared) (s : Script) (rank : ℕ) (slots : List Slot) → nat_le rank 8 ≡ true
    → nat_le rank 10 ≡ true → length slots ≤ 65536 → AreKnown file slots
    → Stand file (at_rank s rank []) (schedule_lines slots ++ line.End ∷ []) (at_rank s 11 slots)
schedule_stands file s rank [] before under few known =
    record { stand = (record { order = under; ranges = refl; kind = refl; new = refl; known = refl; within = refl }, tt); makes = refl }
schedule_stands file s rank (x ∷ xs) before under few known =
    let c : Context = at_rank s 9 [] in
    let h = slots_stand file c (x ∷ xs) refl (omega arith) known in
    let ends : AllStand file (behind c (x ∷ xs))
    (line.End ∷ []) = (
      record { order = refl; ranges = refl; kind = refl; new = refl; known = refl; within = refl },
      tt,
    ) in
    let stand = stand_append file c (slots_lines (x ∷ xs)) (line.End ∷ []) h.stand
    (subst (λ (d : Context). AllStand file d (line.End ∷ [])) (sym h.makes) ends) in
    record {
      stand = (record { order = before; ranges = refl; kind = refl; new = refl; known = refl; within = refl }, stand);
      makes = after_append c (slots_lines (x ∷ xs)) (line.End ∷ []) ∙ ap (λ (d : Context). after d line.End) h.makes;
    }
