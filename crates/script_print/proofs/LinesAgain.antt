-- The canonical lines of what accepted lines make stand, and make the same.
use Rattle.std.proofs.Common.{◌≡◌, ℕ, zero, suc, ◌<◌, ◌≤◌, Bool, true, false, List, [], ◌∷◌, ◌++◌, append_assoc, refl, ap, sym, subst, ◌∙◌, Some, arith}
use Rattle.std.proofs.lemmas.Bool.{le-leb}
use Rattle.std.proofs.lemmas.Bool.Decides.{nat_tests}
use Rattle.std.specs.Prelude.{◌==◌, not}
use Rattle.script_print.specs.CanonicalText.{setting_lines, declared_lines, schedule_lines, canonical_lines}
use Rattle.script_print.proofs.DeclaredAgain.{said, first_setting, lines_again, no_header}
use Rattle.script_print.proofs.Front.{so_far, IsFront, front_start, front_after, last_start}
use Rattle.script_print.proofs.NamesAgain.{twos, Carries, carries, known_again, no_slot, not_zero}
use Rattle.script_print.proofs.ScheduleAgain.{at_rank, last_line, schedule_makes, Stand, schedule_stands, AreKnown}
use Rattle.script_types.specs.Context.{empty_script, start, after_all, is_ended, may_stand, kind_of, rank_of, told, is_process}
use Rattle.script_types.specs.Names.{Declared}
use Rattle.script_types.specs.Stands.{Stands, AllStand}
use Rattle.script_types.specs.declared.context.Context.{Context}
use Rattle.script_types.specs.declared.script.Script.{Script}
use Rattle.script_types.specs.declared.script.Slot.{Slot}
use Rattle.script_types.specs.declared.script.Slot.TheVariants as slot
use Rattle.script_types.specs.declared.source_line.LineKind.{LineKind}
use Rattle.script_types.specs.declared.source_line.LineKind.TheVariants as of
use Rattle.script_types.specs.declared.source_line.SourceLine.{SourceLine}
use Rattle.script_types.specs.declared.source_line.SourceLine.TheVariants as line
use Rattle.script_types.proofs.LimitLaws.{sound-after, sound-start, in_thread, earlier}

-- a line stands in another file that declares as much
known_stands : (file other : List Declared) → Carries file other → (c : Context) (l : SourceLine) → Stands file c l → Stands other c l
known_stands file other t c l h = record {
  order = h.order;
  ranges = h.ranges;
  kind = h.kind;
  new = h.new;
  known = known_again file other t c l h.known;
  within = h.within;
}

-- The rank of the canonical lines so far is lower where settings of 0 were the last lines, and else the same.
record IsLower (low high : ℕ) : Type 0 where
  under : low ≤ high
  same : 2 < high → low ≡ high

-- what isn't an instruction or a setting may stand behind a lower rank
order_lower : (low high : ℕ) (awaits : Bool) (kind : LineKind) → IsLower low high
    → may_stand (Some high) awaits kind ≡ true → may_stand (Some low) awaits kind ≡ true
order_lower low high true kind lower h = h
order_lower low high false of.Header lower h = absurd (cc)
order_lower low high false of.Thread lower h = let is : high ≡ 8 = grind (arith, nat_tests) in let same : low ≡ high = lower.same (omega arith) in rw same h
order_lower low high false of.Instr lower h = let late = in_thread (Some high) false h in let same : low ≡ high = lower.same (omega arith) in rw same h
order_lower low high false of.Slot lower h = let late : 9 ≤ high = grind (arith, nat_tests) in let same : low ≡ high = lower.same (omega arith) in rw same h
order_lower low high false _ lower h = let under = lower.under in grind (arith, nat_tests)

setting_lower : (low high last : ℕ) → low ≤ high → high < last → not (low == last) ≡ true
setting_lower low high last under below = grind (arith, nat_tests)

lower_stands : (file : List Declared) (s : Script) (low high : ℕ) (awaits : Bool) (l : SourceLine) → IsLower low high
    → Stands file (so_far s high awaits) l → Stands file (so_far s low awaits) l
lower_stands file s low high awaits (line.Instr what) lower h =
    let late = in_thread (Some high) awaits h.order in
    let same : low ≡ high = lower.same (omega arith) in
    subst (λ (rank : ℕ). Stands file (so_far s rank awaits) (line.Instr what)) (sym same) h
lower_stands file s low high awaits (line.Pool n) lower h =
    let below = first_setting high 1 (earlier (Some high) awaits of.Pool refl h.order) h.new in
    record {
      order = order_lower low high awaits of.Pool lower h.order;
      ranges = h.ranges;
      kind = refl;
      new = setting_lower low high 1 lower.under below;
      known = refl;
      within = refl;
    }
lower_stands file s low high awaits (line.Fast n) lower h =
    let below = first_setting high 2 (earlier (Some high) awaits of.Fast refl h.order) h.new in
    record {
      order = order_lower low high awaits of.Fast lower h.order;
      ranges = h.ranges;
      kind = refl;
      new = setting_lower low high 2 lower.under below;
      known = refl;
      within = refl;
    }
lower_stands file s low high awaits l lower h = record {
  order = order_lower low high awaits (kind_of l) lower h.order;
  ranges = h.ranges;
  kind = h.kind;
  new = h.new;
  known = h.known;
  within = h.within;
}

lower_after : (low high : ℕ) (kind : LineKind) → IsLower low high → IsLower (rank_of low kind) (rank_of high kind)
lower_after low high of.Instr lower = lower
lower_after low high _ lower = record { under = omega arith; same = λ e. refl }

awaits_after : (rank : ℕ) (kind : LineKind) → is_process kind ≡ true → rank_of rank kind ≡ 8
awaits_after rank of.Process h = refl
awaits_after rank _ h = absurd (cc)

-- a setting that isn't 0 has its line
setting_stays : (setting : ℕ → SourceLine) (n : ℕ) → setting_lines setting (suc n) ≡ setting (suc n) ∷ []
setting_stays setting n = rw (not_zero n) refl

-- interrupts that come have a body there too
slots_known : (file other : List Declared) → Carries file other → (slots : List Slot) → AreKnown file slots → AreKnown other slots
slots_known file other t [] all = tt
slots_known file other t (slot.Irq k ∷ xs) all = (record { ranges = all.0.ranges; known = t.irqs _ all.0.known }, slots_known file other t xs all.1)
slots_known file other t (slot.Go ∷ xs) all = (tt, slots_known file other t xs all.1)
slots_known file other t (slot.Tick ∷ xs) all = (tt, slots_known file other t xs all.1)

-- the canonical lines from those of these lines on
abbrev rest_of : List SourceLine → Context → List SourceLine
rest_of lines made = said lines ++ (schedule_lines made.script.slots ++ line.End ∷ [])

module _ (file other : List Declared) (t : Carries file other) where
  -- from `schedule` on
  schedules : (s : Script) (low high : ℕ) (ls : List SourceLine) → IsLower low high → high ≤ 8 → IsFront s high
      → AllStand file (so_far s high false) (line.Schedule ∷ ls) → is_ended (after_all (so_far s 9 false) ls) ≡ true
      → Stand other (so_far s low false) (rest_of ls (after_all (so_far s 9 false) ls))
      (after_all (so_far s 9 false) ls)
  schedules s low high ls lower le f stand ended =
      let none : s.slots ≡ [] = f.slots (omega arith) in
      let same : so_far s 9 false ≡ at_rank s 9 [] = ap (λ (xs : List Slot). at_rank s 9 xs) none in
      let m = schedule_makes file s ls (subst (λ (d : Context). AllStand file d ls) same stand.1)
      (subst (λ (d : Context). is_ended (after_all d ls) ≡ true) same ended) in
      let made = ap (λ (d : Context). after_all d ls) same ∙ m.makes in
      let before : so_far s low false ≡ at_rank s low [] = ap (λ (xs : List Slot). at_rank s low xs) none in
      let under = lower.under in
      let h = schedule_stands other s low m.slots (le-leb low 8 (omega arith)) (le-leb low 10 (omega arith)) m.few (slots_known file other t m.slots m.known) in
      let lines : rest_of ls (after_all (so_far s 9 false) ls) ≡ schedule_lines m.slots ++ line.End ∷ [] =
      ap (λ (xs : List SourceLine). xs ++ (schedule_lines
      (after_all (so_far s 9 false) ls).script.slots ++ line.End ∷ [])) m.silent
      ∙ ap (λ (d : Context). schedule_lines d.script.slots ++ line.End ∷ []) made in
      subst (λ (xs : List SourceLine). Stand other (so_far s low false) xs (after_all (so_far s 9 false) ls)) (sym lines)
      (subst (λ (d : Context). Stand other d (schedule_lines m.slots ++ line.End ∷ []) (after_all (so_far s 9 false) ls)) (sym before)
      (subst (λ (d : Context). Stand other (at_rank s low []) (schedule_lines m.slots ++ line.End ∷ []) d) (sym made) h))

  -- without a schedule
  ends : (s : Script) (low high : ℕ) (ls : List SourceLine) → IsLower low high → high ≤ 8 → IsFront s high
      → AllStand file (so_far s high false) (line.End ∷ ls)
      → Stand other (so_far s low false) (rest_of ls (after_all (so_far s 11 false) ls))
      (after_all (so_far s 11 false) ls)
  ends s low high ls lower le f stand =
      let none = last_line file s ls stand.1 in
      let empty : s.slots ≡ [] = f.slots (omega arith) in
      let under = lower.under in
      let h = schedule_stands other s low [] (le-leb low 8 (omega arith)) (le-leb low 10 (omega arith)) (omega arith) tt in
      let alone : Stand other (so_far s low false) (schedule_lines s.slots ++ line.End ∷ []) (so_far s 11 false) =
      subst (λ (xs : List Slot). Stand other (at_rank s low xs) (schedule_lines xs ++ line.End ∷ []) (at_rank s 11 xs))
      (sym empty) h in
      subst (λ (xs : List SourceLine). Stand other (so_far s low false) (rest_of xs (after_all (so_far s 11 false) xs))
      (after_all (so_far s 11 false) xs)) (sym none) alone

  -- one line more
  stays : (s : Script) (low high : ℕ) (awaits : Bool) (l : SourceLine) (rest : List SourceLine) (made : Context)
      → IsLower low high → Stands file (so_far s high awaits) l
      → Stand other (so_far (told s l) (rank_of low (kind_of l)) (is_process (kind_of l))) rest made
      → Stand other (so_far s low awaits) (l ∷ rest) made
  stays s low high awaits l rest made lower here h =
      record { stand = (lower_stands other s low high awaits l lower (known_stands file other t (so_far s high awaits) l here), h.stand); makes = h.makes }

  goes : (s : Script) (low high : ℕ) (awaits : Bool) (lines : List SourceLine) → IsLower low high → high ≤ 8
      → (awaits ≡ true → high ≡ 8) → IsFront s high → AllStand file (so_far s high awaits) lines
      → is_ended (after_all (so_far s high awaits) lines) ≡ true
      → Stand other (so_far s low awaits) (rest_of lines (after_all (so_far s high awaits) lines))
      (after_all (so_far s high awaits) lines)
  goes s low high awaits [] lower le at f stand ended = let eleven : high ≡ 11 = grind (arith, nat_tests) in absurd (omega arith)
  goes s low high awaits (line.Header version ∷ ls) lower le at f stand ended = absurd (no_header awaits high stand.0.order)
  goes s low high awaits (line.Go count ∷ ls) lower le at f stand ended = absurd (no_slot awaits high le stand.0.order)
  goes s low high awaits (line.IrqSlot k ∷ ls) lower le at f stand ended = absurd (no_slot awaits high le stand.0.order)
  goes s low high awaits (line.Tick ∷ ls) lower le at f stand ended = absurd (no_slot awaits high le stand.0.order)
  goes s low high true (line.Schedule ∷ ls) lower le at f stand ended = let order = stand.0.order in absurd (cc)
  goes s low high false (line.Schedule ∷ ls) lower le at f stand ended = schedules s low high ls lower le f stand ended
  goes s low high true (line.End ∷ ls) lower le at f stand ended = let order = stand.0.order in absurd (cc)
  goes s low high false (line.End ∷ ls) lower le at f stand ended = ends s low high ls lower le f stand
  goes s low high true (line.Pool zero ∷ ls) lower le at f stand ended = let order = stand.0.order in absurd (cc)
  goes s low high false (line.Pool zero ∷ ls) lower le at f stand ended =
      let below = first_setting high 1 (earlier (Some high) false of.Pool refl stand.0.order) stand.0.new in
      let under = lower.under in
      let none : s.pool ≡ 0 = f.pool below in
      let same : so_far (told s (line.Pool zero)) low false ≡ so_far s low false = ap (λ (n : ℕ). so_far (record s { pool = n }) low false) (sym none) in
      let more = goes (told s (line.Pool zero)) low 1 false ls
      (record { under = omega arith; same = λ e. absurd (omega arith) }) (omega arith) (λ e. absurd (cc))
      (front_after file s high false (line.Pool zero) stand.0 at f) stand.1 ended in
      let made : Context = after_all (so_far s high false) (line.Pool zero ∷ ls) in
      subst (λ (d : Context). Stand other d (rest_of ls made) made) same more
  goes s low high true (line.Fast zero ∷ ls) lower le at f stand ended = let order = stand.0.order in absurd (cc)
  goes s low high false (line.Fast zero ∷ ls) lower le at f stand ended =
      let below = first_setting high 2 (earlier (Some high) false of.Fast refl stand.0.order) stand.0.new in
      let under = lower.under in
      let none : s.fast ≡ 0 = f.fast below in
      let same : so_far (told s (line.Fast zero)) low false ≡ so_far s low false = ap (λ (n : ℕ). so_far (record s { fast = n }) low false) (sym none) in
      let more = goes (told s (line.Fast zero)) low 2 false ls
      (record { under = omega arith; same = λ e. absurd (omega arith) }) (omega arith) (λ e. absurd (cc))
      (front_after file s high false (line.Fast zero) stand.0 at f) stand.1 ended in
      let made : Context = after_all (so_far s high false) (line.Fast zero ∷ ls) in
      subst (λ (d : Context). Stand other d (rest_of ls made) made) same more
  goes s low high awaits (line.Pool (suc n) ∷ ls) lower le at f stand ended =
      let more = goes (told s (line.Pool (suc n))) 1 1 false ls (record { under = omega arith; same = λ e. refl })
      (omega arith) (λ e. absurd (cc)) (front_after file s high awaits (line.Pool (suc n)) stand.0 at f) stand.1
      ended in
      let made : Context = after_all (so_far s high awaits) (line.Pool (suc n) ∷ ls) in
      let lines : rest_of (line.Pool (suc n) ∷ ls) made ≡ line.Pool (suc n) ∷ rest_of ls made =
      ap (λ (xs : List SourceLine). xs ++ said ls ++ (schedule_lines made.script.slots ++ line.End ∷ []))
      (setting_stays line.Pool n) in
      subst (λ (xs : List SourceLine). Stand other (so_far s low awaits) xs made) (sym lines)
      (stays s low high awaits (line.Pool (suc n)) (rest_of ls made) made lower stand.0 more)
  goes s low high awaits (line.Fast (suc n) ∷ ls) lower le at f stand ended =
      let more = goes (told s (line.Fast (suc n))) 2 2 false ls (record { under = omega arith; same = λ e. refl })
      (omega arith) (λ e. absurd (cc)) (front_after file s high awaits (line.Fast (suc n)) stand.0 at f) stand.1
      ended in
      let made : Context = after_all (so_far s high awaits) (line.Fast (suc n) ∷ ls) in
      let lines : rest_of (line.Fast (suc n) ∷ ls) made ≡ line.Fast (suc n) ∷ rest_of ls made =
      ap (λ (xs : List SourceLine). xs ++ said ls ++ (schedule_lines made.script.slots ++ line.End ∷ []))
      (setting_stays line.Fast n) in
      subst (λ (xs : List SourceLine). Stand other (so_far s low awaits) xs made) (sym lines)
      (stays s low high awaits (line.Fast (suc n)) (rest_of ls made) made lower stand.0 more)
  goes s low high awaits (l ∷ ls) lower le at f stand ended =
      let more = goes (told s l) (rank_of low (kind_of l)) (rank_of high (kind_of l)) (is_process (kind_of l)) ls
      (lower_after low high (kind_of l) lower) (omega arith) (awaits_after high (kind_of l))
      (front_after file s high awaits l stand.0 at f) stand.1 ended in
      let made : Context = after_all (so_far s high awaits) (l ∷ ls) in
      stays s low high awaits l (rest_of ls made) made lower stand.0 more

-- from the start
pub canonical_stands : (lines : List SourceLine) → AllStand (twos lines) start lines → is_ended (after_all start lines) ≡ true
    → Stand (twos (canonical_lines (after_all start lines).script)) start (canonical_lines (after_all start lines).script) (after_all start lines)
canonical_stands [] stand ended = absurd (cc)
canonical_stands (line.Header version ∷ ls) stand ended =
    let begun : Script = record empty_script { version = version } in
    let file : List Declared = twos (line.Header version ∷ ls) in
    let made : Context = after_all (so_far begun 0 false) ls in
    let declared : declared_lines made.script ≡ line.Header version ∷ said ls =
    lines_again file begun 0 false ls stand.1
    (sound-after file start (line.Header version) stand.0 sound-start) (front_start version) (last_start version) in
    let are : canonical_lines made.script ≡ line.Header version ∷ rest_of ls made =
    ap (λ (xs : List SourceLine). xs ++ schedule_lines made.script.slots ++ line.End ∷ []) declared
    ∙ append_assoc (line.Header version ∷ said ls) (schedule_lines made.script.slots) (line.End ∷ []) in
    let other : List Declared = twos (line.Header version ∷ rest_of ls made) in
    let t : Carries file other = carries file version ls (schedule_lines made.script.slots ++ line.End ∷ []) stand.1 in
    let h = goes file other t begun 0 0 false ls (record { under = omega arith; same = λ e. refl }) (omega arith)
    (λ e. absurd (cc)) (front_start version) stand.1 ended in
    let whole : Stand other start (line.Header version ∷ rest_of ls made) made = record {
      stand = (known_stands file other t start (line.Header version) stand.0, h.stand);
      makes = h.makes;
    } in
    subst (λ (ks : List SourceLine). Stand (twos ks) start ks made) (sym are) whole
canonical_stands (l ∷ ls) stand ended = let order = stand.0.order in absurd (cc)
