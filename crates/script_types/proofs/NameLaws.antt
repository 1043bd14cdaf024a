-- In every well-formed script the names resolve.
use Rattle.std.proofs.Common.{◌≡◌, ◌⊎◌, inl, inr, ℕ, ◌<◌, ◌≤◌, ◌^◌, Bool, true, false, List, [], ◌∷◌, ◌++◌, map, replicate, length, zero, suc, sym, ap, subst, ◌∙◌, refl, arith, Option, Some, None}
use Rattle.std.proofs.lemmas.Bool.{false≢true, leb-true, ltb-true, or_right, or_parts}
use Rattle.std.proofs.lemmas.Bool.Decides.{nat_tests}
use Rattle.std.proofs.lemmas.Fmt.{decimal_injective}
use Rattle.std.proofs.lemmas.Slice.Eq.{bytes_eq-Decides}
use Rattle.std.specs.List.{list_all, list_any}
use Rattle.std.specs.Prelude.{◌==◌, ◌&&◌, ◌||◌, not, nat_le, nat_lt, IsTrue, codes, decimal}
use Rattle.std.specs.Str.{bytes_eq}
use Rattle.script_types.specs.Context.{start, after, after_all, with_instr, may_stand, rank_or}
use Rattle.script_types.specs.Forms.{form_of}
use Rattle.script_types.specs.Keywords.{keyword_text}
use Rattle.script_types.specs.Names.{Declared, first_two, file_declares, declares, is_declared, is_thread_declared, is_irq_declared, is_known_op, is_known_instr}
use Rattle.script_types.specs.Resolves.{has_queue, has_thread, has_dfc, has_idfc, has_irq, is_queue, is_thread, op_resolves, instr_resolves, slot_resolves, DoNamesResolve}
use Rattle.script_types.specs.Source.{IsWellFormed}
use Rattle.script_types.specs.SourceWords.{source_words}
use Rattle.script_types.specs.Stands.{Stands, AllStand}
use Rattle.script_types.specs.declared.context.Context.{Context}
use Rattle.script_types.specs.declared.declaration.DfcDecl.{DfcDecl}
use Rattle.script_types.specs.declared.declaration.IdfcDecl.{IdfcDecl}
use Rattle.script_types.specs.declared.declaration.IrqBody.{IrqBody}
use Rattle.script_types.specs.declared.declaration.Op.{Op}
use Rattle.script_types.specs.declared.declaration.Op.TheVariants as op
use Rattle.script_types.specs.declared.declaration.QueueDecl.{QueueDecl}
use Rattle.script_types.specs.declared.declaration.ThreadDecl.{ThreadDecl}
use Rattle.script_types.specs.declared.instruction.Instr.{Instr}
use Rattle.script_types.specs.declared.instruction.Instr.TheVariants as instr
use Rattle.script_types.specs.declared.script.Script.{Script}
use Rattle.script_types.specs.declared.script.Slot.{Slot}
use Rattle.script_types.specs.declared.script.Slot.TheVariants as slot
use Rattle.script_types.specs.declared.source_line.LineKind.TheVariants as of
use Rattle.script_types.specs.declared.source_line.SourceLine.{SourceLine}
use Rattle.script_types.specs.declared.source_line.SourceLine.TheVariants as line
use Rattle.sym_base.specs.WordText.{word_text}
use Rattle.script_types.proofs.NumberLaws.{all_push, instr_push}
use Rattle.script_types.proofs.LimitLaws.{IsSound, both, or_true, in_form, number_in, earlier, sound-after, sound-start}

-- what lines declare
abbrev twos : List SourceLine → List Declared
twos lines = map first_two (map source_words lines)

any_more : {A : Type 0} (test : A → Bool) (xs ys : List A) → list_any test xs ≡ true → list_any test (xs ++ ys) ≡ true
any_more test [] ys h = absurd (false≢true h)
any_more test (x ∷ xs) ys h =
    elim (or_true (test x) (list_any test xs) h) as
    (λ _. (test x || list_any test (xs ++ ys)) ≡ true)
    [ inl e ↦ (rw e refl) | inr e ↦ or_right (test x) (list_any test (xs ++ ys)) (any_more test xs ys e) ]

any_last : {A : Type 0} (test : A → Bool) (xs : List A) (x : A) → test x ≡ true → list_any test (xs ++ x ∷ []) ≡ true
any_last test [] x h = rw h refl
any_last test (y ∷ ys) x h = or_right (test y) (list_any test (ys ++ x ∷ [])) (any_last test ys x h)

turned : (a b : List ℕ) → bytes_eq a b ≡ true → bytes_eq b a ≡ true
turned a b h = (bytes_eq-Decides b a).1 (sym ((bytes_eq-Decides a b).0 h))

-- the lines that begin with a word declare what a script then has, and no line takes it away
record Tells (sort : List ℕ) (has : Script → List ℕ → Bool) : Type 0 where
  grows : (c : Context) (l : SourceLine) (name : List ℕ) → has c.script name ≡ true → has (after c l).script name ≡ true
  adds : (c : Context) (l : SourceLine) (name : List ℕ) → declares sort name (first_two (source_words l)) ≡ true → has (after c l).script name ≡ true

stays : (sort : List ℕ) (has : Script → List ℕ → Bool) → Tells sort has
    → (c : Context) (lines : List SourceLine) (name : List ℕ) → has c.script name ≡ true
    → has (after_all c lines).script name ≡ true
stays sort has t c [] name h = h
stays sort has t c (l ∷ ls) name h = stays sort has t (after c l) ls name (t.grows c l name h)

told : (sort : List ℕ) (has : Script → List ℕ → Bool) → Tells sort has
    → (c : Context) (lines : List SourceLine) (name : List ℕ) → is_declared (twos lines) sort name ≡ true
    → has (after_all c lines).script name ≡ true
told sort has t c [] name h = absurd (false≢true h)
told sort has t c (l ∷ ls) name h =
    elim (or_true (declares sort name (first_two (source_words l))) (is_declared (twos ls) sort name) h) as
    (λ _. has (after_all (after c l) ls).script name ≡ true) [
      | inl e ↦ stays sort has t (after c l) ls name (t.adds c l name e)
      | inr e ↦ told sort has t (after c l) ls name e
    ]

-- no instruction's word begins a declaration
abbrev sorts : List (List ℕ)
sorts = codes "dfcq" ∷ codes "dfc" ∷ codes "idfc" ∷ codes "irq" ∷ codes "kthread" ∷ codes "thread" ∷ codes "schedule" ∷ []

instr_sort : (what : Instr) → list_any (bytes_eq (keyword_text (form_of (line.Instr what)).keyword)) sorts ≡ false
unfolding word_text
instr_sort instr.Enter = refl
instr_sort _ = refl

pub two_first : (first : List ℕ) (words : List (List ℕ)) → (first_two (first ∷ words)).0 ≡ first
two_first first [] = refl
two_first first (second ∷ words) = refl

abbrev AllOff : (List ℕ → Bool) → List (List ℕ) → Type 0
AllOff test [] = Unit {0}
AllOff test (word ∷ words) = (test word ≡ false) × AllOff test words

any_off : (test : List ℕ → Bool) (words : List (List ℕ)) → list_any test words ≡ false → AllOff test words
any_off test [] h = tt
any_off test (word ∷ words) h = let parts = or_parts (test word) (list_any test words) h in (parts.0, any_off test words parts.1)

not_told : (sort name : List ℕ) (what : Instr)
    → bytes_eq (keyword_text (form_of (line.Instr what)).keyword) sort ≡ false
    → declares sort name (first_two (source_words (line.Instr what))) ≡ true → ⊥
not_told sort name what off h =
    let first = both (bytes_eq (first_two (source_words (line.Instr what))).0 sort) (bytes_eq (first_two (source_words (line.Instr what))).1 name) h in
    let is : (first_two (source_words (line.Instr what))).0 ≡ keyword_text (form_of (line.Instr what)).keyword =
    two_first (keyword_text (form_of (line.Instr what)).keyword) _ in
    let bad : true ≡ false = sym first.0 ∙ ap (λ (w : List ℕ). bytes_eq w sort) is ∙ off in
    cc

no_dfcq : (what : Instr) → bytes_eq (keyword_text (form_of (line.Instr what)).keyword) (codes "dfcq") ≡ false
no_dfcq what = (any_off (bytes_eq (keyword_text (form_of (line.Instr what)).keyword)) sorts (instr_sort what)).0

no_dfc : (what : Instr) → bytes_eq (keyword_text (form_of (line.Instr what)).keyword) (codes "dfc") ≡ false
no_dfc what = (any_off (bytes_eq (keyword_text (form_of (line.Instr what)).keyword)) sorts (instr_sort what)).1.0

no_idfc : (what : Instr) → bytes_eq (keyword_text (form_of (line.Instr what)).keyword) (codes "idfc") ≡ false
no_idfc what = (any_off (bytes_eq (keyword_text (form_of (line.Instr what)).keyword)) sorts (instr_sort what)).1.1.0

no_irq : (what : Instr) → bytes_eq (keyword_text (form_of (line.Instr what)).keyword) (codes "irq") ≡ false
no_irq what = (any_off (bytes_eq (keyword_text (form_of (line.Instr what)).keyword)) sorts (instr_sort what)).1.1.1.0

no_kthread : (what : Instr) → bytes_eq (keyword_text (form_of (line.Instr what)).keyword) (codes "kthread") ≡ false
no_kthread what = (any_off (bytes_eq (keyword_text (form_of (line.Instr what)).keyword)) sorts (instr_sort what)).1.1.1.1.0

no_thread : (what : Instr) → bytes_eq (keyword_text (form_of (line.Instr what)).keyword) (codes "thread") ≡ false
no_thread what = (any_off (bytes_eq (keyword_text (form_of (line.Instr what)).keyword)) sorts (instr_sort what)).1.1.1.1.1.0

no_schedule : (what : Instr) → bytes_eq (keyword_text (form_of (line.Instr what)).keyword) (codes "schedule") ≡ false
no_schedule what = (any_off (bytes_eq (keyword_text (form_of (line.Instr what)).keyword)) sorts (instr_sort what)).1.1.1.1.1.1.0

instr_named : (name : List ℕ) (ts : List ThreadDecl) (what : Instr)
    → list_any (λ (t : ThreadDecl). bytes_eq name t.name) ts
    ≡ list_any (λ (t : ThreadDecl). bytes_eq name t.name) (with_instr ts what)
instr_named name [] what = refl
instr_named name (t ∷ []) what = refl
instr_named name (t ∷ u ∷ ts) what = ap (λ (b : Bool). bytes_eq name t.name || b) (instr_named name (u ∷ ts) what)

queue-grows : (c : Context) (l : SourceLine) (name : List ℕ) → has_queue c.script name ≡ true → has_queue (after c l).script name ≡ true
queue-grows c (line.Queue n p) name h = any_more (λ (d : QueueDecl). bytes_eq name d.name) c.script.queues _ h
queue-grows c _ name h = h

queue-adds : (c : Context) (l : SourceLine) (name : List ℕ)
    → declares (codes "dfcq") name (first_two (source_words l)) ≡ true → has_queue (after c l).script name ≡ true
queue-adds c (line.Queue n p) name h = any_last (λ (d : QueueDecl). bytes_eq name d.name) c.script.queues _ (turned n name h)
queue-adds c (line.Instr what) name h = absurd (not_told (codes "dfcq") name what (no_dfcq what) h)
queue-adds c (line.KernelThread n p true) name h = absurd (false≢true h)
queue-adds c (line.Thread n p true) name h = absurd (false≢true h)
queue-adds c _ name h = absurd (false≢true h)

dfc-grows : (c : Context) (l : SourceLine) (name : List ℕ) → has_dfc c.script name ≡ true → has_dfc (after c l).script name ≡ true
dfc-grows c (line.Dfc n queue p ops) name h = any_more (λ (d : DfcDecl). bytes_eq name d.name) c.script.dfcs _ h
dfc-grows c _ name h = h

dfc-adds : (c : Context) (l : SourceLine) (name : List ℕ)
    → declares (codes "dfc") name (first_two (source_words l)) ≡ true → has_dfc (after c l).script name ≡ true
dfc-adds c (line.Dfc n queue p ops) name h = any_last (λ (d : DfcDecl). bytes_eq name d.name) c.script.dfcs _ (turned n name h)
dfc-adds c (line.Instr what) name h = absurd (not_told (codes "dfc") name what (no_dfc what) h)
dfc-adds c (line.KernelThread n p true) name h = absurd (false≢true h)
dfc-adds c (line.Thread n p true) name h = absurd (false≢true h)
dfc-adds c _ name h = absurd (false≢true h)

idfc-grows : (c : Context) (l : SourceLine) (name : List ℕ) → has_idfc c.script name ≡ true → has_idfc (after c l).script name ≡ true
idfc-grows c (line.Idfc n ops) name h = any_more (λ (d : IdfcDecl). bytes_eq name d.name) c.script.idfcs _ h
idfc-grows c _ name h = h

idfc-adds : (c : Context) (l : SourceLine) (name : List ℕ)
    → declares (codes "idfc") name (first_two (source_words l)) ≡ true → has_idfc (after c l).script name ≡ true
idfc-adds c (line.Idfc n ops) name h = any_last (λ (d : IdfcDecl). bytes_eq name d.name) c.script.idfcs _ (turned n name h)
idfc-adds c (line.Instr what) name h = absurd (not_told (codes "idfc") name what (no_idfc what) h)
idfc-adds c (line.KernelThread n p true) name h = absurd (false≢true h)
idfc-adds c (line.Thread n p true) name h = absurd (false≢true h)
idfc-adds c _ name h = absurd (false≢true h)

thread-grows : (c : Context) (l : SourceLine) (name : List ℕ) → has_thread c.script name ≡ true → has_thread (after c l).script name ≡ true
thread-grows c (line.KernelThread n p held) name h = any_more (λ (d : ThreadDecl). bytes_eq name d.name) c.script.threads _ h
thread-grows c (line.Thread n p held) name h = any_more (λ (d : ThreadDecl). bytes_eq name d.name) c.script.threads _ h
thread-grows c (line.Instr what) name h = sym (instr_named name c.script.threads what) ∙ h
thread-grows c _ name h = h

thread-adds : (c : Context) (l : SourceLine) (name : List ℕ)
    → declares (codes "thread") name (first_two (source_words l)) ≡ true → has_thread (after c l).script name ≡ true
thread-adds c (line.Thread n p true) name h = any_last (λ (d : ThreadDecl). bytes_eq name d.name) c.script.threads _ (turned n name h)
thread-adds c (line.Thread n p false) name h = any_last (λ (d : ThreadDecl). bytes_eq name d.name) c.script.threads _ (turned n name h)
thread-adds c (line.Instr what) name h = absurd (not_told (codes "thread") name what (no_thread what) h)
thread-adds c (line.KernelThread n p true) name h = absurd (false≢true h)
thread-adds c _ name h = absurd (false≢true h)

kthread-adds : (c : Context) (l : SourceLine) (name : List ℕ)
    → declares (codes "kthread") name (first_two (source_words l)) ≡ true → has_thread (after c l).script name ≡ true
kthread-adds c (line.KernelThread n p true) name h = any_last (λ (d : ThreadDecl). bytes_eq name d.name) c.script.threads _ (turned n name h)
kthread-adds c (line.KernelThread n p false) name h = any_last (λ (d : ThreadDecl). bytes_eq name d.name) c.script.threads _ (turned n name h)
kthread-adds c (line.Instr what) name h = absurd (not_told (codes "kthread") name what (no_kthread what) h)
kthread-adds c (line.Thread n p true) name h = absurd (false≢true h)
kthread-adds c _ name h = absurd (false≢true h)

queue_tells : Tells (codes "dfcq") has_queue
queue_tells = record { grows = queue-grows; adds = queue-adds }

dfc_tells : Tells (codes "dfc") has_dfc
dfc_tells = record { grows = dfc-grows; adds = dfc-adds }

idfc_tells : Tells (codes "idfc") has_idfc
idfc_tells = record { grows = idfc-grows; adds = idfc-adds }

thread_tells : Tells (codes "thread") has_thread
thread_tells = record { grows = thread-grows; adds = thread-adds }

kernel_tells : Tells (codes "kthread") has_thread
kernel_tells = record { grows = thread-grows; adds = kthread-adds }

-- an interrupt's lines before the first `schedule` are bodies
irq-grows : (c : Context) (l : SourceLine) (k : ℕ) → has_irq c.script k ≡ true → has_irq (after c l).script k ≡ true
irq-grows c (line.IrqBody j ops) k h = any_more (λ (i : IrqBody). i.number == k) c.script.irqs _ h
irq-grows c _ k h = h

irq_stays : (c : Context) (lines : List SourceLine) (k : ℕ) → has_irq c.script k ≡ true → has_irq (after_all c lines).script k ≡ true
irq_stays c [] k h = h
irq_stays c (l ∷ ls) k h = irq_stays (after c l) ls k (irq-grows c l k h)

same_number : (j k : ℕ) → j ≤ 31 → k ≤ 31 → bytes_eq (decimal j) (decimal k) ≡ true → (j == k) ≡ true
same_number j k small few h =
    let is = decimal_injective j k (omega arith) (omega arith) ((bytes_eq-Decides (decimal j) (decimal k)).0 h) in
    grind (arith, nat_tests)

slot_late : (rank : Option ℕ) (awaits : Bool) → may_stand rank awaits of.Slot ≡ true → 9 ≤ rank_or rank
slot_late None awaits h = absurd (false≢true h)
slot_late (Some rank) true h = absurd (false≢true h)
slot_late (Some rank) false h = grind (arith, nat_tests)

no_slot : (rank : Option ℕ) (awaits : Bool) → rank_or rank < 9 → may_stand rank awaits of.Slot ≡ true → ⊥
no_slot rank awaits before h = let late = slot_late rank awaits h in omega arith

none_behind : (file : List Declared) (c : Context) (lines : List SourceLine) (k : ℕ)
    → AllStand file (after c line.End) lines → is_irq_declared (twos lines) (decimal k) ≡ true → ⊥
none_behind file c [] k stand h = false≢true h
none_behind file c (line.Instr what ∷ ls) k stand h = false≢true stand.0.order
none_behind file c (l ∷ ls) k stand h = false≢true stand.0.order

irq_step : (schedule here later : Bool) → (not schedule && (here || later)) ≡ true → (schedule ≡ false) × ((here ≡ true) ⊎ (later ≡ true))
irq_step true here later h = absurd (false≢true h)
irq_step false true later h = (refl, inl refl)
irq_step false false later h = (refl, inr h)

irq_told : (file : List Declared) (c : Context) (lines : List SourceLine) (k : ℕ) → AllStand file c lines
    → rank_or c.rank < 9 → k ≤ 31 → is_irq_declared (twos lines) (decimal k) ≡ true
    → has_irq (after_all c lines).script k ≡ true
irq_told file c [] k stand before few h = absurd (false≢true h)
irq_told file c (line.IrqBody j ops ∷ ls) k stand before few h =
    elim (irq_step false (bytes_eq (decimal j) (decimal k)) (is_irq_declared (twos ls) (decimal k)) h).1 as
    (λ _. has_irq (after_all (after c (line.IrqBody j ops)) ls).script k ≡ true) [
      | inl e ↦
          irq_stays (after c (line.IrqBody j ops)) ls k
          (any_last (λ (i : IrqBody). i.number == k) c.script.irqs _
          (same_number j k (number_in 0 31 j (in_form (form_of (line.IrqBody j ops)) stand.0.ranges).0.0).1 few e))
      | inr e ↦ irq_told file (after c (line.IrqBody j ops)) ls k stand.1 (ltb-true _ 9 refl) few e
    ]
irq_told file c (line.Schedule ∷ ls) k stand before few h = absurd (false≢true h)
irq_told file c (line.IrqSlot j ∷ ls) k stand before few h = absurd (no_slot c.rank c.awaits_thread before stand.0.order)
irq_told file c (line.Go count ∷ ls) k stand before few h = absurd (no_slot c.rank c.awaits_thread before stand.0.order)
irq_told file c (line.Tick ∷ ls) k stand before few h = absurd (no_slot c.rank c.awaits_thread before stand.0.order)
irq_told file c (line.End ∷ ls) k stand before few h = absurd (none_behind file c ls k stand.1 h)
irq_told file c (line.Instr what ∷ ls) k stand before few h =
    let s = irq_step (bytes_eq (first_two (source_words (line.Instr what))).0 (codes "schedule"))
    (declares (codes "irq") (decimal k) (first_two (source_words (line.Instr what))))
    (is_irq_declared (twos ls) (decimal k)) h in
    elim s.1 as (λ _. has_irq (after_all (after c (line.Instr what)) ls).script k ≡ true) [
      | inl e ↦ absurd (not_told (codes "irq") (decimal k) what (no_irq what) e)
      | inr e ↦ irq_told file (after c (line.Instr what)) ls k stand.1 before few e
    ]
irq_told file c (line.KernelThread n p true ∷ ls) k stand before few h =
    irq_told file (after c (line.KernelThread n p true)) ls k stand.1 (ltb-true _ 9 refl) few h
irq_told file c (line.KernelThread n p false ∷ ls) k stand before few h =
    irq_told file (after c (line.KernelThread n p false)) ls k stand.1 (ltb-true _ 9 refl) few h
irq_told file c (line.Thread n p true ∷ ls) k stand before few h = irq_told file (after c (line.Thread n p true)) ls k stand.1 (ltb-true _ 9 refl) few h
irq_told file c (line.Thread n p false ∷ ls) k stand before few h = irq_told file (after c (line.Thread n p false)) ls k stand.1 (ltb-true _ 9 refl) few h
irq_told file c (l ∷ ls) k stand before few h = irq_told file (after c l) ls k stand.1 (ltb-true _ 9 refl) few h

-- what the lines so far name is declared in the file
slot_known : List Declared → Slot → Bool
slot_known file (slot.Irq k) = nat_le k 31 && is_irq_declared file (decimal k)
slot_known file _ = true

abbrev queue_known : List Declared → List ℕ → Bool
queue_known file name = bytes_eq name (codes "supervisor") || is_declared file (codes "dfcq") name

record AreKnown (file : List Declared) (s : Script) : Type 0 where
  queues : list_all (λ (d : DfcDecl). queue_known file d.queue) s.dfcs ≡ true
  dfcs : list_all (λ (d : DfcDecl). list_all (is_known_op file) d.body) s.dfcs ≡ true
  idfcs : list_all (λ (d : IdfcDecl). list_all (is_known_op file) d.body) s.idfcs ≡ true
  irqs : list_all (λ (i : IrqBody). list_all (is_known_op file) i.body) s.irqs ≡ true
  instrs : list_all (λ (t : ThreadDecl). list_all (is_known_instr file s.fast) t.instrs) s.threads ≡ true
  slots : list_all (slot_known file) s.slots ≡ true

all_goes : (file : List Declared) (slots : List Slot) (count : ℕ) → list_all (slot_known file) slots ≡ true
    → list_all (slot_known file) (slots ++ replicate count slot.Go) ≡ true
unfolding slot_known
all_goes file [] zero all = refl
all_goes file [] (suc n) all = all_goes file [] n all
all_goes file (x ∷ xs) count all = let parts = both (slot_known file x) (list_all (slot_known file) xs) all in rw (parts.0, all_goes file xs count parts.1) refl

no_thread_known : (file : List Declared) (fast : ℕ) (ts : List ThreadDecl) → length ts ≡ 0
    → list_all (λ (t : ThreadDecl). list_all (is_known_instr file fast) t.instrs) ts ≡ true
no_thread_known file fast [] h = refl
no_thread_known file fast (t ∷ ts) h = absurd (omega arith)

known-after : (file : List Declared) (c : Context) (l : SourceLine) → Stands file c l → IsSound c → AreKnown file c.script → AreKnown file (after c l).script
unfolding slot_known
known-after file c (line.Fast k) h s n =
    let before = earlier c.rank c.awaits_thread of.Fast refl h.order in
    record {
      queues = n.queues;
      dfcs = n.dfcs;
      idfcs = n.idfcs;
      irqs = n.irqs;
      instrs = no_thread_known file k c.script.threads (s.front (omega arith));
      slots = n.slots;
    }
known-after file c (line.Dfc name queue p ops) h s n =
    let parts = both (queue_known file queue) (list_all (is_known_op file) ops) h.known in
    record {
      queues = all_push (λ (d : DfcDecl). queue_known file d.queue) c.script.dfcs _ n.queues parts.0;
      dfcs = all_push (λ (d : DfcDecl). list_all (is_known_op file) d.body) c.script.dfcs _ n.dfcs parts.1;
      idfcs = n.idfcs;
      irqs = n.irqs;
      instrs = n.instrs;
      slots = n.slots;
    }
known-after file c (line.Idfc name ops) h s n = record {
  queues = n.queues;
  dfcs = n.dfcs;
  idfcs = all_push (λ (d : IdfcDecl). list_all (is_known_op file) d.body) c.script.idfcs _ n.idfcs h.known;
  irqs = n.irqs;
  instrs = n.instrs;
  slots = n.slots;
}
known-after file c (line.IrqBody k ops) h s n = record {
  queues = n.queues;
  dfcs = n.dfcs;
  idfcs = n.idfcs;
  irqs = all_push (λ (i : IrqBody). list_all (is_known_op file) i.body) c.script.irqs _ n.irqs h.known;
  instrs = n.instrs;
  slots = n.slots;
}
known-after file c (line.KernelThread name p held) h s n = record {
  queues = n.queues;
  dfcs = n.dfcs;
  idfcs = n.idfcs;
  irqs = n.irqs;
  instrs =
      all_push (λ (t : ThreadDecl). list_all (is_known_instr file c.script.fast) t.instrs) c.script.threads _ n.instrs
      refl;
  slots = n.slots;
}
known-after file c (line.Thread name p held) h s n = record {
  queues = n.queues;
  dfcs = n.dfcs;
  idfcs = n.idfcs;
  irqs = n.irqs;
  instrs =
      all_push (λ (t : ThreadDecl). list_all (is_known_instr file c.script.fast) t.instrs) c.script.threads _ n.instrs
      refl;
  slots = n.slots;
}
known-after file c (line.Instr what) h s n = record {
  queues = n.queues;
  dfcs = n.dfcs;
  idfcs = n.idfcs;
  irqs = n.irqs;
  instrs = instr_push (is_known_instr file c.script.fast) c.script.threads what n.instrs h.known;
  slots = n.slots;
}
known-after file c (line.Go count) h s n = record {
  queues = n.queues;
  dfcs = n.dfcs;
  idfcs = n.idfcs;
  irqs = n.irqs;
  instrs = n.instrs;
  slots = all_goes file c.script.slots count n.slots;
}
known-after file c (line.IrqSlot k) h s n =
    let v = in_form (form_of (line.IrqSlot k)) h.ranges in
    let le = (both (nat_le 0 k) (nat_le k 31) v.0.0).1 in
    let known = h.known in
    record {
      queues = n.queues;
      dfcs = n.dfcs;
      idfcs = n.idfcs;
      irqs = n.irqs;
      instrs = n.instrs;
      slots = all_push (slot_known file) c.script.slots (slot.Irq k) n.slots (rw (le, known) refl);
    }
known-after file c line.Tick h s n = record {
  queues = n.queues;
  dfcs = n.dfcs;
  idfcs = n.idfcs;
  irqs = n.irqs;
  instrs = n.instrs;
  slots = all_push (slot_known file) c.script.slots slot.Tick n.slots refl;
}
known-after file c _ h s n = record { queues = n.queues; dfcs = n.dfcs; idfcs = n.idfcs; irqs = n.irqs; instrs = n.instrs; slots = n.slots }

known-all : (file : List Declared) (c : Context) (lines : List SourceLine) → AllStand file c lines → IsSound c
    → AreKnown file c.script → AreKnown file (after_all c lines).script
known-all file c [] stand s n = n
known-all file c (l ∷ ls) stand s n = known-all file (after c l) ls stand.1 (sound-after file c l stand.0 s) (known-after file c l stand.0 s n)

-- what is known is declared in the script
pub all_as : {A : Type 0} (test other : A → Bool) → ((x : A) → test x ≡ true → other x ≡ true) → (xs : List A)
    → list_all test xs ≡ true → list_all other xs ≡ true
all_as test other go [] h = refl
all_as test other go (x ∷ xs) h = let parts = both (test x) (list_all test xs) h in rw (go x parts.0, all_as test other go xs parts.1) refl

module _ (lines : List SourceLine) (stand : AllStand (twos lines) start lines) where
  made : Script
  made = (after_all start lines).script

  queue_there : (name : List ℕ) → is_declared (twos lines) (codes "dfcq") name ≡ true → has_queue made name ≡ true
  unfolding made
  queue_there name h = told (codes "dfcq") has_queue queue_tells start lines name h

  queue_is : (name : List ℕ) → queue_known (twos lines) name ≡ true → is_queue made name ≡ true
  queue_is name h = elim (or_true (bytes_eq name (codes "supervisor")) (is_declared (twos lines) (codes "dfcq") name) h) as (λ _. is_queue made name ≡ true) [
    | inl e ↦ (rw e refl)
    | inr e ↦ or_right (bytes_eq name (codes "supervisor")) (has_queue made name) (queue_there name e)
  ]

  or_first : (a b : Bool) → a ≡ true → (a || b) ≡ true
  or_first a b h = rw h refl

  thread_told : (name : List ℕ)
      → (is_declared (twos lines) (codes "thread") name ≡ true)
      ⊎ (is_declared (twos lines) (codes "kthread") name ≡ true)
      → has_thread made name ≡ true
  unfolding made
  thread_told name (inl e) = told (codes "thread") has_thread thread_tells start lines name e
  thread_told name (inr e) = told (codes "kthread") has_thread kernel_tells start lines name e

  thread_is : (name : List ℕ) → is_thread_declared (twos lines) name ≡ true → is_thread made name ≡ true
  unfolding made
  thread_is name h =
      elim (or_true (is_declared (twos lines) (codes "thread") name || is_declared (twos lines) (codes "kthread") name)
      (is_declared (twos lines) (codes "dfcq") name) h) as (λ _. is_thread made name ≡ true) [
        | inl e ↦
            or_first (has_thread made name) (has_queue made name)
            (thread_told name (or_true (is_declared (twos lines) (codes "thread") name)
            (is_declared (twos lines) (codes "kthread") name) e))
        | inr e ↦ or_right (has_thread made name) (has_queue made name) (queue_there name e)
      ]

  dfc_is : (name : List ℕ) → is_declared (twos lines) (codes "dfc") name ≡ true → has_dfc made name ≡ true
  unfolding made
  dfc_is name h = told (codes "dfc") has_dfc dfc_tells start lines name h

  op_is : (what : Op) → is_known_op (twos lines) what ≡ true → op_resolves made what ≡ true
  unfolding made
  op_is (op.Idfc name) h = told (codes "idfc") has_idfc idfc_tells start lines name h
  op_is (op.Dfc name) h = dfc_is name h
  op_is (op.Fssignal name) h = thread_is name h
  op_is (op.Device x code) h = refl
  op_is (op.Queue name) h = dfc_is name h

  instr_is : (what : Instr) → is_known_instr (twos lines) made.fast what ≡ true → instr_resolves made what ≡ true
  instr_is (instr.Flock x) h = h
  instr_is (instr.Funlock x) h = h
  instr_is (instr.Fssignal name) h = thread_is name h
  instr_is (instr.Queue name) h = dfc_is name h
  instr_is _ h = refl

  slot_is : (what : Slot) → slot_known (twos lines) what ≡ true → slot_resolves made what ≡ true
  unfolding made slot_known
  slot_is (slot.Irq k) h =
      let parts = both (nat_le k 31) (is_irq_declared (twos lines) (decimal k)) h in
      irq_told (twos lines) start lines k stand (omega arith) (leb-true k 31 parts.0) parts.1
  slot_is slot.Go h = refl
  slot_is slot.Tick h = refl

  resolves : DoNamesResolve made
  unfolding made
  resolves =
      let n = known-all (twos lines) start lines stand sound-start
      (record { queues = refl; dfcs = refl; idfcs = refl; irqs = refl; instrs = refl; slots = refl }) in
      let ops = all_as (is_known_op (twos lines)) (op_resolves made) op_is in
      record {
        queues =
            all_as (λ (d : DfcDecl). queue_known (twos lines) d.queue) (λ (d : DfcDecl). is_queue made d.queue)
            (λ d h. queue_is d.queue h) made.dfcs n.queues;
        dfcs =
            all_as (λ (d : DfcDecl). list_all (is_known_op (twos lines)) d.body)
            (λ (d : DfcDecl). list_all (op_resolves made) d.body) (λ d h. ops d.body h) made.dfcs n.dfcs;
        idfcs =
            all_as (λ (d : IdfcDecl). list_all (is_known_op (twos lines)) d.body)
            (λ (d : IdfcDecl). list_all (op_resolves made) d.body) (λ d h. ops d.body h) made.idfcs n.idfcs;
        irqs =
            all_as (λ (i : IrqBody). list_all (is_known_op (twos lines)) i.body)
            (λ (i : IrqBody). list_all (op_resolves made) i.body) (λ i h. ops i.body h) made.irqs n.irqs;
        instrs =
            all_as (λ (t : ThreadDecl). list_all (is_known_instr (twos lines) made.fast) t.instrs)
            (λ (t : ThreadDecl). list_all (instr_resolves made) t.instrs)
            (λ t h. all_as (is_known_instr (twos lines) made.fast) (instr_resolves made) instr_is t.instrs h) made.threads
            n.instrs;
        slots = all_as (slot_known (twos lines)) (slot_resolves made) slot_is made.slots n.slots;
      }

pub formed_names_resolve : (script : Script) → IsWellFormed script → DoNamesResolve script
unfolding made
formed_names_resolve script f =
    let stand : AllStand (twos f.lines) start f.lines = subst
    (λ (ws : List (List (List ℕ))). AllStand (map first_two ws) start f.lines) f.are.spelled f.are.stand in
    subst DoNamesResolve (sym f.same) (resolves f.lines stand)
