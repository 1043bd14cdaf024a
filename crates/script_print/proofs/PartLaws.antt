-- Printing the parts of a script one after another.
use Rattle.std.proofs.Common.{◌≡◌, ℕ, zero, suc, ◌+◌, ◌<◌, List, [], ◌∷◌, ◌++◌, append_assoc, length, map, take, get_or, replicate, refl, sym, ap, ◌∙◌, arith}
use Rattle.std.proofs.lemmas.List.{take_more, length-take}
use Rattle.std.proofs.lemmas.Bool.Decides.{nat_tests}
use Rattle.std.proofs.lemmas.List.Concat.{flat_map-append}
use Rattle.std.specs.List.{flat_map}
use Rattle.std.specs.Prelude.{None, false, nat_eq, codes}
use Rattle.script_print.specs.CanonicalText.{source_text, source_texts, setting_lines, queue_line, dfc_line, idfc_line, irq_line, thread_lines, threads_of, processes_lines, declared_lines, with_slot, slots_lines, schedule_lines, canonical_lines}
use Rattle.script_print.specs.PrintedWord.{separator}
use Rattle.script_types.specs.SourceWords.{op_words, body_words}
use Rattle.script_types.specs.declared.declaration.Op.{Op}
use Rattle.script_types.specs.declared.script.Script.{Script}
use Rattle.script_types.specs.declared.script.Slot.{Slot}
use Rattle.script_types.specs.declared.script.Slot.TheVariants as slot
use Rattle.script_types.specs.declared.source_line.SourceLine.{SourceLine}
use Rattle.script_types.specs.declared.source_line.SourceLine.TheVariants as line

-- a body with one operation more
separator_some : (n : ℕ) → separator (suc n) ≡ codes ";" ∷ []
separator_some n = let e : nat_eq (suc n) 0 ≡ false = grind (arith, nat_tests) in rw e refl

body_push : (ops : List Op) (what : Op) → body_words (ops ++ what ∷ []) ≡ body_words ops ++ (separator (length ops) ++ op_words what)
body_push [] what = refl
body_push (first ∷ []) what = ap (λ words. op_words first ++ (words ++ op_words what)) (sym (separator_some 0))
body_push (first ∷ next ∷ ops) what =
    let same = separator_some (length ops) ∙ sym (separator_some (suc (length ops))) in
    ap (λ words. op_words first ++ codes ";" ∷ words) (body_push (next ∷ ops) what ∙ ap (λ words. body_words (next ∷ ops) ++ (words ++ op_words what)) same)
    ∙ sym (append_assoc (op_words first) (codes ";" ∷ body_words (next ∷ ops)) (separator (length (first ∷ next ∷ ops)) ++ op_words what))

pub body_more : (ops : List Op) (i : ℕ) (d : Op) → i < length ops
    → body_words (take (i + 1) ops) ≡ body_words (take i ops) ++ (separator i ++ op_words (get_or ops i d))
body_more ops i d within =
    let size : length (take i ops) ≡ i = simp length-take (omega arith) in
    ap body_words (take_more ops i d within)
    ∙ body_push (take i ops) (get_or ops i d)
    ∙ ap (λ n. body_words (take i ops) ++ (separator n ++ op_words (get_or ops i d))) size

pub body_texts : (before out middle new : List ℕ) (ops : List Op) (i : ℕ) (what : Op) → i < length ops
    → what ≡ get_or ops i what → out ≡ before ++ flat_map (λ (w : List ℕ). 32 ∷ w) (body_words (take i ops))
    → middle ≡ out ++ flat_map (λ (w : List ℕ). 32 ∷ w) (separator i)
    → new ≡ middle ++ flat_map (λ (w : List ℕ). 32 ∷ w) (op_words what)
    → new ≡ before ++ flat_map (λ (w : List ℕ). 32 ∷ w) (body_words (take (i + 1) ops))
body_texts before out middle new ops i what within at so_far first last =
    let text : List (List ℕ) → List ℕ = flat_map (λ (w : List ℕ). 32 ∷ w) in
    let old = body_words (take i ops) in
    let joined : text (old ++ (separator i ++ op_words what)) ≡ text old ++ (text (separator i) ++ text (op_words what)) = simp flat_map-append in
    let regrouped : before ++ text old ++ text (separator i) ++ text (op_words what)
    ≡ before ++ (text old ++ (text (separator i) ++ text (op_words what))) =
    simp append_assoc in
    last ∙ ap (λ t. t ++ text (op_words what)) (first ∙ ap (λ t. t ++ text (separator i)) so_far) ∙ regrouped
    ∙ ap (λ t. before ++ t) (sym joined ∙ ap text (ap (λ w. old ++ (separator i ++ op_words w)) at ∙ sym (body_more ops i what within)))

-- the parts of the declarations
nine_parts : (out header : List ℕ) (a b c d e f g h : List SourceLine)
    → out ++ header ++ source_texts a ++ source_texts b ++ source_texts c ++ source_texts d ++ source_texts e ++
    source_texts f ++ source_texts g ++ source_texts h
    ≡ out ++ (header ++ source_texts (a ++ b ++ c ++ d ++ e ++ f ++ g ++ h))
nine_parts out header a b c d e f g h = simp (flat_map-append, append_assoc)

more : (a b c : List ℕ) → a ≡ b → a ++ c ≡ b ++ c
more a b c e = ap (λ t. t ++ c) e

pub declared_by : (s : Script) (o0 o1 o2 o3 o4 o5 o6 o7 o8 o9 : List ℕ) → o1 ≡ o0 ++ source_text (line.Header s.version)
    → o2 ≡ o1 ++ source_texts (setting_lines line.Pool s.pool)
    → o3 ≡ o2 ++ source_texts (setting_lines line.Fast s.fast) → o4 ≡ o3 ++ source_texts (map queue_line s.queues)
    → o5 ≡ o4 ++ source_texts (map dfc_line s.dfcs) → o6 ≡ o5 ++ source_texts (map idfc_line s.idfcs) → o7
    ≡ o6 ++ source_texts (map irq_line s.irqs) → o8
    ≡ o7 ++ source_texts (flat_map thread_lines (threads_of None s.threads)) → o9
    ≡ o8 ++ source_texts (processes_lines s.threads 0 s.processes)
    → o9 ≡ o0 ++ source_texts (declared_lines s)
declared_by s o0 o1 o2 o3 o4 o5 o6 o7 o8 o9 h1 h2 h3 h4 h5 h6 h7 h8 h9 =
    let e2 = h2 ∙ more _ _ _ h1 in
    let e3 = h3 ∙ more _ _ _ e2 in
    let e4 = h4 ∙ more _ _ _ e3 in
    let e5 = h5 ∙ more _ _ _ e4 in
    let e6 = h6 ∙ more _ _ _ e5 in
    let e7 = h7 ∙ more _ _ _ e6 in
    let e8 = h8 ∙ more _ _ _ e7 in
    let e9 = h9 ∙ more _ _ _ e8 in
    e9
    ∙ nine_parts o0 (source_text (line.Header s.version)) (setting_lines line.Pool s.pool) (setting_lines line.Fast s.fast)
    (map queue_line s.queues) (map dfc_line s.dfcs) (map idfc_line s.idfcs) (map irq_line s.irqs)
    (flat_map thread_lines (threads_of None s.threads)) (processes_lines s.threads 0 s.processes)

-- the whole text
three_parts : (out : List ℕ) (a b c : List SourceLine) → out ++ source_texts a ++ source_texts b ++ source_texts c ≡ out ++ source_texts (a ++ b ++ c)
three_parts out a b c = simp (flat_map-append, append_assoc)

pub canonical_by : (s : Script) (o0 o1 o2 o3 : List ℕ) → o1 ≡ o0 ++ source_texts (declared_lines s)
    → o2 ≡ o1 ++ source_texts (schedule_lines s.slots) → o3 ≡ o2 ++ source_text line.End
    → o3 ≡ o0 ++ source_texts (canonical_lines s)
canonical_by s o0 o1 o2 o3 h1 h2 h3 =
    let e2 = h2 ∙ more _ _ _ h1 in
    let e3 = h3 ∙ more _ _ _ e2 in
    e3 ∙ three_parts o0 (declared_lines s) (schedule_lines s.slots) (line.End ∷ [])

-- a run of slots in which the chosen actor acts
pub run_lines : (count : ℕ) → 0 < count → slots_lines (replicate count slot.Go) ≡ line.Go count ∷ []
run_lines zero some = absurd (omega arith)
run_lines (suc zero) some = refl
run_lines (suc (suc n)) some = ap (with_slot slot.Go) (run_lines (suc n) (omega arith))

-- lines of slots behind such a run
abbrev run_line : ℕ → List SourceLine
run_line zero = []
run_line (suc n) = line.Go (suc n) ∷ []

run_is : (count : ℕ) → slots_lines (replicate count slot.Go) ≡ run_line count
run_is zero = refl
run_is (suc n) = run_lines (suc n) (omega arith)

tick_behind : (run : ℕ) (rest : List Slot) → slots_lines (replicate run slot.Go ++ slot.Tick ∷ rest) ≡ run_line run ++ line.Tick ∷ slots_lines rest
tick_behind zero rest = refl
tick_behind (suc zero) rest = refl
tick_behind (suc (suc n)) rest = ap (with_slot slot.Go) (tick_behind (suc n) rest)

irq_behind : (run k : ℕ) (rest : List Slot) → slots_lines (replicate run slot.Go ++ slot.Irq k ∷ rest) ≡ run_line run ++ line.IrqSlot k ∷ slots_lines rest
irq_behind zero k rest = refl
irq_behind (suc zero) k rest = refl
irq_behind (suc (suc n)) k rest = ap (with_slot slot.Go) (irq_behind (suc n) k rest)

-- a slot that ends a run
pub tick_texts : (run : ℕ) (what : Slot) (before middle new : List ℕ) (rest : List Slot) → what ≡ slot.Tick
    → middle ≡ before ++ source_texts (slots_lines (replicate run slot.Go)) → new ≡ middle ++ source_text line.Tick
    → new ++ source_texts (slots_lines rest) ≡ before ++ source_texts (slots_lines (replicate run slot.Go ++ what ∷ rest))
tick_texts run what before middle new rest is first last = rw (is, tick_behind run rest, last, first, run_is run, flat_map-append) (simp append_assoc)

pub irq_texts : (run k : ℕ) (what : Slot) (before middle new : List ℕ) (rest : List Slot) → what ≡ slot.Irq k
    → middle ≡ before ++ source_texts (slots_lines (replicate run slot.Go))
    → new ≡ middle ++ source_text (line.IrqSlot k)
    → new ++ source_texts (slots_lines rest) ≡ before ++ source_texts (slots_lines (replicate run slot.Go ++ what ∷ rest))
irq_texts run k what before middle new rest is first last = rw (is, irq_behind run k rest, last, first, run_is run, flat_map-append) (simp append_assoc)
