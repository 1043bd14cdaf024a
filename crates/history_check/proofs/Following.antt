-- Two entries that may stand next, with whose lines the same text begins, are one. So a history's text that begins with
-- the lines of entries is that of a history that begins with these.
use Rattle.entry_log.specs.ActorText.{actor_text}
use Rattle.entry_log.specs.EntryLine.{entry_line}
use Rattle.entry_log.specs.FinalLine.{final_line}
use Rattle.entry_log.specs.HistoryText.{history_text}
use Rattle.entry_log.specs.IsEntry.{IsActor, IsStep}
use Rattle.entry_log.specs.declared.entry.Actor.{Actor}
use Rattle.entry_log.specs.declared.entry.Entry.{Entry}
use Rattle.entry_log.specs.declared.entry.FinalRow.{FinalRow}
use Rattle.machine.specs.declared.state.State.{State}
use Rattle.machine.specs.History.{after_from, choosing, entry_by, is_deathless, keeping, next_by, transition, IsLegalFrom, IsNext}
use Rattle.machine.specs.WellFormed.{AreRows}
use Rattle.machine_safe.proofs.Done.{rows-by}
use Rattle.plain_machine.proofs.Deathless.{none_dead}
use Rattle.script_types.proofs.ShapeLaws.{formed_is_shaped}
use Rattle.script_types.specs.Source.{IsWellFormed}
use Rattle.script_types.specs.declared.script.Script.{Script}
use Rattle.std.proofs.Common.{◌≡◌, ℕ, ◌+◌, Bool, true, not, ◌&&◌, List, [], ◌∷◌, ◌++◌, length, codes, decimal, refl, sym, ap, subst, ◌∙◌, append_assoc, arith}
use Rattle.std.proofs.lemmas.List.{append_cancel_left}
use Rattle.std.specs.List.{flat_map, AllByRecursion}
use Rattle.history_check.specs.DeathText.{tells_death}
use Rattle.history_check.proofs.Acting.{known_actor, same-step}
use Rattle.history_check.proofs.Actors.{actor_same}
use Rattle.history_check.proofs.Bytes.{decimal_digits, digits_begin, field_byte, free, free_by}
use Rattle.history_check.proofs.Cuts.{SameParts, same_parts}
use Rattle.history_check.proofs.EntryBytes.{actor_field}
use Rattle.history_check.proofs.EntryLines.{behind_actor, body, body_free, body_tells, line_head, line_is}

free_actor : (actor : Actor) → free 32 (actor_text actor) ≡ true
free_actor actor = free_by field_byte 32 (actor_text actor) refl (actor_field actor)

-- what may stand next has the place, and the step that its actor takes with any choice
next-place : (script : Script) (S : State) (place : ℕ) (e : Entry) → IsNext script S place e → e.place ≡ place
next-place script S place e next = ap (λ (x : Entry). x.place) next.told

pub next-step : (script : Script) (S : State) (place : ℕ) (e : Entry) → IsNext script S place e → e.step ≡ (transition script S e.actor).outcome.step
next-step script S place e next = ap (λ (x : Entry). x.step) next.told ∙ same-step script S (S.mode.shared && is_deathless e.effects) e.actor

-- where the texts begin with one place, they tell one actor
actors_are : (script : Script) (S : State) (place : ℕ) (e f : Entry) (s t : List ℕ) → IsActor e.actor → IsActor f.actor
    → e.place ≡ place → f.place ≡ place → entry_line e ++ s ≡ entry_line f ++ t → e.actor ≡ f.actor
actors_are script S place e f s t known_e known_f at_e at_f same =
    let heads = sym (line_head e s) ∙ same ∙ line_head f t in
    let one : decimal e.place ≡ decimal f.place = ap decimal (at_e ∙ sym at_f) in
    let placed : decimal f.place ++ 32 ∷ (actor_text e.actor ++ 32 ∷ (behind_actor e ++ 10 ∷ s))
    ≡ decimal f.place ++ 32 ∷ (actor_text f.actor ++ 32 ∷ (behind_actor f ++ 10 ∷ t)) =
    ap (λ (text : List ℕ). text ++ 32 ∷ (actor_text e.actor ++ 32 ∷ (behind_actor e ++ 10 ∷ s))) (sym one) ∙ heads in
    let behind = append_cancel_left (decimal f.place) _ _ placed in
    let actors : actor_text e.actor ++ 32 ∷ (behind_actor e ++ 10 ∷ s) ≡ actor_text f.actor ++ 32 ∷ (behind_actor f ++ 10 ∷ t) = cc in
    let parts = same_parts 32 (actor_text e.actor) (actor_text f.actor) (behind_actor e ++ 10 ∷ s)
    (behind_actor f ++ 10 ∷ t) (free_actor e.actor) (free_actor f.actor) actors in
    actor_same e.actor f.actor known_e known_f parts.front

-- the text behind a line
pub line_more : (e : Entry) (more : List ℕ) → entry_line e ++ more ≡ body e ++ 10 ∷ more
line_more e more = ap (λ (text : List ℕ). text ++ more) (line_is e) ∙ append_assoc (body e) (10 ∷ []) more

-- two lines of entries that the same text begins with
pub bodies_are : (e f : Entry) (s t : List ℕ) → IsStep e.step → IsStep f.step → entry_line e ++ s ≡ entry_line f ++ t → SameParts (body e) (body f) s t
bodies_are e f s t known_e known_f same =
    same_parts 10 (body e) (body f) s t (body_free e known_e) (body_free f known_f)
    (sym (line_more e s) ∙ same ∙ line_more f t)

pub deathless-told : (e : Entry) → IsStep e.step → is_deathless e.effects ≡ not (tells_death (body e))
deathless-told e known = sym (none_dead e.effects) ∙ ap not (sym (body_tells e known))

pub next_same : (script : Script) (S : State) (place : ℕ) (e f : Entry) (s t : List ℕ) → IsWellFormed script
    → AreRows script S → IsStep e.step → IsNext script S place e → IsNext script S place f
    → entry_line e ++ s ≡ entry_line f ++ t → e ≡ f
next_same script S place e f s t valid rows known next_e next_f same =
    let actors = actors_are script S place e f s t (known_actor script S e.actor valid rows next_e.able)
    (known_actor script S f.actor valid rows next_f.able) (next-place script S place e next_e)
    (next-place script S place f next_f) same in
    let steps : e.step ≡ f.step = next-step script S place e next_e
    ∙ ap (λ (a : Actor). (transition script S a).outcome.step) actors ∙ sym (next-step script S place f next_f) in
    let known_f : IsStep f.step = subst IsStep steps known in
    let bodies = bodies_are e f s t known known_f same in
    let deathless : is_deathless e.effects ≡ is_deathless f.effects =
    deathless-told e known
    ∙ ap (λ (line : List ℕ). not (tells_death line)) bodies.front
    ∙ sym (deathless-told f known_f) in
    next_e.told
    ∙ ap (λ (b : Bool). entry_by script (keeping (S.mode.shared && b) S) place e.actor) deathless
    ∙ ap (λ (a : Actor). entry_by script (choosing f S) place a) actors
    ∙ sym next_f.told

-- a history goes on behind these entries, and its text behind theirs
pub record GoesBehind (es fs : List Entry) (s : List ℕ) (rows : List FinalRow) : Type 0 where
  pub behind : List Entry
  pub same : fs ≡ es ++ behind
  pub text : s ≡ history_text behind rows

abbrev pub HasName : Entry → Type 0
HasName e = IsStep e.step

pub after_first : (f : Entry) (fs : List Entry) (rows : List FinalRow) → history_text (f ∷ fs) rows ≡ entry_line f ++ history_text fs rows
unfolding history_text
after_first f fs rows = simp append_assoc

pub no_objects : (e : Entry) (s u : List ℕ) → entry_line e ++ s ≡ codes "objects\n" ++ u → ⊥
no_objects e s u same =
    digits_begin (decimal e.place) (actor_text e.actor ++ 32 ∷ (behind_actor e ++ 10 ∷ s))
    (codes "bjects\n" ++ u) 111 32 refl refl (decimal_digits e.place) (sym (line_head e s) ∙ same)

none_first : (rows : List FinalRow) → history_text [] rows ≡ codes "objects\n" ++ (flat_map final_line rows ++ codes "end\n")
unfolding history_text
none_first rows = append_assoc (codes "objects\n") (flat_map final_line rows) (codes "end\n")

none_left : (e : Entry) (es : List Entry) (s : List ℕ) (rows : List FinalRow) → flat_map entry_line (e ∷ es) ++ s ≡ history_text [] rows → ⊥
none_left e es s rows is =
    no_objects e (flat_map entry_line es ++ s) (flat_map final_line rows ++ codes "end\n")
    (sym (append_assoc (entry_line e) (flat_map entry_line es) s) ∙ is ∙ none_first rows)

pub begins_with : (script : Script) (S : State) (place : ℕ) (es fs : List Entry) (s : List ℕ) (rows : List FinalRow)
    → IsWellFormed script → AreRows script S → AllByRecursion HasName es → IsLegalFrom script S place es
    → IsLegalFrom script S place fs → flat_map entry_line es ++ s ≡ history_text fs rows → GoesBehind es fs s rows
begins_with script S place [] fs s rows valid well known legal_es legal_fs same = record { behind = fs; same = refl; text = same }
begins_with script S place (e ∷ es) [] s rows valid well known legal_es legal_fs same = absurd (none_left e es s rows same)
begins_with script S place (e ∷ es) (f ∷ fs) s rows valid well known legal_es legal_fs same =
    let left = append_assoc (entry_line e) (flat_map entry_line es) s in
    let lines = sym left ∙ same ∙ after_first f fs rows in
    let first : e ≡ f = next_same script S place e f (flat_map entry_line es ++ s) (history_text fs rows) valid well known.0 legal_es.0 legal_fs.0 lines in
    let behind : flat_map entry_line es ++ s ≡ history_text fs rows =
    append_cancel_left (entry_line e) _ _ (lines
    ∙ ap (λ (x : Entry). entry_line x ++ history_text fs rows) (sym first)) in
    let legal : IsLegalFrom script (next_by script S e) (place + 1) fs =
    subst (λ (x : Entry). IsLegalFrom script (next_by script S x) (place + 1) fs) (sym first) legal_fs.1 in
    let rest = begins_with script (next_by script S e) (place + 1) es fs s rows valid
    (rows-by script S e (formed_is_shaped script valid) well) known.1 legal_es.1 legal behind in
    let more : fs ≡ es ++ rest.behind = rest.same in
    record { behind = rest.behind; same = ap (λ (xs : List Entry). f ∷ xs) more ∙ ap (λ (x : Entry). x ∷ (es ++ rest.behind)) (sym first); text = rest.text }

-- the entries behind the first ones may stand behind them
pub legal_behind : (script : Script) (S : State) (place : ℕ) (xs ys : List Entry)
    → IsLegalFrom script S place (xs ++ ys) → IsLegalFrom script (after_from script S xs) (place + length xs) ys
legal_behind script S place [] ys legal = subst (λ (n : ℕ). IsLegalFrom script S n ys) (omega arith) legal
legal_behind script S place (x ∷ xs) ys legal =
    subst (λ (n : ℕ). IsLegalFrom script (after_from script (next_by script S x) xs) n ys) (omega arith)
    (legal_behind script (next_by script S x) (place + 1) xs ys legal.1)
