-- An entry that may stand next, with whose line a text goes on, has the actor that the text's first line tells and the choice that
-- it tells. So it is the entry that the machine makes of them.
use Rattle.entry_log.specs.ActorText.{actor_text}
use Rattle.entry_log.specs.EntryLine.{entry_line}
use Rattle.entry_log.specs.IsEntry.{IsActor, IsStep}
use Rattle.entry_log.specs.declared.entry.Actor.{Actor}
use Rattle.entry_log.specs.declared.entry.Entry.{Entry}
use Rattle.machine.specs.declared.state.State.{State}
use Rattle.machine.specs.Boot.{boot_in}
use Rattle.machine.specs.History.{after_in, choosing, entry_by, is_deathless, keeping, transition, CanAct, IsNext, IsShared}
use Rattle.machine_laws.proofs.Reached.AfterHistory.{well_formed-after}
use Rattle.machine_laws.proofs.Reached.Modes.{choosing-shared, shared-after}
use Rattle.plain_machine.specs.PlainView.{PlainView}
use Rattle.script_types.specs.Source.{IsWellFormed}
use Rattle.script_types.specs.declared.script.Script.{Script}
use Rattle.script_words.proofs.Steps.{map_some, some_is}
use Rattle.script_words.specs.Fields.{cut_of}
use Rattle.std.proofs.Common.{◌≡◌, ℕ, ◌+◌, Bool, true, false, not, nat_eq, List, [], ◌∷◌, ◌++◌, length, decimal, Option, Some, None, option_map, refl, sym, ap, subst, ◌∙◌, append_assoc}
use Rattle.std.proofs.lemmas.Bool.{eqb-true}
use Rattle.std.proofs.lemmas.List.{append_cancel_right}
use Rattle.std.specs.Prelude.{Err, IfNone, IfOk, IfSome, Ok, Result}
use Rattle.history_check.specs.DeathText.{tells_death}
use Rattle.history_check.specs.FirstLines.{Begins, first_lines}
use Rattle.history_check.specs.Followed.{GoesNowhere, HaveOneFirst, IsNextMade}
use Rattle.history_check.specs.OfLine.{IsOfActor}
use Rattle.history_check.proofs.Acting.{known_actor, same-step}
use Rattle.history_check.proofs.Bytes.{all_two, decimal_field, field_byte, free, free_by}
use Rattle.history_check.proofs.Cuts.{before_cut, cut_behind}
use Rattle.history_check.proofs.EntryBytes.{actor_field}
use Rattle.history_check.proofs.EntryLines.{behind_actor, body, line_head, line_is}
use Rattle.history_check.proofs.FirstLines.{first_is, lines_cut}
use Rattle.history_check.proofs.Following.{deathless-told, next-step}
use Rattle.history_check.proofs.GoodLines.{entry_is_line}

-- the first line of a text is what is cut off at its first line feed
pub record IsFirstCut (text line : List ℕ) : Type 0 where
  pub words : List ℕ
  pub rest : List ℕ
  pub cut : cut_of 10 text ≡ Some (words, rest)
  pub same : line ≡ words ++ 10 ∷ []

one_by : (b : ℕ) (bs line : List ℕ) (test : Bool) → nat_eq b 10 ≡ test → first_lines 1 (b ∷ bs) ≡ Some line
    → ((l : List ℕ) → first_lines 1 bs ≡ Some l → IsFirstCut bs l) → IsFirstCut (b ∷ bs) line
one_by b bs line true test first later =
    let feed : b ≡ 10 = eqb-true b 10 test in
    let one : Some (b ∷ []) ≡ Some line = rw test at first in
    record { words = []; rest = bs; cut = rw test refl; same = sym (some_is (b ∷ []) line one) ∙ ap (λ (x : ℕ). x ∷ []) feed }
one_by b bs line false test first later =
    let at = map_some (λ (more : List ℕ). b ∷ more) (first_lines 1 bs) line (rw test at first) in
    let more = later at.0 at.1 in
    record { words = b ∷ more.words; rest = more.rest; cut = rw (test, more.cut) refl; same = sym at.2 ∙ ap (λ (xs : List ℕ). b ∷ xs) more.same }

pub first_cut : (text line : List ℕ) → first_lines 1 text ≡ Some line → IsFirstCut text line
first_cut [] line first = absurd (cc)
first_cut (b ∷ bs) line first = one_by b bs line (nat_eq b 10) refl first (λ l is. first_cut bs l is)

-- the line of a text that is cut off
pub cut_line : (text line rest first : List ℕ) → Some (line, rest) ≡ cut_of 10 text → first_lines 1 text ≡ Some first → first ≡ line ++ 10 ∷ []
cut_line text line rest first cut is =
    let at = first_cut text first is in
    let parts : ◌≡◌ {A = List ℕ × List ℕ} (line, rest) (at.words, at.rest) = some_is (line, rest) (at.words, at.rest) (cut ∙ at.cut) in
    at.same ∙ ap (λ (p : List ℕ × List ℕ). p.0 ++ 10 ∷ []) (sym parts)

-- a text that begins with an entry's line has its actor in the first line
abbrev head : Entry → List ℕ
head e = decimal e.place ++ 32 ∷ (actor_text e.actor ++ 32 ∷ [])

head_free : (e : Entry) → free 10 (head e) ≡ true
head_free e =
    let placed = free_by field_byte 10 (decimal e.place) refl (decimal_field e.place) in
    let actor = free_by field_byte 10 (actor_text e.actor) refl (actor_field e.actor) in
    all_two (λ b. not (nat_eq b 10)) (decimal e.place) (32 ∷ (actor_text e.actor ++ 32 ∷ [])) placed
    (all_two (λ b. not (nat_eq b 10)) (actor_text e.actor) (32 ∷ []) actor refl)

head_more : (e : Entry) (more : List ℕ) → head e ++ more ≡ decimal e.place ++ 32 ∷ (actor_text e.actor ++ 32 ∷ more)
head_more e more =
    append_assoc (decimal e.place) (32 ∷ (actor_text e.actor ++ 32 ∷ [])) more
    ∙ ap (λ (text : List ℕ). decimal e.place ++ 32 ∷ text) (append_assoc (actor_text e.actor) (32 ∷ []) more)

module _ (text line rest : List ℕ) (e : Entry) (more : List ℕ) (cut : Some (line, rest) ≡ cut_of 10 text) (one : HaveOneFirst text (entry_line e ++ more)) where
  of_actor : IsActor e.actor → IsOfActor line e.actor
  of_actor known =
      let at = first_cut (entry_line e ++ more) one.line one.too in
      let words : line ++ 10 ∷ [] ≡ at.words ++ 10 ∷ [] = sym (cut_line text line rest one.line cut one.first) ∙ at.same in
      let same : line ≡ at.words = append_cancel_right line at.words (10 ∷ []) words in
      let tail = behind_actor e ++ 10 ∷ more in
      let headed : entry_line e ++ more ≡ head e ++ tail = line_head e more ∙ sym (head_more e tail) in
      let cuts : option_map (before_cut (head e)) (cut_of 10 tail) ≡ Some (at.words, at.rest) =
      sym (cut_behind 10 (head e) tail (head_free e)) ∙ ap (cut_of 10) (sym headed) ∙ at.cut in
      let found = map_some (before_cut (head e)) (cut_of 10 tail) (at.words, at.rest) cuts in
      let front : head e ++ found.0.0 ≡ at.words = ap (λ (p : List ℕ × List ℕ). p.0) found.2 in
      record { known = known; place = e.place; rest = found.0.0; same = same ∙ sym front ∙ head_more e found.0.0 }

  -- and if the name in its step is name text, that line is its own
  own_line : IsStep e.step → one.line ≡ entry_line e
  own_line named = some_is one.line (entry_line e) (sym one.too ∙ first_is (entry_line e) more (entry_is_line e named))

  own_words : IsStep e.step → line ≡ body e
  own_words named = append_cancel_right line (body e) (10 ∷ []) (sym (cut_line text line rest one.line cut one.first) ∙ own_line named ∙ line_is e)

-- no entry may stand next with which the text goes on: where it has no line
pub no_line : (script : Script) (history : List Entry) (text : List ℕ) → None ≡ cut_of 10 text → GoesNowhere script history text
no_line script history text none e more next one =
    let at = first_cut text one.line one.first in
    let clash : ◌≡◌ {A = Option (List ℕ × List ℕ)} None (Some (at.words, at.rest)) = none ∙ at.cut in
    absurd (cc)

module _ (script : Script) (history : List Entry) (text line rest : List ℕ) (valid : IsWellFormed script) (cut : Some (line, rest) ≡ cut_of 10 text) where
  abbrev S : State
  S = after_in true script history

  may : (e : Entry) → IsNext script S (length history + 1) e → IsActor e.actor
  may e next = known_actor script S e.actor valid (well_formed-after true script history valid).rows next.able

  told_actor : (told : Option Actor) → ((actor : Actor) → IsOfActor line actor → told ≡ Some actor)
      → (e : Entry) (more : List ℕ) → IsNext script S (length history + 1) e → HaveOneFirst text (entry_line e ++ more)
      → told ≡ Some e.actor
  told_actor told tells e more next one = tells e.actor (of_actor text line rest e more cut one (may e next))

  -- where its line tells no actor
  pub no_actor : ((actor : Actor) → IsOfActor line actor → None ≡ Some actor) → GoesNowhere script history text
  no_actor tells e more next one = let clash : ◌≡◌ {A = Option Actor} None (Some e.actor) = told_actor None tells e more next one in absurd (cc)

  -- where its actor may not act
  not_legal : (actor : Actor) → ((other : Actor) → IsOfActor line other → Some actor ≡ Some other)
      → (CanAct script S actor → ⊥) → GoesNowhere script history text
  not_legal actor tells cannot e more next one =
      let same : actor ≡ e.actor = some_is actor e.actor (told_actor (Some actor) tells e more next one) in
      cannot (subst (CanAct script S) (sym same) next.able)

  -- and where it doesn't begin with the line of the entry that its actor makes
  other_entry : (actor : Actor) (made : Entry) (told : Bool)
      → ((other : Actor) → IsOfActor line other → Some actor ≡ Some other) → told ≡ tells_death line
      → made ≡ entry_by script (keeping (not told) S) (length history + 1) actor → IsStep made.step
      → (Begins text (entry_line made) → ⊥) → GoesNowhere script history text
  other_entry actor made told tells death by named other e more next one =
      let is : made ≡ entry_by script (keeping (not (tells_death line)) S) (length history + 1) actor =
      by ∙ ap (λ (b : Bool). entry_by script (keeping (not b) S) (length history + 1) actor) death in
      let same : actor ≡ e.actor = some_is actor e.actor (told_actor (Some actor) tells e more next one) in
      let made_step : made.step ≡ (transition script S actor).outcome.step =
      ap (λ (x : Entry). x.step) is ∙ same-step script S (not (tells_death line)) actor in
      let step : made.step ≡ e.step = made_step ∙ ap (λ (a : Actor). (transition script S a).outcome.step) same
      ∙ sym (next-step script S (length history + 1) e next) in
      let e_named : IsStep e.step = subst IsStep step named in
      let words = own_words text line rest e more cut one e_named in
      let choice : is_deathless e.effects ≡ not (tells_death line) = deathless-told e e_named ∙ ap (λ (text : List ℕ). not (tells_death text)) (sym words) in
      let chosen : choosing e S ≡ keeping (not (tells_death line)) S =
      choosing-shared S e (shared-after script (boot_in true script) history) ∙ ap (λ (b : Bool). keeping b S) choice in
      let entry : e ≡ made = next.told ∙ ap (λ (T : State). entry_by script T (length history + 1) e.actor) chosen
      ∙ ap (λ (a : Actor). entry_by script (keeping (not (tells_death line)) S) (length history + 1) a) (sym same)
      ∙ sym is in
      let here = lines_cut text one.line 1 one.first in
      let begins : one.line ≡ entry_line made = own_line text line rest e more cut one e_named ∙ ap entry_line entry in
      other (record { rest = here.rest; whole = here.whole ∙ ap (λ (xs : List ℕ). xs ++ here.rest) begins })

-- what the machine answered of that actor: the entry that it made
abbrev Made : Type 0
Made = PlainView × Entry

pub next_made : {E : Type 0} (made : Result (Option Made) E) (plain : PlainView) (text line rest : List ℕ) (actor : Actor) (told : Bool)
    → IsWellFormed plain.script → Some (line, rest) ≡ cut_of 10 text
    → ((other : Actor) → IsOfActor line other → Some actor ≡ Some other) → told ≡ tells_death line
    → IfOk made (λ answer. IfSome answer (λ (m : Made). m.0.script ≡ plain.script))
    → IfOk made (λ answer. IfSome answer (λ (m : Made). (m.0.history ≡ plain.history ++ m.1 ∷ []) × (m.0.shared ≡ true)
    × (m.1 ≡ entry_by plain.script (keeping (not told) (after_in true plain.script plain.history)) (length plain.history + 1) actor)))
    → IfOk made (λ answer. IfSome answer (λ (m : Made). IsShared m.0.script m.0.history))
    → IfOk made (λ answer. IfSome answer (λ (m : Made). IsNextMade plain text m.0 m.1))
next_made (Err error) plain text line rest actor told valid cut tells death script entry legal = tt
next_made (Ok None) plain text line rest actor told valid cut tells death script entry legal = tt
next_made (Ok (Some m)) plain text line rest actor told valid cut tells death script entry legal = record {
  script = script;
  history = entry.0;
  shared = entry.1;
  legal = legal;
  only = λ named other. other_entry plain.script plain.history text line rest valid cut actor m.1 told tells death entry.2 named other;
}

-- and that the actor may not act
pub next_barred : {E : Type 0} (made : Result (Option Made) E) (plain : PlainView) (text line rest : List ℕ) (actor : Actor)
    → IsWellFormed plain.script → Some (line, rest) ≡ cut_of 10 text → ((other : Actor) → IsOfActor line other → Some actor ≡ Some other)
    → IfOk made (λ answer. IfNone answer (CanAct plain.script (after_in true plain.script plain.history) actor → ⊥))
    → IfOk made (λ answer. IfNone answer (GoesNowhere plain.script plain.history text))
next_barred (Err error) plain text line rest actor valid cut tells cannot = tt
next_barred (Ok (Some m)) plain text line rest actor valid cut tells cannot = tt
next_barred (Ok None) plain text line rest actor valid cut tells cannot = not_legal plain.script plain.history text line rest valid cut actor tells cannot
