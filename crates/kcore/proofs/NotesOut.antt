-- The notes that are out stay those of the threads that are out, entry by entry.
use Rattle.std.proofs.Common.{◌≡◌, inl, inr, ◌<◌, ℕ, zero, suc, ◌+◌, List, [], ◌∷◌, ◌++◌, length, arith, refl, ap, sym, subst, ◌∙◌, Bool, true, false, Option, Some, None, length-append, add-one}
use Rattle.std.proofs.lemmas.Bool.{eq-eqb, eqb-true}
use Rattle.std.specs.Prelude.{◌&&◌, if◌then◌else◌, slice_get}
use Rattle.sym_base.specs.declared.number.ObjNo.{ObjNo}
use Rattle.script_types.specs.declared.script.Script.{Script}
use Rattle.script_types.specs.Shape.{IsShaped}
use Rattle.script_types.specs.Source.{IsWellFormed}
use Rattle.script_types.proofs.ShapeLaws.{formed_is_shaped}
use Rattle.entry_log.specs.declared.effect.Effect.{Effect}
use Rattle.entry_log.specs.declared.entry.Actor.{Actor}
use Rattle.entry_log.specs.declared.entry.Actor.TheVariants.{Thread}
use Rattle.entry_log.specs.declared.entry.Entry.{Entry}
use Rattle.state_rows.specs.declared.thread.ThreadRow.{ThreadRow}
use Rattle.ref_words.specs.declared.slip.Slip.{Slip}
use Rattle.ref_words.specs.Words.{Words, without}
use Rattle.ref_words.specs.declared.answer.Found.TheVariants.{Held}
use Rattle.ref_words.proofs.Notes.{not_out-after_take, out-before_send, out-before_take}
use Rattle.machine.specs.declared.state.State.{State}
use Rattle.machine.specs.Boot.{boot_in}
use Rattle.machine.specs.History.{after_in, choosing, transition, IsShared}
use Rattle.machine.specs.Out.{is_out, is_returning, part_of, seeks}
use Rattle.machine.specs.Rows.{object_of, thread_of}
use Rattle.state_rows.specs.ObjectRows.{place_of}
use Rattle.machine.specs.SharedRun.{is_return}
use Rattle.machine.specs.Told.{finds}
use Rattle.move_laws.proofs.References.Same.{same_object}
use Rattle.machine_laws.proofs.Reached.AfterHistory.{rows-keeping}
use Rattle.machine_laws.proofs.Reached.Histories.{after-push}
use Rattle.machine_laws.proofs.Reached.Modes.{shared-after}
use Rattle.machine_safe.specs.CountAfter.{is_by}
use Rattle.machine_safe.specs.FindsAndReturns.{away, finds_in, is_out_actor, returns_in, times_found}
use Rattle.machine_safe.proofs.Finders.Actions.{out-on}
use Rattle.machine_safe.proofs.Finders.Entries.{Turns}
use Rattle.machine_safe.proofs.Finders.Runs.{Stands, stands-rest, turns}
use Rattle.machine_safe.proofs.FindsCounted.{finds-counted}
use Rattle.machine_safe.proofs.LegalReferences.{stands-boot}
use Rattle.machine_safe.proofs.SharedRuns.{returns-all}
use Rattle.kcore.specs.Finds.{finder, finders, finders_by, found_in}
use Rattle.table_moves.specs.Notes.{IsNoteOut, Notes, notes_back, notes_sent}
use Rattle.kcore.specs.OneMore.{IsFinder}
use Rattle.kcore.specs.Outgoing.{AreNotes, IsNoteOf}
use Rattle.kcore.proofs.FindsOnce.{IsFind, finders-none, found-some, next-find, next-forth, times-none}

-- 1 where something is so
abbrev bit : Bool → ℕ
bit b = if b then 1 else 0

-- one entry more: its finds, its returns, its finders
finds-push : (history : List Entry) (e : Entry) → finds_in (history ++ e ∷ []) ≡ finds_in history + times_found e.effects
finds-push [] e = omega arith
finds-push (x ∷ xs) e = let rest = finds-push xs e in omega arith

returns-push : (history : List Entry) (e : Entry) → returns_in (history ++ e ∷ []) ≡ returns_in history + bit (is_return e.step)
returns-push [] e = omega arith
returns-push (x ∷ xs) e = let rest = returns-push xs e in omega arith

pub append-none : {A : Type 0} (xs : List A) → xs ++ [] ≡ xs
append-none [] = refl
append-none (x ∷ xs) = ap (λ l. x ∷ l) (append-none xs)

append-more : {A : Type 0} (xs ys zs : List A) → (xs ++ ys) ++ zs ≡ xs ++ (ys ++ zs)
append-more [] ys zs = refl
append-more (x ∷ xs) ys zs = ap (λ l. x ∷ l) (append-more xs ys zs)

pub finders-push : (history : List Entry) (e : Entry) → finders (history ++ e ∷ []) ≡ finders history ++ finders_by e.actor (found_in e.effects)
finders-push [] e = append-none (finders_by e.actor (found_in e.effects))
finders-push (x ∷ xs) e =
    ap (λ (l : List ObjNo). finders_by x.actor (found_in x.effects) ++ l) (finders-push xs e)
    ∙ sym (append-more (finders_by x.actor (found_in x.effects)) (finders xs) (finders_by e.actor (found_in e.effects)))

-- a find of a list is one of a longer list, and the last one of it is the next
get-front : {A : Type 0} (xs ys : List A) (k : ℕ) (x : A) → slice_get xs k ≡ Some x → slice_get (xs ++ ys) k ≡ Some x
get-front [] ys k x is = absurd (cc)
get-front (y ∷ xs) ys zero x is = is
get-front (y ∷ xs) ys (suc k) x is = get-front xs ys k x is

get-last : {A : Type 0} (xs : List A) (x : A) → slice_get (xs ++ x ∷ []) (length xs) ≡ Some x
get-last [] x = refl
get-last (y ∷ xs) x = get-last xs x

pub finder-of : (n : ℕ) (history later : List Entry) (ts : List ObjNo) (t : ObjNo)
    → finders later ≡ finders history ++ ts → finder n history ≡ Some t → finder n later ≡ Some t
finder-of zero history later ts t more is = absurd (cc)
finder-of (suc k) history later ts t more is = ap (λ (l : List ObjNo). slice_get l k) more ∙ get-front (finders history) ts k t is

finder-last : (n : ℕ) (history later : List Entry) (t : ObjNo) → finders later ≡ finders history ++ t ∷ []
    → n ≡ length (finders history) → finder (suc n) later ≡ Some t
finder-last n history later t more is =
    ap (λ (l : List ObjNo). slice_get l n) more
    ∙ (ap (λ (k : ℕ). slice_get (finders history ++ t ∷ []) k) is ∙ get-last (finders history) t)

-- whoever is out is returning
and-parts : (shared b : Bool) → (shared && b) ≡ false → shared ≡ true → b ≡ true → ⊥
and-parts true true e shared is = absurd (cc)
and-parts true false e shared is = absurd (cc)
and-parts false b e shared is = absurd (cc)

is-out : (shared b : Bool) → shared ≡ true → b ≡ true → (shared && b) ≡ true
is-out true true shared is = refl
is-out true false shared is = absurd (cc)
is-out false b shared is = absurd (cc)

pub out-of : (S : State) (u o : ObjNo) (place : ℕ) → S.mode.shared ≡ true → 0 < seeks o place (thread_of S u) → is_out S u ≡ true
out-of S u o place shared some =
    let out = out-on S u o place some in
    let back : is_returning (part_of (thread_of S u)) ≡ true = ap (λ (x : Option ThreadRow). is_returning (part_of x)) out.is ∙ out.returns in
    is-out S.mode.shared (is_returning (part_of (thread_of S u))) shared back

-- who acts
by-actor : (u : ObjNo) (actor : Actor) → is_by u actor ≡ true → actor ≡ Thread u
by-actor u (Thread t) by = ap Thread (same_object t u (eqb-true t.0 u.0 by))
by-actor u _ by = absurd (cc)

by-thread : (t : ObjNo) → is_by t (Thread t) ≡ true
by-thread t = eq-eqb t.0 t.0 refl

-- whoever is out isn't an actor that isn't
pub apart : (S : State) (u o : ObjNo) (place : ℕ) (actor : Actor) → S.mode.shared ≡ true → is_out_actor S actor ≡ false
    → 0 < seeks o place (thread_of S u) → is_by u actor ≡ false
apart S u o place actor shared stays some = by (is_by u actor) refl
  where
    by : (b : Bool) → is_by u actor ≡ b → b ≡ false
    by true e =
        let acts = by-actor u actor e in
        let out = out-of S u o place shared some in
        let none : is_out S u ≡ false = sym (ap (is_out_actor S) acts) ∙ stays in absurd (cc)
    by false e = refl

-- the thread of a note that is out
pub note-out : (history : List Entry) (S : State) (notes : Notes) (s : Slip) (t : ObjNo) → AreNotes history S notes
    → IsNoteOut notes s → finder s.number history ≡ Some t → (o : ObjNo) × (0 < seeks o s.place (thread_of S t))
note-out history S notes s t h out is =
    let n = h.each s out in
    let same_thread : n.thread ≡ t = (let its = n.its in cc) in
    (n.found, subst (λ (u : ObjNo). 0 < seeks n.found s.place (thread_of S u)) same_thread n.away)

-- count words with these notes
abbrev pub words_like : Notes → Words
words_like notes = record { own = []; stages = []; out = notes.out; made = notes.made; identity = notes.identity }

module _ (script : Script) (history : List Entry) (e : Entry) (valid : IsWellFormed script)
    (legal : IsShared script history) (more : IsShared script (history ++ e ∷ [])) where
  abbrev S : State
  S = after_in true script history

  abbrev T : State
  T = after_in true script (history ++ e ∷ [])

  abbrev new : List Entry
  new = history ++ e ∷ []

  shaped : IsShaped script
  shaped = formed_is_shaped script valid

  shared : S.mode.shared ≡ true
  shared = shared-after script (boot_in true script) history

  here : (n : ℕ) × Stands script S n (e ∷ [])
  here = stands-rest script shaped (boot_in true script) 1 history (e ∷ []) (stands-boot true script new valid more)

  turn : Turns script S T e.actor e.effects
  turn = subst (λ (U : State). Turns script S U e.actor e.effects) (sym (after-push true script history e)) (turns script shaped S here.0 e [] here.1)

  -- an entry that finds an object
  pub find : (o : ObjNo) → found_in e.effects ≡ Some o → IsFind e.actor e.effects o
  find o is =
      let told : e.effects ≡ (transition script (choosing e S) e.actor).outcome.effects = ap (λ (x : Entry). x.effects) here.1.legal.0.told in
      let some = found-some e.effects o is in
      let f = next-find script (choosing e S) e.actor o shaped (rows-keeping script S _ here.1.rows) (subst (λ (l : List Effect). 0 < finds l o) told some) in
      record { thread = f.thread; acts = f.acts; tells = told ∙ f.tells }

  -- a return is one of whoever is out
  pub back : is_return e.step ≡ is_out_actor S e.actor
  back = returns-all script new valid more history e [] refl

  -- as many are out as found an object and haven't come back
  counted : away T + bit (is_return e.step) ≡ away S + times_found e.effects
  counted =
      let old = (finds-counted script history valid legal).counted in
      let now = (finds-counted script new valid more).counted in
      let found = finds-push history e in
      let came = returns-push history e in omega arith

  stays-bit : is_out_actor S e.actor ≡ false → bit (is_return e.step) ≡ 0
  stays-bit stays = ap bit (back ∙ stays)

  -- a find puts one more out
  pub away-found : (o : ObjNo) → found_in e.effects ≡ Some o → is_out_actor S e.actor ≡ false → away T ≡ away S + 1
  away-found o is stays =
      let count = counted in
      let none_back = stays-bit stays in
      let times : times_found e.effects ≡ 1 = ap times_found (find o is).tells in
      omega arith

  -- and is no return
  pub return-finds-none : is_return e.step ≡ true → found_in e.effects ≡ None
  return-finds-none returns = by (found_in e.effects) refl
    where
      by : (found : Option ObjNo) → found_in e.effects ≡ found → found ≡ None
      by None is = refl
      by (Some o) is =
          let X = choosing e S in
          let told : e.effects ≡ (transition script X e.actor).outcome.effects = ap (λ (x : Entry). x.effects) here.1.legal.0.told in
          let step : e.step ≡ (transition script X e.actor).outcome.step = ap (λ (x : Entry). x.step) here.1.legal.0.told in
          let some = found-some e.effects o is in
          let forth = next-forth script X e.actor o shaped (rows-keeping script S _ here.1.rows) (subst (λ (l : List Effect). 0 < finds l o) told some) in
          let clash : true ≡ false = sym returns ∙ (ap is_return step ∙ forth) in absurd (cc)

  -- a note of a thread that doesn't act stays its note
  note-stays : (s : Slip) (ts : List ObjNo) → finders new ≡ finders history ++ ts → (n : IsNoteOf history S s)
      → is_by n.thread e.actor ≡ false → IsNoteOf new T s
  note-stays s ts longer n other = record {
    thread = n.thread;
    found = n.found;
    its = finder-of s.number history new ts n.thread longer n.its;
    away = let same_out = turn.others n.thread n.found s.place other in let out = n.away in omega arith;
  }

  -- an entry that finds nothing, of an actor that isn't out, leaves who is out
  pub notes-kept : (notes : Notes) → found_in e.effects ≡ None → is_out_actor S e.actor ≡ false → AreNotes history S notes → AreNotes new T notes
  notes-kept notes none stays h =
      let longer : finders new ≡ finders history ++ [] = finders-push history e
      ∙ ap (λ (l : List ObjNo). finders history ++ l) (ap (finders_by e.actor) none ∙ finders-none e.actor) in
      let same_finders : finders new ≡ finders history = longer ∙ append-none (finders history) in
      let count = counted in
      let none_back = stays-bit stays in
      let unfound = times-none e.effects none in
      record {
        made = h.made ∙ ap length (sym same_finders);
        many = let was = h.many in omega arith;
        each = λ s out. let n = h.each s out in note-stays s [] longer n (apart S n.thread n.found s.place e.actor shared stays n.away);
        once = λ s r out other same_find. h.once s r out other (sym (same-finder s.number same_finders) ∙ (same_find ∙ same-finder r.number same_finders));
      }
    where
      same-finder : (n : ℕ) → finders new ≡ finders history → finder n new ≡ finder n history
      same-finder zero is = refl
      same-finder (suc k) is = ap (λ (l : List ObjNo). slice_get l k) is

  -- whose find has the next number
  finders-longer : (o : ObjNo) (is : found_in e.effects ≡ Some o) → finders new ≡ finders history ++ (find o is).thread ∷ []
  finders-longer o is =
      finders-push history e
      ∙ ap (λ (l : List ObjNo). finders history ++ l)
      (ap (finders_by e.actor) is ∙ ap (λ (a : Actor). finders_by a (Some o)) (find o is).acts)

  pub finder-sent : (notes : Notes) (o : ObjNo) (p : ℕ) → found_in e.effects ≡ Some o → AreNotes history S notes
      → IsFinder new e.actor (record { place = p; number = notes.made + 1 })
  finder-sent notes o p is h = record {
    thread = (find o is).thread;
    acts = (find o is).acts;
    its = rw add-one (finder-last notes.made history new (find o is).thread (finders-longer o is) h.made);
  }

  -- an entry that finds an object sends a note out
  pub notes-sent : (notes : Notes) (o : ObjNo) (p : ℕ) → found_in e.effects ≡ Some o → p ≡ place_of (object_of S o)
      → is_out_actor S e.actor ≡ false → AreNotes history S notes → AreNotes new T (notes_sent notes p)
  notes-sent notes o p is at stays h =
      let f = find o is in
      let t = f.thread in
      let longer : finders new ≡ finders history ++ t ∷ [] = finders-longer o is in
      let times : times_found e.effects ≡ 1 = ap times_found f.tells in
      let count = counted in
      let none_back = stays-bit stays in
      let by_t : is_by t e.actor ≡ true = ap (is_by t) f.acts ∙ by-thread t in
      let own : 0 < seeks o p (thread_of T t) =
      subst (λ (n : ℕ). 0 < seeks o n (thread_of T t)) (sym at) (turn.found t o by_t (let some = found-some e.effects o is in omega arith)) in
      let mine : finder (notes.made + 1) new ≡ Some t = rw add-one (finder-last notes.made history new t longer h.made) in
      record {
        made =
            let was = h.made in
            let grown : length (finders new) ≡ length (finders history) + 1 =
            ap length longer ∙ length-append (finders history) (t ∷ []) in
            omega arith;
        many =
            let was = h.many in
            let grown : length (notes.out ++ record { place = p; number = notes.made + 1 } ∷ []) ≡ length notes.out + 1 =
            length-append notes.out _ in
            omega arith;
        each = λ s out. elim (out-before_send (words_like notes) p s out) as (λ _. IsNoteOf new T s) [
          | inl old ↦ let n = h.each s old in note-stays s (t ∷ []) longer n (apart S n.thread n.found s.place e.actor shared stays n.away)
          | inr last ↦ subst (IsNoteOf new T) last (record { thread = t; found = o; its = mine; away = own })
        ];
        once = λ s r out other same_find. elim (out-before_send (words_like notes) p s out) as (λ _. s ≡ r) [
          | inl old ↦ elim (out-before_send (words_like notes) p r other) as (λ _. s ≡ r) [
            | inl older ↦
                let a = h.each s old in
                let b = h.each r older in
                let one = finder-of s.number history new (t ∷ []) a.thread longer a.its in
                let two = finder-of r.number history new (t ∷ []) b.thread longer b.its in
                h.once s r old older (a.its ∙ (sym one ∙ (same_find ∙ (two ∙ sym b.its))))
            | inr last ↦ absurd (fresh s notes t (t ∷ []) longer h old by_t stays (same_find ∙ (ap (λ (x : Slip). finder x.number new) (sym last) ∙ mine)))
          ]
          | inr last ↦ elim (out-before_send (words_like notes) p r other) as (λ _. s ≡ r) [
            | inl older ↦
                absurd (fresh r notes t (t ∷ []) longer h older by_t stays
                (sym same_find ∙ (ap (λ (x : Slip). finder x.number new) (sym last) ∙ mine)))
            | inr later ↦ sym last ∙ later
          ]
        ];
      }
    where
      -- whoever acts had no note yet
      fresh : (s : Slip) (notes : Notes) (t : ObjNo) (ts : List ObjNo) → finders new ≡ finders history ++ ts
          → AreNotes history S notes → IsNoteOut notes s → is_by t e.actor ≡ true → is_out_actor S e.actor ≡ false
          → finder s.number new ≡ Some t → ⊥
      fresh s notes t ts longer h old by stays is =
          let n = h.each s old in
          let its = finder-of s.number history new ts n.thread longer n.its in
          let same_thread : n.thread ≡ t = cc in
          let other = apart S n.thread n.found s.place e.actor shared stays n.away in
          let acts : is_by n.thread e.actor ≡ true = ap (λ (u : ObjNo). is_by u e.actor) same_thread ∙ by in absurd (cc)

  -- a return takes its thread's note back
  pub notes-taken : (notes : Notes) (s : Slip) (t : ObjNo) → e.actor ≡ Thread t → found_in e.effects ≡ None
      → IsNoteOut notes s → finder s.number history ≡ Some t → length (without s notes.out) + 1 ≡ length notes.out
      → AreNotes history S notes → AreNotes new T (notes_back s notes)
  notes-taken notes s t acts none out its fewer h =
      let longer : finders new ≡ finders history ++ [] = finders-push history e
      ∙ ap (λ (l : List ObjNo). finders history ++ l) (ap (finders_by e.actor) none ∙ finders-none e.actor) in
      let same_finders : finders new ≡ finders history = longer ∙ append-none (finders history) in
      let count = counted in
      let on = note-out history S notes s t h out its in
      let was_out = out-of S t on.0 s.place shared on.1 in
      let one_back : bit (is_return e.step) ≡ 1 = ap bit (back ∙ (ap (is_out_actor S) acts ∙ was_out)) in
      let unfound = times-none e.effects none in
      record {
        made = h.made ∙ ap length (sym same_finders);
        many = let was = h.many in omega arith;
        each = λ r rest.
            let there = out-before_take Held (words_like notes) r s rest in
            let n = h.each r there in
            note-stays r [] longer n (other r n (is_by n.thread e.actor) refl there rest);
        once =
            λ r q one two same_find. h.once r q (out-before_take Held (words_like notes) r s one)
            (out-before_take Held (words_like notes) q s two)
            (sym (same-finder r.number same_finders) ∙ (same_find ∙ same-finder q.number same_finders));
      }
    where
      same-finder : (n : ℕ) → finders new ≡ finders history → finder n new ≡ finder n history
      same-finder zero is = refl
      same-finder (suc k) is = ap (λ (l : List ObjNo). slice_get l k) is

      -- whoever has another note is another
      other : (r : Slip) (n : IsNoteOf history S r) (b : Bool) → is_by n.thread e.actor ≡ b → IsNoteOut notes r → IsNoteOut (notes_back s notes) r → b ≡ false
      other r n true by there rest =
          let is_thread = by-actor n.thread e.actor by in
          let same_thread : n.thread ≡ t = thread-of n.thread t (sym is_thread ∙ acts) in
          let same_slips : r ≡ s = h.once r s there out (n.its ∙ (ap Some same_thread ∙ sym its)) in
          absurd (not_out-after_take Held (words_like notes) s (subst (λ (x : Slip). IsNoteOut (notes_back s notes) x) same_slips rest))
        where
          thread-of : (u v : ObjNo) → Thread u ≡ Thread v → u ≡ v
          thread-of u v is = cc
      other r n false by there rest = refl
