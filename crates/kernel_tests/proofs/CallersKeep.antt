-- Callers keep the notes of the threads that are out, whatever else is called meanwhile.
use Rattle.std.proofs.Common.{◌≡◌, ◌≢◌, ◌∙◌, ◌+◌, ℕ, zero, suc, List, [], ◌∷◌, ◌++◌, get_or, set, inl, inr, length, refl, sym, ap, subst, Option, Some, None}
use Rattle.std.specs.Prelude.{IfSome, option_map, true}
use Rattle.std.proofs.lemmas.Bool.{cases_eq, cases_lt}
use Rattle.std.proofs.lemmas.List.{get_or-set_other, get_or-set_same, get_or_past, set_past}
use Rattle.sym_base.specs.declared.number.ObjNo.{ObjNo}
use Rattle.script_types.specs.declared.script.Script.{Script}
use Rattle.entry_log.specs.declared.entry.Actor.{Actor}
use Rattle.entry_log.specs.declared.entry.Actor.TheVariants.{Thread}
use Rattle.entry_log.specs.declared.entry.Entry.{Entry}
use Rattle.ref_words.specs.declared.answer.Found.TheVariants.{Held}
use Rattle.ref_words.specs.declared.slip.Slip.{Slip}
use Rattle.ref_words.specs.Words.{IsOut, Words}
use Rattle.ref_words.proofs.Notes.{out-after_send, out-after_take}
use Rattle.table_moves.specs.Notes.{IsNoteOut, Notes, notes_back, notes_of}
use Rattle.kcore.specs.Finds.{finder, finders}
use Rattle.kcore.specs.KernelMode.{Fresh, KernelMode, Split, mode_of}
use Rattle.kcore.specs.KernelView.{KernelView}
use Rattle.kcore.specs.OneMore.{IsFinder, OneMore, ReturnsBy, SendsOut}
use Rattle.kcore.specs.Sending.{notes_after}
use Rattle.kcore.proofs.ModesSuit.{fresh-suits, split-suits}
use Rattle.kcore.proofs.NotesOut.{finder-of, finders-push, words_like}
use Rattle.kernel_tests.specs.Callers.{AreCallers, IsNoteOf, notes_kept}

-- one blank more is blank
pub blank-push : (notes : List (Option Slip)) (t : ℕ) → get_or (notes ++ None ∷ []) t None ≡ get_or notes t None
blank-push [] zero = refl
blank-push [] (suc t) = refl
blank-push (x ∷ xs) zero = refl
blank-push (x ∷ xs) (suc t) = blank-push xs t

-- who acts in the last entry
pub last-actor : (script : Script) (old new : List Entry) (actor : Actor) (more : OneMore script old new actor) → more.entry.actor ≡ actor
last-actor script old new actor more = ap (λ (e : Entry). e.actor) more.told

-- a note that is out stays out as another one goes
noted-after : (sent : Option Slip) (notes : Notes) (s : Slip) → IsNoteOut notes s → IsNoteOut (notes_after sent notes) s
noted-after None notes s noted = noted
noted-after (Some r) notes s noted = out-after_send (words_like notes) r.place s noted

module _ (script : Script) (old new : KernelView Words) (actor : Actor) where
  finder-on :
      (more : OneMore script old.history new.history actor) (n t : ℕ) → finder n old.history ≡ Some (record { 0 = t }) →
      finder n new.history ≡ Some (record { 0 = t })
  finder-on more n t is =
      finder-of n old.history new.history _ (record { 0 = t }) (ap finders more.longer ∙ finders-push old.history more.entry) is

  -- whose note it is, it is still
  note-on :
      (more : OneMore script old.history new.history actor) (sent : Option Slip) → new.notes ≡ notes_after sent old.notes →
      (t : ℕ) (s : Slip) → IsNoteOf old t s → IsNoteOf new t s
  note-on more sent notes t s n = record {
    noted = subst (λ (x : Notes). IsNoteOut x s) (sym notes) (noted-after sent old.notes s n.noted);
    its = finder-on more s.number t n.its;
  }

  -- the notes once a call of a thread answered one, or none
  module _ (room : ℕ) (notes : List (Option Slip)) (t : ObjNo) (are : AreCallers room old notes) (acts : (u : ObjNo) → actor ≡ Thread u → t ≡ u) where
    -- what stands at a number then
    kept :
        (r : Slip) → SendsOut script old.history new.history actor (Some r) → new.notes ≡ notes_after (Some r) old.notes → IsNoteOut new.notes r →
        (u : ℕ) (s : Slip) → get_or (set notes t.0 (Some r)) u None ≡ Some s → IsNoteOf new u s
    kept r sends after noted u s is = elim (cases_eq u t.0) as (λ _. IsNoteOf new u s) [
      | inl here ↦ elim (cases_lt t.0 (length notes)) as (λ _. IsNoteOf new u s) [
        | inl inside ↦
            let stands : get_or (set notes t.0 (Some r)) u None ≡ Some r =
            ap (λ (n : ℕ). get_or (set notes t.0 (Some r)) n None) here ∙ get_or-set_same notes t.0 (Some r) None inside in
            let same : r ≡ s = cc in
            let number : f.thread ≡ record { 0 = u } = sym (acts f.thread f.acts) ∙ ap (λ (n : ℕ). record { 0 = n }) (sym here) in
            subst (IsNoteOf new u) same (record { noted = noted; its = f.its ∙ ap Some number })
        | inr past ↦ before (ap (λ (l : List (Option Slip)). get_or l u None) (sym (set_past notes t.0 (Some r) past)) ∙ is)
      ]
      | inr other ↦ before (sym (get_or-set_other notes t.0 u (Some r) None other) ∙ is)
    ]
      where
        f : IsFinder new.history actor r
        f = sends.finder

        before : get_or notes u None ≡ Some s → IsNoteOf new u s
        before was = note-on sends.more (Some r) after u s (are.each u s was)

    pub callers-after :
        (sent : Option Slip) → SendsOut script old.history new.history actor sent → new.notes ≡ notes_after sent old.notes →
        IfSome sent (IsNoteOut new.notes) → new.mode ≡ Split → new.room ≡ old.room → AreCallers room new (notes_kept notes t.0 sent)
    callers-after None sends after noted mode same_room = record {
      suits = split-suits new.mode mode;
      room_is = same_room ∙ are.room_is;
      each = λ u s is. note-on sends.more None after u s (are.each u s is);
    }
    callers-after (Some r) sends after noted mode same_room = record {
      suits = split-suits new.mode mode;
      room_is = same_room ∙ are.room_is;
      each = kept r sends after noted;
    }

-- nothing stands any more at a number that was cleared
gone : (notes : List (Option Slip)) (t u : ℕ) (r : Slip) → u ≡ t → get_or (set notes t None) u None ≡ Some r → ⊥
gone notes t u r here is = elim (cases_lt t (length notes)) as (λ _. ⊥) [
  | inl inside ↦
      (let blank : get_or (set notes t None) u None ≡ None = ap (λ (n : ℕ). get_or (set notes t None) n None) here ∙ get_or-set_same notes t None None inside in
      cc)
  | inr past ↦
      (let same : get_or (set notes t None) u None ≡ get_or notes u None = ap (λ (l : List (Option Slip)). get_or l u None) (set_past notes t None past) in
      let blank : get_or notes u None ≡ None = ap (λ (n : ℕ). get_or notes n None) here ∙ get_or_past notes t None past in
      cc)
]

-- a note that stands then stood before
stood : (notes : List (Option Slip)) (t u : ℕ) (s : Slip) → get_or (set notes t None) u None ≡ Some s → get_or notes u None ≡ Some s
stood notes t u s is = elim (cases_eq u t) as (λ _. get_or notes u None ≡ Some s) [
  | inl here ↦ absurd (gone notes t u s here is)
  | inr other ↦ sym (get_or-set_other notes t u None None other) ∙ is
]

-- a thread is the one that acts
pub own-thread : (t u : ObjNo) → Thread t ≡ Thread u → t ≡ u
own-thread t u is = cc

-- a note may be lost
pub callers-less : (room : ℕ) (k : KernelView Words) (notes : List (Option Slip)) (t : ℕ) → AreCallers room k notes → AreCallers room k (set notes t None)
callers-less room k notes t are = record { suits = are.suits; room_is = are.room_is; each = λ u s is. are.each u s (stood notes t u s is) }

-- callers of a kernel at boot have no notes
pub callers-begin :
    (room : ℕ) (k : KernelView Words) (notes : List (Option Slip)) → k.mode ≡ Fresh → k.room ≡ room → ((t : ℕ) → get_or notes t None ≡ None) →
    AreCallers room k notes
callers-begin room k notes mode same_room none = record {
  suits = fresh-suits true k.mode mode;
  room_is = same_room;
  each = λ t s is. absurd (let blank = none t in cc);
}

-- a kernel with a find is split
pub noted-split : (n : ℕ) (t : ObjNo) (history : List Entry) (mode : KernelMode) → mode ≡ mode_of true history → finder n history ≡ Some t → mode ≡ Split
noted-split zero t history mode is its = absurd (cc)
noted-split (suc k) t [] mode is its = absurd (cc)
noted-split (suc k) t (e ∷ es) mode is its = is

-- the note itself is what is told of it
pub same-sent : (sent : Option Slip) → option_map (λ (s : Slip). s) sent ≡ sent
same-sent None = refl
same-sent (Some s) = refl

-- what fits words is out among their notes
fitting :
    (w : Words) (notes : Notes) (P Q : Slip → Type 0) (sent : Option Slip) → notes ≡ notes_of w → IfSome sent (λ s. P s × Q s × IsOut w s) →
    IfSome sent (IsNoteOut notes)
fitting w notes P Q None is out = out
fitting w notes P Q (Some s) is out = subst (λ (x : Notes). IsNoteOut x s) (sym is) out.2

-- callers once a call answered one of them
pub callers-on :
    (script : Script) (old new : KernelView Words) (actor : Actor) (room : ℕ) (notes now : List (Option Slip)) (t : ObjNo) (sent : Option Slip)
    (P Q : Slip → Type 0) → AreCallers room old notes → SendsOut script old.history new.history actor (option_map (λ (s : Slip). s) sent) →
    new.notes ≡ notes_after (option_map (λ (s : Slip). s) sent) old.notes → IfSome sent (λ s. P s × Q s × IsOut new.words s) →
    new.notes ≡ notes_of new.words → new.mode ≡ Split → new.room ≡ old.room → ((u : ObjNo) → actor ≡ Thread u → t ≡ u) →
    now ≡ notes_kept notes t.0 sent → AreCallers room new now
callers-on script old new actor room notes now t sent P Q are sends after out its mode same_room acts is =
    let told = subst (SendsOut script old.history new.history actor) (same-sent sent) sends in
    let noted = after ∙ ap (λ (s : Option Slip). notes_after s old.notes) (same-sent sent) in
    let kept = callers-after script old new actor room notes t are acts sent told noted (fitting new.words new.notes P Q sent its out) mode same_room in
    subst (AreCallers room new) (sym is) kept

-- the thread of a number
abbrev numbered : ℕ → Option ObjNo
numbered t = Some (record { 0 = t })

-- the number of a thread, and 0 of none
number_in : Option ObjNo → ℕ
number_in None = zero
number_in (Some t) = t.0

-- threads are told apart by their numbers
numbers : (u v : ℕ) → numbered u ≡ numbered v → u ≡ v
unfolding number_in
numbers u v is = ap number_in is

-- a note that comes back goes from its number
pub callers-back :
    (script : Script) (old new : KernelView Words) (room : ℕ) (notes : List (Option Slip)) (t : ObjNo) (s : Slip) → AreCallers room old notes →
    get_or notes t.0 None ≡ Some s → ReturnsBy script old.history new.history t → new.notes ≡ notes_back s old.notes → new.mode ≡ Split →
    new.room ≡ old.room → AreCallers room new (set notes t.0 None)
callers-back script old new room notes t s are has returns back mode same_room = record {
  suits = split-suits new.mode mode;
  room_is = same_room ∙ are.room_is;
  each = λ u r is.
      let other : u ≢ t.0 = λ here. gone notes t.0 u r here is in
      let n = are.each u r (sym (get_or-set_other notes t.0 u None None other) ∙ is) in
      let own = are.each t.0 s has in
      let apart : r ≢ s = λ same.
      (let its : numbered u ≡ numbered t.0 = sym n.its ∙ (ap (λ (x : Slip). finder x.number old.history) same ∙ own.its) in
      other (numbers u t.0 its)) in
      record {
        noted = subst (λ (x : Notes). IsNoteOut x r) (sym back) (out-after_take Held (words_like old.notes) r s apart n.noted);
        its = finder-on script old new (Thread t) returns.more r.number u n.its;
      };
}
