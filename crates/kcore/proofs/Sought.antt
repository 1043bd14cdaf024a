-- Whoever is out accounts for the notes that are out, beside the thread that acts.
use Rattle.std.proofs.Common.{◌≡◌, ◌<◌, ◌≤◌, ℕ, List, [], ◌∷◌, ◌++◌, length, get_or, arith, inl, inr, refl, ap, sym, subst, ◌∙◌, Bool, true, false, Option, Some, None}
use Rattle.std.proofs.lemmas.Bool.{cases_Bool, eq-eqb, eqb-true}
use Rattle.std.specs.List.{list_any}
use Rattle.std.specs.Prelude.{◌==◌, IsTrue, if◌then◌else◌}
use Rattle.sym_base.specs.declared.number.ObjNo.{ObjNo}
use Rattle.script_types.specs.declared.script.Script.{Script}
use Rattle.script_types.specs.Source.{IsWellFormed}
use Rattle.entry_log.specs.declared.entry.Actor.{Actor}
use Rattle.entry_log.specs.declared.entry.Actor.TheVariants.{Thread, Irq, Idfc, Tick, Idle}
use Rattle.entry_log.specs.declared.entry.Entry.{Entry}
use Rattle.state_rows.specs.declared.thread.Role.{Role}
use Rattle.state_rows.specs.declared.thread.ThreadRow.{ThreadRow}
use Rattle.ref_words.specs.declared.slip.Slip.{Slip}
use Rattle.ref_words.specs.declared.answer.Found.TheVariants.{Held}
use Rattle.ref_words.specs.Words.{same_slip, without}
use Rattle.ref_words.proofs.Notes.{not_out-after_take, out-before_take, same_slip-itself}
use Rattle.machine.specs.declared.state.State.{State}
use Rattle.machine.specs.Boot.{boot, boot_in, boot_of}
use Rattle.machine.specs.History.{after_in, IsShared}
use Rattle.machine.specs.Interrupts.{supervisor}
use Rattle.machine.specs.Out.{is_returning, seeks}
use Rattle.machine.specs.References.{total}
use Rattle.machine.specs.Rows.{object_of, thread_of}
use Rattle.state_rows.specs.declared.object.ObjectRow.{ObjectRow}
use Rattle.state_rows.specs.ObjectRows.{place_of}
use Rattle.machine.specs.Serving.{thread_bit}
use Rattle.machine.specs.Task.{instructions_of}
use Rattle.machine.specs.WellFormed.{AreRows}
use Rattle.move_laws.proofs.Lists.Totals.{total_any}
use Rattle.move_laws.proofs.References.Same.{same_object}
use Rattle.machine_laws.proofs.Sharing.Seekers.{unseen}
use Rattle.machine_laws.proofs.Reached.AfterHistory.{well_formed-after}
use Rattle.machine_laws.proofs.Reached.Modes.{shared-after}
use Rattle.machine_safe.specs.CountAfter.{is_by}
use Rattle.machine_safe.specs.FindsAndReturns.{away, is_out_actor, returning_bit}
use Rattle.machine_safe.proofs.LegalServing.{book-after}
use Rattle.kernel_tables.specs.Choosing.{AreNotesMade, AreSoughtBeside}
use Rattle.table_moves.specs.ObjectsView.{IsThere}
use Rattle.table_moves.specs.Notes.{IsNoteOut, Notes, notes_back}
use Rattle.kcore.specs.Finds.{finder}
use Rattle.kcore.specs.Acting.{acting}
use Rattle.kcore.specs.Outgoing.{AreNotes, IsNoteOf}
use Rattle.kcore.proofs.NotesOut.{apart, words_like}

-- a note of a place that is out
pub record NoteOf (out : List Slip) (p : ℕ) : Type 0 where
  pub slip : Slip
  pub out_is : IsTrue (list_any (λ other. same_slip other slip) out)
  pub place : slip.place ≡ p

pub note-of : (out : List Slip) (p : ℕ) → IsTrue (list_any (λ s. s.place == p) out) → NoteOf out p
note-of [] p has = absurd (cc)
note-of (x ∷ xs) p has = elim (cases_Bool (x.place == p)) as (λ _. NoteOf (x ∷ xs) p) [
  | inl here ↦ record { slip = x; out_is = rw (same_slip-itself x x refl) refl; place = eqb-true x.place p here }
  | inr there ↦ (let rest = note-of xs p (rw there at has) in record { slip = rest.slip; out_is = more x rest.slip xs rest.out_is; place = rest.place })
]
  where
    more : (x s : Slip) (xs : List Slip) → IsTrue (list_any (λ other. same_slip other s) xs) → IsTrue (list_any (λ other. same_slip other s) (x ∷ xs))
    more x s xs rest = elim (cases_Bool (same_slip x s)) as (λ _. IsTrue (list_any (λ other. same_slip other s) (x ∷ xs))) [
      | inl same ↦ rw same refl
      | inr other ↦ rw other rest
    ]

-- the supervisor is never out: it has no instructions
first-role : (script : Script) (first : ThreadRow)
    → get_or (boot script).references.threads supervisor.0 None ≡ Some first
    → length (instructions_of script first.role) ≡ 0
unfolding boot_of
first-role script first is = let role : first.role ≡ Role.Supervisor = cc in ap (λ (r : Role). length (instructions_of script r)) role

append-none : {A : Type 0} (xs : List A) → xs ++ [] ≡ xs
append-none [] = refl
append-none (x ∷ xs) = ap (λ l. x ∷ l) (append-none xs)

module _ (script : Script) (history : List Entry) (valid : IsWellFormed script) (legal : IsShared script history) where
  abbrev S : State
  S = after_in true script history

  rows : AreRows script S
  rows = (well_formed-after true script history valid).rows

  pub supervisor-in : (o : ObjNo) (place : ℕ) → seeks o place (thread_of S supervisor) ≡ 0
  supervisor-in o place = unseen (thread_of S supervisor) o place (λ row is. by row is (is_returning row.part) refl)
    where
      by : (row : ThreadRow) → thread_of S supervisor ≡ Some row → (b : Bool) → is_returning row.part ≡ b → b ≡ false
      by row is true returns =
          let inside = (rows.references.threads.rows supervisor.0 row is).returns returns in
          let p = (book-after true script history [] valid (subst (IsShared script) (sym (append-none history)) legal)).0.served.places supervisor.0 row is in
          let none = first-role script p.first p.is in
          let same_role : length (instructions_of script p.first.role) ≡ length (instructions_of script row.role) =
          ap (λ (r : Role). length (instructions_of script r)) p.role in
          absurd (omega arith)
      by row is false returns = refl

  -- whoever is out isn't the thread in whose place an actor acts that isn't out
  not-supervisor : (u o : ObjNo) (place : ℕ) → 0 < seeks o place (thread_of S u) → u.0 ≡ supervisor.0 → ⊥
  not-supervisor u o place out is =
      let none = supervisor-in o place in
      let same_row : seeks o place (thread_of S u) ≡ seeks o place (thread_of S supervisor) =
      ap (λ (n : ℕ). seeks o place (get_or S.references.threads n None)) is in omega arith

  not-acting : (actor : Actor) (u o : ObjNo) (place : ℕ) → is_by u actor ≡ false → 0 < seeks o place (thread_of S u) → u.0 ≡ (acting actor).0 → ⊥
  not-acting (Thread t) u o place other out is = let by : is_by u (Thread t) ≡ true = eq-eqb t.0 u.0 (sym is) in cc
  not-acting (Irq k) u o place other out is = not-supervisor u o place out is
  not-acting Idfc u o place other out is = not-supervisor u o place out is
  not-acting Tick u o place other out is = not-supervisor u o place out is
  not-acting Idle u o place other out is = not-supervisor u o place out is

  -- notes that belong to threads are of places of objects that were made, and whoever is out on the place of an object is out on its number
  abbrev pub Belongs : List Slip → Type 0
  Belongs out = (s : Slip) → IsTrue (list_any (λ other. same_slip other s) out) → IsNoteOf history S s

  total-of : (u o : ObjNo) (p : ℕ) → 0 < seeks o p (thread_of S u) → 0 < total (seeks o p) S.references.threads
  total-of u o p out = let most = total_any (seeks o p) S.references.threads u.0 None refl in omega arith

  pub made-places : (out : List Slip) → Belongs out → (p : ℕ) → IsTrue (list_any (λ s. s.place == p) out) → p < S.references.made
  made-places out each p has =
      let found = note-of out p has in
      let n = each found.slip found.out_is in
      subst (λ (k : ℕ). k < S.references.made) found.place
      (rows.references.places.sought n.found found.slip.place (total-of n.thread n.found found.slip.place n.away))

  -- the thread of a note of an object's place is out on the object
  out-there : (x : Option ObjectRow) (u o y : ObjNo) (p : ℕ) → object_of S o ≡ x → IsThere x → p ≡ place_of x
      → 0 < seeks y p (thread_of S u) → 0 < seeks o (place_of (object_of S o)) (thread_of S u)
  out-there None u o y p at there place out = absurd (cc)
  out-there (Some row) u o y p at there place out =
      let there_out : 0 < seeks y row.place (thread_of S u) = subst (λ (k : ℕ). 0 < seeks y k (thread_of S u)) place out in
      let same : y ≡ o = same_object y o (sym (rows.references.places.found y o.0 row at (total-of u y row.place there_out))) in
      subst (λ (k : ℕ). 0 < seeks o k (thread_of S u)) (ap place_of (sym at)) (subst (λ (z : ObjNo). 0 < seeks z row.place (thread_of S u)) same there_out)

  -- the notes that are out are accounted for, beside an actor that isn't out
  pub sought : (notes : Notes) (actor : Actor) → AreNotes history S notes → is_out_actor S actor ≡ false → AreSoughtBeside (acting actor) notes S
  sought notes actor h stays o there has =
      let found = note-of notes.out (place_of (object_of S o)) has in
      let n = h.each found.slip found.out_is in
      let out = out-there (object_of S o) n.thread o n.found found.slip.place refl there found.place n.away in
      let place = place_of (object_of S o) in
      let shared = shared-after script (boot_in true script) history in
      let other = apart S n.thread o place actor shared stays out in
      (n.thread, record { shared = shared; out = out }, not-acting actor n.thread o place other out)

  -- and beside a thread that comes back with its note, which is out no longer
  pub sought-back : (notes : Notes) (s : Slip) (t : ObjNo) → AreNotes history S notes → IsNoteOut notes s
      → finder s.number history ≡ Some t → AreSoughtBeside t (notes_back s notes) S
  sought-back notes s t h out its o there has =
      let found = note-of (without s notes.out) (place_of (object_of S o)) has in
      let was : IsNoteOut notes found.slip = out-before_take Held (words_like notes) found.slip s found.out_is in
      let n = h.each found.slip was in
      let on = out-there (object_of S o) n.thread o n.found found.slip.place refl there found.place n.away in (
        n.thread,
        record { shared = shared-after script (boot_in true script) history; out = on },
        λ same_number.
            let same_thread : n.thread ≡ t = same_object n.thread t same_number in
            let same_note : found.slip ≡ s = h.once found.slip s was out (n.its ∙ (ap Some same_thread ∙ sym its)) in
            not_out-after_take Held (words_like notes) s
            (subst (λ (x : Slip). IsTrue (list_any (λ other. same_slip other x) (without s notes.out))) same_note
            found.out_is),
      )

  -- both are of places of objects that were made
  pub notes-made : (notes : Notes) → AreNotes history S notes → AreNotesMade notes S
  notes-made notes h p has = made-places notes.out h.each p has

  pub back-made : (notes : Notes) (s : Slip) → AreNotes history S notes → AreNotesMade (notes_back s notes) S
  back-made notes s h p has =
      made-places (without s notes.out) (λ r out. h.each r (out-before_take Held (words_like notes) r s out)) p has

  -- fewer than 65 are out
  returning-few : (threads : List (Option ThreadRow)) → total returning_bit threads ≤ total thread_bit threads
  returning-few [] = omega arith
  returning-few (None ∷ threads) = let rest = returning-few threads in omega arith
  returning-few (Some row ∷ threads) = let rest = returning-few threads in let one = bit_le (is_returning row.part) in omega arith
    where
      bit_le : (b : Bool) → (if b then 1 else 0) ≤ 1
      bit_le true = omega arith
      bit_le false = omega arith

  pub few-away : away S ≤ 64
  few-away = let few = returning-few S.references.threads in let all = rows.serving.messages.threads_few in omega arith
