-- What instructions ask for at the steps behind their looks and finds.
use Rattle.std.proofs.Common.{get_or, ap, Bool, List, None, Option, Some, arith, false, refl, subst, sym, true, ℕ, ◌<◌, ◌≡◌, [], ◌∷◌}
use Rattle.std.proofs.lemmas.Bool.{and_parts}
use Rattle.std.proofs.lemmas.List.Quantifiers.{position-Some}
use Rattle.std.specs.Prelude.{bytes_eq, if◌then◌else◌, is_some, nat_lt, position, slice_index, ◌==◌, ◌||◌}
use Rattle.sym_base.specs.KindNumber.{kind_number}
use Rattle.sym_base.specs.declared.kind.Kind.{Kind}
use Rattle.sym_base.specs.declared.kind.Kind.TheVariants as kind
use Rattle.sym_base.specs.declared.kind.Slots.{Slots}
use Rattle.sym_base.specs.declared.number.ObjNo.{ObjNo}
use Rattle.script_types.specs.declared.instruction.Args.{Args}
use Rattle.script_types.specs.declared.instruction.Instr.TheVariants as instr
use Rattle.script_types.specs.declared.script.Script.{Script}
use Rattle.entry_log.specs.declared.step.Part.TheVariants as part
use Rattle.state_rows.specs.ObjectRows.{has_name, is_dead_row, is_session, named, numbered, place_of}
use Rattle.state_rows.specs.Requests.{is_pending}
use Rattle.state_rows.specs.ServerRows.{owner_of}
use Rattle.state_rows.specs.declared.object.ObjectRow.{ObjectRow}
use Rattle.state_rows.specs.declared.thread.ThreadRow.{ThreadRow}
use Rattle.machine.specs.Find.{find_object, findable}
use Rattle.machine.specs.Handles.{object_at}
use Rattle.machine.specs.Look.{is_of_kind, of_kind}
use Rattle.machine.specs.Moves.{perform, with_found}
use Rattle.machine.specs.References.{count_of}
use Rattle.machine.specs.Rows.{object_of}
use Rattle.machine.specs.WellFormed.{AreRows}
use Rattle.machine.specs.declared.moves.Move.TheVariants.{Find}
use Rattle.machine.specs.declared.state.State.{State}
use Rattle.machine_safe.proofs.Serving.Course.{AsksOf, FoundOf, IsMet, IsOfKind, IsUnset}
use Rattle.machine_safe.proofs.Serving.Proper.{is_kind}

module _ (script : Script) (S : State) (t : ObjNo) (old : ThreadRow) (rows : AreRows script S) where
  abbrev OfKind : Kind → ObjNo → Type 0
  OfKind k o = IsOfKind S.references.objects k o

  of-kind : (k : Kind) (o : ObjNo) → is_of_kind k (object_of S o) ≡ true → OfKind k o
  of-kind k o is = by (object_of S o) refl is
    where
      by : (x : Option ObjectRow) → object_of S o ≡ x → is_of_kind k x ≡ true → OfKind k o
      by None at e = absurd (cc)
      by (Some row) at e = record {
        there = ap is_some at;
        kind = λ r there. let same : row ≡ r = cc in subst (λ (x : ObjectRow). is_kind k x.kind ≡ true) same e;
      }

  -- what a look found
  looked-kind : (k : Kind) (x : Option ObjNo) (o : ObjNo) → of_kind S k x ≡ Some o → OfKind k o
  looked-kind k None o e = absurd (cc)
  looked-kind k (Some u) o e = by (is_of_kind k (object_of S u)) refl e
    where
      by : (b : Bool) → is_of_kind k (object_of S u) ≡ b → (if b then Some u else None) ≡ Some o → OfKind k o
      by true is e = let same : u ≡ o = cc in subst (OfKind k) same (of-kind k u is)
      by false is e = absurd (cc)

  -- what a find found
  has-kind : (k : Kind) (name : List ℕ) (x : Option ObjectRow) → has_name k name x ≡ true → is_of_kind k x ≡ true
  has-kind k name None e = absurd (cc)
  has-kind k name (Some row) e = (and_parts (kind_number row.kind == kind_number k) (bytes_eq row.name name) e).0

  named-kind : (k : Kind) (name : List ℕ) (at : Option ℕ) (o : ObjNo) → position (has_name k name) S.references.objects ≡ at → numbered at ≡ Some o → OfKind k o
  named-kind k name None o is e = absurd (cc)
  named-kind k name (Some n) o is e =
      let same : record { 0 = n } ≡ o = cc in
      let there = position-Some (has_name k name) S.references.objects n None is in
      subst (OfKind k) same (of-kind k (record { 0 = n }) (has-kind k name (get_or S.references.objects n None) there.1))

  findable-is : (found : Option ObjNo) (o : ObjNo) → findable S found ≡ Some o → found ≡ Some o
  findable-is None o e = absurd (cc)
  findable-is (Some u) o e = by (is_dead_row (object_of S u) || nat_lt 0 (count_of S u)) e
    where
      by : (b : Bool) → (if b then Some u else None) ≡ Some o → Some u ≡ Some o
      by true e = e
      by false e = absurd (cc)

  found-kind : (k : Kind) (name : List ℕ) (o : ObjNo) → find_object S k name ≡ Some o → OfKind k o
  found-kind k name o e = by (is_session k) e
    where
      by : (b : Bool) → (if b then None else findable S (named k name S.references.objects)) ≡ Some o → OfKind k o
      by true e = absurd (cc)
      by false e = named-kind k name (position (has_name k name) S.references.objects) o refl (findable-is (named k name S.references.objects) o e)

  -- a status that isn't pending is no request's
  unset : (s : ℕ) → is_pending S.synchronization.requests t s ≡ false → IsUnset S.synchronization.requests t s
  unset s not = record {
    done = not;
    free = λ d is. let pends = rows.synchronization.requests.pending d (record { thread = t; status = s }) is in absurd (cc);
  }

  -- the steps behind a look
  pub asks-lock : (x : ℕ) (found : Option ObjNo) → AsksOf S t old (instr.Lock x) (of_kind S kind.Mutex found)
  asks-lock x found names o e asked = record {
    unset = λ s is. absurd (cc);
    wanted = λ is. absurd (cc);
    used = λ k u is used.
        let same : kind.Mutex ≡ k = cc in
        let own : o ≡ u = cc in
        subst (λ (z : Kind). OfKind z u) same (subst (OfKind kind.Mutex) own (looked-kind kind.Mutex found o e));
    found = λ k is. absurd (cc);
    owned = λ u is used. absurd (cc);
    came = λ u is used. absurd (cc);
  }

  pub asks-logon : (x s : ℕ) (found : Option ObjNo) → is_pending S.synchronization.requests t s ≡ false
      → AsksOf S t old (instr.Logon x s) (of_kind S kind.Thread found)
  asks-logon x s found not names o e asked = record {
    unset = λ y is. let same : s ≡ y = cc in subst (IsUnset S.synchronization.requests t) same (unset s not);
    wanted = λ is. absurd (cc);
    used = λ k u is used.
        let same : kind.Thread ≡ k = cc in
        let own : o ≡ u = cc in
        subst (λ (z : Kind). OfKind z u) same (subst (OfKind kind.Thread) own (looked-kind kind.Thread found o e));
    found = λ k is. absurd (cc);
    owned = λ u is used. absurd (cc);
    came = λ u is used. absurd (cc);
  }

  pub asks-send : (x n y : ℕ) (args : Args) (found : Option ObjNo) → is_pending S.synchronization.requests t y ≡ false
      → AsksOf S t old (instr.Send x n y args) (of_kind S kind.Session found)
  asks-send x n y args found not names o e asked = record {
    unset = λ s is. let same : y ≡ s = cc in subst (IsUnset S.synchronization.requests t) same (unset y not);
    wanted = λ is. absurd (cc);
    used = λ k u is used.
        let same : kind.Session ≡ k = cc in
        let own : o ≡ u = cc in
        subst (λ (z : Kind). OfKind z u) same (subst (OfKind kind.Session) own (looked-kind kind.Session found o e));
    found = λ k is. absurd (cc);
    owned = λ u is used. absurd (cc);
    came = λ u is used. absurd (cc);
  }

  pub asks-receive : (x y : ℕ) → AsksOf S t old (instr.Receive x y) (of_kind S kind.Server (object_at S t old (slice_index old.registers x)))
  asks-receive x y names o e asked = record {
    unset = λ s is. absurd (cc);
    wanted = λ is. absurd (cc);
    used = λ k u is used. absurd (cc);
    found = λ k is. absurd (cc);
    owned = λ u is used. let own : o ≡ u = cc in subst (λ (z : ObjNo). owner_of S.serving.servers z ≡ Some t) own (names (slice_index old.registers x) o e);
    came = λ u is used. absurd (cc);
  }

  -- and the returns of an open and of a connect
  found-place : (k : Kind) (o : ObjNo) → OfKind k o → FoundOf S k (place_of (object_of S o)) o
  found-place k o is_one = record { made = by (object_of S o) refl is_one.there; kind = λ row is same. is_one.kind row is }
    where
      by : (x : Option ObjectRow) → object_of S o ≡ x → is_some x ≡ true → place_of x < S.references.made
      by None at some = absurd (cc)
      by (Some row) at some = rows.references.places.below o.0 row at

  pub asks-opened : (k : Kind) (name : List ℕ) (x : ℕ) (o : ObjNo) → find_object S k name ≡ Some o
      → IsMet (perform t (Find t o ∷ []) S) t (with_found o (place_of (object_of S o)) old) (instr.Open k name x) (Some part.Return)
  asks-opened k name x o e asked =
      let is_one = found-kind k name o e in
      record {
        unset = λ s is. absurd (cc);
        wanted = λ is. absurd (cc);
        used = λ j u is used. absurd (cc);
        found = λ j is. let same : k ≡ j = cc in
            subst (λ (z : Kind). FoundOf S z (place_of (object_of S o)) o) same (found-place k o is_one);
        owned = λ u is used. absurd (cc);
        came = λ u is used. absurd (cc);
      }

  pub asks-return : (name : List ℕ) (slots : Slots) (x : ℕ) (o : ObjNo) → find_object S kind.Server name ≡ Some o
      → IsMet (perform t (Find t o ∷ []) S) t (with_found o (place_of (object_of S o)) old) (instr.Connect name slots x) (Some part.Return)
  asks-return name slots x o e asked =
      let is_server = found-kind kind.Server name o e in
      record {
        unset = λ s is. absurd (cc);
        wanted = λ is. absurd (cc);
        used = λ k u is used. absurd (cc);
        found = λ k is. let same : kind.Server ≡ k = cc in
            subst (λ (z : Kind). FoundOf S z (place_of (object_of S o)) o) same (found-place kind.Server o is_server);
        owned = λ u is used. absurd (cc);
        came = λ u is used. absurd (cc);
      }
