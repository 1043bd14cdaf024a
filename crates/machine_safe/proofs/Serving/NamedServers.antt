-- A thread owns each server that a handle of its names.
use Rattle.std.proofs.Common.{Bool, None, Option, Some, ap, false, refl, subst, sym, true, ◌∙◌, ◌≡◌}
use Rattle.std.specs.Prelude.{if◌then◌else◌, is_some, option_map}
use Rattle.sym_base.specs.declared.kind.Kind.TheVariants as kind
use Rattle.sym_base.specs.declared.number.ObjNo.{ObjNo}
use Rattle.state_rows.specs.HandleNumbers.{index_of, is_local}
use Rattle.state_rows.specs.HandleSlots.{look, slot_at}
use Rattle.state_rows.specs.ServerRows.{owner_of, server_at}
use Rattle.state_rows.specs.declared.object.ObjectRow.{ObjectRow}
use Rattle.state_rows.specs.declared.servers.ServerRow.{ServerRow}
use Rattle.state_rows.specs.declared.thread.ThreadRow.{ThreadRow}
use Rattle.machine.specs.Handles.{object_at}
use Rattle.machine.specs.Look.{is_of_kind, of_kind}
use Rattle.machine.specs.Rows.{object_of, table_of, thread_of}
use Rattle.machine.specs.declared.state.State.{State}
use Rattle.machine_safe.proofs.Serving.Course.{NamesOwn}
use Rattle.machine_safe.proofs.Serving.ServerOwners.{Owned}
use Rattle.move_laws.proofs.RowLaws.Tables.{object_of_is}

pub names-own : (S : State) (t : ObjNo) (old : ThreadRow) → Owned S → thread_of S t ≡ Some old → NamesOwn S t old
names-own S t old p here handle o e = found (object_at S t old handle) refl e
  where
    placed : (v : ObjNo) (row : ServerRow) → server_at S.serving.servers v ≡ Some row → (local : Bool)
        → look local (table_of S (if local then t else old.process)) handle ≡ Some v → row.owner ≡ t
    placed v row at true is = p.0.places t (index_of handle) v row (object_of_is true (slot_at (table_of S t) (index_of handle)) handle v is) at
    placed v row at false is =
        let owner = p.0.places old.process (index_of handle) v row (object_of_is false (slot_at (table_of S old.process) (index_of handle)) handle v is) at in
        absurd (p.0.apart v row t old at here (ap (λ (z : ObjNo). z.0) (sym owner)))

    served : (v : ObjNo) (x : Option ServerRow) → server_at S.serving.servers v ≡ x → is_some x ≡ true
        → object_at S t old handle ≡ Some v → owner_of S.serving.servers v ≡ Some t
    served v None at some is = absurd (cc)
    served v (Some row) at some is = ap (option_map (λ (z : ServerRow). z.owner)) at ∙ ap Some (placed v row at (is_local handle) is)

    kinded : (v : ObjNo) (x : Option ObjectRow) → object_of S v ≡ x → is_of_kind kind.Server x ≡ true
        → object_at S t old handle ≡ Some v → owner_of S.serving.servers v ≡ Some t
    kinded v None at of is = absurd (cc)
    kinded v (Some row) at of is = served v (server_at S.serving.servers v) refl (p.1.servers v row at ∙ of) is

    chosen : (v : ObjNo) (b : Bool) → is_of_kind kind.Server (object_of S v) ≡ b → (if b then Some v else None) ≡ Some o
        → object_at S t old handle ≡ Some v → owner_of S.serving.servers o ≡ Some t
    chosen v false of e is = absurd (cc)
    chosen v true of e is = let own : v ≡ o = cc in subst (λ (z : ObjNo). owner_of S.serving.servers z ≡ Some t) own (kinded v (object_of S v) refl of is)

    found : (x : Option ObjNo) → object_at S t old handle ≡ x → of_kind S kind.Server x ≡ Some o → owner_of S.serving.servers o ≡ Some t
    found None is e = absurd (cc)
    found (Some v) is e = chosen v (is_of_kind kind.Server (object_of S v)) refl e is
