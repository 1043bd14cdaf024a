-- A server is made, which a thread owns: it was set up before.
use Rattle.std.proofs.Common.{◌≡◌, ℕ, ◌+◌, ◌<◌, ◌≤◌, List, [], ◌∷◌, length, get_or, arith, refl, ap, subst, None, false}
use Rattle.sym_base.specs.declared.limits.TheConstants.Limits.{OBJECTS}
use Rattle.sym_base.specs.declared.kind.Kind.{Kind}
use Rattle.sym_base.specs.declared.number.ObjNo.{ObjNo}
use Rattle.script_types.specs.declared.script.Script.{Script}
use Rattle.entry_log.specs.declared.effect.Effect.TheVariants.{Plus}
use Rattle.entry_log.specs.declared.effect.Holder.{Holder}
use Rattle.entry_log.specs.declared.effect.Holder.TheVariants.{Own}
use Rattle.state_rows.specs.declared.duty.Owed.{Owed}
use Rattle.state_rows.specs.declared.duty.Owed.TheVariants.{Close, Sweep}
use Rattle.state_rows.specs.ObjectRows.{with_object}
use Rattle.state_rows.specs.declared.object.ObjectRow.{ObjectRow}
use Rattle.state_rows.specs.declared.thread.Stage.TheVariants.{Live}
use Rattle.state_rows.specs.declared.thread.ThreadRow.{ThreadRow}
use Rattle.machine.specs.Fits.{MayMake, MayOwnNext}
use Rattle.machine.specs.HeldIn.{held_in, owed_by}
use Rattle.machine.specs.Holding.{is_holder}
use Rattle.machine.specs.Moves.{new_object, next_object}
use Rattle.machine.specs.References.{mutex_names, owed_names, same, total}
use Rattle.machine.specs.ServerMoves.{owned_gain}
use Rattle.machine.specs.ThreadCalls.{is_live}
use Rattle.machine.specs.WellFormed.{AreRows, is_spent}
use Rattle.machine.specs.declared.state.State.{State}
use Rattle.move_laws.proofs.Holders.HoldersMove.{holders-plus}
use Rattle.move_laws.proofs.Holders.Serving.{holds-owned}
use Rattle.move_laws.proofs.Lists.Totals.{inside, total_within}
use Rattle.move_laws.proofs.Lives.Kinds.{lives-made}
use Rattle.move_laws.proofs.Lives.Fresh.{next_fresh}
use Rattle.move_laws.proofs.Lives.NewObjects.{new_few, next_number_is}
use Rattle.move_laws.proofs.MoveLaws.Groups.{synchronization-left, synchronization-same}
use Rattle.move_laws.proofs.MoveLaws.Sound.{Sound, sound-of}
use Rattle.move_laws.proofs.References.Mutexes.{count-holding}
use Rattle.move_laws.proofs.References.Same.{if_le}
use Rattle.move_laws.proofs.RowLaws.OwnedServers.{servers-owned}
use Rattle.move_laws.proofs.RowLaws.Locks.{HasThose}
use Rattle.move_laws.proofs.RowLaws.Spent.{made-dead, made-those, spent-objects}
use Rattle.move_laws.proofs.RowLaws.ServersKept.{made-over}

-- a close that is owed of a holder's reference names the object
owed_by_le : (g : Holder) (x : ObjNo) (what : List Owed) → total (owed_by g x) what ≤ total (owed_names x) what
owed_by_le g x [] = omega arith
owed_by_le g x (Close h o ∷ rest) = let a = if_le (is_holder h g) (same o x) in let b = owed_by_le g x rest in omega arith
owed_by_le g x (Sweep o ∷ rest) = let b = owed_by_le g x rest in omega arith

all_owed_by_le : (g : Holder) (x : ObjNo) (owed : List (List Owed)) → total (total (owed_by g x)) owed ≤ total (total (owed_names x)) owed
all_owed_by_le g x [] = omega arith
all_owed_by_le g x (what ∷ rest) = let a = owed_by_le g x what in let b = all_owed_by_le g x rest in omega arith

abbrev owning : State → Kind → List ℕ → ObjNo → State
owning S kind name u = record S {
  references = record S.references {
    objects = with_object S.references.objects (next_object S).0 (new_object kind name S.references.made);
    made = S.references.made + 1;
  };
  serving = record S.serving { owned = owned_gain (Own u) (next_object S) S.serving.owned };
}

pub sound-owned : (script : Script) (S : State) (kind : Kind) (name : List ℕ) (u : ObjNo) → MayMake S kind name
    → MayOwnNext S u → AreRows script S → Sound script S (owning S kind name u) (Plus (Own u) (next_object S) ∷ [])
sound-owned script S kind name u may own rows =
    sound-of script S T (Plus (Own u) o ∷ []) rows (record {
      handles_long = refl;
      threads_long = refl;
      owed_long = refl;
      objects_few = few;
      tables = rows.references.tables;
      threads = rows.references.threads;
      duties = rows.references.duties;
      synchronization =
          synchronization-left script S T.references.objects S.references.threads S.references.owed
          those (synchronization-same script S rows) rows;
      services = rows.services;
      spent =
          spent-objects S.references.objects T.references.objects S.references.handles S.references.threads
          (made-dead S.references.objects o.0 row next.0 refl) those rows.references.spent;
      serving = record {
        servers =
            servers-owned (λ row. is_spent row.stage) S.references.objects
            T.references.objects S.references.threads S.synchronization.locks S.serving.owned S.serving.servers u o
            those (made-over S.references.objects o.0 row next.0 refl) (record {
              server = record { row = record { owner = u; is_closing = false }; is = own.server; owner = refl };
              live = λ row is. let same_row : own.owner.row ≡ row = (let a = own.owner.is in cc) in
                  let stage : row.stage ≡ Live = subst (λ (r : ThreadRow). r.stage ≡ Live) same_row own.owner.live in
                  (ap is_live stage, ap is_spent stage);
              inside = inside_owned;
              unowned = λ t. let none = (next_fresh script S rows).references in let within = total_within (mutex_names o) S.serving.owned t.0 in omega arith;
            }) rows.serving.servers;
        messages = rows.serving.messages;
      };
    })
    (lives-made S T row (Own u) refl refl refl refl refl
    (λ p. let a = count-holding S.serving.owned u o p inside_owned in omega arith) (λ p. refl) (λ p place. refl))
    (holders-plus S T (Own u) o unheld (λ g x. let a = holds-owned S.serving.owned S.serving.servers.sessions
    S.serving.messages.outstanding u o inside_owned g x in omega arith))
  where
    o : ObjNo
    o = next_object S

    T : State
    T = owning S kind name u

    row : ObjectRow
    row = new_object kind name S.references.made

    next : ((next_object S).0 ≤ length S.references.objects) × (get_or S.references.objects (next_object S).0 None ≡ None)
    next = next_number_is S.mode.reuse S.references.objects

    few : length T.references.objects ≤ OBJECTS
    few = new_few S.references.objects o.0 row next.0 may.room rows.references.sized.objects_few

    those : HasThose S.references.objects T.references.objects
    those = made-those S.references.objects o.0 row next.0

    inside_owned : u.0 < length S.serving.owned
    inside_owned = let a = inside S.references.threads u.0 own.owner.row own.owner.is in let b = rows.serving.servers.owned_sized in omega arith

    unheld : held_in S (Own u) o ≡ 0
    unheld =
        let none = (next_fresh script S rows).references in
        let a = total_within (mutex_names o) S.synchronization.mutexes u.0 in
        let b = all_owed_by_le (Own u) o S.references.owed in
        let c = total_within (mutex_names o) S.serving.owned u.0 in omega arith
