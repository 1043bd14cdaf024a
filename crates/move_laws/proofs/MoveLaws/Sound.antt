-- All that moves do, in one record, and its composition.
use Rattle.std.proofs.Common.{◌≡◌, ℕ, ◌≤◌, List, [], ◌++◌, length, arith, refl, sym, subst, ◌∙◌}
use Rattle.sym_base.specs.declared.limits.TheConstants.Limits.{OBJECTS}
use Rattle.sym_base.specs.declared.number.ObjNo.{ObjNo}
use Rattle.script_types.specs.declared.script.Script.{Script}
use Rattle.entry_log.specs.declared.effect.Effect.{Effect}
use Rattle.machine.specs.declared.state.State.{State}
use Rattle.machine.specs.Told.{removals}
use Rattle.machine.specs.WellFormed.{AreTables, AreThreads, AreDuties, AreSpent, AreSynchronizationRows, AreServingRows, AreServiceRows, AreRows, IsUntold}
use Rattle.move_laws.proofs.Lives.LivesMove.{LivesMove, lives-then, lives-kept}
use Rattle.move_laws.proofs.Lives.Kinds.{lives-none}
use Rattle.move_laws.proofs.Holders.HoldersMove.{HoldersMove, holders-then, holders-none}

-- What moves do. A law of another kind joins as a further part.
pub record Sound (script : Script) (S T : State) (effects : List Effect) : Type 0 where
  pub lives : LivesMove S T effects
  pub holders : HoldersMove S T effects
  pub rows : AreRows script T
  pub long : length T.references.threads ≡ length S.references.threads

pub sound-then : (script : Script) (S T U : State) (es fs : List Effect) → Sound script S T es → Sound script T U fs
    → ((o : ObjNo) → removals es o ≡ 0) → ((o : ObjNo) → removals fs o ≡ 0) → Sound script S U (es ++ fs)
sound-then script S T U es fs h k before none = record {
  lives = lives-then S T U es fs h.lives k.lives before none;
  holders = holders-then S T U es fs h.holders k.holders;
  rows = k.rows;
  long = k.long ∙ h.long;
}

pub sound-none : (script : Script) (S : State) → AreRows script S → Sound script S S []
sound-none script S rows = record {
  lives = lives-none S S (refl, refl, refl) (λ o. refl) (λ o. refl) (λ o place. refl);
  holders = holders-none S S (λ g x. refl);
  rows = rows;
  long = refl;
}

-- The parts of the new rows that a move may change: those of references one by one, without its sizes, and each other group as one.
pub record AreParts (script : Script) (S T : State) : Type 0 where
  pub handles_long : length T.references.handles ≡ length S.references.handles
  pub threads_long : length T.references.threads ≡ length S.references.threads
  pub owed_long : length T.references.owed ≡ length S.references.owed
  pub objects_few : length T.references.objects ≤ OBJECTS
  pub tables : AreTables T.references.handles
  pub threads : AreThreads script T.references.threads
  pub duties : AreDuties T.references.threads T.serving.servers T.serving.messages.accepted T.references.owed
  pub spent : AreSpent T.references.objects T.references.handles T.references.threads
  pub synchronization : AreSynchronizationRows script (length S.references.threads)
      T.references.objects T.references.threads T.references.owed T.synchronization
  pub serving : AreServingRows T.references.objects T.references.threads T.synchronization.locks
      (IsUntold T.synchronization.requests T.synchronization.logons) T.serving
  pub services : AreServiceRows T.references.threads T.services

pub sound-of : (script : Script) (S T : State) (effects : List Effect) → AreRows script S → AreParts script S T
    → LivesMove S T effects → HoldersMove S T effects → Sound script S T effects
sound-of script S T effects rows parts lives holders =
    let s = rows.references.sized in
    let few = s.threads_few in
    let made = lives.made in
    record {
      lives = lives;
      holders = holders;
      rows = record {
        references = record {
          sized = record {
            tables = let a = parts.handles_long in let b = parts.threads_long in let c = s.tables in omega arith;
            duties = let a = parts.owed_long in let b = parts.threads_long in let c = s.duties in omega arith;
            first = let b = parts.threads_long in let c = s.first in omega arith;
            supervised = let b = parts.threads_long in let c = s.supervised in omega arith;
            threads_few = let b = parts.threads_long in omega arith;
            objects_few = parts.objects_few;
          };
          places = lives.places rows.references.places;
          tables = parts.tables;
          threads = parts.threads;
          duties = parts.duties;
          spent = parts.spent;
        };
        synchronization =
            subst (λ (n : ℕ). AreSynchronizationRows script n
            T.references.objects T.references.threads T.references.owed T.synchronization)
            (sym parts.threads_long) parts.synchronization;
        serving = parts.serving;
        services = parts.services;
        lives = lives-kept S T effects lives rows.lives;
      };
      long = parts.threads_long;
    }
