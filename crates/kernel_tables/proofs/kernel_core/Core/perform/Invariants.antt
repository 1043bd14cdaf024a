use Rattle.std.proofs.Common.{◌≡◌, true, drop}
use Rattle.sym_base.specs.declared.limits.TheConstants.Limits.{BOOT_OBJECTS}
use Rattle.ready_list.specs.Ready.{IsReady}
use Rattle.kernel_tables.specs.Choosing.{AreNotesMade, AreSoughtBeside}
use Rattle.kernel_tables.specs.Noted.{AreKept}
use Rattle.kernel_tables.specs.OwnMoves.{AreOwn}
use Rattle.kernel_tables.specs.StateOf.{state_of}
use Rattle.kernel_tables.proofs.Performing.{OnTheWay}
use Rattle.kernel_tables.proofs.kernel_core.Core.perform.Given as goal

abbrev pub invariant-loop-change : goal.invariant-loop-change
invariant-loop-change g l = record {
  way : OnTheWay l.script l.thread l.moves (state_of l.initial.tables) l.initial.ready l.initial.effects
      (drop l.change-index l.moves) (state_of l.tables) l.ready l.effects;
  kept : AreKept l.tables;
  size : l.ready.threads ≡ BOOT_OBJECTS;
  made : AreNotesMade l.tables.objects.notes (state_of l.tables);
  sought : AreSoughtBeside l.thread l.tables.objects.notes (state_of l.tables);
  alone : l.own ≡ true → IsReady l.ready l.thread × AreOwn l.thread (drop l.change-index l.moves);
  notes : l.tables.objects.notes ≡ l.initial.tables.objects.notes;
}
