use Rattle.std.proofs.Common.{◌≡◌, length}
use Rattle.table_moves.specs.Notes.{no_notes}
use Rattle.kcore.specs.BootTable.{FirstStand}
use Rattle.kcore.proofs.boot_objects.counted.Given as goal

abbrev pub invariant-loop-number : goal.invariant-loop-number
invariant-loop-number g l = record {
  stand : FirstStand l.all l.objects.rows l.objects.counts l.number;
  made : l.objects.made ≡ l.number;
  reuse : l.objects.reuse ≡ l.fn.reuse;
  notes : l.objects.notes ≡ no_notes (g.W.RefWords.meaning l.fn.words).identity (length (g.W.RefWords.meaning l.fn.words).own);
}
