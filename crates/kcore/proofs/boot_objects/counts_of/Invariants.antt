use Rattle.std.proofs.Common.{◌≡◌, ◌*◌, ◌≤◌, ℕ, length, take}
use Rattle.std.specs.Prelude.{slice_index}
use Rattle.sym_base.specs.declared.number.ObjNo.{ObjNo}
use Rattle.kcore.specs.BootTable.{born_rows}
use Rattle.kcore.proofs.BootCounts.{count_so_far}
use Rattle.kcore.proofs.boot_objects.counts_of.Given as goal

abbrev pub invariant-loop-number : goal.invariant-loop-number
invariant-loop-number l = record {
  long : length l.counts.items ≡ length l.all;
  counts : (o : ObjNo) → slice_index l.counts.items o.0 ≡ count_so_far (take l.number (born_rows l.all)) o;
  small : (k : ℕ) → slice_index l.counts.items k ≤ 2 * l.number;
}
