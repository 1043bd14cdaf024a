use Rattle.std.proofs.Common.{◌≡◌, None}
use Rattle.std.specs.Prelude.{IsTrue, slice_index, slice_set}
use Rattle.std.specs.List.{slice_index_or}
use Rattle.objects.specs.Rows.{is_there}
use Rattle.kcore.proofs.boot_objects.make_counted.Given as goal

abbrev pub invariant-loop-held : goal.invariant-loop-held
invariant-loop-held g l = record {
  rows : l.objects.rows ≡ l.initial.objects.rows;
  there : IsTrue (is_there (slice_index_or l.objects.rows l.object.0 None));
  counts : l.objects.counts ≡ slice_set l.initial.objects.counts l.object.0 l._held;
  last : slice_index l.objects.counts l.object.0 ≡ l._held;
  made : l.objects.made ≡ l.initial.objects.made;
  reuse : l.objects.reuse ≡ l.initial.objects.reuse;
  notes : l.objects.notes ≡ l.initial.objects.notes;
}
