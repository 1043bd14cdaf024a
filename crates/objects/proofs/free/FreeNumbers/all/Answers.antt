use Rattle.objects.proofs.Marks.{all_set}
use Rattle.objects.proofs.free.FreeNumbers.all.Goals as goal

pub returns : goal.returns
returns c = all_set
