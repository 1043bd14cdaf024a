use Rattle.handles.proofs.Marks.{all_set}
use Rattle.handles.proofs.free.FreePlaces.all.Goals as goal

pub returns : goal.returns
returns c = all_set
