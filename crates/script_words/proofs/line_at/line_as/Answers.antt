use Rattle.script_words.specs.LineSigns.{all_pass_as}
use Rattle.script_words.specs.Pieces.{pieces}
use Rattle.script_words.specs.Signs.{has_form, is_in_range}
use Rattle.script_words.proofs.Tested.{tested}
use Rattle.script_words.proofs.WordFaults.{passed}
use Rattle.script_words.proofs.line_at.line_as.Goals as goal

pub tested_line-requires : goal.tested_line-requires
tested_line-requires c =
    let words = pieces c.args.words.now in
    let right = passed (all_pass_as has_form c.args.keyword c.args.second words) (all_pass_as is_in_range c.args.keyword c.args.second words) c.requires in
    tested c.args.keyword c.args.second words right.0 right.1
