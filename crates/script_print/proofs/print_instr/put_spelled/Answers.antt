use Rattle.script_print.specs.CanonicalText.{instr_text}
use Rattle.script_print.proofs.Spelled.{spelled}
use Rattle.script_print.proofs.print_instr.put_spelled.Goals as goal

pub returns : goal.returns
unfolding instr_text
returns c =
    let same = spelled c.args.what c.args.first c.args.words.now c.requires.instr c.requires.kinds in
    rw (← same) c.put_line.ensures
