use Rattle.script_read.proofs.FileDeclares.{knows_more}
use Rattle.script_read.proofs.declarations.Declarations.add.Goals as goal

pub returns : goal.returns
returns c = knows_more c.args.self.now _ c.args.first.now c.args.second.now _ _ _ _ _
    c.declares_thread.ensures c.in_ok-add_name.ensures
    c.is_word.ensures c.in_ok-add_name-2.ensures
    c.is_word-2.ensures c.in_ok-add_name-3.ensures
    c.is_word-3.ensures c.in_ok-add_name-4.ensures
    c.declares_irq.ensures c.in_ok-add_irq.ensures
    c.has_schedule-self.ensures
