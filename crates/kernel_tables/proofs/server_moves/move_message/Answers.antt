use Rattle.std.proofs.Common.{ℤ, refl, subst, w32, rules, FitsSigned}
use Rattle.std.proofs.Math.Facts.{to_z-of_z}
use Rattle.machine.specs.declared.message_move.MessageMove.TheVariants.{Finish}
use Rattle.machine.specs.declared.moves.Move.TheVariants.{Messages}
use Rattle.kernel_tables.specs.Moved.{IsMoved}
use Rattle.kernel_tables.proofs.server_moves.move_message.Goals as goal

pub returns-in-Accept : goal.returns-in-Accept
returns-in-Accept g c = rw c.in-Accept.is (c.accept.ensures c.args.thread)

pub returns-in-Take : goal.returns-in-Take
returns-in-Take g c =
    rw c.in-Take.is (record {
      state = rw c.take_next.ensures.taken refl;
      counts = λ o. refl;
      mode = refl;
      notes = refl;
      reuse = refl;
      tied = c.requires.kept.tied;
    })

pub returns-in-Finish : goal.returns-in-Finish
returns-in-Finish g c =
    let fits : FitsSigned w32 c.in-Finish.code = search rules in
    rw c.in-Finish.is (subst (λ (code : ℤ). IsMoved c.args.thread
    (Messages (Finish c.in-Finish.number code)) c.args.tables.now c.finish.new.tables)
    (to_z-of_z fits) c.finish.ensures)
