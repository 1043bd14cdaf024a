use Rattle.runner.proofs.Alone.{is_shared_text}
use Rattle.runner.proofs.shared.share_script.Goals as goal

pub returns-in-Ok-write_kernel-clause-whole : goal.returns-in-Ok-write_kernel-clause-whole
returns-in-Ok-write_kernel-clause-whole g c =
    let made = c.in-Ok.ensures in
    record {
      text = _;
      called_for = is_shared_text c.args.script c.in-Ok.kernel made.script made.mode made.run made.safe;
      wrote = c.in-Ok-write_kernel.ensures.whole;
    }

pub returns-in-Err-clause-front : goal.returns-in-Err-clause-front
returns-in-Err-clause-front g c = λ same.
    let made = c.in-Ok.ensures in
    record {
      text = _;
      called_for = is_shared_text c.args.script c.in-Ok.kernel made.script made.mode made.run made.safe;
      wrote = c.in-Err.ensures.front;
    }
