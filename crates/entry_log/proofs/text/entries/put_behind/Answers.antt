use Rattle.std.proofs.Common.{◌≡◌, [], ◌∷◌, ◌++◌, append_assoc}
use Rattle.entry_log.proofs.EntryParts.{behind_parts}
use Rattle.entry_log.proofs.Joins.{preceded_pair}
use Rattle.entry_log.specs.ActorText.{actor_text}
use Rattle.entry_log.specs.Joined.{preceded}
use Rattle.entry_log.specs.StepText.{step_text}
use Rattle.entry_log.proofs.text.entries.put_behind.Goals as goal

pub returns-clause-text : goal.returns-clause-text
returns-clause-text c =
    let e = c.args.entry.now in
    let act : c.put_act.new.line.items ≡ c.args.line.now.items ++ preceded 32 (actor_text e.actor ∷ step_text e.step ∷ []) =
    rw (preceded_pair 32 (actor_text e.actor) (step_text e.step)) c.put_act.ensures.text in
    simp (
      behind_parts,
      append_assoc,
      c.put_byte.ensures,
      c.put_answer.ensures.text,
      c.put_effects.ensures.text,
      c.as_slice.ensures.effects,
      act,
    )
