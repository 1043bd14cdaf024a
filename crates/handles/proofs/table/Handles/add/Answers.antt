use Rattle.std.proofs.Common.{◌≡◌, ◌<◌, ap, sym, ◌∙◌, refl, arith, length}
use Rattle.handles.specs.HandleTable.{HandleTable}
use Rattle.state_rows.specs.HandleSlots.{free_index}
use Rattle.handles.proofs.Places.{count_full, count_free, kept_set}
use Rattle.handles.proofs.table.Handles.add.Goals as goal

pub returns-then-index-eq-HANDLES-clause-full : goal.returns-then-index-eq-HANDLES-clause-full
returns-then-index-eq-HANDLES-clause-full c =
    let slots = c.args.self.now.slots in
    let size : length slots ≡ 256 = sym (ap (λ (t : HandleTable). length t.slots) c.self.view_is) ∙ c.self.invariant.table.size in
    let full : free_index slots ≡ length slots = omega arith in
    (λ _. count_full slots full ∙ size, λ _. refl)

pub invariant_of-self : goal.invariant_of-self
invariant_of-self c =
    let inside = c.self.inside in
    kept_set inside.slots.items inside.free.words c.take.new.self.words c.free_index-index.result _ c.self.invariant
    (omega arith) c.next_instance-instance.ensures.small
    (λ o is. c.next_instance-instance.ensures.counted) c.take.ensures.taken c.take.ensures.others

pub returns-clause-full : goal.returns-clause-full
returns-clause-full c =
    let slots = c.args.self.now.slots in
    let size : length slots ≡ 256 = sym (ap (λ (t : HandleTable). length t.slots) c.self.view_is) ∙ c.self.invariant.table.size in
    let free : free_index slots < length slots = omega arith in
    (λ e. absurd (cc), λ e. absurd (omega (arith, count_free slots free, e)))
