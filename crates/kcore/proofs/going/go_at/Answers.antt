use Rattle.std.proofs.Common.{◌≡◌, ◌∙◌, length, ap}
use Rattle.entry_log.specs.declared.entry.Entry.{Entry}
use Rattle.kcore.specs.Told.{told_in}
use Rattle.kcore.proofs.LastEntry.{last_is, last_told, told_as}
use Rattle.kcore.proofs.going.go_at.Goals as goal

pub transition-requires-clause-empty : goal.transition-requires-clause-empty
transition-requires-clause-empty g c =
    let entries = c.args.entries.now.items in
    let at : length c.as_slice-at.result.now ≡ length entries = ap length c.as_slice-at.ensures.value in
    let is = last_is entries c.push_reserved.new.self.items c.new_entry.result
    (length c.as_slice-at.result.now) c.index_mut.result.now c.push_reserved.ensures.items at
    c.index_mut.ensures.value in
    ap (λ (e : Entry). e.effects) (is ∙ c.new_entry.ensures)

pub transition-requires-clause-blank : goal.transition-requires-clause-blank
transition-requires-clause-blank g c =
    let entries = c.args.entries.now.items in
    let at : length c.as_slice-at.result.now ≡ length entries = ap length c.as_slice-at.ensures.value in
    let is = last_is entries c.push_reserved.new.self.items c.new_entry.result
    (length c.as_slice-at.result.now) c.index_mut.result.now c.push_reserved.ensures.items at
    c.index_mut.ensures.value in
    ap (λ (e : Entry). told_in e) (is ∙ c.new_entry.ensures)

pub returns-clause-went : goal.returns-clause-went
returns-clause-went g c =
    let entries = c.args.entries.now.items in
    let e = c.transition.new.entry in
    let items = c.push_reserved.new.self.items in
    let at : length c.as_slice-at.result.now ≡ length entries = ap length c.as_slice-at.ensures.value in
    let is = last_is entries items c.new_entry.result
    (length c.as_slice-at.result.now) c.index_mut.result.now c.push_reserved.ensures.items at
    c.index_mut.ensures.value in
    let told = told_as c.index_mut.result.now c.new_entry.result e c.args.place c.args.actor _ is c.new_entry.ensures c.transition.ensures.told in
    record {
      entry = e;
      longer = last_told entries items c.new_entry.result (length c.as_slice-at.result.now) e c.push_reserved.ensures.items at;
      told = told;
      does = c.transition.ensures.does;
    }
