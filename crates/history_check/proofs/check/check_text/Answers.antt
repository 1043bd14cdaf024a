use Rattle.std.proofs.Common.{◌≡◌, ◌<◌, ◌∙◌, length, refl, ap, arith}
use Rattle.history_check.specs.Followed.{IsFollowed}
use Rattle.history_check.proofs.Answering.{checked_end, checked_last, checked_next, checked_one, count_next, so_begun, so_next, split_begun, split_next}
use Rattle.history_check.proofs.check.check_text.Goals as goal

pub loop-entries-init : goal.loop-entries-init
loop-entries-init c = record {
  script = refl;
  so = so_begun c.args.fresh.script c.args.fresh.history c.args.text.now c.requires.new;
  count = ap length c.requires.new;
  split = split_begun c.args.fresh.shared c.args.fresh.history c.requires.new;
}

pub loop-entries-preserved : goal.loop-entries-preserved
loop-entries-preserved c =
    let so = c.loop-entries.invariant in
    let made = rw c.in-Ok-Some.field-0-is at c.in-Ok-Some.ensures.next in
    let next : IsFollowed c.loop-entries.plain c.in-Ok-Some.next c.loop-entries.rest.now c.in-Some-behind_entry.left.now =
    record {
      entry = c.in-Ok-Some.entry;
      history = made.history;
      shared = made.shared;
      legal = made.legal;
      named = c.known_entry.ensures.step;
      line = c.in-Some-behind_entry.ensures;
    } in
    let script : c.in-Ok-Some.next.script ≡ c.args.fresh.script = made.script ∙ so.script in
    let few : length c.loop-entries.plain.history < 131072 = omega (arith, so.count) in
    record {
      script = script;
      so =
          so_next c.args.fresh.script c.loop-entries.plain c.in-Ok-Some.next c.args.text.now c.loop-entries.rest.now
          c.in-Some-behind_entry.left.now script few so.so next;
      count = count_next c.loop-entries.plain c.in-Ok-Some.next c.loop-entries.rest.now c.in-Some-behind_entry.left.now c.loop-entries.entries so.count next;
      split = split_next c.loop-entries.plain c.in-Ok-Some.next c.loop-entries.rest.now c.in-Some-behind_entry.left.now next;
    }

pub returns-in-Some-clause-answer : goal.returns-in-Some-clause-answer
returns-in-Some-clause-answer c =
    let so = c.loop-entries.invariant in
    checked_end c.args.fresh.script c.loop-entries.plain c.args.text.now c.loop-entries.rest.now c.loop-entries.entries
    c.requires.valid so.script so.so so.count c.in-Some.rows.now c.check_end-checked.result so.split c.in-Some.ensures
    c.check_end-checked.ensures

pub returns-in-Some-clause-one : goal.returns-in-Some-clause-one
returns-in-Some-clause-one c = λ entries same.
    let so = c.loop-entries.invariant in
    checked_one c.args.fresh.script c.loop-entries.plain c.args.text.now c.loop-entries.rest.now c.loop-entries.entries
    c.requires.valid so.script so.so so.count c.in-Some.rows.now c.in-Some.ensures

pub returns-in-Ok-None-clause-answer : goal.returns-in-Ok-None-clause-answer
returns-in-Ok-None-clause-answer c =
    let so = c.loop-entries.invariant in
    let nowhere = rw c.in-Ok-None.field-0-is at c.in-Ok-None.ensures.bad in
    checked_next c.args.fresh.script c.loop-entries.plain c.args.text.now c.loop-entries.rest.now c.loop-entries.entries
    c.requires.valid so.script so.so so.count c.in_default.ensures nowhere

pub returns-in_default-behind_entry-clause-answer : goal.returns-in_default-behind_entry-clause-answer
returns-in_default-behind_entry-clause-answer c =
    let so = c.loop-entries.invariant in
    let made = rw c.in-Ok-Some.field-0-is at c.in-Ok-Some.ensures.next in
    checked_next c.args.fresh.script c.loop-entries.plain c.args.text.now c.loop-entries.rest.now c.loop-entries.entries
    c.requires.valid so.script so.so so.count c.in_default.ensures (made.only c.known_entry.ensures.step c.in_default-behind_entry.ensures)

-- all entries that there may be were made
pub returns-in-Some-behind-clause-answer : goal.returns-in-Some-behind-clause-answer
returns-in-Some-behind-clause-answer c =
    let so = c.loop-entries.invariant in
    let count : length c.loop-entries.plain.history ≡ 131072 = omega (arith, so.count) in
    checked_end c.args.fresh.script c.loop-entries.plain c.args.text.now c.loop-entries.rest.now 131072 c.requires.valid
    so.script so.so count c.in-Some-behind.rows.now c.check_end-checked-in-Some-behind.result so.split
    c.in-Some-behind.ensures c.check_end-checked-in-Some-behind.ensures

pub returns-in-Some-behind-clause-one : goal.returns-in-Some-behind-clause-one
returns-in-Some-behind-clause-one c = λ entries same.
    let so = c.loop-entries.invariant in
    checked_one c.args.fresh.script c.loop-entries.plain c.args.text.now c.loop-entries.rest.now c.loop-entries.entries
    c.requires.valid so.script so.so so.count c.in-Some-behind.rows.now c.in-Some-behind.ensures

pub returns-in-None-clause-answer : goal.returns-in-None-clause-answer
returns-in-None-clause-answer c =
    let so = c.loop-entries.invariant in
    let count : length c.loop-entries.plain.history ≡ 131072 = omega (arith, so.count) in
    checked_last c.args.fresh.script c.loop-entries.plain c.args.text.now c.loop-entries.rest.now 131072
    c.requires.valid so.script so.so count c.in-None.ensures (omega arith)
