use Rattle.std.proofs.Common.{◌∙◌, ◌≤◌, ℕ, List, length, get_or, arith, ap}
use Rattle.std.proofs.lemmas.List.{length-replicate, take_all, length-map}
use Rattle.machine.specs.declared.boot.Born.{Born}
use Rattle.kcore.specs.BootTable.{born_rows}
use Rattle.kcore.proofs.BootCounts.{count_so_far, counted_next, names_few}
use Rattle.kcore.proofs.BootProcs.{zeros}
use Rattle.kcore.proofs.BootTables.{read_at}
use Rattle.kcore.proofs.boot_objects.counts_of.Goals as goal

pub loop-number-init : goal.loop-number-init
loop-number-init c =
    let all = c.args.all.now in
    let made = c.in_ok-counts.ensures.items_if_clones_equal (λ y e. e) in
    record {
      long = ap length made ∙ length-replicate {A = ℕ} (length all) 0;
      counts = λ o. ap (λ (l : List ℕ). get_or l o.0 0) made ∙ zeros (length all) o.0;
      small = λ k. let none = ap (λ (l : List ℕ). get_or l k 0) made ∙ zeros (length all) k in omega arith;
    }

pub count_born-requires-clause-inside : goal.count_born-requires-clause-inside
count_born-requires-clause-inside c = let lt = c.loop-number-test.true in let long = c.loop-number.invariant.long in omega arith

pub count_born-requires-clause-linked : goal.count_born-requires-clause-linked
count_born-requires-clause-linked c =
    let all = c.args.all.now in
    let n = c.loop-number.number in
    let b = c.index-all-number.result in
    let at = read_at all n b c.loop-number-test.true c.index-all-number.is in
    λ row is. let long = c.loop-number.invariant.long in let linked = (c.requires.linked n b row at is).process in omega arith

pub count_born-requires-clause-small : goal.count_born-requires-clause-small
count_born-requires-clause-small c =
    λ k. let lt = c.loop-number-test.true in let few = c.requires.few in let small = c.loop-number.invariant.small k in omega arith

pub loop-number-preserved : goal.loop-number-preserved
loop-number-preserved c =
    let all = c.args.all.now in
    let n = c.loop-number.number in
    let b = c.index-all-number.result in
    let at = read_at all n b c.loop-number-test.true c.index-all-number.is in
    record {
      long = c.count_born.ensures.long ∙ c.loop-number.invariant.long;
      counts = λ o.
          let now = c.count_born.ensures.counts o in
          let was = c.loop-number.invariant.counts o in
          let more = counted_next all n b o c.loop-number-test.true at c.requires.linked in omega arith;
      small = λ k.
          let now = c.count_born.ensures.counts (record { 0 = k }) in
          let was = c.loop-number.invariant.small k in
          let few = names_few (record { 0 = n }) b.thread (record { 0 = k }) in omega arith;
    }

pub returns-clause-counts : goal.returns-clause-counts
returns-clause-counts c =
    let all = c.args.all.now in
    let past : length (born_rows all) ≤ c.loop-number.number = let a = c.loop-number-test.false in
    let long = length-map all (λ (b : Born). b.thread) in
    omega arith in
    λ o. c.loop-number.invariant.counts o ∙ ap (λ l. count_so_far l o) (take_all c.loop-number.number (born_rows all) past)
