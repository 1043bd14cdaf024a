use Rattle.std.proofs.Common.{ℕ, ◌+◌, map, refl, sym, ap, subst, ◌∙◌, arith}
use Rattle.std.specs.String.{string_bytes}
use Rattle.eka2_app.specs.Outcomes.{WroteText}
use Rattle.eka2_app.specs.Readings.{IsReading, most_bytes}
use Rattle.eka2_app.specs.StatusNumber.{status_of, status_of_check}
use Rattle.eka2_app.specs.declared.words.Command.{Command}
use Rattle.eka2_app.specs.declared.words.Command.TheVariants as command
use Rattle.eka2_app.proofs.Ended.{read_fault_is, write_fault_is, memory_is, large_is, not_usage, ran, never_read, never_large, took_nothing, wrote_text}
use Rattle.eka2_app.proofs.EndedCheck as check
use Rattle.eka2_app.proofs.OneReading.{of_reading, one_reading, same_made, same_load}
use Rattle.runner.specs.Complete.{Stayed}
use Rattle.runner.specs.Inputs.{Took, TookAtMost}
use Rattle.runner.specs.MadeText.{made_text, load_text}
use Rattle.eka2_app.proofs.top.eka2_main.Goals as goal

pub write_made-requires : goal.write_made-requires
write_made-requires g c =
    let reading = subst (IsReading (map string_bytes c.args.words.now)) c.in-Make.is c.in-Some.ensures in
    record { some = reading.numbers.some; few = reading.numbers.few }

pub run_load-requires : goal.run_load-requires
run_load-requires g c =
    let reading = subst (IsReading (map string_bytes c.args.words.now)) c.in-Load.is c.in-Some.ensures in
    record { some = reading.numbers.some; few = reading.numbers.few }

pub returns-in-Run : goal.returns-in-Run
returns-in-Run g c =
    let words = map string_bytes c.args.words.now in
    let r = c.run_schedule.result in
    let said = c.run_schedule.ensures in
    let reading : IsReading words command.Run = subst (IsReading words) c.in-Run.is c.in-Some.ensures in
    record {
      usage = (λ same. absurd (not_usage r (sym c.of.ensures ∙ same)), λ none. absurd (none command.Run reading));
      source_untouched = λ same. absurd (not_usage r (sym c.of.ensures ∙ same));
      sink_untouched = λ same. absurd (not_usage r (sym c.of.ensures ∙ same));
      run =
          λ _. rw c.of.ensures (ran _ _ _ _ _ _ _ _ r said.done said.at_end said.refused said.refused_at_end said.front
          said.accepted said.bad said.too_large);
      brief = λ other. let same = one_reading words command.Run command.Brief reading other in cc;
      share = λ workers other. let same = one_reading words command.Run (command.Share workers) reading other in cc;
      check = λ other. let same = one_reading words command.Run command.Check reading other in cc;
      make = λ seed size other. let same = one_reading words command.Run (command.Make seed size) reading other in cc;
      make_reads_nothing = λ seed size other. let same = one_reading words command.Run (command.Make seed size) reading other in cc;
      load = λ seed size other. let same = one_reading words command.Run (command.Load seed size) reading other in cc;
      load_reads_nothing = λ seed size other. let same = one_reading words command.Run (command.Load seed size) reading other in cc;
      large =
          λ k other same. of_reading (λ (x : Command). Took (most_bytes x + 1) (g.S.Source.left c.args.source.now)
          (g.S.Source.left c.run_schedule.new.source)) words command.Run k reading other
          (said.large (large_is r (sym c.of.ensures ∙ same)));
      few =
          λ k other isnt. of_reading (λ (x : Command). TookAtMost (most_bytes x) (g.S.Source.left c.args.source.now)
          (g.S.Source.left c.run_schedule.new.source)) words command.Run k reading other
          (said.few (λ same. isnt (c.of.ensures ∙ ap status_of same)));
      read_fault = λ same. said.read_fault (read_fault_is r (sym c.of.ensures ∙ same));
      write_fault = λ same. said.write_fault (write_fault_is r (sym c.of.ensures ∙ same));
      read_silent = λ same. said.read_silent (read_fault_is r (sym c.of.ensures ∙ same));
      large_silent = λ same. said.large_silent (large_is r (sym c.of.ensures ∙ same));
      memory_silent = λ same. said.memory_silent (memory_is r (sym c.of.ensures ∙ same));
    }

pub returns-in-Brief : goal.returns-in-Brief
returns-in-Brief g c =
    let words = map string_bytes c.args.words.now in
    let r = c.run_brief.result in
    let said = c.run_brief.ensures in
    let reading : IsReading words command.Brief = subst (IsReading words) c.in-Brief.is c.in-Some.ensures in
    record {
      usage = (λ same. absurd (not_usage r (sym c.of-in-Brief.ensures ∙ same)), λ none. absurd (none command.Brief reading));
      source_untouched = λ same. absurd (not_usage r (sym c.of-in-Brief.ensures ∙ same));
      sink_untouched = λ same. absurd (not_usage r (sym c.of-in-Brief.ensures ∙ same));
      run = λ other. let same = one_reading words command.Brief command.Run reading other in cc;
      brief =
          λ _. rw c.of-in-Brief.ensures (ran _ _ _ _ _ _ _ _ r said.done said.at_end said.refused said.refused_at_end
          said.front said.accepted said.bad said.too_large);
      share = λ workers other. let same = one_reading words command.Brief (command.Share workers) reading other in cc;
      check = λ other. let same = one_reading words command.Brief command.Check reading other in cc;
      make = λ seed size other. let same = one_reading words command.Brief (command.Make seed size) reading other in cc;
      make_reads_nothing = λ seed size other. let same = one_reading words command.Brief (command.Make seed size) reading other in cc;
      load = λ seed size other. let same = one_reading words command.Brief (command.Load seed size) reading other in cc;
      load_reads_nothing = λ seed size other. let same = one_reading words command.Brief (command.Load seed size) reading other in cc;
      large =
          λ k other same. of_reading (λ (x : Command). Took (most_bytes x + 1) (g.S.Source.left c.args.source.now)
          (g.S.Source.left c.run_brief.new.source)) words command.Brief k reading other
          (said.large (large_is r (sym c.of-in-Brief.ensures ∙ same)));
      few =
          λ k other isnt. of_reading (λ (x : Command). TookAtMost (most_bytes x) (g.S.Source.left c.args.source.now)
          (g.S.Source.left c.run_brief.new.source)) words command.Brief k reading other
          (said.few (λ same. isnt (c.of-in-Brief.ensures ∙ ap status_of same)));
      read_fault = λ same. said.read_fault (read_fault_is r (sym c.of-in-Brief.ensures ∙ same));
      write_fault = λ same. said.write_fault (write_fault_is r (sym c.of-in-Brief.ensures ∙ same));
      read_silent = λ same. said.read_silent (read_fault_is r (sym c.of-in-Brief.ensures ∙ same));
      large_silent = λ same. said.large_silent (large_is r (sym c.of-in-Brief.ensures ∙ same));
      memory_silent = λ same. said.memory_silent (memory_is r (sym c.of-in-Brief.ensures ∙ same));
    }

pub returns-in-Check : goal.returns-in-Check
returns-in-Check g c =
    let words = map string_bytes c.args.words.now in
    let r = c.run_check.result in
    let said = c.run_check.ensures in
    let reading : IsReading words command.Check = subst (IsReading words) c.in-Check.is c.in-Some.ensures in
    record {
      usage = (λ same. absurd (check.not_usage r (sym c.of_check.ensures ∙ same)), λ none. absurd (none command.Check reading));
      source_untouched = λ same. absurd (check.not_usage r (sym c.of_check.ensures ∙ same));
      sink_untouched = λ same. absurd (check.not_usage r (sym c.of_check.ensures ∙ same));
      run = λ other. let same = one_reading words command.Check command.Run reading other in cc;
      brief = λ other. let same = one_reading words command.Check command.Brief reading other in cc;
      share = λ workers other. let same = one_reading words command.Check (command.Share workers) reading other in cc;
      check =
          λ _. rw c.of_check.ensures (check.checked_history _ _ _ _ _ _ r said.legal said.illegal said.at_end said.refused
          said.refused_at_end said.front said.decided_legal said.decided_illegal said.bad said.too_large);
      make = λ seed size other. let same = one_reading words command.Check (command.Make seed size) reading other in cc;
      make_reads_nothing = λ seed size other. let same = one_reading words command.Check (command.Make seed size) reading other in cc;
      load = λ seed size other. let same = one_reading words command.Check (command.Load seed size) reading other in cc;
      load_reads_nothing = λ seed size other. let same = one_reading words command.Check (command.Load seed size) reading other in cc;
      large =
          λ k other same. of_reading (λ (x : Command). Took (most_bytes x + 1) (g.S.Source.left c.args.source.now)
          (g.S.Source.left c.run_check.new.source)) words command.Check k reading other
          (said.large (check.large_is r (sym c.of_check.ensures ∙ same)));
      few =
          λ k other isnt. of_reading (λ (x : Command). TookAtMost (most_bytes x) (g.S.Source.left c.args.source.now)
          (g.S.Source.left c.run_check.new.source)) words command.Check k reading other
          (said.few (λ same. isnt (c.of_check.ensures ∙ ap status_of_check same)));
      read_fault = λ same. said.read_fault (check.read_fault_is r (sym c.of_check.ensures ∙ same));
      write_fault = λ same. said.write_fault (check.write_fault_is r (sym c.of_check.ensures ∙ same));
      read_silent = λ same. said.read_silent (check.read_fault_is r (sym c.of_check.ensures ∙ same));
      large_silent = λ same. said.large_silent (check.large_is r (sym c.of_check.ensures ∙ same));
      memory_silent = λ same. said.memory_silent (check.memory_is r said.told (sym c.of_check.ensures ∙ same));
    }

pub run_shared-requires-clause-some : goal.run_shared-requires-clause-some
run_shared-requires-clause-some g c = λ lives outlive.
    let reading = subst (IsReading (map string_bytes c.args.words.now)) c.in-Share.is c.in-Some.ensures in
    let some = reading.numbers.some in
    omega arith

pub run_shared-requires-clause-few_workers : goal.run_shared-requires-clause-few_workers
run_shared-requires-clause-few_workers g c = λ lives outlive.
    let reading = subst (IsReading (map string_bytes c.args.words.now)) c.in-Share.is c.in-Some.ensures in
    reading.numbers.few

pub returns-in-Share : goal.returns-in-Share
returns-in-Share g c =
    let words = map string_bytes c.args.words.now in
    let r = c.run_shared.result in
    let said = c.run_shared.ensures in
    let n = c.in-Share.workers in
    let reading : IsReading words (command.Share n) = subst (IsReading words) c.in-Share.is c.in-Some.ensures in
    record {
      usage = (λ same. absurd (not_usage r (sym c.of-in-Share.ensures ∙ same)), λ none. absurd (none (command.Share n) reading));
      source_untouched = λ same. absurd (not_usage r (sym c.of-in-Share.ensures ∙ same));
      sink_untouched = λ same. absurd (not_usage r (sym c.of-in-Share.ensures ∙ same));
      run = λ other. let same = one_reading words (command.Share n) command.Run reading other in cc;
      brief = λ other. let same = one_reading words (command.Share n) command.Brief reading other in cc;
      share =
          λ workers other. rw c.of-in-Share.ensures
          (ran _ _ _ _ _ _ _ _ r said.done said.at_end said.refused said.refused_at_end said.front said.accepted said.bad
          said.too_large);
      check = λ other. let same = one_reading words (command.Share n) command.Check reading other in cc;
      make = λ seed size other. let same = one_reading words (command.Share n) (command.Make seed size) reading other in cc;
      make_reads_nothing = λ seed size other. let same = one_reading words (command.Share n) (command.Make seed size) reading other in cc;
      load = λ seed size other. let same = one_reading words (command.Share n) (command.Load seed size) reading other in cc;
      load_reads_nothing = λ seed size other. let same = one_reading words (command.Share n) (command.Load seed size) reading other in cc;
      large =
          λ k other same. of_reading (λ (x : Command). Took (most_bytes x + 1) (g.S.Source.left c.args.source.now)
          (g.S.Source.left c.run_shared.new.source)) words (command.Share n) k reading other
          (said.large (large_is r (sym c.of-in-Share.ensures ∙ same)));
      few =
          λ k other isnt. of_reading (λ (x : Command). TookAtMost (most_bytes x) (g.S.Source.left c.args.source.now)
          (g.S.Source.left c.run_shared.new.source)) words (command.Share n) k reading other
          (said.few (λ same. isnt (c.of-in-Share.ensures ∙ ap status_of same)));
      read_fault = λ same. said.read_fault (read_fault_is r (sym c.of-in-Share.ensures ∙ same));
      write_fault = λ same. said.write_fault (write_fault_is r (sym c.of-in-Share.ensures ∙ same));
      read_silent = λ same. said.read_silent (read_fault_is r (sym c.of-in-Share.ensures ∙ same));
      large_silent = λ same. said.large_silent (large_is r (sym c.of-in-Share.ensures ∙ same));
      memory_silent = λ same. said.memory_silent (memory_is r (sym c.of-in-Share.ensures ∙ same));
    }

pub returns-in-Make : goal.returns-in-Make
returns-in-Make g c =
    let words = map string_bytes c.args.words.now in
    let r = c.write_made.result in
    let said = c.write_made.ensures in
    let reading : IsReading words (command.Make c.in-Make.seed c.in-Make.size) = subst (IsReading words) c.in-Make.is c.in-Some.ensures in
    record {
      usage = (λ same. absurd (not_usage r (sym c.of-in-Make.ensures ∙ same)), λ none. absurd (none (command.Make c.in-Make.seed c.in-Make.size) reading));
      source_untouched = λ same. absurd (not_usage r (sym c.of-in-Make.ensures ∙ same));
      sink_untouched = λ same. absurd (not_usage r (sym c.of-in-Make.ensures ∙ same));
      run = λ other. let same = one_reading words (command.Make c.in-Make.seed c.in-Make.size) command.Run reading other in cc;
      brief = λ other. let same = one_reading words (command.Make c.in-Make.seed c.in-Make.size) command.Brief reading other in cc;
      share = λ workers other. let same = one_reading words (command.Make c.in-Make.seed c.in-Make.size) (command.Share workers) reading other in cc;
      check = λ other. let same = one_reading words (command.Make c.in-Make.seed c.in-Make.size) command.Check reading other in cc;
      make =
          λ seed size other. same_made (λ (s n : ℕ). WroteText (made_text s n) (g.K.Sink.written c.args.sink.now)
          (g.K.Sink.written c.write_made.new.sink)
          (Stayed (g.K.Sink.faults c.args.sink.now) (g.K.Sink.faults c.write_made.new.sink)) c.of-in-Make.result) words
          c.in-Make.seed c.in-Make.size seed size reading other
          (rw c.of-in-Make.ensures (wrote_text _ _ _ _ r said.done said.front said.faults said.complete));
      make_reads_nothing = λ seed size other. refl;
      load = λ seed size other. let same = one_reading words (command.Make c.in-Make.seed c.in-Make.size) (command.Load seed size) reading other in cc;
      load_reads_nothing =
          λ seed size other. let same = one_reading words (command.Make c.in-Make.seed c.in-Make.size)
          (command.Load seed size) reading other in cc;
      large = λ k other same. absurd (never_large r said.faults (large_is r (sym c.of-in-Make.ensures ∙ same)));
      few = λ k other isnt. took_nothing (most_bytes k) (g.S.Source.left c.args.source.now);
      read_fault = λ same. absurd (never_read r said.faults (read_fault_is r (sym c.of-in-Make.ensures ∙ same)));
      write_fault = λ same. said.write_fault (write_fault_is r (sym c.of-in-Make.ensures ∙ same));
      read_silent = λ same. absurd (never_read r said.faults (read_fault_is r (sym c.of-in-Make.ensures ∙ same)));
      large_silent = λ same. absurd (never_large r said.faults (large_is r (sym c.of-in-Make.ensures ∙ same)));
      memory_silent = λ same. said.memory_silent (memory_is r (sym c.of-in-Make.ensures ∙ same));
    }

pub returns-in-Load : goal.returns-in-Load
returns-in-Load g c =
    let words = map string_bytes c.args.words.now in
    let r = c.run_load.result in
    let said = c.run_load.ensures in
    let reading : IsReading words (command.Load c.in-Load.seed c.in-Load.size) = subst (IsReading words) c.in-Load.is c.in-Some.ensures in
    record {
      usage = (λ same. absurd (not_usage r (sym c.of-in-Load.ensures ∙ same)), λ none. absurd (none (command.Load c.in-Load.seed c.in-Load.size) reading));
      source_untouched = λ same. absurd (not_usage r (sym c.of-in-Load.ensures ∙ same));
      sink_untouched = λ same. absurd (not_usage r (sym c.of-in-Load.ensures ∙ same));
      run = λ other. let same = one_reading words (command.Load c.in-Load.seed c.in-Load.size) command.Run reading other in cc;
      brief = λ other. let same = one_reading words (command.Load c.in-Load.seed c.in-Load.size) command.Brief reading other in cc;
      share = λ workers other. let same = one_reading words (command.Load c.in-Load.seed c.in-Load.size) (command.Share workers) reading other in cc;
      check = λ other. let same = one_reading words (command.Load c.in-Load.seed c.in-Load.size) command.Check reading other in cc;
      make = λ seed size other. let same = one_reading words (command.Load c.in-Load.seed c.in-Load.size) (command.Make seed size) reading other in cc;
      make_reads_nothing =
          λ seed size other. let same = one_reading words (command.Load c.in-Load.seed c.in-Load.size)
          (command.Make seed size) reading other in cc;
      load =
          λ seed size other. same_load (λ (s n : ℕ). WroteText (load_text s n) (g.K.Sink.written c.args.sink.now)
          (g.K.Sink.written c.run_load.new.sink) (Stayed (g.K.Sink.faults c.args.sink.now)
          (g.K.Sink.faults c.run_load.new.sink)) c.of-in-Load.result) words c.in-Load.seed c.in-Load.size seed size reading
          other (rw c.of-in-Load.ensures (wrote_text _ _ _ _ r said.done said.front said.faults said.complete));
      load_reads_nothing = λ seed size other. refl;
      large = λ k other same. absurd (never_large r said.faults (large_is r (sym c.of-in-Load.ensures ∙ same)));
      few = λ k other isnt. took_nothing (most_bytes k) (g.S.Source.left c.args.source.now);
      read_fault = λ same. absurd (never_read r said.faults (read_fault_is r (sym c.of-in-Load.ensures ∙ same)));
      write_fault = λ same. said.write_fault (write_fault_is r (sym c.of-in-Load.ensures ∙ same));
      read_silent = λ same. absurd (never_read r said.faults (read_fault_is r (sym c.of-in-Load.ensures ∙ same)));
      large_silent = λ same. absurd (never_large r said.faults (large_is r (sym c.of-in-Load.ensures ∙ same)));
      memory_silent = λ same. said.memory_silent (memory_is r (sym c.of-in-Load.ensures ∙ same));
    }

pub returns-in_default-clause-run : goal.returns-in_default-clause-run
returns-in_default-clause-run g c = λ reading. absurd (c.in_default.ensures command.Run reading)

pub returns-in_default-clause-brief : goal.returns-in_default-clause-brief
returns-in_default-clause-brief g c = λ reading. absurd (c.in_default.ensures command.Brief reading)

pub returns-in_default-clause-check : goal.returns-in_default-clause-check
returns-in_default-clause-check g c = λ reading. absurd (c.in_default.ensures command.Check reading)

pub returns-in_default-clause-share : goal.returns-in_default-clause-share
returns-in_default-clause-share g c = λ workers reading. absurd (c.in_default.ensures (command.Share workers) reading)

pub returns-in_default-clause-large : goal.returns-in_default-clause-large
returns-in_default-clause-large g c = λ k reading same. absurd (c.in_default.ensures k reading)

pub returns-in_default-clause-few : goal.returns-in_default-clause-few
returns-in_default-clause-few g c = λ k reading isnt. absurd (c.in_default.ensures k reading)

pub returns-in_default-clause-make : goal.returns-in_default-clause-make
returns-in_default-clause-make g c = λ seed size reading. absurd (c.in_default.ensures (command.Make seed size) reading)

pub returns-in_default-clause-load : goal.returns-in_default-clause-load
returns-in_default-clause-load g c = λ seed size reading. absurd (c.in_default.ensures (command.Load seed size) reading)
