use Rattle.std.proofs.Common.{ℕ, ap, inl, inr, subst}
use Rattle.runner.specs.Complete.{Stayed}
use Rattle.runner.specs.RunText.{shown_text}
use Rattle.script_read.specs.declared.fault.RunFault.TheVariants as fault
use Rattle.runner.proofs.Ends.{done-run, ends-well, front-refused, front-run, never-large, never-read, never-refused, on-ok, same-fault, stayed-first}
use Rattle.runner.proofs.run.run_shown.Goals as goal

-- the input was accepted: the sink is as it was, and the script's text is written
pub returns-in-Ok : goal.returns-in-Ok
returns-in-Ok g c =
    let read = c.in-Ok.ensures in
    let said = c.run_script.ensures in
    let r = c.run_script.result in
    let script = c.in-Ok.script in
    let source = g.S.Source.left c.args.source.now in
    let before = g.K.Sink.faults c.read_accepted.new.sink in
    let after = g.K.Sink.faults c.run_script.new.sink in
    rw (← read.untouched) (record {
      done = done-run r (shown_text c.args.detail) source _ _ script read.input said.whole said.legal said.safe;
      at_end = on-ok r read.at_end;
      refused = λ line why same. absurd (never-refused r said.faults line why same);
      refused_at_end = λ line why same. absurd (never-refused r said.faults line why same);
      large = λ same. absurd (never-large r said.faults same);
      few = λ other. read.few (λ same. cc);
      large_silent = λ same. absurd (never-large r said.faults same);
      read_fault = λ same. absurd (never-read r said.faults same);
      write_fault = said.fault;
      front = λ same. front-run (shown_text c.args.detail) source _ _ script read.input (said.front same);
      read_silent = λ same. absurd (never-read r said.faults same);
      memory_silent = said.silent;
      accepted = λ other holds reads writes. ends-well r before after said.faults said.fault writes;
      bad = λ line why holds reads writes.
          let first : Stayed before before = stayed-first before after said.never_falls writes in
          elim (read.bad line why holds reads (subst (λ (n : ℕ). Stayed n before) (ap g.K.Sink.faults read.untouched) first)) [ inl e ↦ cc | inr e ↦ cc ];
      too_large = λ holds reads. elim (read.too_large holds reads) [ inl e ↦ cc | inr e ↦ cc ];
    })

-- it wasn't
pub returns-in-Err : goal.returns-in-Err
returns-in-Err g c =
    let read = c.in-Err.ensures in
    let f = c.in-Err.fault in
    record {
      done = tt;
      at_end = tt;
      refused = λ line why same. read.refused line why (same-fault f (fault.Refused line why) same);
      refused_at_end = λ line why same. read.refused_at_end line why (same-fault f (fault.Refused line why) same);
      large = λ same. read.large (same-fault f fault.TooLarge same);
      few = λ other. read.few (λ same. other (same-fault f fault.TooLarge same));
      large_silent = λ same. read.large_silent (same-fault f fault.TooLarge same);
      read_fault = λ same. read.read_fault (same-fault f fault.ReadFault same);
      write_fault = λ same. read.write_fault (same-fault f fault.WriteFault same);
      front = λ same. front-refused (shown_text c.args.detail) _ _ _ (read.front (same-fault f fault.WriteFault same));
      read_silent = λ same. read.read_silent (same-fault f fault.ReadFault same);
      memory_silent = λ same. read.memory_silent (same-fault f fault.NoMemory same);
      accepted = λ script holds reads writes.
          elim (read.accepted script holds reads writes) [ inl e ↦ inl e | inr e ↦ inr (same-fault f fault.NoMemory e) ];
      bad = λ line why holds reads writes.
          elim (read.bad line why holds reads writes) [
            | inl e ↦ inl (same-fault f (fault.Refused line why) e)
            | inr e ↦ inr (same-fault f fault.NoMemory e)
          ];
      too_large = λ holds reads.
          elim (read.too_large holds reads) [
            | inl e ↦ inl (same-fault f fault.TooLarge e)
            | inr e ↦ inr (same-fault f fault.NoMemory e)
          ];
    }
