-- What a thread that gives something up does to servers and messages, and what any action of a thread does.
use Rattle.machine.specs.Closing.{close_moves}
use Rattle.machine.specs.Messaging.{finish}
use Rattle.machine.specs.Reaping.{finish_message, give_up}
use Rattle.machine.specs.Rows.{thread_of}
use Rattle.machine.specs.WellFormed.{AreRows}
use Rattle.machine.specs.declared.decision.Decision.{Decision}
use Rattle.machine.specs.declared.holding.Holding.{Holding}
use Rattle.machine.specs.declared.state.State.{State}
use Rattle.machine_laws.proofs.Fitting.Finishing.{at_number}
use Rattle.machine_safe.proofs.Serving.ThreadActions.{deed-handle, deed-step}
use Rattle.machine_safe.proofs.Serving.ServerActions.{OfEach, calm}
use Rattle.machine_safe.specs.SafeMessages.{code_by}
use Rattle.move_laws.proofs.References.Same.{same_is}
use Rattle.script_types.specs.declared.instruction.Instr.{Instr}
use Rattle.script_types.specs.declared.script.Script.{Script}
use Rattle.state_rows.specs.MessageRows.{message_of}
use Rattle.state_rows.specs.ServerRows.{is_closing}
use Rattle.state_rows.specs.declared.thread.ThreadRow.{ThreadRow}
use Rattle.std.proofs.Common.{None, Option, Some, arith, false, refl, subst, sym, true, ◌∙◌, ◌≡◌, Bool, ap}
use Rattle.std.proofs.lemmas.List.{append-nil}
use Rattle.sym_base.specs.ErrorCode.{error_code}
use Rattle.sym_base.specs.declared.error.Error.TheVariants.{ServerTerminated}
use Rattle.machine.specs.declared.holding.Holding.TheVariants.{Message as OfMessage, Link as OfLink, Server as OfServer, Handle}
use Rattle.entry_log.specs.declared.step.Step.TheVariants as step
use Rattle.machine.specs.Steps.{decision_of}
use Rattle.machine.specs.Task.{instruction}
use Rattle.state_rows.specs.declared.messages.Message.{Message}
use Rattle.sym_base.specs.declared.number.MsgNo.{MsgNo}
use Rattle.sym_base.specs.declared.number.ObjNo.{ObjNo}
use Rattle.machine_laws.proofs.Fitting.Actions.{each-action}
use Rattle.machine_laws.proofs.Fitting.Regular.{IsRegular, kind_given}
use Rattle.machine_laws.proofs.Fitting.Tame.{regular-pay}
use Rattle.machine_laws.proofs.Fitting.ServerEnds.{IsGiven}
use Rattle.script_types.specs.Shape.{IsShaped}
use Rattle.machine_safe.proofs.Serving.Connecting.{keeps_handle, KeepHandles}

module _ (script : Script) (S : State) (t : ObjNo) (at : Option Instr) (P : Decision → Type 0) (each : OfEach S t at P) where
  deed-finish : (m : MsgNo) (message : Option Message) → IsGiven S t (OfMessage m) → message_of S.serving.messages m ≡ message → P (finish_message S message)
  deed-finish m None given e = calm each _ refl refl
  deed-finish m (Some message) given e =
      let is = given.1 message e in
      each.finishes _ (record {
        message = message;
        code = error_code ServerTerminated;
        answers = false;
        there = at_number S m message e;
        moves = sym (append-nil (finish S message (error_code ServerTerminated)));
        owner = is.0;
        cause = ap (λ (b : Bool). code_by step.Finish b at) is.1;
        unsent = refl;
      })

  deed-give : (row : ThreadRow) (what : Holding) → IsGiven S t what → IsRegular (kind_given what) script S t (give_up S t row what) → P (give_up S t row what)
  deed-give row (OfMessage m) given regular = deed-finish m (message_of S.serving.messages m) given refl
  deed-give row (OfServer o) given regular = each.stops _ (record { server = o; moves = refl; makes = refl; unsent = refl })
  deed-give row (Handle h o) given regular =
      deed-handle S t at P h o false (give_up S t row (Handle h o)) given.0 refl refl refl refl each
      (sym (append-nil (close_moves S t h o)))
  deed-give row (OfLink s o) given regular = each.keeps _ (record {
    changing = refl;
    still = refl;
    closed = λ v some. absurd (omega arith);
    detaches = λ v some. let same : o ≡ v = same_is o v (omega arith) in subst (λ (z : ObjNo). is_closing S.serving.servers z ≡ true) same given;
    send = λ sends. absurd (cc);
  })
  deed-give row what given regular = calm each _ (regular.calm refl) (regular.sends refl)

  -- what the thread does
  pub deed-of : IsShaped script → AreRows script S → KeepHandles script S
      → ((row : ThreadRow) → thread_of S t ≡ Some row → at ≡ instruction script row) → P (decision_of script S t)
  deed-of shaped rows kept here = each-action script S t P (record {
    plainly = λ d why fits. calm each d (fits.regular.calm refl) (fits.regular.sends refl);
    steps =
        λ row i is live going e fits. deed-step script S t at P row i row.part fits.regular is live going refl
        (λ keeps. kept t row is live (ap (λ (x : Option Instr). keeps_handle x row.part) e ∙ keeps)) (here row is ∙ e) each;
    returns = λ row i is back e fits. calm each _ (fits.regular.calm refl) (fits.regular.sends refl);
    gives = λ row what given fits. deed-give row what given fits.regular;
    pays = λ what rest owes. let regular = regular-pay {script = script} {S = S} {t = t} what in calm each _ (regular.calm refl) (regular.sends refl);
  }) shaped rows
