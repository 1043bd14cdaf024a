-- Moves that leave a thread at its instruction.
use Rattle.std.proofs.Common.{◌≡◌, ℕ, List, [], ◌∷◌, refl, Option, Some, None, Bool, true, false}
use Rattle.std.specs.List.{AllByRecursion}
use Rattle.sym_base.specs.declared.number.ObjNo.{ObjNo}
use Rattle.script_types.specs.declared.script.Script.{Script}
use Rattle.entry_log.specs.declared.effect.Holder.{Holder}
use Rattle.entry_log.specs.declared.effect.Holder.TheVariants.{Temp}
use Rattle.entry_log.specs.declared.step.Part.{Part}
use Rattle.machine.specs.declared.message_move.MessageMove.{MessageMove}
use Rattle.machine.specs.declared.moves.Move.{Move}
use Rattle.machine.specs.declared.moves.Move.TheVariants as move
use Rattle.machine.specs.declared.request_move.RequestMove.{RequestMove}
use Rattle.machine.specs.declared.server_move.ServerMove.{ServerMove}
use Rattle.machine.specs.declared.state.State.{State}
use Rattle.state_rows.specs.declared.messages.Message.{Message}
use Rattle.state_rows.specs.declared.messages.Way.{Way}
use Rattle.state_rows.specs.declared.messages.Way.TheVariants.{Async, Sync, Disconnect}
use Rattle.state_rows.specs.declared.thread.Waiting.TheVariants as waiting
use Rattle.state_rows.specs.declared.thread.ThreadRow.{ThreadRow}
use Rattle.machine.specs.Bodies.{end_wait, ends_wait}
use Rattle.machine.specs.Messaging.{close_refused, finish, is_refused, reply, reply_to}
use Rattle.machine.specs.Moves.{moved, perform, threads_closed, threads_lose, unlinked, with_use, with_waiting, with_part}
use Rattle.machine.specs.Kept.{dies}
use Rattle.machine.specs.Out.{is_returning}
use Rattle.machine.specs.Rows.{thread_of}
use Rattle.machine.specs.ThreadCalls.{is_live}
use Rattle.std.proofs.Common.{ℤ}
use Rattle.move_laws.proofs.Lists.Cases.{if_cases}
use Rattle.machine_laws.proofs.Fitting.Stepping.{ends-same, at-with_row, MayEndStep, leaves_at}
use Rattle.move_laws.proofs.Lists.Each.{all-both}

-- moves that do, in an action of thread t
pub record Stays (script : Script) (t : ObjNo) (m : Move) : Type 0 where
  pub at : (S : State) → MayEndStep script S t → MayEndStep script (moved t m S) t

abbrev pub AllStay : Script → ObjNo → List Move → Type 0
AllStay script t ms = AllByRecursion (Stays script t) ms

pub stay-perform : (script : Script) (t : ObjNo) (ms : List Move) (S : State) → AllStay script t ms
    → MayEndStep script S t → MayEndStep script (perform t ms S) t
stay-perform script t [] S all at = at
stay-perform script t (m ∷ ms) S all at = stay-perform script t ms (moved t m S) all.1 (all.0.at S at)

-- changes of other rows, and the end of a wait
pub stays-servers : (script : Script) (t : ObjNo) (m : ServerMove) → Stays script t (move.Servers m)
stays-servers script t m = record { at = λ S at. ends-same script S (moved t (move.Servers m) S) t refl at }

pub stays-messages : (script : Script) (t : ObjNo) (m : MessageMove) → Stays script t (move.Messages m)
stays-messages script t m = record { at = λ S at. ends-same script S (moved t (move.Messages m) S) t refl at }

pub stays-requests : (script : Script) (t : ObjNo) (m : RequestMove) → Stays script t (move.Requests m)
stays-requests script t m = record { at = λ S at. ends-same script S (moved t (move.Requests m) S) t refl at }

pub stays-go_on : (script : Script) (t u : ObjNo) (part : Part) → is_returning (Some part) ≡ false → Stays script t (move.GoOn u part)
stays-go_on script t u part other = record {
  at =
      λ S at. at-with_row script S (moved t (move.GoOn u part) S) t u (with_part part)
      (record { role = λ r. refl; next = λ r. refl; going = λ r e. other }) refl at;
}

pub stays-wake : (script : Script) (t u : ObjNo) → Stays script t (move.Wake u)
stays-wake script t u = record {
  at =
      λ S at. at-with_row script S (moved t (move.Wake u) S) t u (with_waiting waiting.Nothing)
      (leaves_at (λ r. refl)) refl at;
}

-- the loss of a reference
stays-unlinked : (script : Script) (S T : State) (t o : ObjNo) (last : Bool)
    → T.references.threads ≡ threads_closed last o S.references.threads → MayEndStep script S t → MayEndStep script T t
stays-unlinked script S T t o true same at = at-with_row script S T t o unlinked (leaves_at (λ r. refl)) same at
stays-unlinked script S T t o false same at = ends-same script S T t same at

stays-lost : (script : Script) (S T : State) (t : ObjNo) (h : Holder)
    → T.references.threads ≡ threads_lose h S.references.threads → MayEndStep script S t → MayEndStep script T t
stays-lost script S T t (Temp u) same at = at-with_row script S T t u (with_use None) (leaves_at (λ r. refl)) same at
stays-lost script S T t _ same at = ends-same script S T t same at

pub stays-lose : (script : Script) (t : ObjNo) (h : Holder) (o : ObjNo) → Stays script t (move.Lose h o)
stays-lose script t h o = record {
  at =
      λ S at. stays-unlinked script (record S
      { references = record S.references { threads = threads_lose h S.references.threads } })
      (moved t (move.Lose h o) S) t o (dies S o) refl
      (stays-lost script S (record S {
        references = record S.references
            { threads = threads_lose h S.references.threads };
      }) t h refl at);
}

-- what finishes a message
stay-end_wait : (script : Script) (S : State) (t u : ObjNo) (s : ℕ) (row : Option ThreadRow) → AllStay script t (end_wait S u s row)
stay-end_wait script S t u s None = tt
stay-end_wait script S t u s (Some row) = if_cases (AllStay script t) (ends_wait S u s row.waiting) _ _ (λ _. (stays-wake script t u, tt)) (λ _. tt)

stay-reply : (script : Script) (S : State) (t u : ObjNo) (row : ThreadRow) (code : ℤ) (way : Way) → AllStay script t (reply S u row code way)
stay-reply script S t u row code (Async s) = (stays-requests script t _, stay-end_wait script S t u s (Some row))
stay-reply script S t u row code Sync = (stays-requests script t _, (stays-wake script t u, tt))
stay-reply script S t u row code Disconnect = tt

stay-reply_to : (script : Script) (S : State) (t u : ObjNo) (code : ℤ) (way : Way) (row : Option ThreadRow) → AllStay script t (reply_to S u code way row)
stay-reply_to script S t u code way None = tt
stay-reply_to script S t u code way (Some row) = if_cases (AllStay script t) (is_live row.stage) _ _ (λ _. stay-reply script S t u row code way) (λ _. tt)

pub stay-finish : (script : Script) (S : State) (t : ObjNo) (message : Message) (code : ℤ) → AllStay script t (finish S message code)
stay-finish script S t message code = (
  stays-messages script t _,
  all-both (Stays script t) (close_refused message code) (reply_to S message.row.client code message.row.way (thread_of S message.row.client))
      (if_cases (AllStay script t) (is_refused message code) _ _ (λ _. (stays-servers script t _, tt)) (λ _. tt))
      (stay-reply_to script S t message.row.client code message.row.way (thread_of S message.row.client)),
)
