-- The steps of `read` and `write`.
use Rattle.std.proofs.Common.{◌≡◌, ℕ, ◌≤◌, [], ◌∷◌, arith, refl, sym, ap, ◌∙◌, Option, Some, None, Bool, true, false}
use Rattle.std.specs.Prelude.{◌&&◌, if◌then◌else◌, option_map, slice_index, IsTrue}
use Rattle.std.proofs.lemmas.Bool.{and_parts}
use Rattle.sym_base.specs.declared.error.Error.TheVariants as error
use Rattle.sym_base.specs.declared.number.MsgNo.{MsgNo}
use Rattle.sym_base.specs.declared.number.ObjNo.{ObjNo}
use Rattle.sym_base.specs.declared.word.Word.TheVariants as word
use Rattle.script_types.specs.declared.script.Script.{Script}
use Rattle.script_types.proofs.LimitLaws.{instr_in, number_in}
use Rattle.script_types.specs.declared.instruction.Instr.{Instr}
use Rattle.script_types.specs.declared.instruction.Instr.TheVariants as instr
use Rattle.entry_log.specs.declared.step.Part.{Part}
use Rattle.entry_log.specs.declared.step.Part.TheVariants as part
use Rattle.entry_log.specs.declared.step.Step.{Step}
use Rattle.entry_log.specs.declared.step.Step.TheVariants.{Of}
use Rattle.state_rows.specs.MessageRows.{message_of, was_taken}
use Rattle.state_rows.specs.ServerRows.{owner_of}
use Rattle.state_rows.specs.declared.messages.Message.{Message}
use Rattle.state_rows.specs.declared.messages.MsgRow.{MsgRow}
use Rattle.state_rows.specs.declared.thread.ThreadRow.{ThreadRow}
use Rattle.copy_rules.specs.Ends.{ends_at, ends_between, ends_of}
use Rattle.copy_rules.specs.Pieces.{read_answer, write_answer}
use Rattle.copy_rules.specs.Sizes.{read_size, write_size}
use Rattle.copy_rules.specs.declared.ends.Ends.{Ends}
use Rattle.copy_rules.specs.declared.job.CopyMove.{CopyMove}
use Rattle.copy_rules.specs.declared.job.CopyMove.TheVariants.{Read, Write}
use Rattle.copy_rules.specs.declared.job.Job.{Job}
use Rattle.copy_rules.specs.declared.job.Piece.{Piece}
use Rattle.copy_rules.specs.declared.job.Piece.TheVariants.{More, Whole, BadDescriptor, Argument, Overflow, Died}
use Rattle.machine.specs.Copying.{copy_piece, first_job, message_ends, next_job, read_from, read_piece, read_step, unless_done, whole_answer, write_from, write_piece, write_step}
use Rattle.machine.specs.FitsCopies.{FitsCopies}
use Rattle.machine.specs.Rows.{thread_of}
use Rattle.machine.specs.Serving.{begun}
use Rattle.machine.specs.ServerCalls.{is_owner, message_at, taken_by}
use Rattle.machine.specs.declared.decision.Decision.{Decision}
use Rattle.machine.specs.declared.moves.Move.TheVariants.{Copies}
use Rattle.machine.specs.declared.state.State.{State}
use Rattle.machine_laws.proofs.Fitting.Finishing.{at_number}
use Rattle.machine_laws.proofs.Fitting.Servers.{taken_is}
use Rattle.machine_laws.proofs.Fitting.Stepping.{goes-back, is_there, same_row, FitsDecision, IsStepping, fits-answers, fits-nothing, fits-refuse, unspent, ends_in}
use Rattle.machine_laws.proofs.Fitting.Regular.{looking, plain}
use Rattle.machine_laws.proofs.Fitting.Tame.{may_tell, tame-moves, regular-moves, tame-going}

-- a piece, whatever it answers
fits-piece : {script : Script} {S : State} {t : ObjNo} {row : ThreadRow} {instr : Instr} (told : Step)
    (named : may_tell plain told ≡ true) (copy : CopyMove) (piece : Piece)
    → IsStepping script S t row instr → begun row.part ≡ 0 → FitsCopies copy S
    → FitsDecision looking script t S (copy_piece t told copy piece)
fits-piece {row = row} told named copy (More done) h early fits = record {
  each = (
    fits,
    (
      (
        record {
          unused = λ r is e. absurd (cc);
          going = is_there h;
          unspent = unspent h;
          other = refl;
          ends = same_row h (λ x. begun x.part ≤ 0) (omega arith);
        },
        refl,
      ),
      ((goes-back h part.Piece refl, refl), tt),
    ),
  );
  told = omega arith;
  light = omega arith;
  regular = regular-moves _ named refl (tame-going _ refl refl refl);
}
fits-piece {row = row} told named copy (Whole size) h early fits =
    fits-answers told named (Copies copy ∷ []) (whole_answer copy size) (tame-moves _ refl refl) (fits, tt)
    (ends_in h refl) (omega arith) (omega arith)
fits-piece told named copy BadDescriptor h early fits = fits-refuse told named error.BadDescriptor h
fits-piece told named copy Argument h early fits = fits-refuse told named error.Argument h
fits-piece told named copy Overflow h early fits = fits-refuse told named error.Overflow h
fits-piece told named copy Died h early fits = fits-refuse told named error.Died h

-- a message that a server of a thread took was taken
taken_was : (S : State) (t : ObjNo) (found : Option Message) (message : Message) → taken_by S t found ≡ Some message → message.row.taken ≡ true
taken_was S t None message e = absurd (cc)
taken_was S t (Some x) message e = by (x.row.taken && is_owner t (owner_of S.serving.servers x.row.server)) refl e
  where
    by : (b : Bool) → (x.row.taken && is_owner t (owner_of S.serving.servers x.row.server)) ≡ b
        → (if b then Some x else None) ≡ Some message → message.row.taken ≡ true
    by true both e = let same : x ≡ message = cc in ap (λ (y : Message). y.row.taken) (sym same)
        ∙ (and_parts x.row.taken (is_owner t (owner_of S.serving.servers x.row.server)) both).0
    by false both e = absurd (cc)

-- the message that a copy names is the one that its register's number is
record Names (S : State) (message : Message) : Type 0 where
  here : message_of S.serving.messages message.number ≡ Some message
  taken : IsTrue (was_taken (message_of S.serving.messages message.number))

named : (S : State) (t : ObjNo) (row : ThreadRow) (y : ℕ) (message : Message) → message_at S t row y ≡ Some message → Names S message
named S t row y message e =
    let found = message_of S.serving.messages (record { 0 = slice_index row.messages y }) in
    let here = at_number S _ message (taken_is S t found message e) in
    record { here = here; taken = ap was_taken here ∙ taken_was S t found message e }

-- and so are the ends of the copy
same_ends : (S : State) (t : ObjNo) (row : ThreadRow) (message : Message) (job : Job) → thread_of S t ≡ Some row
    → message_of S.serving.messages message.number ≡ Some message → job.m ≡ message.number → job.caller ≡ t
    → ends_of S.references.threads S.serving.messages job ≡ message_ends S row message job.arg
same_ends S t row message job is here number caller =
    ap (λ (found : Option MsgRow). ends_at S.references.threads found job)
    (ap (λ (m : MsgNo). option_map (λ (x : Message). x.row) (message_of S.serving.messages m)) number
    ∙ ap (option_map (λ (x : Message). x.row)) here)
    ∙ ap (λ (r : Option ThreadRow). ends_between (thread_of S message.row.client) r message.row job.arg) (ap (thread_of S) caller ∙ is)

-- a step that isn't the last of its instruction
fits-early : {script : Script} {S : State} {t : ObjNo} (row : ThreadRow) (d : Decision) (p : Option Part) → row.part ≡ p
    → (begun row.part ≡ 0 → FitsDecision looking script t S d) → FitsDecision looking script t S (unless_done p d)
fits-early {script = script} {S = S} {t = t} row d (Some part.Done) at fits = fits-nothing script S t
fits-early row d _ at fits = fits (ap begun at)

-- `read`
pub fits-read : {script : Script} {S : State} {t : ObjNo} {row : ThreadRow} (y arg offset size at : ℕ) (p : Option Part)
    → IsStepping script S t row (instr.Read y arg offset size at) → row.part ≡ p
    → FitsDecision looking script t S (read_step S t row y arg offset size at p)
fits-read {script = script} {S = S} {t = t} {row = row} y arg offset size at p h is =
    fits-early row (read_piece S t row y arg offset size at) p is (λ early. by early (message_at S t row y) refl)
  where
    by : begun row.part ≡ 0 → (found : Option Message) → message_at S t row y ≡ found
        → FitsDecision looking script t S (read_from S t row arg offset size at found)
    by early None e = fits-refuse (Of word.Read part.Piece) refl error.BadHandle h
    by early (Some message) e =
        let names = named S t row y message e in
        let ends : Ends = message_ends S row message arg in
        let first : Job = first_job t message arg offset size at in
        let job : Job = next_job row first (read_size ends first) in
        let same = ap (λ (e : Ends). read_size e job) (same_ends S t row message job h.is names.here refl refl) in
        let few = (number_in 0 3 arg (instr_in (instr.Read y arg offset size at) h.ranges).1.0).1 in
        fits-piece (Of word.Read part.Piece) refl (Read job) (read_answer ends job) h early
        (record { taken = names.taken; arg = omega arith; done = omega arith })

-- `write`
pub fits-write : {script : Script} {S : State} {t : ObjNo} {row : ThreadRow} (y arg offset size from : ℕ)
    (p : Option Part)
    → IsStepping script S t row (instr.Write y arg offset size from) → row.part ≡ p
    → FitsDecision looking script t S (write_step S t row y arg offset size from p)
fits-write {script = script} {S = S} {t = t} {row = row} y arg offset size from p h is =
    fits-early row (write_piece S t row y arg offset size from) p is (λ early. by early (message_at S t row y) refl)
  where
    by : begun row.part ≡ 0 → (found : Option Message) → message_at S t row y ≡ found
        → FitsDecision looking script t S (write_from S t row arg offset size from found)
    by early None e = fits-refuse (Of word.Write part.Piece) refl error.BadHandle h
    by early (Some message) e =
        let names = named S t row y message e in
        let ends : Ends = message_ends S row message arg in
        let first : Job = first_job t message arg offset size from in
        let job : Job = next_job row first (write_size first) in
        let few = (number_in 0 3 arg (instr_in (instr.Write y arg offset size from) h.ranges).1.0).1 in
        fits-piece (Of word.Write part.Piece) refl (Write job) (write_answer ends job) h early
        (record { taken = names.taken; arg = omega arith; done = omega arith })
