-- What is known where a thread makes a step of an instruction, and how its answers fit.
use Rattle.state_rows.specs.Nano.{wanted_holder}
use Rattle.std.proofs.Common.{◌≡◌, ℕ, ℤ, ◌<◌, ◌≤◌, List, [], ◌∷◌, ◌++◌, ◌+◌, length, get_or, arith, refl, sym, ap, subst, ◌∙◌, Option, Some, None, true, false, ◌-◌, ◌*◌}
use Rattle.std.specs.Prelude.{option_map}
use Rattle.std.proofs.lemmas.List.{length-append}
use Rattle.sym_base.specs.declared.error.Error.{Error}
use Rattle.sym_base.specs.declared.number.ObjNo.{ObjNo}
use Rattle.script_types.specs.declared.script.Script.{Script}
use Rattle.script_types.specs.declared.instruction.Instr.{Instr}
use Rattle.script_types.specs.declared.source_line.SourceLine.TheVariants as line
use Rattle.script_types.specs.Ranges.{is_source_line}
use Rattle.script_types.specs.Resolves.{instr_resolves}
use Rattle.script_types.specs.Shape.{HasRegisters}
use Rattle.entry_log.specs.declared.effect.Holder.TheVariants.{Temp}
use Rattle.entry_log.specs.declared.step.Part.{Part}
use Rattle.entry_log.specs.declared.step.Step.{Step}
use Rattle.entry_log.specs.declared.step.Part.TheVariants.{Return, Done}
use Rattle.machine.specs.Serving.{begun, numbers_left}
use Rattle.machine.specs.declared.decision.Decision.{Decision}
use Rattle.machine.specs.declared.moves.Move.{Move}
use Rattle.machine.specs.declared.moves.Move.TheVariants.{GoOn, Gain, Write, Advance}
use Rattle.state_rows.specs.declared.thread.Role.{Role}
use Rattle.state_rows.specs.declared.thread.Role.TheVariants.{Supervisor, Queue, Declared}
use Rattle.state_rows.specs.declared.thread.Stage.TheVariants.{Live}
use Rattle.state_rows.specs.declared.thread.Waiting.TheVariants as waiting
use Rattle.state_rows.specs.declared.thread.ThreadRow.{ThreadRow}
use Rattle.machine.specs.declared.state.State.{State}
use Rattle.machine.specs.Rows.{thread_of, owed_of, with_row}
use Rattle.machine.specs.Moves.{moved, perform, tell, told, with_part, with_register}
use Rattle.machine.specs.Decide.{nothing, answer, answer_handle, refuse, go_on}
use Rattle.machine.specs.References.{count_of, stage_holds, total}
use Rattle.machine.specs.HeldIn.{owed_by}
use Rattle.machine.specs.Task.{instruction, instructions_of, served_queue}
use Rattle.machine.specs.Out.{is_returning, part_of}
use Rattle.machine.specs.Fits.{EachFits, most_told, most_owed, IsAtInstruction, IsBack, MayGoOn, IsFree, IsLive, IsUnspent}
use Rattle.machine.specs.WellFormed.{AreRows, is_before_use, is_spent, IsLiveThread}
use Rattle.move_laws.proofs.Holders.ThreadRows.{row-here}
use Rattle.move_laws.proofs.Lists.Totals.{inside, total-append, total-with}
use Rattle.move_laws.proofs.Numbers.FewEffects.{tell_few}
use Rattle.move_laws.proofs.MoveLaws.RowMoves.{names-map}
use Rattle.move_laws.proofs.References.Counts.{count-with_row, kernel-with_row}
use Rattle.move_laws.proofs.RowLaws.Duties.{paid-with_row}
use Rattle.move_laws.proofs.RowLaws.MessagesKept.{begun_one}
use Rattle.move_laws.proofs.RowLaws.Threads.{row-kept, map_some}
use Rattle.machine_laws.proofs.Fitting.Regular.{IsRegular, IsTame, Kinds}
use Rattle.machine_laws.proofs.Fitting.Tame.{may_tell, regular-answer, regular-use, tame, tame-both, tame-moves}
use Rattle.move_laws.proofs.MoveLaws.Gains.{later_goes}

-- the moves of a decision fit, what they tell and owe is little, and it is regular for its kind
pub record FitsDecision (k : Kinds) (script : Script) (t : ObjNo) (S : State) (d : Decision) : Type 0 where
  pub each : EachFits script t d.moves S
  pub told : total most_told d.moves ≤ 4
  pub light : total most_owed d.moves ≤ 12
  pub regular : IsRegular k script S t d

-- the same of moves that tell no more than that, although each of their kinds may tell more
pub record FitsStep (k : Kinds) (script : Script) (t : ObjNo) (S : State) (d : Decision) : Type 0 where
  pub each : EachFits script t d.moves S
  pub told : length (tell t d.moves S) ≤ 4
  pub light : total most_owed d.moves ≤ 12
  pub regular : IsRegular k script S t d

pub by_kinds : {k : Kinds} (script : Script) (S : State) (t : ObjNo) (d : Decision) → FitsDecision k script t S d → FitsStep k script t S d
by_kinds script S t d fits = record {
  each = fits.each;
  told = let few = fits.told in let most = tell_few t d.moves S in omega arith;
  light = fits.light;
  regular = fits.regular;
}

-- thread t is about to make a step of this instruction: it is live and isn't between a find and its return, owes nothing, doesn't wait, and wants no
-- fast mutex that is held; and the instruction is one of a well-formed script
pub record IsStepping (script : Script) (S : State) (t : ObjNo) (row : ThreadRow) (instr : Instr) : Type 0 where
  pub rows : AreRows script S
  pub is : thread_of S t ≡ Some row
  pub next : row.next_instruction < length (instructions_of script row.role)
  pub paid : owed_of S t ≡ []
  pub registers : HasRegisters instr
  pub names : instr_resolves script instr ≡ true
  pub ranges : is_source_line (line.Instr instr) ≡ true
  pub live : row.stage ≡ Live
  pub going : is_returning row.part ≡ false
  pub waits : row.waiting ≡ waiting.Nothing
  pub free : wanted_holder S.synchronization.nano t ≡ None
  pub early : row.next_instruction < 16384
  pub at : instruction script row ≡ Some instr

pub fits-nothing : {k : Kinds} (script : Script) (S : State) (t : ObjNo) → FitsDecision k script t S nothing
fits-nothing script S t = record { each = tt; told = omega arith; light = omega arith; regular = tame _ refl }

-- such a thread has a request semaphore
pub has_signals : {script : Script} {S : State} {t : ObjNo} {row : ThreadRow} {instr : Instr}
    → IsStepping script S t row instr → t.0 < length S.synchronization.requests.signals
has_signals {S = S} {t = t} {row = row} h =
    let within = inside S.references.threads t.0 row h.is in
    let long = h.rows.synchronization.requests.sized in
    omega arith

-- and serves no queue, since it has an instruction
pub serves_none : (script : Script) (role : Role) (n : ℕ) → n < length (instructions_of script role) → served_queue role ≡ None
serves_none script Supervisor n lt = absurd (omega arith)
serves_none script (Queue queue) n lt = absurd (omega arith)
serves_none script (Declared k) n lt = refl

pub at_instruction : {script : Script} {S : State} {t : ObjNo} {row : ThreadRow} {instr : Instr} → IsStepping script S t row instr → IsAtInstruction script S t
at_instruction {row = row} h = record { row = row; is = h.is; next = h.next }

-- and isn't between a find and its return
pub is_there : {script : Script} {S : State} {t : ObjNo} {row : ThreadRow} {instr : Instr} → IsStepping script S t row instr → IsBack S t
is_there h = ap (λ (r : Option ThreadRow). is_returning (part_of r)) h.is ∙ h.going

-- its last step leaves two messages fewer to its instructions
pub fewer-left : {script : Script} {S : State} {t : ObjNo} {row : ThreadRow} {instr : Instr}
    → IsStepping script S t row instr → begun row.part ≡ 0
    → total numbers_left (with_row S.references.threads t (with_part Done)) + 2
    ≤ total numbers_left S.references.threads
fewer-left {S = S} {t = t} {row = row} h first =
    let all = total-with numbers_left (option_map (with_part Done)) None S.references.threads t.0 refl in
    let old : numbers_left (thread_of S t) ≡ 2 * (16384 - (row.next_instruction + 0)) =
    ap numbers_left h.is ∙ ap (λ (n : ℕ). 2 * (16384 - (row.next_instruction + n))) first in
    let new : numbers_left (option_map (with_part Done) (thread_of S t)) ≡ 2 * (16384 - (row.next_instruction + 1)) =
    ap (λ (r : Option ThreadRow). numbers_left (option_map (with_part Done) r)) h.is in
    let early = h.early in omega arith

-- a change of a row that leaves the thread at its instruction, and out of a find
pub record KeepsInstruction (f : ThreadRow → ThreadRow) : Type 0 where
  pub role : (row : ThreadRow) → (f row).role ≡ row.role
  pub next : (row : ThreadRow) → (f row).next_instruction ≡ row.next_instruction
  pub going : (row : ThreadRow) → is_returning row.part ≡ false → is_returning (f row).part ≡ false

-- where a thread is
abbrev pub at_of : ThreadRow → Role × ℕ × Option Part
at_of row = (row.role, row.next_instruction, row.part)

-- a change of a row that leaves that
pub leaves_at : {f : ThreadRow → ThreadRow} → ((row : ThreadRow) → at_of (f row) ≡ at_of row) → KeepsInstruction f
leaves_at same = record {
  role = λ row. ap (λ (at : Role × ℕ × Option Part). at.0) (same row);
  next = λ row. ap (λ (at : Role × ℕ × Option Part). at.1) (same row);
  going = λ row e. ap (λ (at : Role × ℕ × Option Part). is_returning at.2) (same row) ∙ e;
}

-- a thread may end its instruction: it is at one, and isn't between a find and its return
pub record MayEndStep (script : Script) (S : State) (t : ObjNo) : Type 0 where
  pub back : IsBack S t
  pub at : IsAtInstruction script S t

-- also where other rows change
pub ends-same : (script : Script) (S T : State) (t : ObjNo) → T.references.threads ≡ S.references.threads → MayEndStep script S t → MayEndStep script T t
ends-same script S T t same ends = record {
  back = ap (λ (threads : List (Option ThreadRow)). is_returning (part_of (get_or threads t.0 None))) same ∙ ends.back;
  at = record { row = ends.at.row; is = ap (λ (threads : List (Option ThreadRow)). get_or threads t.0 None) same ∙ ends.at.is; next = ends.at.next };
}

pub ends_here : {script : Script} {S : State} {t : ObjNo} {row : ThreadRow} {instr : Instr} → IsStepping script S t row instr → MayEndStep script S t
ends_here h = record { back = is_there h; at = at_instruction h }

-- a thread may still
pub at-with_row : (script : Script) (S T : State) (t u : ObjNo) (f : ThreadRow → ThreadRow) → KeepsInstruction f
    → T.references.threads ≡ with_row S.references.threads u f → MayEndStep script S t → MayEndStep script T t
at-with_row script S T t u f keeps threads ends =
    let at = ends.at in
    let r = row-kept S.references.threads u f t.0 at.row (λ (row : ThreadRow). row.next_instruction < length (instructions_of script row.role))
    (λ row h. rw (keeps.role row, keeps.next row) h) at.is at.next in
    record {
      back =
          ap (λ (threads : List (Option ThreadRow)). is_returning (part_of (get_or threads t.0 None))) threads
          ∙ (paid-with_row S.references.threads u f keeps.going t.0).going ends.back;
      at = record { row = r.0; is = ap (λ (threads : List (Option ThreadRow)). get_or threads t.0 None) threads ∙ r.1; next = r.2 };
    }

pub ends_in : {script : Script} {S T : State} {t : ObjNo} {row : ThreadRow} {instr : Instr}
    → IsStepping script S t row instr → T.references.threads ≡ S.references.threads → MayEndStep script T t
ends_in {script = script} {S = S} {T = T} {t = t} h same = ends-same script S T t same (ends_here h)

pub fits-refuse : {k : Kinds} {script : Script} {S : State} {t : ObjNo} {row : ThreadRow} {instr : Instr} (told : Step)
    (named : may_tell k told ≡ true) (error : Error)
    → IsStepping script S t row instr → FitsDecision k script t S (refuse t told error)
fits-refuse told named error h = record { each = ((refl, is_there h, at_instruction h), tt); told = omega arith; light = omega arith; regular = tame _ named }

-- a thread has one row
pub same_row : {script : Script} {S : State} {t : ObjNo} {row : ThreadRow} {instr : Instr}
    → IsStepping script S t row instr → (P : ThreadRow → Type 0) → P row → (r : ThreadRow) → thread_of S t ≡ Some r
    → P r
same_row {row = row} h P p r is = let same : row ≡ r = let a = h.is in cc in subst P same p

-- it is live, and so isn't cleaned
pub unspent : {script : Script} {S : State} {t : ObjNo} {row : ThreadRow} {instr : Instr} → IsStepping script S t row instr → IsUnspent S t
unspent h = same_row h (λ x. is_spent x.stage ≡ false) (ap is_spent h.live)

pub stepping_live : {script : Script} {S : State} {t : ObjNo} {row : ThreadRow} {instr : Instr} → IsStepping script S t row instr → IsLive S t
stepping_live h = same_row h (λ x. x.stage ≡ Live) h.live

pub live_thread : {script : Script} {S : State} {t : ObjNo} {row : ThreadRow} {instr : Instr}
    → IsStepping script S t row instr → IsLiveThread S.references.threads t
live_thread {row = row} h = record { row = row; is = h.is; live = h.live }

-- and stays so where its row changes otherwise
pub live-changed : (S T : State) (t : ObjNo) (f : ThreadRow → ThreadRow)
    → ((row : ThreadRow) → (f row).stage ≡ row.stage) → T.references.threads ≡ with_row S.references.threads t f
    → IsLive S t → IsLive T t
live-changed S T t f keeps same h = λ r is.
    let was = map_some f (thread_of S t) r (sym (row-here S.references.threads t f t.0 refl)
    ∙ (ap (λ (threads : List (Option ThreadRow)). get_or threads t.0 None) (sym same) ∙ is)) in
    subst (λ (x : ThreadRow). x.stage ≡ Live) was.2 (keeps was.0 ∙ h was.0 was.1)

-- a step before the use of anything is the last of no instruction
pub before_begins : (p : Option Part) → is_before_use p ≡ true → begun p ≡ 0
before_begins None e = refl
before_begins (Some Return) e = refl
before_begins (Some _) e = absurd (cc)

-- a thread goes on to a step in which it uses something, or to the last of its instruction
pub may_go_on : {script : Script} {S : State} {t : ObjNo} {row : ThreadRow} {instr : Instr} (part : Part)
    → IsStepping script S t row instr → begun row.part ≤ begun (Some part) → is_before_use (Some part) ≡ false
    → MayGoOn S t (Some part)
may_go_on part h ends later = record {
  unused = λ r is before. absurd (cc);
  going = is_there h;
  unspent = unspent h;
  other = later_goes (Some part) later;
  ends = same_row h (λ x. begun x.part ≤ begun (Some part)) ends;
}

-- and isn't between a find and its return then
pub goes-back : {script : Script} {S : State} {t : ObjNo} {row : ThreadRow} {instr : Instr}
    → IsStepping script S t row instr → (part : Part) → is_returning (Some part) ≡ false
    → IsBack (moved t (GoOn t part) S) t
goes-back {S = S} {t = t} h part other =
    ap (λ (r : Option ThreadRow). is_returning (part_of r))
    (row-here S.references.threads t (with_part part) t.0 refl ∙ ap (option_map (with_part part)) h.is)
    ∙ other

pub last_step : {script : Script} {S : State} {t : ObjNo} {row : ThreadRow} {instr : Instr} → IsStepping script S t row instr → MayGoOn S t (Some Done)
last_step {row = row} h = may_go_on Done h (begun_one row.part) refl

-- a change of a row that leaves its references leaves the counts
pub counted-with_row : (S : State) (u : ObjNo) (f : ThreadRow → ThreadRow)
    → ((row : ThreadRow) → (f row).link ≡ row.link) → ((row : ThreadRow) → (f row).uses ≡ row.uses)
    → ((row : ThreadRow) → (f row).stage ≡ row.stage) → (o : ObjNo) → 0 < count_of S o
    → 0 < count_of (record S { references = record S.references { threads = with_row S.references.threads u f } }) o
counted-with_row S u f link uses stage o some =
    let a = count-with_row S.references.threads u f o in
    let b = kernel-with_row S.references.threads u f o (λ row is. ap stage_holds (stage row)) in
    let c = (names-map f (thread_of S u) o (record { link = link; uses = uses })).2 in omega arith

-- and uses an object from then on
pub fits-use : {k : Kinds} {script : Script} {S : State} {t : ObjNo} {row : ThreadRow} {instr : Instr} (told : Step)
    (named : may_tell k told ≡ true) (o : ObjNo) (part : Part)
    → k.uses ≡ true → k.goes ≡ true → IsStepping script S t row instr → is_before_use row.part ≡ true
    → is_before_use (Some part) ≡ false → 0 < count_of S o
    → FitsDecision k script t S (go_on t told (Gain (Temp t) o) part)
fits-use {script = script} {S = S} {t = t} {row = row} told named o part uses goes h before later counted = record {
  each = ((may_go_on part h (let none = before_begins row.part before in omega arith) later, refl), ((free, still, refl), tt));
  told = omega arith;
  light = omega arith;
  regular = regular-use t told o part named uses goes;
}
  where
    free : IsFree (moved t (GoOn t part) S) (Temp t)
    free = record {
      row = with_part part row;
      is = row-here S.references.threads t (with_part part) t.0 refl ∙ ap (option_map (with_part part)) h.is;
      later = later;
      unused = (h.rows.references.threads.rows t.0 row h.is).unused before;
      unspent = unspent h row h.is;
      paid = λ x. ap (total (owed_by (Temp t) x)) h.paid;
    }

    still : 0 < count_of (moved t (GoOn t part) S) o
    still = counted-with_row S t (with_part part) (λ r. refl) (λ r. refl) (λ r. refl) o counted

-- moves fit behind others, in the state that those leave
pub fits-both : (script : Script) (S : State) (t : ObjNo) (xs ys : List Move) → EachFits script t xs S
    → EachFits script t ys (perform t xs S) → EachFits script t (xs ++ ys) S
fits-both script S t [] ys h more = more
fits-both script S t (m ∷ xs) ys h more = (h.0, fits-both script (moved t m S) t xs ys h.1 more)

pub perform-append : (t : ObjNo) (xs ys : List Move) (S : State) → perform t (xs ++ ys) S ≡ perform t ys (perform t xs S)
perform-append t [] ys S = refl
perform-append t (m ∷ xs) ys S = perform-append t xs ys (moved t m S)

-- an answer after moves that fit and leave the thread at its instruction
pub fits-answers : {k : Kinds} {script : Script} {S : State} {t : ObjNo} (told : Step) (named : may_tell k told ≡ true)
    (ms : List Move) (code : ℤ)
    → IsTame k 0 ms → EachFits script t ms S → MayEndStep script (perform t ms S) t → total most_told ms ≤ 4
    → total most_owed ms ≤ 8 → FitsDecision k script t S (answer t told ms code)
fits-answers {script = script} {S = S} {t = t} told named ms code calm each at few light =
    let all_told = total-append most_told ms (Advance t ∷ []) in
    let all_owed = total-append most_owed ms (Advance t ∷ []) in
    record {
      each = fits-both script S t ms (Advance t ∷ []) each ((refl, at.back, at.at), tt);
      told = omega arith;
      light = omega arith;
      regular = regular-answer told ms code named calm;
    }

-- what moves tell and what others tell behind them
tell-append : (t : ObjNo) (ms more : List Move) (S : State) → length (tell t (ms ++ more) S) ≡ length (tell t ms S) + length (tell t more (perform t ms S))
tell-append t [] more S = omega arith
tell-append t (m ∷ ms) more S =
    let rest = tell-append t ms more (moved t m S) in
    let whole = length-append (told m S) (tell t (ms ++ more) (moved t m S)) in
    let first = length-append (told m S) (tell t ms (moved t m S)) in omega arith

-- the same after moves of which it is known what they tell
pub answers_step : {k : Kinds} {script : Script} {S : State} {t : ObjNo} (told : Step) (named : may_tell k told ≡ true)
    (ms : List Move) (code : ℤ)
    → IsTame k 0 ms → EachFits script t ms S → MayEndStep script (perform t ms S) t → length (tell t ms S) ≤ 4
    → total most_owed ms ≤ 8 → FitsStep k script t S (answer t told ms code)
answers_step {script = script} {S = S} {t = t} told named ms code calm each at few light =
    let all_told = tell-append t ms (Advance t ∷ []) S in
    let all_owed = total-append most_owed ms (Advance t ∷ []) in
    record {
      each = fits-both script S t ms (Advance t ∷ []) each ((refl, at.back, at.at), tt);
      told = omega arith;
      light = omega arith;
      regular = regular-answer told ms code named calm;
    }

-- a new handle's number, after moves that fit and leave the threads
pub fits-handle : {k : Kinds} {script : Script} {S : State} {t : ObjNo} {row : ThreadRow} {instr : Instr} (told : Step)
    (named : may_tell k told ≡ true) (ms : List Move) (x number : ℕ)
    → IsTame k 0 ms → IsStepping script S t row instr → x < 8 → EachFits script t ms S
    → (perform t ms S).references.threads ≡ S.references.threads → total most_told ms ≤ 4 → total most_owed ms ≤ 8
    → FitsDecision k script t S (answer_handle t told ms x number)
fits-handle {script = script} {S = S} {t = t} told named ms x number calm h register each stays few light =
    let more = Write t x number ∷ [] in
    let all_told = total-append most_told ms more in
    let all_owed = total-append most_owed ms more in
    let at = at-with_row script S (perform t more (perform t ms S)) t t (with_register x number)
    (leaves_at (λ r. refl))
    (ap (λ (threads : List (Option ThreadRow)). with_row threads t (with_register x number)) stays) (ends_here h) in
    fits-answers told named (ms ++ more) _ (tame-both ms more (let few = calm.loses in omega arith) calm
    (tame-moves more refl refl)) (fits-both script S t ms more each (register, tt))
    (subst (λ (T : State). MayEndStep script T t) (sym (perform-append t ms more S)) at) (omega arith) (omega arith)
