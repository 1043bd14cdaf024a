-- The steps of `fill` and `peek`.
use Rattle.std.proofs.Common.{ℕ, ◌+◌, arith, refl}
use Rattle.std.specs.Prelude.{pos, nat_lt, [], ◌∷◌}
use Rattle.std.proofs.lemmas.Bool.{ltb-false}
use Rattle.sym_base.specs.declared.error.Error.TheVariants.{Argument}
use Rattle.sym_base.specs.declared.number.ObjNo.{ObjNo}
use Rattle.sym_base.specs.declared.word.Word.TheVariants as word
use Rattle.script_types.specs.declared.script.Script.{Script}
use Rattle.script_types.specs.declared.instruction.Instr.{Instr}
use Rattle.entry_log.specs.declared.step.Part.TheVariants as part
use Rattle.entry_log.specs.declared.step.Step.TheVariants.{Of}
use Rattle.state_rows.specs.declared.thread.ThreadRow.{ThreadRow}
use Rattle.machine.specs.declared.moves.Move.TheVariants.{Fill}
use Rattle.machine.specs.declared.state.State.{State}
use Rattle.machine.specs.Memory.{byte_of}
use Rattle.machine.specs.MemoryCalls.{fill_do, peek_do}
use Rattle.move_laws.proofs.Lists.Cases.{if_cases}
use Rattle.machine_laws.proofs.Fitting.KernelThreads.{fits-answer}
use Rattle.machine_laws.proofs.Fitting.Stepping.{FitsDecision, IsStepping, fits-answers, fits-refuse, ends_in}
use Rattle.machine_laws.proofs.Fitting.Regular.{looking}
use Rattle.machine_laws.proofs.Fitting.Tame.{tame-moves}

-- `fill`
pub fits-fill : {script : Script} {S : State} {t : ObjNo} {row : ThreadRow} {instr : Instr} (at length byte : ℕ)
    → IsStepping script S t row instr → FitsDecision looking script t S (fill_do t row at length byte)
fits-fill {script = script} {S = S} {t = t} {row = row} at length byte h =
    if_cases (FitsDecision looking script t S) (nat_lt 1024 (at + length)) _ _ (λ _. fits-refuse (Of word.Fill part.Do) refl Argument h)
    (λ within. fits-answers (Of word.Fill part.Do) refl (Fill row.process at length byte ∷ []) (pos 0)
    (tame-moves _ refl refl) (ltb-false 1024 (at + length) within, tt) (ends_in h refl) (omega arith) (omega arith))

-- `peek`
pub fits-peek : {script : Script} {S : State} {t : ObjNo} {row : ThreadRow} {instr : Instr} (at : ℕ)
    → IsStepping script S t row instr → FitsDecision looking script t S (peek_do S t row at)
fits-peek {S = S} {row = row} at h = fits-answer (Of word.Peek part.Do) refl (pos (byte_of S.services.memories row.process at)) h
