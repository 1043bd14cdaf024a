-- What each move does, and what the moves of an action do.
use Rattle.std.proofs.Common.{◌≡◌, ◌+◌, ◌<◌, ◌≤◌, List, [], ◌∷◌, length, arith, refl, sym, subst, Bool, true, false}
use Rattle.sym_base.specs.declared.number.ObjNo.{ObjNo}
use Rattle.script_types.specs.declared.script.Script.{Script}
use Rattle.entry_log.specs.declared.effect.Holder.{Holder}
use Rattle.entry_log.specs.declared.effect.Effect.{Effect}
use Rattle.state_rows.specs.declared.duty.Owed.{Owed}
use Rattle.state_rows.specs.declared.duty.Owed.TheVariants.{Close, Sweep}
use Rattle.machine.specs.declared.moves.Move.{Move}
use Rattle.machine.specs.declared.moves.Move.TheVariants.{Make, Gain, Lose, Find, Open, Miss, GoOn, Keep, Write, WriteMessage, PutDown, Advance, Wait, Wake, SetPriority, Nano, Deferred, Requests, Locks, Logons, Death, Servers, Messages, Fill, Copies, Pay}
use Rattle.machine.specs.declared.state.State.{State}
use Rattle.machine.specs.Rows.{owed_of}
use Rattle.machine.specs.Moves.{moved, told, perform, tell, closed_effects, link_of, owed_by_close, owed_use, use_of}
use Rattle.machine.specs.References.{total, RefsMove}
use Rattle.machine.specs.Kept.{dies}
use Rattle.machine.specs.Told.{removals}
use Rattle.machine.specs.Fits.{FitsMove, EachFits, Fits, Sane, most_owed}
use Rattle.machine.specs.WellFormed.{weight}
use Rattle.move_laws.proofs.References.Effects.{removals-append}
use Rattle.move_laws.proofs.RowLaws.Duties.{weight-owing}
use Rattle.move_laws.proofs.MoveLaws.Sound.{Sound, sound-then, sound-none}
use Rattle.move_laws.proofs.MoveLaws.NanoMoves.{sound-nano, nano_silent}
use Rattle.move_laws.proofs.MoveLaws.CallMoves.{sound-deferred, request_silent, sound-requests, sound-logons}
use Rattle.move_laws.proofs.MoveLaws.CopyMoves.{sound-copies}
use Rattle.move_laws.proofs.MoveLaws.DeathMoves.{death_silent, death_weight, sound-death}
use Rattle.move_laws.proofs.MoveLaws.LockMoves.{lock_removes, lock_weight, sound-locks}
use Rattle.move_laws.proofs.MoveLaws.RowMoves.{sound-fill, sound-find, sound-keep, sound-miss, sound-go_on, sound-write, sound-write_message, sound-wait, sound-wake, sound-priority}
use Rattle.move_laws.proofs.MoveLaws.Advance.{sound-advance, sound-put_down, use_weight}
use Rattle.move_laws.proofs.MoveLaws.Gains.{sound-gain, sound-make, sound-open}
use Rattle.move_laws.proofs.MoveLaws.Closes.{close_weight}
use Rattle.move_laws.proofs.MoveLaws.MessageMoves.{message_removes, message_weight, sound-messages}
use Rattle.move_laws.proofs.MoveLaws.ServerMoves.{server_removes, sound-servers}
use Rattle.move_laws.proofs.MoveLaws.Loses.{sound-lose}
use Rattle.move_laws.proofs.MoveLaws.Pays.{sound-pay_close, sound-pay_sweep}

-- what a move does that fits
pub sound-move : (script : Script) (S : State) (t : ObjNo) (m : Move) → FitsMove script t m S
    → total weight (owed_of S t) + most_owed m ≤ 12 → Sane script t S → Sound script S (moved t m S) (told m S)
sound-move script S t (Make kind name h) fits few s = sound-make script S t kind name h fits s.rows
sound-move script S t (Gain h o) fits few s = sound-gain script S t h o fits s.rows
sound-move script S t (Lose h o) fits few s = sound-lose script S t h o fits few s.inside s.rows
sound-move script S t (Find u o) fits few s = sound-find script S t u o fits s.rows
sound-move script S t (Open u o part) fits few s = sound-open script S t u o part fits s.rows
sound-move script S t (Miss u o) fits few s = sound-miss script S t u o fits s.rows
sound-move script S t (GoOn u part) fits few s = sound-go_on script S t u part fits s.rows
sound-move script S t (Keep u number) fits few s = sound-keep script S t u number fits s.rows
sound-move script S t (WriteMessage u y number) fits few s = sound-write_message script S t u y number s.rows
sound-move script S t (PutDown u) fits few s =
    sound-put_down script S t u fits (subst (λ (y : ObjNo). total weight (owed_of S y) + 4 ≤ 12) (sym fits.0) few)
    (subst (λ (y : ObjNo). y.0 < length S.references.threads) (sym fits.0) s.inside) s.rows
sound-move script S t (Servers m) fits few s = sound-servers script S t m fits s.rows
sound-move script S t (Messages m) fits few s = sound-messages script S t m fits few s.rows
sound-move script S t (Write u x value) fits few s = sound-write script S t u x value fits s.rows
sound-move script S t (Advance u) fits few s =
    sound-advance script S t u fits (subst (λ (y : ObjNo). total weight (owed_of S y) + 4 ≤ 12) (sym fits.0) few)
    (subst (λ (y : ObjNo). y.0 < length S.references.threads) (sym fits.0) s.inside) s.rows
sound-move script S t (Wait u what) fits few s = sound-wait script S t u what fits s.rows
sound-move script S t (Wake u) fits few s = sound-wake script S t u fits s.rows
sound-move script S t (SetPriority u priority) fits few s = sound-priority script S t u priority fits s.rows
sound-move script S t (Nano m) fits few s = sound-nano script S t m fits s.rows
sound-move script S t (Deferred m) fits few s = sound-deferred script S t m fits s.rows
sound-move script S t (Requests m) fits few s = sound-requests script S t m fits s.rows
sound-move script S t (Locks m) fits few s = sound-locks script S t m fits few s.rows
sound-move script S t (Logons m) fits few s = sound-logons script S t m fits s.rows
sound-move script S t (Death m) fits few s = sound-death script S t m fits few s.rows
sound-move script S t (Fill p at long byte) fits few s = sound-fill script S t p at long byte fits s.rows
sound-move script S t (Copies m) fits few s = sound-copies script S t m fits s.rows
sound-move script S t (Pay what) fits few s = absurd fits

-- what paying the oldest duty does
pub sound-pay : (script : Script) (S : State) (t : ObjNo) (what : Owed) (rest : List Owed) → owed_of S t ≡ what ∷ rest
    → Sane script t S → Sound script S (moved t (Pay what) S) (told (Pay what) S)
sound-pay script S t (Close h o) rest e s = sound-pay_close script S t h o rest e s.inside s.rows
sound-pay script S t (Sweep o) rest e s = sound-pay_sweep script S t o rest e s.inside s.rows

-- a move adds so much at most to the weight of what the thread owes
pub weight-move : (script : Script) (S : State) (t : ObjNo) (m : Move) → FitsMove script t m S
    → total weight (owed_of (moved t m S) t) ≤ total weight (owed_of S t) + most_owed m
weight-move script S t (Lose h o) fits =
    let a = weight-owing S.references.owed t (owed_by_close (dies S o) o (link_of S o)) in
    let b = close_weight (dies S o) o (link_of S o) in
    omega arith
weight-move script S t (Advance u) fits = subst (λ (y : ObjNo). total weight (owed_of (moved t (Advance u) S) y) ≤ total weight (owed_of S y) + 4) fits.0
    (let a = weight-owing S.references.owed u (owed_use u (use_of S u)) in let b = use_weight u (use_of S u) in omega arith)
weight-move script S t (PutDown u) fits = subst (λ (y : ObjNo). total weight (owed_of (moved t (PutDown u) S) y) ≤ total weight (owed_of S y) + 4) fits.0
    (let a = weight-owing S.references.owed u (owed_use u (use_of S u)) in let b = use_weight u (use_of S u) in omega arith)
weight-move script S t (Messages m) fits = message_weight S t m
weight-move script S t (Locks m) fits = lock_weight script S t m fits
weight-move script S t (Death m) fits = death_weight S t m
weight-move script S t (Pay what) fits = absurd fits
weight-move script S t _ fits = omega arith

close_removes : (last : Bool) (h : Holder) (o p : ObjNo) → removals (closed_effects last h o) p ≡ 0
close_removes true h o p = refl
close_removes false h o p = refl

-- a move that fits sweeps nothing
move_removes : (script : Script) (S : State) (t : ObjNo) (m : Move) (p : ObjNo) → FitsMove script t m S → removals (told m S) p ≡ 0
move_removes script S t (Lose h o) p fits = close_removes (dies S o) h o p
move_removes script S t (Nano m) p fits = (nano_silent S m).quiet.removals p
move_removes script S t (Requests m) p fits = (request_silent S m).quiet.removals p
move_removes script S t (Locks m) p fits = lock_removes m p
move_removes script S t (Death m) p fits = (death_silent S m).quiet.removals p
move_removes script S t (Servers m) p fits = server_removes m p
move_removes script S t (Messages m) p fits = message_removes m S p
move_removes script S t (Pay what) p fits = absurd fits
move_removes script S t _ p fits = refl

moves_remove : (script : Script) (S : State) (t : ObjNo) (ms : List Move) (p : ObjNo) → EachFits script t ms S → removals (tell t ms S) p ≡ 0
moves_remove script S t [] p fits = refl
moves_remove script S t (m ∷ ms) p fits =
    let a = removals-append (told m S) (tell t ms (moved t m S)) p in
    let b = move_removes script S t m p fits.0 in
    let c = moves_remove script (moved t m S) t ms p fits.1 in omega arith

-- the thread that acts is there still
pub sane-after : (script : Script) (S T : State) (t : ObjNo) (effects : List Effect) → Sane script t S → Sound script S T effects → Sane script t T
sane-after script S T t effects s h = record { rows = h.rows; inside = let a = h.long in let b = s.inside in omega arith }

pub each-sound : (script : Script) (S : State) (t : ObjNo) (ms : List Move) → EachFits script t ms S
    → total weight (owed_of S t) + total most_owed ms ≤ 12 → Sane script t S
    → Sound script S (perform t ms S) (tell t ms S)
each-sound script S t [] fits few s = sound-none script S s.rows
each-sound script S t (m ∷ ms) fits few s =
    let T = moved t m S in
    let one = sound-move script S t m fits.0 (omega arith) s in
    let w = weight-move script S t m fits.0 in
    sound-then script S T (perform t ms T) (told m S) (tell t ms T) one
    (each-sound script T t ms fits.1 (omega arith) (sane-after script S T t (told m S) s one))
    (λ p. move_removes script S t m p fits.0) (λ p. moves_remove script T t ms p fits.1)

-- what the moves of an action do
pub sound-moves : (script : Script) (S : State) (t : ObjNo) (ms : List Move) → Fits script t ms S → Sane script t S
    → Sound script S (perform t ms S) (tell t ms S)
sound-moves script S t ms fits s = each-sound script S t ms fits.each fits.few s

-- references move as a move tells, and as the moves of an action tell
pub refs-of : (script : Script) (S T : State) (effects : List Effect) → Sound script S T effects → RefsMove S T effects
refs-of script S T effects h = record { each = h.lives.counts }
