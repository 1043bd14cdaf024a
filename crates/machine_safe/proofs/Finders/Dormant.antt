-- An object that is alive without a reference: nobody finds it, and nobody gets a reference to it, but whoever is out on it.
use Rattle.std.proofs.Common.{◌≡◌, inl, inr, ◌<◌, List, [], ◌∷◌, get_or, arith, refl, sym, ap, subst, ◌∙◌, Bool, true, false, Some, None, ℕ, ◌+◌}
use Rattle.std.specs.Prelude.{◌==◌, ◌&&◌, is_some}
use Rattle.std.proofs.lemmas.Bool.{and_from, eq-eqb}
use Rattle.sym_base.specs.declared.number.ObjNo.{ObjNo}
use Rattle.script_types.specs.declared.script.Script.{Script}
use Rattle.entry_log.specs.declared.effect.Effect.{Effect}
use Rattle.entry_log.specs.declared.effect.Effect.TheVariants.{Seek}
use Rattle.entry_log.specs.declared.effect.Holder.{Holder}
use Rattle.state_rows.specs.declared.duty.Owed.{Owed}
use Rattle.state_rows.specs.declared.duty.Owed.TheVariants.{Close, Sweep}
use Rattle.state_rows.specs.declared.locks.Locked.TheVariants.{Taken}
use Rattle.state_rows.specs.declared.locks.Owner.{Owner}
use Rattle.state_rows.specs.declared.locks.Unlocked.TheVariants.{Freed, Passed}
use Rattle.state_rows.specs.Locks.{owner_at, best_waiter}
use Rattle.state_rows.specs.ObjectRows.{place_of}
use Rattle.machine.specs.declared.death_move.DeathMove.{DeathMove}
use Rattle.machine.specs.declared.death_move.DeathMove.TheVariants as death
use Rattle.machine.specs.declared.lock_move.LockMove.{LockMove}
use Rattle.machine.specs.declared.lock_move.LockMove.TheVariants as lock
use Rattle.machine.specs.declared.message_move.MessageMove.{MessageMove}
use Rattle.machine.specs.declared.message_move.MessageMove.TheVariants as message
use Rattle.machine.specs.declared.moves.Move.{Move}
use Rattle.machine.specs.declared.moves.Move.TheVariants.{Death, Find, Gain, Locks, Lose, Make, Messages, Miss, Nano, Open, Pay, Requests, Servers}
use Rattle.machine.specs.declared.nano_move.NanoMove.{NanoMove}
use Rattle.machine.specs.declared.nano_move.NanoMove.TheVariants as nano
use Rattle.machine.specs.declared.request_move.RequestMove.{RequestMove}
use Rattle.machine.specs.declared.request_move.RequestMove.TheVariants as request
use Rattle.machine.specs.declared.server_move.ServerMove.{ServerMove}
use Rattle.machine.specs.declared.server_move.ServerMove.TheVariants as server
use Rattle.machine.specs.declared.state.State.{State}
use Rattle.machine.specs.DeathMoves.{death_told}
use Rattle.machine.specs.Fits.{FitsMove, FitsLocks}
use Rattle.machine.specs.FitsServers.{FitsMessages, FitsServers}
use Rattle.machine.specs.Kept.{dies}
use Rattle.machine.specs.LockMoves.{lock_told}
use Rattle.machine.specs.MessageMoves.{message_told}
use Rattle.machine.specs.Moves.{closed_effects, moved, next_object, tell, told}
use Rattle.machine.specs.NanoMoves.{nano_told}
use Rattle.machine.specs.Out.{is_returning, seeks}
use Rattle.machine.specs.References.{count_of, mutex_names, pluses, same, total}
use Rattle.machine.specs.RequestMoves.{request_told}
use Rattle.machine.specs.Rows.{object_of, thread_of}
use Rattle.machine.specs.Choice.{priority_of}
use Rattle.machine.specs.ServerMoves.{server_told}
use Rattle.machine.specs.Told.{deaths, finds, removals}
use Rattle.machine.specs.WellFormed.{AreRows, IsAlive}
use Rattle.move_laws.proofs.Lists.Totals.{total_within}
use Rattle.move_laws.proofs.Lives.Bits.{alive_there, alive_undead}
use Rattle.move_laws.proofs.Lives.LivesMove.{zero_or}
use Rattle.move_laws.proofs.Lives.NewObjects.{next_number_is}
use Rattle.move_laws.proofs.MoveLaws.LockMoves.{passed_by}
use Rattle.move_laws.proofs.References.Effects.{pluses-append}
use Rattle.move_laws.proofs.References.Same.{if_is, same_is, same_other}
use Rattle.machine_laws.proofs.Fitting.Regular.{find_bit}
use Rattle.machine_laws.proofs.Sharing.Told.{is_beside, tell-is, told_by, total-same}
use Rattle.move_laws.proofs.MoveLaws.Run.{sound-move}
use Rattle.machine_safe.proofs.Finders.Moves.{seeks-le}
use Rattle.machine_laws.proofs.Sharing.Seekers.{turning_bit}
use Rattle.machine_safe.proofs.Serving.ActionMoves.{Doing, IsGoing, going-then}

-- finds are told by moves that find, and by them alone
abbrev found_by : ObjNo → Effect → ℕ
found_by o (Seek x) = same x o
found_by o _ = 0

finds-total : (effects : List Effect) (o : ObjNo) → finds effects o ≡ total (found_by o) effects
finds-total [] o = refl
finds-total (Seek x ∷ rest) o = ap (λ (n : ℕ). same x o + n) (finds-total rest o)
finds-total (_ ∷ rest) o = let r = finds-total rest o in omega arith

beside-none : (o : ObjNo) (e : Effect) → is_beside e ≡ true → found_by o e ≡ 0
beside-none o (Seek x) e = absurd (cc)
beside-none o _ e = refl

find-told : (o : ObjNo) (m : Move) → told_by (found_by o) m ≡ find_bit o m
find-told o (Lose h x) = refl
find-told o (Find u x) = refl
find-told o (Miss u x) = refl
find-told o (Pay (Close h x)) = refl
find-told o (Pay (Sweep x)) = refl
find-told o _ = refl

pub finds-tell : (t : ObjNo) (ms : List Move) (S : State) (o : ObjNo) → finds (tell t ms S) o ≡ total (find_bit o) ms
finds-tell t ms S o =
    finds-total (tell t ms S) o
    ∙ (tell-is (found_by o) (record { none = beside-none o }) t ms S
    ∙ total-same (told_by (found_by o)) (find_bit o) (find-told o) ms)

-- what has a reference is another object
counted-other : (S : State) (x o : ObjNo) → 0 < count_of S x → count_of S o ≡ 0 → same x o ≡ 0
counted-other S x o some none = zero_or (same x o) (λ at. let here = subst (λ (y : ObjNo). 0 < count_of S y) (same_is x o at) some in omega arith)

-- who owns a lock holds it, so something refers to that
owned-counted : (script : Script) (S : State) (x : ObjNo) (owner : Owner) → AreRows script S
    → owner_at S.synchronization.locks x ≡ Some owner → 0 < count_of S x
owned-counted script S x owner rows is =
    let held = rows.synchronization.locks.owned x owner is in
    let within = total_within (mutex_names x) S.synchronization.mutexes owner.thread.0 in omega arith

plus-closed : (last : Bool) (h : Holder) (x o : ObjNo) → pluses (closed_effects last h x) o ≡ 0
plus-closed true h x o = refl
plus-closed false h x o = refl

plus-nano : (m : NanoMove) (o : ObjNo) → pluses (nano_told m) o ≡ 0
plus-nano (nano.Take t f) o = refl
plus-nano (nano.Give t f) o = refl
plus-nano _ o = refl

plus-requests : (m : RequestMove) (o : ObjNo) → pluses (request_told m) o ≡ 0
plus-requests (request.Complete d t s code) o = refl
plus-requests (request.Signal t s code) o = refl
plus-requests (request.Reply t code) o = refl
plus-requests _ o = refl

plus-death : (m : DeathMove) (o : ObjNo) → pluses (death_told m) o ≡ 0
plus-death (death.Doom u exit) o = refl
plus-death (death.Bury u) o = refl
plus-death _ o = refl

pub plus-pay : (S : State) (what : Owed) (o : ObjNo) → pluses (told (Pay what) S) o ≡ 0
plus-pay S (Close h x) o = plus-closed (dies S x) h x o
plus-pay S (Sweep x) o = refl

-- the number of an object that is there isn't the next one
not_next : (S : State) (o : ObjNo) → is_some (object_of S o) ≡ true → o.0 ≡ (next_object S).0 → ⊥
not_next S o there at =
    let none = (next_number_is S.mode.reuse S.references.objects).1 in
    let nobody : is_some (object_of S o) ≡ false = ap (λ (n : ℕ). is_some (get_or S.references.objects n None)) at ∙ ap is_some none in cc

-- No move that fits adds a reference to an object that is there and has none, but one by which somebody comes back to it.
module _ (script : Script) (S : State) (t : ObjNo) (rows : AreRows script S) (o : ObjNo)
    (there : is_some (object_of S o) ≡ true) (none : count_of S o ≡ 0) where
  plus-locks : (m : LockMove) → FitsLocks t m S → pluses (lock_told m) o ≡ 0
  plus-locks (lock.Lock x v Taken) fits = let other = counted-other S x o fits.counted none in omega arith
  plus-locks (lock.Unlock x v Freed) fits = refl
  plus-locks (lock.Unlock x v (Passed w)) fits =
      let by = passed_by (owner_at S.synchronization.locks x) v w (best_waiter (priority_of S) S.synchronization.locks x) fits.1.answer in
      let other = counted-other S x o (owned-counted script S x by.0.own rows by.0.is) none in omega arith
  plus-locks (lock.Free x v None) fits = refl
  plus-locks (lock.Free x v (Some w)) fits =
      let other = counted-other S x o (owned-counted script S x fits.1.owns.owner rows fits.1.owns.is) none in
      omega arith
  plus-locks _ fits = refl

  plus-servers : (m : ServerMove) → FitsServers m S → pluses (server_told m) o ≡ 0
  plus-servers (server.Join s x slots v) fits = let other = counted-other S x o fits.counted none in omega arith
  plus-servers (server.End x) fits = refl
  plus-servers _ fits = refl

  plus-messages : (m : MessageMove) → FitsMessages m S → pluses (message_told m S.serving.messages) o ≡ 0
  plus-messages (message.Accept slots row) fits =
      let one = counted-other S row.session o fits.session none in
      let two = counted-other S row.client o fits.client none in
      omega arith
  plus-messages (message.Finish m code) fits = refl
  plus-messages _ fits = refl

  pub plus-none : (m : Move) → FitsMove script t m S → (0 < turning_bit m → seeks o (place_of (object_of S o)) (thread_of S t) ≡ 0)
      → pluses (told m S) o ≡ 0
  plus-none (Make kind name h) fits away = let other = same_other (next_object S) o (λ at. not_next S o there (sym at)) in omega arith
  plus-none (Gain h x) fits away = let other = counted-other S x o fits.1 none in omega arith
  plus-none (Lose h x) fits away = plus-closed (dies S x) h x o
  plus-none (Open v x part) fits away = zero_or (same x o + 0) (λ some.
      let here : x ≡ o = same_is x o (omega arith) in
      let back = fits.0.back in
      let place = place_of (object_of S o) in
      let sought : back.row.sought_place ≡ place = sym fits.0.same ∙ ap (λ (y : ObjNo). place_of (object_of S y)) here in
      let out : seeks o place (thread_of S t) ≡ same x o =
      ap (λ (y : ObjNo). seeks o place (thread_of S y)) (sym fits.1)
      ∙ ap (seeks o place) back.is
      ∙ if_is (is_returning back.row.part && back.row.sought_place == place) (same back.row.sought o)
      (and_from (is_returning back.row.part) (back.row.sought_place == place) back.returns (eq-eqb back.row.sought_place place sought))
      ∙ ap (λ (y : ObjNo). same y o) back.found in
      let gone = away (omega arith) in omega arith)
  plus-none (Nano m) fits away = plus-nano m o
  plus-none (Requests m) fits away = plus-requests m o
  plus-none (Locks m) fits away = plus-locks m fits
  plus-none (Death m) fits away = plus-death m o
  plus-none (Servers m) fits away = plus-servers m fits
  plus-none (Messages m) fits away = plus-messages m fits.0
  plus-none (Pay what) fits away = absurd fits
  plus-none m fits away = refl

-- nor do several, nor a payment, if the object isn't found among them
plus-going : (script : Script) (S : State) (t : ObjNo) (ms : List Move) → IsGoing script S t ms → (o : ObjNo)
    → IsAlive (object_of S o) → count_of S o ≡ 0 → total (find_bit o) ms ≡ 0
    → (0 < total turning_bit ms → seeks o (place_of (object_of S o)) (thread_of S t) ≡ 0) → pluses (tell t ms S) o ≡ 0
plus-going script S t [] h o alive none unfound away = refl
plus-going script S t (m ∷ ms) h o alive none unfound away =
    let few = h.few in
    let there = alive_there (object_of S o) alive in
    let first = plus-none script S t h.sane.rows o there none m h.each.0 (λ some. away (omega arith)) in
    let lives = (sound-move script S t m h.each.0 (omega arith) h.sane).lives in
    let counts = lives.counts o in
    let undead = zero_or (deaths (told m S) o) (λ some. let last = lives.last o some in omega arith) in
    let unswept = zero_or (removals (told m S) o)
    (λ some. let swept = lives.removes o some in let undead_now = alive_undead (object_of S o) alive in omega arith) in
    let place = (lives.there o there unswept).1 in
    let out = seeks-le script S t m h.each.0 o (place_of (object_of S o)) in
    let rest = plus-going script (moved t m S) t ms (going-then script S t m ms h) o (lives.stays o alive undead) (omega arith)
    (omega arith) (λ some. let gone = away (omega arith) in
    ap (λ (n : ℕ). seeks o n (thread_of (moved t m S) t)) place
    ∙ (let zero : seeks o (place_of (object_of S o)) (thread_of (moved t m S) t) ≡ 0 = omega arith in zero)) in
    let both = pluses-append (told m S) (tell t ms (moved t m S)) o in omega arith

pub plus-doing : (script : Script) (S : State) (t : ObjNo) (ms : List Move) → Doing script S t ms → (o : ObjNo)
    → IsAlive (object_of S o) → count_of S o ≡ 0 → total (find_bit o) ms ≡ 0
    → (0 < total turning_bit ms → seeks o (place_of (object_of S o)) (thread_of S t) ≡ 0) → pluses (tell t ms S) o ≡ 0
plus-doing script S t ms does o alive none unfound away = elim does as (λ _. pluses (tell t ms S) o ≡ 0) [
  | inl goes ↦ plus-going script S t ms goes o alive none unfound away
  | inr other ↦ elim other as (λ _. pluses (tell t ms S) o ≡ 0) [
    | inl pays ↦
        ap (λ (l : List Move). pluses (tell t l S) o) pays.moves
        ∙ (pluses-append (told (Pay pays.what) S) [] o ∙ (let first = plus-pay S pays.what o in omega arith))
    | inr nothing ↦ ap (λ (l : List Move). pluses (tell t l S) o) nothing
  ]
]
