-- Who is out, and on what: a move leaves that of every thread, but for one by which its own thread finds an object or comes back to one.
use Rattle.std.proofs.Common.{◌≡◌, inl, inr, ℕ, ◌<◌, List, [], ◌∷◌, length, get_or, arith, refl, sym, ap, ◌∙◌, Bool, true, false, Option, Some, None}
use Rattle.std.specs.Prelude.{◌==◌, ◌&&◌, option_map}
use Rattle.std.proofs.lemmas.Bool.{and_from, and_left, cases_eq, cases_lt, eq-eqb}
use Rattle.std.proofs.lemmas.List.{get_or_past}
use Rattle.sym_base.specs.declared.number.ObjNo.{ObjNo}
use Rattle.script_types.specs.declared.script.Script.{Script}
use Rattle.entry_log.specs.declared.effect.Holder.{Holder}
use Rattle.entry_log.specs.declared.effect.Holder.TheVariants.{Temp}
use Rattle.state_rows.proofs.SoundChanges.{set_item}
use Rattle.state_rows.specs.ObjectRows.{place_of}
use Rattle.state_rows.specs.declared.duty.Owed.{Owed}
use Rattle.state_rows.specs.declared.duty.Owed.TheVariants.{Close, Sweep}
use Rattle.state_rows.specs.declared.thread.ThreadRow.{ThreadRow}
use Rattle.state_rows.specs.declared.thread.Waiting.TheVariants as waiting
use Rattle.machine.specs.declared.death_move.DeathMove.{DeathMove}
use Rattle.machine.specs.declared.death_move.DeathMove.TheVariants.{Bury, Clean, Doom, Note}
use Rattle.machine.specs.declared.moves.Move.{Move}
use Rattle.machine.specs.declared.moves.Move.TheVariants.{Advance, Death, Find, Gain, GoOn, Keep, Lose, Make, Miss, Open, Pay, PutDown, SetPriority, Wait, Wake, Write, WriteMessage}
use Rattle.machine.specs.declared.state.State.{State}
use Rattle.machine.specs.DeathMoves.{death_row, death_thread}
use Rattle.machine.specs.Fits.{ComesBack, FitsMove}
use Rattle.machine.specs.Kept.{dies}
use Rattle.machine.specs.Moves.{advanced, moved, next_object, threads_closed, threads_gain, threads_lose, unlinked, with_found, with_kept, with_message, with_missed, with_opened, with_part, with_priority, with_register, with_use, with_waiting}
use Rattle.machine.specs.Out.{is_returning, seeks}
use Rattle.machine.specs.References.{same}
use Rattle.machine.specs.Rows.{object_of, owed_of, thread_of, with_row}
use Rattle.machine.specs.WellFormed.{AreRows}
use Rattle.move_laws.proofs.Holders.ThreadRows.{row-here, row-other}
use Rattle.move_laws.proofs.Lives.Outs.{KeepsSeeks, seeks-back, seeks_is}
use Rattle.move_laws.proofs.MoveLaws.Pays.{sweep-over}
use Rattle.move_laws.proofs.MoveLaws.RowMoves.{is_back}
use Rattle.move_laws.proofs.References.Same.{if_is, if_not, same_self}

-- 1 for a move by which a thread finds an object or comes back to one
abbrev pub turning_bit : Move → ℕ
turning_bit (Find u o) = 1
turning_bit (Open u o part) = 1
turning_bit (Miss u o) = 1
turning_bit _ = 0

-- a change of one thread's row
seeks-map : (x : Option ThreadRow) (f : ThreadRow → ThreadRow) (o : ObjNo) (place : ℕ)
    → ((row : ThreadRow) → x ≡ Some row → KeepsSeeks f row) → seeks o place (option_map f x) ≡ seeks o place x
seeks-map None f o place keeps = refl
seeks-map (Some row) f o place keeps = keeps row refl o place

seeks-with : (threads : List (Option ThreadRow)) (v : ObjNo) (f : ThreadRow → ThreadRow)
    → ((row : ThreadRow) → get_or threads v.0 None ≡ Some row → KeepsSeeks f row) → (u o : ObjNo) (place : ℕ)
    → seeks o place (get_or (with_row threads v f) u.0 None) ≡ seeks o place (get_or threads u.0 None)
seeks-with threads v f keeps u o place =
    elim (cases_eq v.0 u.0) as (λ _. seeks o place (get_or (with_row threads v f) u.0 None)
    ≡ seeks o place (get_or threads u.0 None)) [
      | inl at ↦
          ap (seeks o place) (row-here threads v f u.0 at)
          ∙ (seeks-map (get_or threads v.0 None) f o place keeps ∙ ap (λ (n : ℕ). seeks o place (get_or threads n None)) at)
      | inr apart ↦ ap (seeks o place) (row-other threads v f u.0 apart)
    ]

-- a change of the acting thread's own row leaves another thread's
seeks-own : (threads : List (Option ThreadRow)) (t v : ObjNo) (f : ThreadRow → ThreadRow) (u o : ObjNo) (place : ℕ) → v ≡ t
    → (t.0 ≡ u.0 → ◌≡◌ {A = ℕ} 1 0)
    → seeks o place (get_or (with_row threads v f) u.0 None) ≡ seeks o place (get_or threads u.0 None)
seeks-own threads t v f u o place own stays =
    ap (seeks o place) (row-other threads v f u.0
    (λ at. let none = stays (sym (ap (λ (x : ObjNo). x.0) own) ∙ at) in absurd (omega arith)))

seeks-gained : (h : Holder) (x : ObjNo) (threads : List (Option ThreadRow)) (u o : ObjNo) (place : ℕ)
    → seeks o place (get_or (threads_gain h x threads) u.0 None) ≡ seeks o place (get_or threads u.0 None)
seeks-gained (Temp v) x threads u o place = seeks-with threads v (with_use (Some x)) (λ row is x p. refl) u o place
seeks-gained _ x threads u o place = refl

seeks-lost : (h : Holder) (threads : List (Option ThreadRow)) (u o : ObjNo) (place : ℕ)
    → seeks o place (get_or (threads_lose h threads) u.0 None) ≡ seeks o place (get_or threads u.0 None)
seeks-lost (Temp v) threads u o place = seeks-with threads v (with_use None) (λ row is x p. refl) u o place
seeks-lost _ threads u o place = refl

seeks-closed : (last : Bool) (x : ObjNo) (threads : List (Option ThreadRow)) (u o : ObjNo) (place : ℕ)
    → seeks o place (get_or (threads_closed last x threads) u.0 None) ≡ seeks o place (get_or threads u.0 None)
seeks-closed true x threads u o place = seeks-with threads x unlinked (λ row is x p. refl) u o place
seeks-closed false x threads u o place = refl

seeks-death : (m : DeathMove) (row : ThreadRow) → KeepsSeeks (death_row m) row
seeks-death (Note u exit) row o place = refl
seeks-death (Doom u exit) row o place = refl
seeks-death (Clean u) row o place = refl
seeks-death (Bury u) row o place = refl

-- what a move leaves of a thread, if it isn't by this one that the thread finds or comes back
pub seeks-same : (script : Script) (S : State) (t : ObjNo) (m : Move) → FitsMove script t m S → (u o : ObjNo) (place : ℕ)
    → (t.0 ≡ u.0 → turning_bit m ≡ 0) → seeks o place (thread_of (moved t m S) u) ≡ seeks o place (thread_of S u)
seeks-same script S t (Make kind name h) fits u o place stays = seeks-gained h (next_object S) S.references.threads u o place
seeks-same script S t (Gain h x) fits u o place stays = seeks-gained h x S.references.threads u o place
seeks-same script S t (Lose h x) fits u o place stays =
    seeks-closed (dies S x) x (threads_lose h S.references.threads) u o place
    ∙ seeks-lost h S.references.threads u o place
seeks-same script S t (Find v x) fits u o place stays = seeks-own S.references.threads t v (with_found x (place_of (object_of S x))) u o place fits.1 stays
seeks-same script S t (Open v x part) fits u o place stays = seeks-own S.references.threads t v (with_opened x part) u o place fits.1 stays
seeks-same script S t (Miss v x) fits u o place stays = seeks-own S.references.threads t v with_missed u o place fits.1 stays
seeks-same script S t (GoOn v part) fits u o place stays =
    seeks-with S.references.threads v (with_part part)
    (λ row is. seeks-back (with_part part) row (is_back S v row is fits.0.going) fits.0.other) u o place
seeks-same script S t (Keep v number) fits u o place stays =
    seeks-with S.references.threads v (with_kept number)
    (λ row is. let back = is_back S v row is fits.0 in seeks-back (with_kept number) row back back) u o place
seeks-same script S t (Write v x value) fits u o place stays = seeks-with S.references.threads v (with_register x value) (λ row is x p. refl) u o place
seeks-same script S t (WriteMessage v y number) fits u o place stays = seeks-with S.references.threads v (with_message y number) (λ row is x p. refl) u o place
seeks-same script S t (PutDown v) fits u o place stays = seeks-with S.references.threads v (with_use None) (λ row is x p. refl) u o place
seeks-same script S t (Advance v) fits u o place stays =
    seeks-with S.references.threads v advanced (λ row is. seeks-back advanced row (is_back S v row is fits.1) refl) u o place
seeks-same script S t (Wait v what) fits u o place stays = seeks-with S.references.threads v (with_waiting what) (λ row is x p. refl) u o place
seeks-same script S t (Wake v) fits u o place stays = seeks-with S.references.threads v (with_waiting waiting.Nothing) (λ row is x p. refl) u o place
seeks-same script S t (SetPriority v priority) fits u o place stays = seeks-with S.references.threads v (with_priority priority) (λ row is x p. refl) u o place
seeks-same script S t (Death m) fits u o place stays = seeks-with S.references.threads (death_thread m) (death_row m) (λ row is. seeks-death m row) u o place
seeks-same script S t (Pay what) fits u o place stays = absurd fits
seeks-same script S t m fits u o place stays = refl

-- a row that isn't between a find and its return
pub unseen : (x : Option ThreadRow) (o : ObjNo) (place : ℕ) → ((row : ThreadRow) → x ≡ Some row → is_returning row.part ≡ false) → seeks o place x ≡ 0
unseen None o place back = refl
unseen (Some row) o place back =
    if_not (is_returning row.part && row.sought_place == place) (same row.sought o)
    (and_left (is_returning row.part) (row.sought_place == place) (back row refl))

-- a payment leaves who is out
owes_inside : (owed : List (List Owed)) (t : ℕ) (what : Owed) (rest : List Owed) → get_or owed t [] ≡ what ∷ rest → t < length owed
owes_inside owed t what rest e = elim (cases_lt t (length owed)) as (λ _. t < length owed) [
  | inl inside ↦ inside
  | inr past ↦ let none = get_or_past owed t [] past in absurd (cc)
]

pub seeks-pay : (script : Script) (S : State) (t : ObjNo) (what : Owed) (rest : List Owed) → owed_of S t ≡ what ∷ rest
    → AreRows script S → (u o : ObjNo) (place : ℕ) → seeks o place (thread_of (moved t (Pay what) S) u) ≡ seeks o place (thread_of S u)
seeks-pay script S t (Close h x) rest owes rows u o place = seeks-closed (dies S x) x S.references.threads u o place
seeks-pay script S t (Sweep x) rest owes rows u o place =
    let inside = owes_inside S.references.owed t.0 (Sweep x) rest owes in
    let long = rows.references.sized.duties in
    let none = unseen (thread_of S x) o place (λ row is. let over = sweep-over script S t x rest row owes
    (omega arith) rows is in let same_row : over.row ≡ row = (let a = over.is in cc) in
    ap (λ (r : ThreadRow). is_returning r.part) (sym same_row) ∙ over.spent.going) in
    set_item (λ (y : Option ThreadRow). seeks o place y ≡ seeks o place (thread_of S u)) S.references.threads x.0 u.0 None None
    (λ at. sym (ap (λ (n : ℕ). seeks o place (get_or S.references.threads n None)) at ∙ none)) refl

-- who is between a find of an object and its return seeks it by its place, and nobody else does
pub seeks-one : (S : State) (u o : ObjNo) (back : ComesBack S u o) → seeks o back.row.sought_place (thread_of S u) ≡ 1
seeks-one S u o back =
    ap (seeks o back.row.sought_place) back.is
    ∙ if_is (is_returning back.row.part && back.row.sought_place == back.row.sought_place) (same back.row.sought o)
    (and_from (is_returning back.row.part) (back.row.sought_place == back.row.sought_place) back.returns
    (eq-eqb back.row.sought_place back.row.sought_place refl))
    ∙ ap (λ (x : ObjNo). same x o) back.found
    ∙ same_self o

-- whoever is out on an object of a place
pub record IsOutAt (S : State) (u o : ObjNo) (place : ℕ) : Type 0 where
  pub back : ComesBack S u o
  pub sought : back.row.sought_place ≡ place

out-at : (S : State) (u o : ObjNo) (place : ℕ) (x : Option ThreadRow) → thread_of S u ≡ x → 0 < seeks o place x → IsOutAt S u o place
out-at S u o place None is some = absurd (omega arith)
out-at S u o place (Some row) is some =
    let parts = seeks_is o place row some in
    record { back = record { row = row; is = is; returns = parts.0; found = parts.2 }; sought = parts.1 }

still-seeking : (S T : State) (u o : ObjNo) (back : ComesBack S u o)
    → seeks o back.row.sought_place (thread_of T u) ≡ seeks o back.row.sought_place (thread_of S u) → IsOutAt T u o back.row.sought_place
still-seeking S T u o back stays =
    let one = seeks-one S u o back in
    out-at T u o back.row.sought_place (thread_of T u) refl (omega arith)

-- so another thread than the acting one that is out on an object stays so
pub stays-out : (script : Script) (S : State) (t : ObjNo) (m : Move) → FitsMove script t m S → (u o : ObjNo)
    → (u.0 ≡ t.0 → ⊥) → (back : ComesBack S u o) → IsOutAt (moved t m S) u o back.row.sought_place
stays-out script S t m fits u o apart back =
    still-seeking S (moved t m S) u o back (seeks-same script S t m fits u o back.row.sought_place (λ at. absurd (apart (sym at))))

pub stays-out-pay : (script : Script) (S : State) (t : ObjNo) (what : Owed) (rest : List Owed)
    → owed_of S t ≡ what ∷ rest → AreRows script S → (u o : ObjNo) (back : ComesBack S u o)
    → IsOutAt (moved t (Pay what) S) u o back.row.sought_place
stays-out-pay script S t what rest owes rows u o back =
    still-seeking S (moved t (Pay what) S) u o back (seeks-pay script S t what rest owes rows u o back.row.sought_place)
