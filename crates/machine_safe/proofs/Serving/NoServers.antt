-- What is no server doesn't become one, as long as it is there; and what stands in a table is there.
use Rattle.std.proofs.Common.{List, None, Option, Some, [], ap, false, get_or, get_or-set_other, refl, sym, true, ℕ, ◌∙◌, ◌∷◌, ◌≡◌}
use Rattle.std.specs.Prelude.{is_some, slice_set}
use Rattle.sym_base.specs.declared.number.ObjNo.{ObjNo}
use Rattle.script_types.specs.declared.script.Script.{Script}
use Rattle.entry_log.specs.declared.effect.Holder.{Holder}
use Rattle.entry_log.specs.declared.effect.Holder.TheVariants.{Link}
use Rattle.state_rows.specs.HandleSlots.{slot_at}
use Rattle.state_rows.specs.ServerChanges.{after_closing, closing}
use Rattle.state_rows.specs.ServerRows.{server_at}
use Rattle.state_rows.specs.declared.servers.ServerRow.{ServerRow}
use Rattle.state_rows.specs.declared.servers.ServerRows.{ServerRows}
use Rattle.state_rows.proofs.SoundChanges.{set_item}
use Rattle.machine.specs.Fits.{EachFits, FitsMove}
use Rattle.machine.specs.Moves.{moved, perform}
use Rattle.machine.specs.Rows.{object_of, table_of}
use Rattle.machine.specs.ServerMoves.{all_closing, owned_by, servers_lose}
use Rattle.machine.specs.WellFormed.{AreRows}
use Rattle.machine.specs.declared.moves.Move.{Move}
use Rattle.machine.specs.declared.moves.Move.TheVariants.{Lose, Pay, Servers}
use Rattle.machine.specs.declared.server_move.ServerMove.TheVariants.{Close, CloseAll, Join, Start}
use Rattle.machine.specs.declared.state.State.{State}
use Rattle.machine_laws.proofs.Fitting.LiveObjects.{handle_is_counted}
use Rattle.move_laws.proofs.Lives.Bits.{alive_there}
use Rattle.machine_safe.proofs.Serving.KeptRows.{next-unmade, objects-move}
use Rattle.move_laws.proofs.Lists.Mapped.{mapped-some}

server-set : (l : List (Option ServerRow)) (i j : ℕ) (x : Option ServerRow) → (i ≡ j → ⊥)
    → is_some (get_or l j None) ≡ false → is_some (get_or (slice_set l i x) j None) ≡ false
server-set l i j x apart none = ap is_some (get_or-set_other l i j x None (λ at. apart (sym at))) ∙ none

server-closing : (os : List ObjNo) (r : ServerRows) (s : ObjNo) → is_some (server_at r s) ≡ false → is_some (server_at (all_closing os r) s) ≡ false
server-closing [] r s none = none
server-closing (o ∷ os) r s none = server-closing os (after_closing r o) s (mapped-some closing r.servers o.0 s.0 ∙ none)

server-lost : (h : Holder) (r : ServerRows) (s : ObjNo) → is_some (server_at r s) ≡ false → is_some (server_at (servers_lose h r) s) ≡ false
server-lost (Link x) r s none = none
server-lost _ r s none = none

pub server-joined : (l : List (Option ServerRow)) (i j : ℕ) → is_some (get_or l j None) ≡ false → is_some (get_or (slice_set l i None) j None) ≡ false
server-joined l i j none = set_item (λ (x : Option ServerRow). is_some x ≡ false) l i j None None (λ at. refl) none

pub none-move : (script : Script) (S : State) (t : ObjNo) (m : Move) → FitsMove script t m S → (s : ObjNo)
    → is_some (object_of S s) ≡ true → is_some (server_at S.serving.servers s) ≡ false
    → is_some (server_at (moved t m S).serving.servers s) ≡ false
none-move script S t (Lose h o) fits s made none = server-lost h S.serving.servers s none
none-move script S t (Servers (Start o u)) fits s made none =
    server-set S.serving.servers.servers o.0 s.0 _
    (λ at. next-unmade S (ap (λ (n : ℕ). is_some (get_or S.references.objects n None)) (sym (ap (λ (x : ObjNo). x.0) fits.next) ∙ at) ∙ made)) none
none-move script S t (Servers (Join x o slots u)) fits s made none = server-joined S.serving.servers.servers x.0 s.0 none
none-move script S t (Servers (Close o)) fits s made none = mapped-some closing S.serving.servers.servers o.0 s.0 ∙ none
none-move script S t (Servers (CloseAll u)) fits s made none = server-closing (owned_by S.serving.owned u) S.serving.servers s none
none-move script S t (Pay what) fits s made none = absurd fits
none-move script S t m fits s made none = none

pub none-each : (script : Script) (S : State) (t : ObjNo) (ms : List Move) → EachFits script t ms S → (s : ObjNo)
    → is_some (object_of S s) ≡ true → is_some (server_at S.serving.servers s) ≡ false
    → is_some (server_at (perform t ms S).serving.servers s) ≡ false
none-each script S t [] fits s made none = none
none-each script S t (m ∷ ms) fits s made none =
    none-each script (moved t m S) t ms fits.1 s (objects-move script S t m fits.0 s made) (none-move script S t m fits.0 s made none)

pub slot_made : (script : Script) (S : State) (u : ObjNo) (i : ℕ) (s : ObjNo) → AreRows script S
    → (slot_at (table_of S u) i).object ≡ Some s → is_some (object_of S s) ≡ true
slot_made script S u i s rows slot = alive_there (object_of S s) (rows.lives.alive s (handle_is_counted S u i s slot))
