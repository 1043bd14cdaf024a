use Rattle.std.proofs.Common.{◌≡◌, ◌∙◌, ◌+◌, ◌++◌, ◌≤◌, Bool, List, length, length-append, append_assoc, arith, ap, refl, subst, sym}
use Rattle.std.specs.Prelude.{Option}
use Rattle.sym_base.specs.declared.number.ObjNo.{ObjNo}
use Rattle.entry_log.specs.declared.effect.Effect.{Effect}
use Rattle.ready_list.specs.Ready.{Ready, IsReady}
use Rattle.machine.specs.declared.mode.Mode.{Mode}
use Rattle.machine.specs.declared.moves.Move.{Move}
use Rattle.machine.specs.History.{keeping}
use Rattle.machine.specs.Moves.{tell, told}
use Rattle.machine.specs.References.{total}
use Rattle.readings.specs.Dying.{dead_by, dead_told, told_alive}
use Rattle.readings.proofs.Telling.{told_dead}
use Rattle.kernel_tables.specs.Choosing.{closing_bit, mode_after}
use Rattle.kernel_tables.specs.Moved.{AreKnown, MovesGo, chosen_state, making_bit}
use Rattle.kernel_tables.specs.declared.tables.Tables.{Tables}
use Rattle.kernel_tables.specs.StateOf.{state_of}
use Rattle.kernel_tables.proofs.Performing.{performed_one, still_kept, still_made, still_sought, told_both, none_dead, way_begins, way_ends, way_few, way_goes, way_goes_on, way_may, way_place, next_item, none_left}
use Rattle.kernel_tables.proofs.kernel_core.Core.perform.Goals as goal
use Rattle.kernel_tables.proofs.kernel_core.Core.perform.Goals.{then-is_queued, else-is_queued}

pub loop-change-init : goal.loop-change-init
loop-change-init g c = record {
  way = way_begins c.args.script.now c.args.thread c.as_slice-moves.result.now (state_of c.self.inside.tables) c.self.inside.ready c.args.effects.now;
  kept = c.self.invariant.kept;
  size = c.self.invariant.size;
  made = rw (← c.self.view_is) at c.requires.may.made;
  sought = rw (← c.self.view_is) at c.requires.may.sought;
  notes = refl;
  alone =
      elim c.if-is_queued.branch [
        | then-is_queued w ↦ rw w.own-is (λ own. (c.is_queued.ensures.there w.if-is_queued.true, w.are_own-own.ensures own))
        | else-is_queued w ↦ rw w.own-is (λ own. absurd (cc))
      ];
}

pub make_move-dead-requires-clause-few : goal.make_move-dead-requires-clause-few
make_move-dead-requires-clause-few g c =
    let m = c.change-item.result in
    let S = state_of c.loop-change.tables in
    let next = next_item c.as_slice-moves.result.now c.loop-change.change-index m c.loop-change-test.true c.change-item.is in
    let way = rw next at c.loop-change.invariant.way in
    let once : total closing_bit c.as_slice-moves.result.now ≤ 1 = rw c.as_slice-moves.ensures.moves (rw (← c.self.view_is) at c.requires.once) in
    let few : (keep : Bool) → length c.args.effects.now + length
    (tell c.args.thread c.as_slice-moves.result.now (keeping keep (state_of c.self.inside.tables))) ≤ 4 =
    rw c.as_slice-moves.ensures.moves (rw (← c.self.view_is) at c.requires.few) in
    let here : length c.loop-change.effects + length (told m S) ≤ 4 =
    way_few c.args.script.now c.args.thread _
    (state_of c.self.inside.tables) c.self.inside.ready c.args.effects.now m _ S c.loop-change.ready
    c.loop-change.effects once way few S.mode.keep (λ none. refl) in
    let whole = ap length (told_dead m S) in
    let sum = length-append (told_alive m S) (dead_told (dead_by m S)) in
    omega arith

pub make_move-dead-requires-clause-can : goal.make_move-dead-requires-clause-can
make_move-dead-requires-clause-can g c =
    let m = c.change-item.result in
    let S = state_of c.loop-change.tables in
    let next = next_item c.as_slice-moves.result.now c.loop-change.change-index m c.loop-change-test.true c.change-item.is in
    let way = rw next at c.loop-change.invariant.way in
    let once : total closing_bit c.as_slice-moves.result.now ≤ 1 = rw c.as_slice-moves.ensures.moves (rw (← c.self.view_is) at c.requires.once) in
    let go : (keep : Bool) → MovesGo c.args.script.now c.args.thread c.as_slice-moves.result.now
    (keeping keep (state_of c.self.inside.tables)) =
    rw c.as_slice-moves.ensures.moves (rw (← c.self.view_is) at c.requires.go) in
    (way_goes c.args.script.now c.args.thread _
    (state_of c.self.inside.tables) c.self.inside.ready c.args.effects.now m _ S c.loop-change.ready
    c.loop-change.effects once way go S.mode.keep (λ none. refl)).can

pub make_move-dead-requires-clause-may : goal.make_move-dead-requires-clause-may
make_move-dead-requires-clause-may g c =
    let m = c.change-item.result in
    let S = state_of c.loop-change.tables in
    let next = next_item c.as_slice-moves.result.now c.loop-change.change-index m c.loop-change-test.true c.change-item.is in
    let way = rw next at c.loop-change.invariant.way in
    let once : total closing_bit c.as_slice-moves.result.now ≤ 1 = rw c.as_slice-moves.ensures.moves (rw (← c.self.view_is) at c.requires.once) in
    let unchosen = rw (← c.self.view_is) at c.requires.may.unchosen in
    λ closes. (
      way_may c.args.script.now c.args.thread _
          (state_of c.self.inside.tables) c.self.inside.ready c.args.effects.now m _ S c.loop-change.ready
          c.loop-change.effects once way unchosen closes,
      λ o there noted. let sought = c.loop-change.invariant.sought o there noted in (sought.0, sought.1),
    )

pub make_move-dead-requires-clause-place : goal.make_move-dead-requires-clause-place
make_move-dead-requires-clause-place g c =
    let m = c.change-item.result in
    let S = state_of c.loop-change.tables in
    let next = next_item c.as_slice-moves.result.now c.loop-change.change-index m c.loop-change-test.true c.change-item.is in
    let way = rw next at c.loop-change.invariant.way in
    let once : total closing_bit c.as_slice-moves.result.now ≤ 1 = rw c.as_slice-moves.ensures.moves (rw (← c.self.view_is) at c.requires.once) in
    let makes : total making_bit c.as_slice-moves.result.now ≤ 1 =
    rw c.as_slice-moves.ensures.moves (rw (← c.self.view_is) at c.requires.makes) in
    let room = (rw (← c.self.view_is) at c.requires.may).room in
    let kept = c.loop-change.invariant.kept in
    let go : (keep : Bool) → MovesGo c.args.script.now c.args.thread c.as_slice-moves.result.now
    (keeping keep (state_of c.self.inside.tables)) =
    rw c.as_slice-moves.ensures.moves (rw (← c.self.view_is) at c.requires.go) in
    let can = (way_goes c.args.script.now c.args.thread _
    (state_of c.self.inside.tables) c.self.inside.ready c.args.effects.now m _ S c.loop-change.ready
    c.loop-change.effects once way go S.mode.keep (λ none. refl)).can in
    rw (c.loop-change.invariant.notes, kept.reuses)
    (way_place c.args.script.now c.args.thread _ (state_of c.self.inside.tables) c.self.inside.ready c.args.effects.now m _ S c.loop-change.ready
    c.loop-change.effects once way c.self.inside.tables.objects.notes.places makes room
    (λ first. rw c.loop-change.invariant.notes at (kept.placed (kept.reuses ∙ first))) can)

-- the choice that the move left
leaves : {W N : Type 0} (m : Move) (old new : Tables W N)
    → new.mode ≡ mode_after (dead_by m (chosen_state old new)) old.mode → closing_bit m ≡ 0
    → new.mode.keep ≡ old.mode.keep
leaves m old new is none =
    ap (λ (mode : Mode). mode.keep) (is ∙ ap (λ (dead : Option ObjNo). mode_after dead old.mode)
    (none_dead m (chosen_state old new) none))

pub tell_death-requires : goal.tell_death-requires
tell_death-requires g c =
    let m = c.change-item.result in
    let old = c.loop-change.tables in
    let new = c.make_move-dead.new.tables in
    let S = state_of old in
    let T = chosen_state old new in
    let next = next_item c.as_slice-moves.result.now c.loop-change.change-index m c.loop-change-test.true c.change-item.is in
    let way = rw next at c.loop-change.invariant.way in
    let once : total closing_bit c.as_slice-moves.result.now ≤ 1 = rw c.as_slice-moves.ensures.moves (rw (← c.self.view_is) at c.requires.once) in
    let few : (keep : Bool) → length c.args.effects.now + length
    (tell c.args.thread c.as_slice-moves.result.now (keeping keep (state_of c.self.inside.tables))) ≤ 4 =
    rw c.as_slice-moves.ensures.moves (rw (← c.self.view_is) at c.requires.few) in
    let here : length c.loop-change.effects + length (told m T) ≤ 4 =
    way_few c.args.script.now c.args.thread _
    (state_of c.self.inside.tables) c.self.inside.ready c.args.effects.now m _ S c.loop-change.ready
    c.loop-change.effects once way few new.mode.keep (leaves m old new c.make_move-dead.ensures.moved.mode) in
    let before = ap length c.make_move-dead.ensures.told in
    let so_far = length-append c.loop-change.effects (told_alive m S) in
    let whole = ap length (sym (told_both m old new)) in
    let sum = length-append (told_alive m S) (dead_told (dead_by m T)) in
    rw c.make_move-dead.ensures.dead (omega arith)

pub follow_move-requires-clause-known : goal.follow_move-requires-clause-known
follow_move-requires-clause-known g c =
    let m = c.change-item.result in
    let old = c.loop-change.tables in
    let new = c.make_move-dead.new.tables in
    let next = next_item c.as_slice-moves.result.now c.loop-change.change-index m c.loop-change-test.true c.change-item.is in
    let way = rw next at c.loop-change.invariant.way in
    let once : total closing_bit c.as_slice-moves.result.now ≤ 1 = rw c.as_slice-moves.ensures.moves (rw (← c.self.view_is) at c.requires.once) in
    let go : (keep : Bool) → MovesGo c.args.script.now c.args.thread c.as_slice-moves.result.now
    (keeping keep (state_of c.self.inside.tables)) =
    rw c.as_slice-moves.ensures.moves (rw (← c.self.view_is) at c.requires.go) in
    let goes = way_goes c.args.script.now c.args.thread _
    (state_of c.self.inside.tables) c.self.inside.ready c.args.effects.now m _
    (state_of old) c.loop-change.ready c.loop-change.effects once way go new.mode.keep
    (leaves m old new c.make_move-dead.ensures.moved.mode) in
    subst AreKnown (sym c.make_move-dead.ensures.moved.state) goes.runs.known

pub follow_move-requires-clause-alone : goal.follow_move-requires-clause-alone
follow_move-requires-clause-alone g c =
    let next = next_item c.as_slice-moves.result.now c.loop-change.change-index c.change-item.result c.loop-change-test.true c.change-item.is in
    λ own. let alone = c.loop-change.invariant.alone own in ((rw next at alone.1).0, alone.0)

pub loop-change-preserved : goal.loop-change-preserved
loop-change-preserved g c =
    let m = c.change-item.result in
    let script = c.args.script.now in
    let t = c.args.thread in
    let old = c.loop-change.tables in
    let new = c.make_move-dead.new.tables in
    let moved = c.make_move-dead.ensures.moved in
    let first = state_of c.self.inside.tables in
    let next = next_item c.as_slice-moves.result.now c.loop-change.change-index m c.loop-change-test.true c.change-item.is in
    let way = rw next at c.loop-change.invariant.way in
    let once : total closing_bit c.as_slice-moves.result.now ≤ 1 = rw c.as_slice-moves.ensures.moves (rw (← c.self.view_is) at c.requires.once) in
    let go : (keep : Bool) → MovesGo script t c.as_slice-moves.result.now (keeping keep first) =
    rw c.as_slice-moves.ensures.moves (rw (← c.self.view_is) at c.requires.go) in
    let goes = way_goes script t _ first c.self.inside.ready c.args.effects.now m _
    (state_of old) c.loop-change.ready c.loop-change.effects once way go new.mode.keep (leaves m old new moved.mode) in
    let follows = c.follow_move.ensures.queues in
    let one = performed_one script t m old new c.loop-change.ready follows.between c.follow_move.new.ready
    c.loop-change.effects goes.runs moved follows.leaves follows.comes in
    let effects : c.tell_death.new.effects ≡ c.loop-change.effects ++ told m (chosen_state old new) =
    c.tell_death.ensures
    ∙ rw (c.make_move-dead.ensures.told, c.make_move-dead.ensures.dead)
    (append_assoc c.loop-change.effects (told_alive m (state_of old)) (dead_told (dead_by m (chosen_state old new)))
    ∙ ap (λ (l : List Effect). c.loop-change.effects ++ l) (told_both m old new)) in
    record {
      way =
          rw effects (way_goes_on script t _ first c.self.inside.ready c.args.effects.now m _
          (state_of old) c.loop-change.ready c.loop-change.effects once way
          (state_of new) c.follow_move.new.ready _ one);
      kept = still_kept script t m old new refl goes.runs c.loop-change.invariant.kept moved;
      size = c.follow_move.ensures.size;
      made = still_made t m old new moved c.loop-change.invariant.made;
      sought = still_sought script t m old new goes.runs moved c.loop-change.invariant.made c.loop-change.invariant.sought;
      notes = moved.notes ∙ c.loop-change.invariant.notes;
      alone = λ own.
          let alone = c.loop-change.invariant.alone own in
          (subst (λ (r : Ready). IsReady r t) (sym (c.follow_move.ensures.stays own)) alone.0, (rw next at alone.1).1);
    }

pub returns-clause-performed : goal.returns-clause-performed
returns-clause-performed g c =
    let items = c.as_slice-moves.result.now in
    let ended = none_left items c.loop-change.change-index c.loop-change-test.false in
    let way = rw ended at c.loop-change.invariant.way in
    rw (← c.self.view_is) (rw (← c.as_slice-moves.ensures.moves)
    (way_ends c.args.script.now c.args.thread items (state_of c.self.inside.tables)
    (state_of c.loop-change.tables) c.self.inside.ready c.loop-change.ready c.args.effects.now c.loop-change.effects
    way))

pub returns-clause-notes : goal.returns-clause-notes
returns-clause-notes g c = rw (← c.self.view_is) c.loop-change.invariant.notes
