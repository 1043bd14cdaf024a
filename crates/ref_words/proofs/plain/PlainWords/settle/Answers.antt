use Rattle.std.proofs.Common.{sym, subst, arith}
use Rattle.std.proofs.lemmas.Grind.{common_steps}
use Rattle.std.proofs.lemmas.List.{get_or_read}
use Rattle.ref_words.specs.Words.{Words, IsOut}
use Rattle.ref_words.proofs.Notes.{notes_without_itself}
use Rattle.ref_words.proofs.Soundness.{sound_held, sound_dead, fewer, placed}
use Rattle.ref_words.proofs.plain.PlainWords.settle.Goals as goal

pub index-count-requires : goal.index-count-requires
index-count-requires c =
    let out = subst (λ (w : Words). IsOut w c.args.slip) (sym c.self.view_is) c.requires in
    omega (arith, placed _ _ c.self.invariant.0 out)

pub invariant_of-self : goal.invariant_of-self
invariant_of-self c = rw c.strike.ensures.items (sound_dead _ _ c.self.invariant.0, omega (arith, c.self.invariant.1, c.strike.ensures.room))

pub returns-then-count-eq0-clause-fewer : goal.returns-then-count-eq0-clause-fewer
returns-then-count-eq0-clause-fewer c =
    let out = subst (λ (w : Words). IsOut w c.args.slip) (sym c.self.view_is) c.requires in
    rw (c.strike.ensures.items, ← c.self.view_is) (fewer _ _ c.self.invariant.0 out)

pub overflow_add-count : goal.overflow_add-count
overflow_add-count c = grind (arith, common_steps, c.self.invariant.0.small c.args.slip.place)

pub index_mut-requires : goal.index_mut-requires
index_mut-requires c =
    let out = subst (λ (w : Words). IsOut w c.args.slip) (sym c.self.view_is) c.requires in
    omega (arith, placed _ _ c.self.invariant.0 out)

pub invariant_of-self-2 : goal.invariant_of-self-2
invariant_of-self-2 c =
    let out = subst (λ (w : Words). IsOut w c.args.slip) (sym c.self.view_is) c.requires in
    let read = get_or_read c.self.inside.counts.items c.args.slip.place _ (placed _ _ c.self.invariant.0 out) c.index-count.ensures 0 in
    rw (c.strike.ensures.items, read) (sound_held _ _ c.self.invariant.0 out (omega (arith, read)), omega (arith, c.self.invariant.1, c.strike.ensures.room))

pub returns-clause-placed : goal.returns-clause-placed
returns-clause-placed c =
    let out = subst (λ (w : Words). IsOut w c.args.slip) (sym c.self.view_is) c.requires in
    rw (← c.self.view_is) (placed _ _ c.self.invariant.0 out)

pub returns-clause-fewer : goal.returns-clause-fewer
returns-clause-fewer c =
    let out = subst (λ (w : Words). IsOut w c.args.slip) (sym c.self.view_is) c.requires in
    rw (c.strike.ensures.items, ← c.self.view_is) (fewer _ _ c.self.invariant.0 out)

pub returns-clause-bounded : goal.returns-clause-bounded
returns-clause-bounded c =
    let out = subst (λ (w : Words). IsOut w c.args.slip) (sym c.self.view_is) c.requires in
    let inside = placed _ _ c.self.invariant.0 out in
    let fewer = notes_without_itself c.args.slip c.self.inside.out.items out in
    let small = c.self.invariant.0.small c.args.slip.place in
    grind (arith, common_steps)

pub returns-then-count-eq0-clause-created : goal.returns-then-count-eq0-clause-created
returns-then-count-eq0-clause-created c =
    let out = subst (λ (w : Words). IsOut w c.args.slip) (sym c.self.view_is) c.requires in
    rw (← c.self.view_is) (c.self.invariant.0.out_created c.args.slip out)

pub returns-clause-created : goal.returns-clause-created
returns-clause-created c =
    let out = subst (λ (w : Words). IsOut w c.args.slip) (sym c.self.view_is) c.requires in
    rw (← c.self.view_is) (c.self.invariant.0.out_created c.args.slip out)
