use Rattle.std.proofs.Common.{◌≡◌, false, sym, ◌∙◌, arith}
use Rattle.state_rows.specs.ObjectRows.{is_session}
use Rattle.objects.proofs.Listing.{listed_made_new, listed_made_session}
use Rattle.objects.proofs.Named.{names_room}
use Rattle.objects.proofs.names.Names.list.Goals as goal

pub insert_at-requires-clause-room : goal.insert_at-requires-clause-room
insert_at-requires-clause-room c =
    let room = names_room c.args.rows.now c.args.number c.requires.within c.requires.free c.requires.room c.requires.few in
    let few = rw (← c.self.view_is) at c.requires.listed.few in
    omega (arith, few, room, c.self.invariant)

pub returns-then-not-is_session : goal.returns-then-not-is_session
returns-then-not-is_session c =
    let named : is_session c.args.kind ≡ false = sym c.is_session.ensures ∙ c.if-not-is_session.true in
    let items = rw c.self.view_is at c.insert_at.ensures.items in
    rw items (listed_made_new c.args.rows.now c.args.self.now c.args.kind c.args.name.now c.args.place c.args.number c.args.made
    c.requires.listed c.requires.within c.requires.free named (c.requires.is_new.1 named))

pub returns-else-not-is_session : goal.returns-else-not-is_session
returns-else-not-is_session c =
    listed_made_session c.args.rows.now c.args.self.now c.args.kind c.args.name.now c.args.number c.args.made
    c.requires.listed c.requires.within c.requires.free (sym c.is_session.ensures ∙ c.if-not-is_session.false)
