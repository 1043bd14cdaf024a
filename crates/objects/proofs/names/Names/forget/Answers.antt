use Rattle.std.proofs.Common.{◌≡◌, true, false, sym, ◌∙◌, ap}
use Rattle.std.specs.Prelude.{Some, None, not}
use Rattle.std.proofs.lemmas.List.{get_or_read}
use Rattle.objects.specs.Rows.{row_at}
use Rattle.objects.specs.Names.{is_named}
use Rattle.objects.proofs.Keeping.{there_made}
use Rattle.objects.proofs.Finding.{gap_absent}
use Rattle.objects.proofs.Listing.{listed_swept, listed_swept_session}
use Rattle.objects.proofs.names.Names.forget.Goals as goal

pub returns-then-is_session : goal.returns-then-is_session
returns-then-is_session c =
    let made = there_made c.args.rows.now c.args.number c.requires.there in
    let row : row_at c.args.rows.now c.args.number ≡ Some c.in-Some.row =
    sym (get_or_read c.args.rows.now c.args.number c.index-rows-number.result made c.index-rows-number.is None)
    ∙ c.in-Some.is in
    let unnamed : is_named (row_at c.args.rows.now c.args.number) ≡ false = ap is_named row ∙ ap not (sym c.is_session.ensures ∙ c.if-is_session.true) in
    listed_swept_session c.args.rows.now c.args.self.now c.args.number c.requires.listed made unnamed

pub returns-in-Ok : goal.returns-in-Ok
returns-in-Ok c =
    let made = there_made c.args.rows.now c.args.number c.requires.there in
    let row : row_at c.args.rows.now c.args.number ≡ Some c.in-Some.row =
    sym (get_or_read c.args.rows.now c.args.number c.index-rows-number.result made c.index-rows-number.is None)
    ∙ c.in-Some.is in
    let named : is_named (row_at c.args.rows.now c.args.number) ≡ true = ap is_named row ∙ ap not (sym c.is_session.ensures ∙ c.if-is_session.false) in
    let found = c.in-Ok.ensures in
    let items = rw c.self.view_is at c.remove_at.ensures.items in
    rw items (listed_swept c.args.rows.now c.args.self.now c.args.number c.in-Ok.place c.requires.listed named found.0 found.1)

pub returns-in_default-place_listed : goal.returns-in_default-place_listed
returns-in_default-place_listed c =
    let made = there_made c.args.rows.now c.args.number c.requires.there in
    let row : row_at c.args.rows.now c.args.number ≡ Some c.in-Some.row =
    sym (get_or_read c.args.rows.now c.args.number c.index-rows-number.result made c.index-rows-number.is None)
    ∙ c.in-Some.is in
    let named : is_named (row_at c.args.rows.now c.args.number) ≡ true = ap is_named row ∙ ap not (sym c.is_session.ensures ∙ c.if-is_session.false) in
    absurd (gap_absent c.args.rows.now c.args.self.now c.args.number c.in_default-place_listed.field-0 c.requires.listed
    named c.in_default-place_listed.ensures)

pub place_listed-requires-clause-row : goal.place_listed-requires-clause-row
place_listed-requires-clause-row c =
    let made = there_made c.args.rows.now c.args.number c.requires.there in
    sym (get_or_read c.args.rows.now c.args.number c.index-rows-number.result made c.index-rows-number.is None)
    ∙ c.in-Some.is
