use Rattle.std.proofs.Common.{◌≡◌, false, sym, ◌∙◌}
use Rattle.state_rows.specs.ObjectRows.{is_session}
use Rattle.objects.proofs.Finding.{found_taken, gap_free}
use Rattle.objects.proofs.names.Names.new_place.Goals as goal

pub returns-in-Ok : goal.returns-in-Ok
returns-in-Ok c =
    let named : is_session c.args.kind ≡ false = sym c.is_session.ensures ∙ c.if-is_session.false in
    let found = c.in-Ok.ensures in
    found_taken c.args.rows.now c.args.self.now c.args.kind c.args.name.now c.in-Ok.field-0 c.requires named found.0 found.1

pub returns-in-Err : goal.returns-in-Err
returns-in-Err c =
    let named : is_session c.args.kind ≡ false = sym c.is_session.ensures ∙ c.if-is_session.false in
    let gap = c.in-Err.ensures in
    (gap_free c.args.rows.now c.args.self.now c.args.kind c.args.name.now c.in-Err.place c.requires named gap, λ _. gap)
