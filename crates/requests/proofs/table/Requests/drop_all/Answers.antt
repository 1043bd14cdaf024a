use Rattle.std.proofs.Common.{◌≡◌, length, map, sym, ap, ◌∙◌}
use Rattle.std.proofs.lemmas.List.{length-map}
use Rattle.requests.specs.contracts.table.Requests.{the_view}
use Rattle.state_rows.specs.RequestChanges.{without}
use Rattle.requests.proofs.Dropping.{sound_dropped, written_back}
use Rattle.requests.proofs.table.Requests.drop_all.Goals as goal

pub invariant_of-self : goal.invariant_of-self
invariant_of-self c =
    let dropped : c.drop_requests.new.devices ≡ map (without c.args.t) c.self.inside.devices.items =
    c.drop_requests.ensures ∙ ap (map (without c.args.t)) c.deref_mut.ensures.value in
    let long : length c.drop_requests.new.devices ≡ length c.self.inside.devices.items =
    ap length dropped ∙ length-map c.self.inside.devices.items (without c.args.t) in
    let whole = written_back c.self.inside.devices.len c.drop_requests.new.devices c.self.inside.devices.items long (sym c.self.inside.devices.ok.0) in
    rw (whole, dropped) (sound_dropped (the_view c.self.inside) c.args.t c.self.invariant)
