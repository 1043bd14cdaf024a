use Rattle.std.proofs.Common.{◌∙◌, [], get_or, map, sym}
use Rattle.std.specs.Prelude.{Some, None}
use Rattle.std.proofs.lemmas.List.{get_or_read}
use Rattle.links.proofs.Marks.{none_first}
use Rattle.cleanup.specs.Nodes.{object, logon}
use Rattle.cleanup.proofs.Next.{mutex_next, server_next, temporary_next, logon_next}
use Rattle.links.proofs.Seen.{seen_first}
use Rattle.cleanup.proofs.cleanup.Cleanup.next.Goals as goal

pub returns-in-Some-clause-first : goal.returns-in-Some-clause-first
returns-in-Some-clause-first c =
    rw (← c.self.view_is) (mutex_next (get_or (map (map object) c.self.inside.mutexes.lists) c.args.t.0 [])
    (get_or (map (map object) c.self.inside.servers.lists) c.args.t.0 [])
    (get_or c.self.inside.temporary.items c.args.t.0 None)
    (get_or (map (map logon) c.self.inside.logons.lists) c.args.t.0 []) (object c.in-Some.item)
    (seen_first object c.self.inside.mutexes.lists c.args.t.0 (Some c.in-Some.item) c.in-Some.ensures.first))

pub returns-in-Some-clause-none : goal.returns-in-Some-clause-none
returns-in-Some-clause-none c =
    rw (← c.self.view_is) (none_first _ _ (mutex_next
    (get_or (map (map object) c.self.inside.mutexes.lists) c.args.t.0 [])
    (get_or (map (map object) c.self.inside.servers.lists) c.args.t.0 [])
    (get_or c.self.inside.temporary.items c.args.t.0 None)
    (get_or (map (map logon) c.self.inside.logons.lists) c.args.t.0 []) (object c.in-Some.item)
    (seen_first object c.self.inside.mutexes.lists c.args.t.0 (Some c.in-Some.item) c.in-Some.ensures.first)))

pub returns-in-Some-first-clause-first : goal.returns-in-Some-first-clause-first
returns-in-Some-first-clause-first c =
    rw (← c.self.view_is) (server_next (get_or (map (map object) c.self.inside.mutexes.lists) c.args.t.0 [])
    (get_or (map (map object) c.self.inside.servers.lists) c.args.t.0 [])
    (get_or c.self.inside.temporary.items c.args.t.0 None)
    (get_or (map (map logon) c.self.inside.logons.lists) c.args.t.0 []) (object c.in-Some-first.item)
    (seen_first object c.self.inside.mutexes.lists c.args.t.0 None (sym c.in_default.is ∙ c.first.ensures.first))
    (seen_first object c.self.inside.servers.lists c.args.t.0
    (Some c.in-Some-first.item) c.in-Some-first.ensures.first))

pub returns-in-Some-first-clause-none : goal.returns-in-Some-first-clause-none
returns-in-Some-first-clause-none c =
    rw (← c.self.view_is) (none_first _ _ (server_next
    (get_or (map (map object) c.self.inside.mutexes.lists) c.args.t.0 [])
    (get_or (map (map object) c.self.inside.servers.lists) c.args.t.0 [])
    (get_or c.self.inside.temporary.items c.args.t.0 None)
    (get_or (map (map logon) c.self.inside.logons.lists) c.args.t.0 []) (object c.in-Some-first.item)
    (seen_first object c.self.inside.mutexes.lists c.args.t.0 None (sym c.in_default.is ∙ c.first.ensures.first))
    (seen_first object c.self.inside.servers.lists c.args.t.0
    (Some c.in-Some-first.item) c.in-Some-first.ensures.first)))

pub returns-in-Some-index-clause-first : goal.returns-in-Some-index-clause-first
returns-in-Some-index-clause-first c =
    let known = rw (← c.self.view_is) at c.requires in
    rw (← c.self.view_is) (temporary_next (get_or (map (map object) c.self.inside.mutexes.lists) c.args.t.0 [])
    (get_or (map (map object) c.self.inside.servers.lists) c.args.t.0 [])
    (get_or c.self.inside.temporary.items c.args.t.0 None)
    (get_or (map (map logon) c.self.inside.logons.lists) c.args.t.0 []) c.in-Some-index.o
    (seen_first object c.self.inside.mutexes.lists c.args.t.0 None (sym c.in_default.is ∙ c.first.ensures.first))
    (seen_first object c.self.inside.servers.lists c.args.t.0 None
    (sym c.in_default-first.is ∙ c.first-2.ensures.first))
    (sym (get_or_read c.self.inside.temporary.items c.args.t.0 c.index.result.now known c.index.ensures None)
    ∙ c.in-Some-index.is))

pub returns-in-Some-index-clause-none : goal.returns-in-Some-index-clause-none
returns-in-Some-index-clause-none c =
    let known = rw (← c.self.view_is) at c.requires in
    rw (← c.self.view_is) (none_first _ _ (temporary_next
    (get_or (map (map object) c.self.inside.mutexes.lists) c.args.t.0 [])
    (get_or (map (map object) c.self.inside.servers.lists) c.args.t.0 [])
    (get_or c.self.inside.temporary.items c.args.t.0 None)
    (get_or (map (map logon) c.self.inside.logons.lists) c.args.t.0 []) c.in-Some-index.o
    (seen_first object c.self.inside.mutexes.lists c.args.t.0 None (sym c.in_default.is ∙ c.first.ensures.first))
    (seen_first object c.self.inside.servers.lists c.args.t.0 None
    (sym c.in_default-first.is ∙ c.first-2.ensures.first))
    (sym (get_or_read c.self.inside.temporary.items c.args.t.0 c.index.result.now known c.index.ensures None)
    ∙ c.in-Some-index.is)))

pub returns-in_err-item-clause-first : goal.returns-in_err-item-clause-first
returns-in_err-item-clause-first c =
    let known = rw (← c.self.view_is) at c.requires in
    rw (← c.self.view_is) (c.from_residual.ensures
    ∙ logon_next (get_or (map (map object) c.self.inside.mutexes.lists) c.args.t.0 [])
    (get_or (map (map object) c.self.inside.servers.lists) c.args.t.0 [])
    (get_or c.self.inside.temporary.items c.args.t.0 None)
    (get_or (map (map logon) c.self.inside.logons.lists) c.args.t.0 []) None
    (seen_first object c.self.inside.mutexes.lists c.args.t.0 None (sym c.in_default.is ∙ c.first.ensures.first))
    (seen_first object c.self.inside.servers.lists c.args.t.0 None
    (sym c.in_default-first.is ∙ c.first-2.ensures.first))
    (sym (get_or_read c.self.inside.temporary.items c.args.t.0 c.index.result.now known c.index.ensures None)
    ∙ c.in_default-index.is) (seen_first logon c.self.inside.logons.lists c.args.t.0 None c.in_err-item.ensures.first))

pub returns-in_err-item-clause-none : goal.returns-in_err-item-clause-none
returns-in_err-item-clause-none c =
    let known = rw (← c.self.view_is) at c.requires in
    rw (← c.self.view_is) (none_first _ _ (c.from_residual.ensures
    ∙ logon_next (get_or (map (map object) c.self.inside.mutexes.lists) c.args.t.0 [])
    (get_or (map (map object) c.self.inside.servers.lists) c.args.t.0 [])
    (get_or c.self.inside.temporary.items c.args.t.0 None)
    (get_or (map (map logon) c.self.inside.logons.lists) c.args.t.0 []) None
    (seen_first object c.self.inside.mutexes.lists c.args.t.0 None (sym c.in_default.is ∙ c.first.ensures.first))
    (seen_first object c.self.inside.servers.lists c.args.t.0 None
    (sym c.in_default-first.is ∙ c.first-2.ensures.first))
    (sym (get_or_read c.self.inside.temporary.items c.args.t.0 c.index.result.now known c.index.ensures None)
    ∙ c.in_default-index.is) (seen_first logon c.self.inside.logons.lists c.args.t.0 None c.in_err-item.ensures.first)))

pub returns-clause-first : goal.returns-clause-first
returns-clause-first c =
    let known = rw (← c.self.view_is) at c.requires in
    rw (← c.self.view_is) (logon_next (get_or (map (map object) c.self.inside.mutexes.lists) c.args.t.0 [])
    (get_or (map (map object) c.self.inside.servers.lists) c.args.t.0 [])
    (get_or c.self.inside.temporary.items c.args.t.0 None)
    (get_or (map (map logon) c.self.inside.logons.lists) c.args.t.0 []) (Some (logon c.in_ok-item.item))
    (seen_first object c.self.inside.mutexes.lists c.args.t.0 None (sym c.in_default.is ∙ c.first.ensures.first))
    (seen_first object c.self.inside.servers.lists c.args.t.0 None
    (sym c.in_default-first.is ∙ c.first-2.ensures.first))
    (sym (get_or_read c.self.inside.temporary.items c.args.t.0 c.index.result.now known c.index.ensures None)
    ∙ c.in_default-index.is) (seen_first logon c.self.inside.logons.lists c.args.t.0
    (Some c.in_ok-item.item) c.in_ok-item.ensures.first))

pub returns-clause-none : goal.returns-clause-none
returns-clause-none c =
    let known = rw (← c.self.view_is) at c.requires in
    rw (← c.self.view_is) (none_first _ _ (logon_next
    (get_or (map (map object) c.self.inside.mutexes.lists) c.args.t.0 [])
    (get_or (map (map object) c.self.inside.servers.lists) c.args.t.0 [])
    (get_or c.self.inside.temporary.items c.args.t.0 None)
    (get_or (map (map logon) c.self.inside.logons.lists) c.args.t.0 []) (Some (logon c.in_ok-item.item))
    (seen_first object c.self.inside.mutexes.lists c.args.t.0 None (sym c.in_default.is ∙ c.first.ensures.first))
    (seen_first object c.self.inside.servers.lists c.args.t.0 None
    (sym c.in_default-first.is ∙ c.first-2.ensures.first))
    (sym (get_or_read c.self.inside.temporary.items c.args.t.0 c.index.result.now known c.index.ensures None)
    ∙ c.in_default-index.is) (seen_first logon c.self.inside.logons.lists c.args.t.0
    (Some c.in_ok-item.item) c.in_ok-item.ensures.first)))
