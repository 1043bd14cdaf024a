use Rattle.std.proofs.Common.{◌≡◌, Option, List, ℕ, ap, sym, subst, ◌∙◌, length, set, vec_len, rules}
use Rattle.procs.specs.ProcsRows.{ProcsRows}
use Rattle.procs.specs.Rows.{IsFresh, with_process, no_bytes}
use Rattle.procs.proofs.Keeping.{taken_zeros, kept_taken}
use Rattle.procs.proofs.procs.Procs.add_process.Goals as goal

pub invariant_of-self : goal.invariant_of-self
invariant_of-self c =
    let inside = c.self.inside in
    let P : ProcsRows → Type 0 = λ rows. IsFresh rows c.args.p in
    let fresh = subst P (sym c.self.view_is) c.requires in
    let size : vec_len inside.spare ≡ length inside.spare.items = search rules in
    let zeros = taken_zeros inside.threads.items inside.processes.items inside.spare.items c.args.p.0
    (vec_len inside.spare) c.pop.result c.self.invariant fresh.process_place fresh.no_process size
    (c.pop.ensures.value no_bytes) in
    kept_taken inside.threads.items inside.processes.items inside.spare.items c.pop.new.self.items c.args.p.0
    (vec_len inside.spare) c.pop.result c.self.invariant fresh.process_place fresh.no_process size zeros
    c.pop.ensures.rest

pub returns : goal.returns
returns c =
    let inside = c.self.inside in
    let P : ProcsRows → Type 0 = λ rows. IsFresh rows c.args.p in
    let fresh = subst P (sym c.self.view_is) c.requires in
    let size : vec_len inside.spare ≡ length inside.spare.items = search rules in
    let zeros = taken_zeros inside.threads.items inside.processes.items inside.spare.items c.args.p.0
    (vec_len inside.spare) c.pop.result c.self.invariant fresh.process_place fresh.no_process size
    (c.pop.ensures.value no_bytes) in
    let table : Option (List ℕ) → ProcsRows = λ row. record { threads = inside.threads.items; processes = set inside.processes.items c.args.p.0 row } in
    ap table zeros ∙ ap (λ (rows : ProcsRows). with_process rows c.args.p no_bytes) c.self.view_is
