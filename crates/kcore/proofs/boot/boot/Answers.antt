use Rattle.std.proofs.Common.{◌≡◌, ◌∙◌, ◌<◌, ℕ, List, ap, arith, length, subst, sym, false}
use Rattle.sym_base.specs.declared.number.ObjNo.{ObjNo}
use Rattle.script_types.proofs.ShapeLaws.{formed_is_shaped}
use Rattle.machine.proofs.BornFew.{born_few}
use Rattle.machine.specs.declared.boot.Born.{Born}
use Rattle.machine.specs.Boot.{boot, born, ready_at_boot, ready_from}
use Rattle.machine_laws.proofs.AtBoot.BootRows.{well_formed-boot}
use Rattle.kernel_tables.specs.ReadyQueues.{AreReady}
use Rattle.kcore.specs.BootTable.{born_priority}
use Rattle.kcore.proofs.BootGroups.{priorities_at_boot}
use Rattle.kcore.proofs.BootReady.{listed_known, listed_ranged}
use Rattle.kcore.proofs.boot.boot.Goals as goal

pub all_born-requires : goal.all_born-requires
all_born-requires g c = formed_is_shaped c.args.script.now c.requires.valid

pub ready_from-requires : goal.ready_from-requires
ready_from-requires g c =
    let few = born_few c.args.script.now (formed_is_shaped c.args.script.now c.requires.valid) in
    let same = ap length (c.as_slice-all.ensures ∙ c.in_ok-born.ensures) in
    omega arith

-- the list is that of boot
pub queues_of-requires-clause-once : goal.queues_of-requires-clause-once
queues_of-requires-clause-once g c =
    rw (c.as_slice.ensures, c.in_ok-threads.ensures, c.as_slice-all.ensures, c.in_ok-born.ensures)
    (well_formed-boot false c.args.script.now c.requires.valid).ready.once

pub queues_of-requires-clause-known : goal.queues_of-requires-clause-known
queues_of-requires-clause-known g c =
    let script = c.args.script.now in
    rw (c.as_slice.ensures, c.in_ok-threads.ensures, c.as_slice-all.ensures, c.in_ok-born.ensures)
    (listed_known script (boot script) (ready_at_boot script) (well_formed-boot false script c.requires.valid))

pub queues_of-requires-clause-ranged : goal.queues_of-requires-clause-ranged
queues_of-requires-clause-ranged g c =
    let script = c.args.script.now in
    let ranged = listed_ranged script (boot script) (ready_at_boot script) (well_formed-boot false script c.requires.valid) in
    rw (c.as_slice.ensures, c.in_ok-threads.ensures, c.as_slice-all.ensures, c.in_ok-born.ensures)
    (λ t listed. subst (λ (rank : ObjNo → ℕ). rank t < 64) (priorities_at_boot script) (ranged t listed))

pub returns-clause-queues : goal.returns-clause-queues
returns-clause-queues g c =
    let script = c.args.script.now in
    let ready = ready_at_boot script in
    let all : c.as_slice-all.result.now ≡ born script = c.as_slice-all.ensures ∙ c.in_ok-born.ensures in
    let list = c.in_ok-ready.ready in
    let threads = c.as_slice.ensures ∙ c.in_ok-threads.ensures ∙ ap (ready_from 0) all in
    let listed = subst (λ (qs : List ObjNo). AreReady (born_priority c.as_slice-all.result.now) qs list) threads c.in_ok-ready.ensures in
    let queued : AreReady (born_priority (born script)) ready list =
    subst (λ (bs : List Born). AreReady (born_priority bs) ready list) all listed in
    let ranked = subst (λ (rank : ObjNo → ℕ). AreReady rank ready list) (sym (priorities_at_boot script)) queued in
    rw c.new.ensures.ready ranked
