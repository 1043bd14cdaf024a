use Rattle.std.proofs.Common.{◌≡◌, ◌∙◌, ℕ, ◌<◌, Bool, List, arith, refl, sym, ap}
use Rattle.std.specs.Prelude.{slice_index, slice_set}
use Rattle.sym_base.specs.declared.number.ObjNo.{ObjNo}
use Rattle.machine.specs.Moves.{next_object}
use Rattle.state_rows.specs.ObjectRows.{next_number}
use Rattle.kernel_tables.specs.declared.tables.Tables.{Tables}
use Rattle.kernel_tables.specs.Noted.{AreKept}
use Rattle.kernel_tables.specs.StateOf.{state_of}
use Rattle.kernel_tables.proofs.FirstCount.{counts-first}
use Rattle.kernel_tables.proofs.Noting.{may_use, duties_gained, mutexes_gained, logons_gained, servers_gained}
use Rattle.kernel_tables.proofs.Owning.{may_gained, may_own, unowned}
use Rattle.kernel_tables.proofs.Tying.{tied_gained}
use Rattle.kernel_tables.proofs.moves.make.Goals as goal

pub note_gain-requires : goal.note_gain-requires
note_gain-requires g c = may_use c.args.tables.now.cleanup (state_of c.args.tables.now) c.args.holder c.requires.kept.tied.uses c.requires.can.3

-- the table makes the number that the definitions say
number_is : {W N : Type 0} (tables : Tables W N) (o : ObjNo) → AreKept tables → o.0 ≡ next_number tables.objects.reuse tables.objects.rows
    → o ≡ next_object (state_of tables)
number_is tables o kept is =
    let named : ℕ → ObjNo = λ n. record { 0 = n } in
    ap named (is ∙ ap (λ (b : Bool). next_number b tables.objects.rows) kept.reuses)

pub make-object-requires-clause-room : goal.make-object-requires-clause-room
make-object-requires-clause-room g c =
    let tables = c.args.tables.now in
    let same = ap (λ (b : Bool). next_number b tables.objects.rows) c.requires.kept.reuses in
    let room = c.requires.can.2.room in
    omega arith

pub make-object-requires-clause-place : goal.make-object-requires-clause-place
make-object-requires-clause-place g c = c.requires.place (omega arith)

pub owned_gain-requires : goal.owned_gain-requires
owned_gain-requires g c =
    let tables = c.args.tables.now in
    let old = tables.cleanup in
    let next = next_object (state_of tables) in
    let is = number_is tables c.make-object.result c.requires.kept c.make-object.ensures.number in
    let small : next.0 < old.objects = let a = c.requires.kept.tied.listed in let b = c.requires.can.2.room in omega arith in
    let may = may_own old c.args.holder next small (unowned (state_of tables) next c.requires.can.2.fresh) in
    rw (c.note_gain.ensures, is) (may_gained old c.args.holder next next may)

-- the object that is made has the next number, which nothing refers to
pub returns : goal.returns
returns g c =
    let tables = c.args.tables.now in
    let rows = tables.objects.rows in
    let old = tables.objects.counts in
    let next = next_object (state_of tables) in
    let is = number_is tables c.make-object.result c.requires.kept c.make-object.ensures.number in
    let number : next_number tables.objects.reuse rows ≡ next.0 = ap (λ (b : Bool). next_number b rows) c.requires.kept.reuses in
    let none : slice_index old next.0 ≡ 0 = c.requires.kept.counts next ∙ c.requires.can.2.fresh in
    let counts : c.make-object.new.self.counts ≡ slice_set old next.0 1 = c.make-object.ensures.counts ∙ ap (λ (n : ℕ). slice_set old n 1) number in
    let one : slice_index (slice_set old next.0 1) next.0 ≡ 1 =
    ap (λ (l : List ℕ). slice_index l next.0) (sym counts)
    ∙ (ap (λ (n : ℕ). slice_index c.make-object.new.self.counts n) (sym number) ∙ c.make-object.ensures.one) in
    λ t. record {
      state =
          rw (
            c.gain_slot.ensures,
            c.threads_gain.ensures,
            c.make-object.ensures.rows,
            c.make-object.ensures.makings,
            number,
            c.requires.can.0,
            c.owned_gain.ensures,
            c.note_gain.ensures,
            is,
            servers_gained tables.cleanup c.args.holder next,
            duties_gained tables.cleanup c.args.holder next,
            mutexes_gained tables.cleanup c.args.holder next,
            logons_gained tables.cleanup c.args.holder next,
          ) refl;
      counts = rw counts (counts-first old next c.args.holder none one);
      mode = refl;
      notes = c.make-object.ensures.notes;
      reuse = c.make-object.ensures.mode;
      tied =
          rw (c.threads_gain.ensures, c.owned_gain.ensures, c.note_gain.ensures, is)
          (tied_gained tables.cleanup tables.locks.priorities
          (state_of tables) c.args.holder next c.requires.can.3 c.requires.kept.tied);
    }
