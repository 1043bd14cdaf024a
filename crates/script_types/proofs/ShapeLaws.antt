-- What holds of every well-formed script.
use Rattle.std.proofs.Common.{◌≡◌, ℕ, ◌≤◌, true, List, [], ◌∷◌, ◌++◌, length, length-append, sym, subst, refl, arith}
use Rattle.std.proofs.lemmas.Bool.{ltb-true}
use Rattle.std.specs.List.{list_all}
use Rattle.std.specs.Prelude.{nat_lt, IsTrue}
use Rattle.script_types.specs.Context.{start, after, after_all}
use Rattle.script_types.specs.Names.{Declared}
use Rattle.script_types.specs.Stands.{Stands, AllStand}
use Rattle.script_types.specs.declared.context.Context.{Context}
use Rattle.script_types.specs.declared.declaration.DfcDecl.{DfcDecl}
use Rattle.script_types.specs.declared.declaration.IdfcDecl.{IdfcDecl}
use Rattle.script_types.specs.declared.declaration.IrqBody.{IrqBody}
use Rattle.script_types.specs.declared.script.Script.{Script}
use Rattle.script_types.specs.declared.source_line.SourceLine.{SourceLine}
use Rattle.script_types.specs.declared.source_line.SourceLine.TheVariants as line
use Rattle.script_types.specs.Shape.{IsShaped, is_short}
use Rattle.script_types.specs.Source.{IsWellFormed}
use Rattle.script_types.proofs.NameLaws.{formed_names_resolve}
use Rattle.script_types.proofs.NumberLaws.{all_push, formed_numbers_in_range}
use Rattle.script_types.proofs.LimitLaws.{both, formed_keeps_limits}

-- the queues, the calls and the interrupts that a script declares
record AreFew (script : Script) : Type 0 where
  pub queues : length script.queues ≤ 7
  pub dfcs : length script.dfcs ≤ 64
  pub idfcs : length script.idfcs ≤ 64
  pub irqs : length script.irqs ≤ 32
  pub dfc_bodies : IsTrue (list_all (λ (d : DfcDecl). is_short d.body) script.dfcs)
  pub idfc_bodies : IsTrue (list_all (λ (d : IdfcDecl). is_short d.body) script.idfcs)
  pub irq_bodies : IsTrue (list_all (λ (i : IrqBody). is_short i.body) script.irqs)

-- one more of them, where the limit isn't reached
one_more : {A : Type 0} (limit : ℕ) (xs : List A) (x : A) → nat_lt (length xs) limit ≡ true → length (xs ++ x ∷ []) ≤ limit
one_more limit xs x h = let lt = ltb-true (length xs) limit h in simp length-append (omega arith)

few-after : (file : List Declared) (c : Context) (l : SourceLine) → Stands file c l → AreFew c.script → AreFew (after c l).script
few-after file c (line.Queue name p) h f = record {
  queues = one_more 7 c.script.queues _ h.within;
  dfcs = f.dfcs;
  idfcs = f.idfcs;
  irqs = f.irqs;
  dfc_bodies = f.dfc_bodies;
  idfc_bodies = f.idfc_bodies;
  irq_bodies = f.irq_bodies;
}
few-after file c (line.Dfc name queue p ops) h f =
    let within = both (nat_lt (length c.script.dfcs) 64) (is_short ops) h.within in
    record {
      queues = f.queues;
      dfcs = one_more 64 c.script.dfcs _ within.0;
      idfcs = f.idfcs;
      irqs = f.irqs;
      dfc_bodies = all_push (λ (d : DfcDecl). is_short d.body) c.script.dfcs _ f.dfc_bodies within.1;
      idfc_bodies = f.idfc_bodies;
      irq_bodies = f.irq_bodies;
    }
few-after file c (line.Idfc name ops) h f =
    let within = both (nat_lt (length c.script.idfcs) 64) (is_short ops) h.within in
    record {
      queues = f.queues;
      dfcs = f.dfcs;
      idfcs = one_more 64 c.script.idfcs _ within.0;
      irqs = f.irqs;
      dfc_bodies = f.dfc_bodies;
      idfc_bodies = all_push (λ (d : IdfcDecl). is_short d.body) c.script.idfcs _ f.idfc_bodies within.1;
      irq_bodies = f.irq_bodies;
    }
few-after file c (line.IrqBody k ops) h f =
    let within = both (nat_lt (length c.script.irqs) 32) (is_short ops) h.within in
    record {
      queues = f.queues;
      dfcs = f.dfcs;
      idfcs = f.idfcs;
      irqs = one_more 32 c.script.irqs _ within.0;
      dfc_bodies = f.dfc_bodies;
      idfc_bodies = f.idfc_bodies;
      irq_bodies = all_push (λ (i : IrqBody). is_short i.body) c.script.irqs _ f.irq_bodies within.1;
    }
few-after file c _ h f = record {
  queues = f.queues;
  dfcs = f.dfcs;
  idfcs = f.idfcs;
  irqs = f.irqs;
  dfc_bodies = f.dfc_bodies;
  idfc_bodies = f.idfc_bodies;
  irq_bodies = f.irq_bodies;
}

few-all : (file : List Declared) (c : Context) (lines : List SourceLine) → AllStand file c lines → AreFew c.script → AreFew (after_all c lines).script
few-all file c [] stand f = f
few-all file c (l ∷ ls) stand f = few-all file (after c l) ls stand.1 (few-after file c l stand.0 f)

few-start : AreFew start.script
few-start = record {
  queues = omega arith;
  dfcs = omega arith;
  idfcs = omega arith;
  irqs = omega arith;
  dfc_bodies = refl;
  idfc_bodies = refl;
  irq_bodies = refl;
}

formed_few : (script : Script) → IsWellFormed script → AreFew script
formed_few script f = subst AreFew (sym f.same) (few-all _ start f.lines f.are.stand few-start)

pub formed_is_shaped : (script : Script) → IsWellFormed script → IsShaped script
formed_is_shaped script f =
    let limits = formed_keeps_limits script f in
    let few = formed_few script f in
    record {
      queues = few.queues;
      dfcs = few.dfcs;
      idfcs = few.idfcs;
      irqs = few.irqs;
      dfc_bodies = few.dfc_bodies;
      idfc_bodies = few.idfc_bodies;
      irq_bodies = few.irq_bodies;
      processes = limits.processes;
      count = limits.count;
      threads = limits.threads;
      slots = limits.slots;
      names = formed_names_resolve script f;
      numbers = formed_numbers_in_range script f;
    }
