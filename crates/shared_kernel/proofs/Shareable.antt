-- A kernel that callers share goes on as one.
use Rattle.std.proofs.Common.{◌≡◌, ◌∙◌, sym, ap, subst, arith, ℕ, zero, suc, ◌+◌, ◌≤◌, List, [], ◌∷◌, ◌++◌, length, true, Option, Some, None}
use Rattle.script_types.specs.declared.script.Script.{Script}
use Rattle.script_types.specs.Source.{IsWellFormed}
use Rattle.entry_log.specs.declared.entry.Actor.{Actor}
use Rattle.entry_log.specs.declared.entry.Entry.{Entry}
use Rattle.ref_words.specs.declared.slip.Slip.{Slip}
use Rattle.ref_words.specs.Words.{Words}
use Rattle.kcore.specs.Finds.{finder}
use Rattle.kcore.specs.KernelMode.{KernelMode, Fresh, Whole, Split, Suits, mode_of}
use Rattle.kcore.specs.KernelView.{KernelView}
use Rattle.table_moves.specs.Notes.{Notes}
use Rattle.kcore.specs.Sending.{notes_after}
use Rattle.kcore.specs.OneMore.{SendsOut}
use Rattle.sym_base.specs.declared.number.ObjNo.{ObjNo}
use Rattle.shared_kernel.specs.declared.acted.Acted.{Acted}
use Rattle.shared_kernel.specs.declared.base.KernelBase.{KernelBase}
use Rattle.shared_kernel.specs.Acts.{Acts}
use Rattle.shared_kernel.specs.Values.{base_of, IsShareable}
use Rattle.shared_kernel.proofs.Sent.{one-longer, out-few, words-stay}

pub suits-shared : (mode : KernelMode) → mode ≡ Split → Suits true mode
suits-shared mode is = λ (whole : mode ≡ Whole). cc

pub shareable-on : (k l : KernelView Words) → IsShareable k → l.script ≡ k.script → l.room ≡ k.room → l.mode ≡ Split
    → length l.history + length l.notes.out ≤ 131072 → IsShareable l
shareable-on k l old script room mode back = record {
  valid = subst IsWellFormed (sym script) old.valid;
  mode = suits-shared l.mode mode;
  room = room ∙ old.room;
  back = back;
}

pub base-on : (k l : KernelView Words) → l.script ≡ k.script → l.notes.identity ≡ k.notes.identity → base_of l ≡ base_of k
base-on k l script identity =
    let one : base_of l ≡ record { script = k.script; identity = l.notes.identity } =
    ap (λ (s : Script). let b : KernelBase = record { script = s; identity = l.notes.identity } in b) script in
    let two : ◌≡◌ {A = KernelBase} (record { script = k.script; identity = l.notes.identity }) (base_of k) =
    ap (λ (i : List ℕ). let b : KernelBase = record { script = k.script; identity = i } in b) identity in
    one ∙ two

-- a history with a find was made by callers who share the kernel
pub split-found : (history : List Entry) (mode : KernelMode) (n : ℕ) (t : ObjNo) → mode ≡ mode_of true history → finder n history ≡ Some t → mode ≡ Split
split-found [] mode n t is at = absurd (none n at)
  where
    none : (n : ℕ) → finder n [] ≡ Some t → ⊥
    none zero at = cc
    none (suc n) at = cc
split-found (e ∷ es) mode n t is at = is

-- a kernel that an actor's entry left, and perhaps a note that went out
module _ (k l : KernelView Words) (actor : Actor) (sent : Option Slip)
    (entry : SendsOut k.script k.history l.history actor sent) (notes : l.notes ≡ notes_after sent k.notes) where
  pub acted-base : l.script ≡ k.script → base_of l ≡ base_of k
  acted-base script = base-on k l script (ap (λ (n : Notes). n.identity) notes ∙ words-stay sent k.notes)

  pub acted-out : length l.notes.out ≤ length k.notes.out + 1
  acted-out = let same = ap (λ (n : Notes). length n.out) notes in let few = out-few sent k.notes in omega arith

  pub acted-longer : length l.history ≡ length k.history + 1
  acted-longer = one-longer k.history l.history entry.more.entry entry.more.longer

  pub acted-shareable : IsShareable k → l.script ≡ k.script → l.room ≡ k.room → l.mode ≡ Split
      → length k.history + length k.notes.out + 2 ≤ 131072 → IsShareable l
  acted-shareable old script room mode space = let out = acted-out in let longer = acted-longer in shareable-on k l old script room mode (omega arith)

  -- what came of it is told of the same base
  pub acted-told : (result : Acted) → l.script ≡ k.script
      → ((old : List Entry) → (by : Actor) → SendsOut l.script old l.history by sent
      → Acts (base_of l) old l.history by result)
      → Acts (base_of k) k.history l.history actor result
  acted-told result script told =
      subst (λ (b : KernelBase). Acts b k.history l.history actor result) (acted-base script)
      (told k.history actor (subst (λ (s : Script). SendsOut s k.history l.history actor sent) (sym script) entry))

-- at boot nothing was done and no note is out
pub shareable-boot : (script : Script) (k : KernelView Words) → IsWellFormed script
    → k ≡ record { script = script; history = []; room = 131072; mode = Fresh; words = k.words; notes = k.notes }
    → k.notes.out ≡ [] → IsShareable k
shareable-boot script k valid is none =
    let history : length k.history ≡ 0 = ap (λ (x : KernelView Words). length x.history) is in
    let out : length k.notes.out ≡ 0 = ap length none in
    let fresh : k.mode ≡ Fresh = ap (λ (x : KernelView Words). x.mode) is in
    record {
      valid = subst IsWellFormed (sym (ap (λ (x : KernelView Words). x.script) is)) valid;
      mode = λ (whole : k.mode ≡ Whole). cc;
      room = ap (λ (x : KernelView Words). x.room) is;
      back = omega arith;
    }
