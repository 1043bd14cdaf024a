-- Who holds what in a state is what its history tells, and each pair of a holder and an object stands once at most.
use Rattle.std.proofs.Common.{◌≡◌, inl, inr, ℕ, ◌+◌, ◌≤◌, List, [], ◌∷◌, arith, refl, sym, ap, ◌∙◌, Bool, true, false, Option, Some, None}
use Rattle.std.specs.Prelude.{◌==◌, if◌then◌else◌}
use Rattle.std.proofs.lemmas.Bool.{eqb-true, and_parts, cases_lt}
use Rattle.sym_base.specs.declared.number.ObjNo.{ObjNo}
use Rattle.sym_base.specs.declared.number.MsgNo.{MsgNo}
use Rattle.script_types.specs.declared.script.Script.{Script}
use Rattle.script_types.specs.Source.{IsWellFormed}
use Rattle.script_types.proofs.ShapeLaws.{formed_is_shaped}
use Rattle.entry_log.specs.declared.effect.Holder.{Holder}
use Rattle.entry_log.specs.declared.effect.Holder.TheVariants.{InProcess, InThread, Temp, Own, Link, Message, Kernel}
use Rattle.entry_log.specs.declared.effect.Effect.{Effect}
use Rattle.entry_log.specs.declared.effect.Effect.TheVariants.{Plus, Minus}
use Rattle.entry_log.specs.declared.entry.Entry.{Entry}
use Rattle.machine.specs.declared.state.State.{State}
use Rattle.state_rows.specs.declared.thread.ThreadRow.{ThreadRow}
use Rattle.machine.specs.Boot.{boot, boot_in}
use Rattle.machine.specs.HeldIn.{held_in}
use Rattle.machine.specs.History.{after_from, after_in, next_by, IsLegalIn}
use Rattle.machine.specs.Holding.{is_holder, held_after, held_after_all, FitsHolders, EachFitsHolders, held_at_boot, link_names}
use Rattle.machine.specs.References.{same}
use Rattle.machine.specs.Rows.{thread_of}
use Rattle.machine_laws.proofs.AtBoot.BootHolders.{held-boot}
use Rattle.move_laws.proofs.References.Effects.{after_all-append, after_all-same}
use Rattle.move_laws.proofs.References.Same.{same_object, same_le, same_is}
use Rattle.machine_safe.specs.CountAfter.{effects_of}
use Rattle.machine_safe.proofs.Runs.{IsSoundRun}
use Rattle.machine_safe.proofs.SafeHistories.{legal_run, run-holders}
use Rattle.move_laws.proofs.Numbers.CountSmall.{holds_le, option_le}

run-held : (script : Script) (S : State) (es : List Entry) (g : Holder) (x : ObjNo) → IsSoundRun script S es
    → held_after_all (held_in S) (effects_of es) g x ≡ held_in (after_from script S es) g x
run-held script S [] g x h = refl
run-held script S (e ∷ es) g x h =
    let T = next_by script S e in
    after_all-append (held_in S) e.effects (effects_of es) g x
    ∙ after_all-same (held_after_all (held_in S) e.effects) (held_in T) (effects_of es) h.0.holders.moves g x
    ∙ run-held script T es g x h.1

-- after each legal history a holder has the references that it had at boot, with those that its effects add and without
-- those that they take away
pub held_as_told : (shared : Bool) (script : Script) (history : List Entry) → IsWellFormed script
    → IsLegalIn shared script history → (g : Holder) (x : ObjNo)
    → held_in (after_in shared script history) g x ≡ held_after_all (held_at_boot script) (effects_of history) g x
held_as_told shared script history valid legal g x =
    sym (run-held script (boot_in shared script) history g x (legal_run shared script history valid legal))
    ∙ after_all-same (held_in (boot_in shared script)) (held_at_boot script) (effects_of history) (held-boot script (formed_is_shaped script valid)) g x

pub same_message : (m n : MsgNo) → m.0 ≡ n.0 → m ≡ n
same_message m n e = let named : ℕ → MsgNo = λ k. record { 0 = k } in ap named e

-- holders that are counted as one are one
pub is_holder_is : (h g : Holder) → is_holder h g ≡ true → h ≡ g
is_holder_is (InProcess p i) (InProcess q j) e =
    let parts = and_parts (p.0 == q.0) (i == j) e in
    ap (λ (x : ObjNo). InProcess x i) (same_object p q (eqb-true p.0 q.0 parts.0)) ∙ ap (InProcess q) (eqb-true i j parts.1)
is_holder_is (InThread p i) (InThread q j) e =
    let parts = and_parts (p.0 == q.0) (i == j) e in
    ap (λ (x : ObjNo). InThread x i) (same_object p q (eqb-true p.0 q.0 parts.0)) ∙ ap (InThread q) (eqb-true i j parts.1)
is_holder_is (Temp t) (Temp u) e = ap Temp (same_object t u (eqb-true t.0 u.0 e))
is_holder_is (Own t) (Own u) e = ap Own (same_object t u (eqb-true t.0 u.0 e))
is_holder_is (Link x) (Link y) e = ap Link (same_object x y (eqb-true x.0 y.0 e))
is_holder_is (Message m) (Message n) e = ap Message (same_message m n (eqb-true m.0 n.0 e))
is_holder_is Kernel Kernel e = refl
is_holder_is _ _ e = cc

added_once_by : (held : Holder → ObjNo → ℕ) (h : Holder) (o : ObjNo) (g : Holder) (x : ObjNo) (b : Bool)
    → is_holder h g ≡ b → held h o ≡ 0 → held g x ≤ 1 → held g x + (if b then same o x else 0) ≤ 1
added_once_by held h o g x false e none few = omega arith
added_once_by held h o g x true e none few = elim (cases_lt 0 (same o x)) as (λ _. held g x + same o x ≤ 1) [
  | inl some ↦
      let at : held g x ≡ held h o = ap (λ (k : Holder). held k x) (sym (is_holder_is h g e)) ∙ ap (held h) (sym (same_is o x some)) in
      let le = same_le o x in omega arith
  | inr none_there ↦ omega arith
]

once_one : (held : Holder → ObjNo → ℕ) (e : Effect) → FitsHolders held e → ((g : Holder) (x : ObjNo) → held g x ≤ 1)
    → (g : Holder) (x : ObjNo) → held_after held e g x ≤ 1
once_one held (Plus h o) fits few g x = added_once_by held h o g x (is_holder h g) refl fits (few g x)
once_one held (Minus h o) fits few g x = let a = few g x in omega arith
once_one held _ fits few g x = few g x

once_all : (held : Holder → ObjNo → ℕ) (es : List Effect) → EachFitsHolders held es
    → ((g : Holder) (x : ObjNo) → held g x ≤ 1) → (g : Holder) (x : ObjNo) → held_after_all held es g x ≤ 1
once_all held [] fits few g x = few g x
once_all held (e ∷ es) fits few g x = once_all (held_after held e) es fits.1 (once_one held e fits.0 few) g x

link_le : (o : ObjNo) (row : Option ThreadRow) → link_names o row ≤ 1
link_le o None = omega arith
link_le o (Some row) = option_le o row.link

once_at_boot : (script : Script) (g : Holder) (x : ObjNo) → held_at_boot script g x ≤ 1
once_at_boot script (Link t) x = link_le x (thread_of (boot script) t)
once_at_boot script Kernel x = holds_le (thread_of (boot script) x)
once_at_boot script _ x = omega arith

-- a holder has one reference to an object at most
pub held_once : (shared : Bool) (script : Script) (history : List Entry) → IsWellFormed script
    → IsLegalIn shared script history → (g : Holder) (x : ObjNo) → held_in (after_in shared script history) g x ≤ 1
held_once shared script history valid legal g x =
    let told = held_as_told shared script history valid legal g x in
    let few = once_all (held_at_boot script) (effects_of history)
    (run-holders shared script history (formed_is_shaped script valid) (legal_run shared script history valid legal))
    (once_at_boot script) g x in
    omega arith
