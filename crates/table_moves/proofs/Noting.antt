-- What is noted of threads for their deaths.
use Rattle.std.proofs.Common.{◌≡◌, ◌∙◌, inl, inr, ◌≤◌, List, [], ◌∷◌, ◌++◌, length, get_or, set, arith, refl, sym, ap, append_assoc, append-nil}
use Rattle.std.specs.Prelude.{Option, None, slice_get}
use Rattle.std.proofs.lemmas.Bool.{cases_lt}
use Rattle.std.proofs.lemmas.List.{set-get_or, set-set, set_past, get_or-set_same, length-set}
use Rattle.std.proofs.Math.ListN.{get_or-map as each-map}
use Rattle.sym_base.specs.declared.number.ObjNo.{ObjNo}
use Rattle.state_rows.specs.declared.duty.Owed.{Owed}
use Rattle.cleanup.specs.Lists.{Lists}
use Rattle.state_rows.specs.declared.thread.ThreadRow.{ThreadRow}
use Rattle.machine.specs.Moves.{use_of_row}
use Rattle.machine.specs.Rows.{owing, first_of}
use Rattle.table_moves.specs.Noted.{AreNoted}

-- what a thread uses is noted
pub noted_at : (s : Lists) (threads : List (Option ThreadRow)) (t : ObjNo) → AreNoted s threads
    → get_or s.temporary t.0 None ≡ use_of_row (get_or threads t.0 None)
noted_at s threads t noted = ap (λ (l : List (Option ObjNo)). get_or l t.0 None) noted ∙ each-map use_of_row threads t.0 None

-- more of what threads owe
module _ (owed : List (List Owed)) (t : ObjNo) where
  pub owing_nothing : owing owed t [] ≡ owed
  owing_nothing = ap (set owed t.0) (append-nil (get_or owed t.0 [])) ∙ set-get_or owed t.0 []

  pub owing_past : (more : List Owed) → length owed ≤ t.0 → owing owed t more ≡ owed
  owing_past more past = set_past owed t.0 _ past

  pub owing_both : (one more : List Owed) → owing (owing owed t one) t more ≡ owing owed t (one ++ more)
  owing_both one more = elim (cases_lt t.0 (length owed)) [
    | inl inside ↦
        set-set owed t.0 _ _
        ∙ ap (set owed t.0) (ap (λ (l : List Owed). l ++ more)
        (get_or-set_same owed t.0 (get_or owed t.0 [] ++ one) [] inside) ∙ append_assoc (get_or owed t.0 []) one more)
    | inr past ↦
        let long : length (owing owed t one) ≤ t.0 = omega (arith, length-set owed t.0 (get_or owed t.0 [] ++ one)) in
        set_past (owing owed t one) t.0 _ long ∙ (set_past owed t.0 _ past ∙ sym (set_past owed t.0 _ past))
  ]

-- the oldest of a list
pub first_is : (owed : List Owed) → slice_get owed 0 ≡ first_of owed
first_is [] = refl
first_is (what ∷ rest) = refl
