-- The finds of a history keep their numbers as it goes on, and the ticket of a find may come back once it is opened.
use Rattle.std.proofs.Common.{◌≡◌, ◌∙◌, sym, ap, refl, subst, ℕ, zero, suc, List, [], ◌∷◌, ◌++◌, append_assoc, Option, Some, None}
use Rattle.std.specs.Prelude.{slice_get}
use Rattle.sym_base.specs.declared.number.ObjNo.{ObjNo}
use Rattle.entry_log.specs.declared.entry.Entry.{Entry}
use Rattle.ref_words.specs.declared.answer.Found.{Found}
use Rattle.count_rule.specs.Seats.{Note}
use Rattle.turn_lock.specs.Log.{Begins}
use Rattle.kcore.specs.Finds.{finder, finders, finders_by, found_in}
use Rattle.shared_kernel.specs.declared.base.KernelBase.{KernelBase}
use Rattle.shared_kernel.specs.Returns.{IsFound, IsOpened}

finders-append : (xs ys : List Entry) → finders (xs ++ ys) ≡ finders xs ++ finders ys
finders-append [] ys = refl
finders-append (x ∷ xs) ys =
    let here = finders_by x.actor (found_in x.effects) in
    ap (λ (l : List ObjNo). here ++ l) (finders-append xs ys) ∙ sym (append_assoc here (finders xs) (finders ys))

gets-front : (xs ys : List ObjNo) (k : ℕ) (t : ObjNo) → slice_get xs k ≡ Some t → slice_get (xs ++ ys) k ≡ Some t
gets-front [] ys k t at = absurd (cc)
gets-front (x ∷ xs) ys zero t at = at
gets-front (x ∷ xs) ys (suc k) t at = gets-front xs ys k t at

finder-more : (k : ℕ) (front rest : List Entry) (t : ObjNo) → finder k front ≡ Some t → finder k (front ++ rest) ≡ Some t
finder-more zero front rest t at = absurd (cc)
finder-more (suc k) front rest t at = ap (λ (l : List ObjNo). slice_get l k) (finders-append front rest) ∙ gets-front (finders front) (finders rest) k t at

pub finder-longer : (k : ℕ) (front whole : List Entry) (t : ObjNo) → Begins front whole → finder k front ≡ Some t → finder k whole ≡ Some t
finder-longer k front whole t begins at = ap (λ (l : List Entry). finder k l) (sym begins.is) ∙ finder-more k front begins.rest t at

-- the ticket of a find, once it has opened its object or found it dead
pub opened-found : (b : KernelBase) (history : List Entry) (t : ObjNo) (ticket opened : Note) (found : Found)
    → opened ≡ record ticket { found = Some found } → IsFound b history t ticket → IsOpened b history t opened
opened-found b history t ticket opened found is its =
    let settled : IsOpened b history t (record ticket { found = Some found }) = record {
      opened = λ (none : ◌≡◌ {A = Option Found} (Some found) None). cc;
      same_words = its.same_words;
      its = its.its;
    } in
    subst (IsOpened b history t) (sym is) settled
