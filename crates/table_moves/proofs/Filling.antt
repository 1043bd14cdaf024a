-- The memory of a process that is filled.
use Rattle.std.proofs.Common.{◌≡◌, ◌∙◌, ℕ, List, get_or, set, refl, sym, ap, false, true}
use Rattle.std.specs.Prelude.{IsTrue, is_some, Option, Some, None, option_map, unwrap_or}
use Rattle.std.proofs.lemmas.List.{set-get_or}
use Rattle.sym_base.specs.declared.number.ObjNo.{ObjNo}
use Rattle.procs.specs.ProcsRows.{ProcsRows}
use Rattle.procs.specs.Rows.{bytes_of, is_process, no_bytes, with_process}
use Rattle.machine.specs.Memory.{with_memory}

-- the table, where a process's memory has changed
abbrev pub with_changed : ProcsRows → ObjNo → (List ℕ → List ℕ) → ProcsRows
with_changed rows p change = record rows { processes = with_memory rows.processes p change }

-- the memory of a process that was added is changed in its place
pub changed_there : (rows : ProcsRows) (p : ObjNo) (change : List ℕ → List ℕ) → is_process rows p ≡ true
    → with_process rows p (change (bytes_of rows p)) ≡ with_changed rows p change
changed_there rows p change there = by_memory (get_or rows.processes p.0 None) refl
  where
    put : Option (List ℕ) → ProcsRows
    put x = record rows { processes = set rows.processes p.0 x }

    by_memory : (x : Option (List ℕ)) → get_or rows.processes p.0 None ≡ x
        → with_process rows p (change (bytes_of rows p)) ≡ with_changed rows p change
    by_memory None is = let clash : false ≡ true = ap (λ (x : Option (List ℕ)). is_some x) (sym is) ∙ there in absurd (cc)
    by_memory (Some bytes) is =
        ap (λ (x : Option (List ℕ)). put (Some (change (unwrap_or x no_bytes)))) is
        ∙ sym (ap (λ (x : Option (List ℕ)). put (option_map change x)) is)

-- and without one there is none to change
pub changed_nowhere : (rows : ProcsRows) (p : ObjNo) (change : List ℕ → List ℕ) → is_process rows p ≡ false
    → rows ≡ with_changed rows p change
changed_nowhere rows p change nowhere = by_memory (get_or rows.processes p.0 None) refl
  where
    put : Option (List ℕ) → ProcsRows
    put x = record rows { processes = set rows.processes p.0 x }

    by_memory : (x : Option (List ℕ)) → get_or rows.processes p.0 None ≡ x → rows ≡ with_changed rows p change
    by_memory None is = sym (ap (λ (x : Option (List ℕ)). put (option_map change x)) is
        ∙ (ap put (sym is) ∙ ap (λ l. record rows { processes = l }) (set-get_or rows.processes p.0 None)))
    by_memory (Some bytes) is = let clash : true ≡ false = ap (λ (x : Option (List ℕ)). is_some x) (sym is) ∙ nowhere in absurd (cc)
