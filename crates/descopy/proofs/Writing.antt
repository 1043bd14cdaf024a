-- The memory of a process while a piece is written to it, byte for byte.
use Rattle.std.proofs.Common.{◌≡◌, ◌∙◌, ℕ, ◌+◌, ◌<◌, List, ◌++◌, length, get_or, set, take, drop, refl, sym, ap, arith, inl, inr, false, true}
use Rattle.std.specs.Prelude.{IsTrue, is_some, Option, Some, None, option_map, unwrap_or}
use Rattle.std.proofs.lemmas.Bool.{cases_lt}
use Rattle.std.proofs.lemmas.List.{append_assoc, get_or-set_same, get_or_past, length-append, length-drop, length-take, set-get_or, set-set}
use Rattle.std.proofs.lemmas.List.Edits.{paste_all, paste_more, paste_none}
use Rattle.sym_base.specs.declared.number.ObjNo.{ObjNo}
use Rattle.procs.specs.ProcsRows.{ProcsRows}
use Rattle.procs.specs.Rows.{bytes_of, is_process, no_bytes, with_process}
use Rattle.copy_rules.specs.Memory.{overwritten, with_memory}

-- bytes, of which the first k of a piece stand from an offset on
abbrev pub pasted : ℕ → List ℕ → ℕ → List ℕ → List ℕ
pasted at piece k bytes = take at bytes ++ take k piece ++ drop (at + k) bytes

-- the table, where so many bytes of a piece are written to a process
abbrev pub with_pasted : ProcsRows → ObjNo → ℕ → List ℕ → ℕ → ProcsRows
with_pasted rows p at piece k = record rows { processes = with_memory rows.processes p (pasted at piece k) }

-- a byte behind those that are written
reach : (at k : ℕ) (piece bytes : List ℕ) → k < length piece → at + k < length (pasted at piece k bytes) → at + k < length bytes
reach at k piece bytes within long =
    omega (
      arith,
      long,
      length-append (take at bytes ++ take k piece) (drop (at + k) bytes),
      length-append (take at bytes) (take k piece),
      length-take k piece,
      length-drop (at + k) bytes,
      length-take at bytes,
    )

-- two changes of a memory that are one where it stands
same_change : (rows : ProcsRows) (p : ObjNo) (one other : List ℕ → List ℕ)
    → ((bytes : List ℕ) → one bytes ≡ other bytes)
    → with_memory rows.processes p one ≡ with_memory rows.processes p other
same_change rows p one other same = ap (set rows.processes p.0) (by_memory (get_or rows.processes p.0 None))
  where
    by_memory : (x : Option (List ℕ)) → option_map one x ≡ option_map other x
    by_memory None = refl
    by_memory (Some bytes) = ap (λ (l : List ℕ). Some l) (same bytes)

-- no byte is written
pub writing_begins : (rows : ProcsRows) (p : ObjNo) (at : ℕ) (piece : List ℕ) → rows ≡ with_pasted rows p at piece 0
writing_begins rows p at piece =
    ap (λ l. record rows { processes = l }) (unchanged ∙ same_change rows p (λ bytes. bytes) (pasted at piece 0) (λ bytes. paste_none bytes at piece))
  where
    kept : (x : Option (List ℕ)) → x ≡ option_map (λ (bytes : List ℕ). bytes) x
    kept None = refl
    kept (Some bytes) = refl

    unchanged : rows.processes ≡ with_memory rows.processes p (λ bytes. bytes)
    unchanged = sym (set-get_or rows.processes p.0 None) ∙ ap (set rows.processes p.0) (kept (get_or rows.processes p.0 None))

-- all are written
pub writing_ends : (rows : ProcsRows) (p : ObjNo) (at k : ℕ) (piece : List ℕ) → k ≡ length piece
    → with_pasted rows p at piece k ≡ record rows { processes = with_memory rows.processes p (overwritten at piece) }
writing_ends rows p at k piece whole =
    ap (λ l. record rows { processes = l })
    (same_change rows p (pasted at piece k) (overwritten at piece)
    (λ bytes. paste_all bytes at piece k whole
    ∙ (sym (append_assoc (take at bytes) piece (drop (at + k) bytes))
    ∙ ap (λ (n : ℕ). take at bytes ++ piece ++ drop (at + n) bytes) whole)))

process_inside : (memories : List (Option (List ℕ))) (p : ℕ) (bytes : List ℕ) → get_or memories p None ≡ Some bytes → p < length memories
process_inside memories p bytes is = elim (cases_lt p (length memories)) [
  | inl inside ↦ inside
  | inr past ↦ let none = get_or_past memories p None past in absurd (cc)
]

-- one byte more is written
pub writing_goes_on : (rows now new : ProcsRows) (p : ObjNo) (at k byte : ℕ) (piece : List ℕ)
    → IsTrue (is_process rows p) → k < length piece → at + k < 1024 → byte ≡ get_or piece k 0
    → now ≡ with_pasted rows p at piece k → new ≡ with_process now p (set (bytes_of now p) (at + k) byte)
    → length (bytes_of now p) ≡ 1024 → new ≡ with_pasted rows p at piece (k + 1)
writing_goes_on rows now new p at k byte piece there within low read before after size = by_memory (get_or rows.processes p.0 None) refl
  where
    put : Option (List ℕ) → ProcsRows
    put x = record rows { processes = set rows.processes p.0 x }

    by_memory : (x : Option (List ℕ)) → get_or rows.processes p.0 None ≡ x → new ≡ with_pasted rows p at piece (k + 1)
    by_memory None is = let clash : false ≡ true = ap (λ (x : Option (List ℕ)). is_some x) (sym is) ∙ there in absurd (cc)
    by_memory (Some bytes) is =
        let done : List ℕ = pasted at piece k bytes in
        let was : now ≡ put (Some done) = before ∙ ap (λ (x : Option (List ℕ)). put (option_map (pasted at piece k) x)) is in
        let stands : bytes_of now p ≡ done = ap (λ (s : ProcsRows). bytes_of s p) was
        ∙ ap (λ (x : Option (List ℕ)). unwrap_or x no_bytes)
        (get_or-set_same rows.processes p.0 (Some done) None (process_inside rows.processes p.0 bytes is)) in
        let long : length done ≡ 1024 = ap (λ (l : List ℕ). length l) (sym stands) ∙ size in
        let inside : at + k < length bytes = reach at k piece bytes within (omega (arith, long, low)) in
        let next : set (bytes_of now p) (at + k) byte ≡ pasted at piece (k + 1) bytes =
        ap (λ (l : List ℕ). set l (at + k) byte) stands
        ∙ (ap (set done (at + k)) read ∙ paste_more bytes at piece k 0 inside within) in
        after
        ∙ (ap (with_process now p) next
        ∙ (ap (λ (s : ProcsRows). with_process s p (pasted at piece (k + 1) bytes)) was
        ∙ (ap (λ l. record rows { processes = l }) (set-set rows.processes p.0 (Some done) (Some (pasted at piece (k + 1) bytes)))
        ∙ ap (λ (x : Option (List ℕ)). put (option_map (pasted at piece (k + 1)) x)) (sym is))))
