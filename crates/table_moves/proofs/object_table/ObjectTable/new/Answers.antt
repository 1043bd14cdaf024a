use Rattle.std.proofs.Common.{◌≡◌, ◌∙◌, ℕ, Bool, List, [], ap, get_or, inl, inr, length, replicate}
use Rattle.std.proofs.lemmas.Bool.{cases_lt}
use Rattle.std.proofs.lemmas.List.{get_or-replicate, get_or_past, length-replicate}
use Rattle.sym_base.specs.declared.limits.TheConstants.Limits.{OBJECTS}
use Rattle.ref_words.specs.declared.slip.Slip.{Slip}
use Rattle.ref_words.specs.Words.{Words}
use Rattle.objects.specs.Table.{Table}
use Rattle.table_moves.specs.Notes.{Notes, no_notes, notes_of}
use Rattle.table_moves.proofs.object_table.ObjectTable.new.Goals as goal

-- the notes of words of which none was made
none-made : (w : Words) → w.out ≡ [] → w.made ≡ 0 → notes_of w ≡ no_notes w.identity (length w.own)
none-made w out made =
    ap (λ (l : List Slip). let n : Notes = record { out = l; made = w.made; identity = w.identity; places = length w.own } in n) out
    ∙ ap (λ (m : ℕ). let n : Notes = record { out = []; made = m; identity = w.identity; places = length w.own } in n) made

-- a table over words has their identity
identity-over : {W : Type 0} (meaning : W → Words) (table : Table W) (words : W) → table.words ≡ words
    → no_notes (meaning table.words).identity (length (meaning table.words).own) ≡ no_notes (meaning words).identity (length (meaning words).own)
identity-over meaning table words is = ap (λ w. no_notes (meaning w).identity (length (meaning w).own)) is

-- the table that is made
abbrev IsNew : {W : Type 0} → Table W → Bool → W → Type 0
IsNew table reuse words = table ≡ record { rows = []; counts = replicate OBJECTS 0; made = 0; reuse = reuse; words = words }

-- has these words, and counts nothing
words-over : {W : Type 0} (table : Table W) (reuse : Bool) (words : W) → IsNew table reuse words → table.words ≡ words
words-over table reuse words is = ap (λ t. t.words) is

none-counted : {W : Type 0} (table : Table W) (reuse : Bool) (words : W) → IsNew table reuse words → (k : ℕ) → get_or table.counts k 0 ≡ 0
none-counted table reuse words is k = ap (λ t. get_or t.counts k 0) is ∙ elim (cases_lt k OBJECTS) [
  | inl inside ↦ get_or-replicate OBJECTS k 0 0 inside
  | inr past ↦ get_or_past (replicate {A = ℕ} OBJECTS 0) k 0 (rw length-replicate past)
]

pub returns-clause-notes : goal.returns-clause-notes
returns-clause-notes g c =
    let table = c.in_ok-table.table in
    let meaning = g.W.RefWords.meaning in
    none-made (meaning table.words) c.in_ok-table.ensures.none_out c.in_ok-table.ensures.unmade
    ∙ identity-over meaning table c.args.words (words-over table c.args.reuse c.args.words c.in_ok-table.ensures.table)

pub returns-clause-counts : goal.returns-clause-counts
returns-clause-counts g c =
    none-counted c.in_ok-table.table c.args.reuse c.args.words c.in_ok-table.ensures.table
