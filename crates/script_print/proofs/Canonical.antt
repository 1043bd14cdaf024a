-- The canonical text of an accepted script is accepted as this script.
use Rattle.std.proofs.Common.{◌≡◌, ℕ, ◌≤◌, true, false, List, [], ◌∷◌, ◌++◌, length, map, refl, ap, sym, subst, ◌∙◌, arith}
use Rattle.std.proofs.lemmas.Bool.{leb-true}
use Rattle.std.specs.List.{AllByRecursion, flat_map}
use Rattle.script_print.specs.CanonicalText.{spaced, source_text, canonical_lines, canonical_text}
use Rattle.script_print.proofs.CutAgain.{words_again, words_clean, lines_again}
use Rattle.script_print.proofs.LinesAgain.{canonical_stands}
use Rattle.script_print.proofs.NamesAgain.{twos}
use Rattle.script_print.proofs.PlainLines.{line_printed}
use Rattle.script_print.proofs.ScheduleAgain.{Stand}
use Rattle.script_types.specs.Context.{start, after, after_all, is_ended}
use Rattle.script_types.specs.Names.{Declared, first_two}
use Rattle.script_grammar.specs.Accepted.{IsAccepted}
use Rattle.script_types.specs.Source.{IsClean}
use Rattle.script_types.specs.SourceText.{text_lines, told_words, words_of}
use Rattle.script_types.specs.SourceWords.{source_words}
use Rattle.script_types.specs.Stands.{AllStand, is_within}
use Rattle.script_types.specs.Forms.{form_of}
use Rattle.script_types.specs.declared.instruction.Instr.{Instr}
use Rattle.script_types.specs.declared.instruction.Instr.TheVariants as instr
use Rattle.script_types.specs.declared.source_line.SourceLine.TheVariants as line
use Rattle.script_words.proofs.Steps.{both}
use Rattle.std.specs.Prelude.{nat_le, nat_lt}
use Rattle.script_types.specs.declared.context.Context.{Context}
use Rattle.script_types.specs.declared.script.Script.{Script}
use Rattle.script_types.specs.declared.source_line.SourceLine.{SourceLine}

-- the texts of lines, without their line feeds
texts_of : List SourceLine → List (List ℕ)
texts_of lines = map (λ l. spaced (source_words l)) lines

-- lines that stand somewhere, as they are printed
record Printed (lines : List SourceLine) : Type 0 where
  clean : AllByRecursion IsClean (texts_of lines)
  told : told_words (texts_of lines) ≡ map source_words lines

-- a body has four operations at most
instr_within : (what : Instr) → length (form_of (line.Instr what)).body ≤ 4
instr_within instr.Enter = omega arith
instr_within _ = omega arith

body_within : (c : Context) (l : SourceLine) → is_within c l ≡ true → length (form_of l).body ≤ 4
body_within c (line.Dfc name queue p ops) h = leb-true (length ops) 4 (both (nat_lt (length c.script.dfcs) 64) (nat_le (length ops) 4) h).1
body_within c (line.Idfc name ops) h = leb-true (length ops) 4 (both (nat_lt (length c.script.idfcs) 64) (nat_le (length ops) 4) h).1
body_within c (line.IrqBody k ops) h = leb-true (length ops) 4 (both (nat_lt (length c.script.irqs) 32) (nat_le (length ops) 4) h).1
body_within c (line.Instr what) h = instr_within what
body_within c (line.KernelThread name p true) h = omega arith
body_within c (line.Thread name p true) h = omega arith
body_within c _ h = omega arith

printed : (file : List Declared) (c : Context) (lines : List SourceLine) → AllStand file c lines → Printed lines
unfolding texts_of
printed file c [] stand = record { clean = tt; told = refl }
printed file c (l ∷ ls) stand =
    let p = line_printed l stand.0.ranges (body_within c l stand.0.within) in
    let later = printed file (after c l) ls stand.1 in
    let words : words_of (spaced (source_words l)) ≡ source_words l = words_again (source_words l) p.some p.plain in
    record {
      clean = (words_clean (source_words l) p.short p.plain, later.clean);
      told = rw (words, p.told) (ap (λ (ws : List (List (List ℕ))). source_words l ∷ ws) later.told);
    }

joined : (lines : List SourceLine) → flat_map source_text lines ≡ flat_map (λ (t : List ℕ). t ++ 10 ∷ []) (texts_of lines)
unfolding texts_of
joined [] = refl
joined (l ∷ ls) = ap (λ t. source_text l ++ t) (joined ls)

-- lines that stand, as they are printed: they make the same
lines_taken : (lines : List SourceLine) (made : Context) → Stand (twos lines) start lines made → is_ended made ≡ true
    → IsAccepted (flat_map source_text lines) made.script
lines_taken lines made h ended =
    let texts = texts_of lines in
    let p = printed (twos lines) start lines h.stand in
    let cut : text_lines (flat_map source_text lines) ≡ texts = ap text_lines (joined lines) ∙ lines_again texts p.clean in
    let spelled : told_words (text_lines (flat_map source_text lines)) ≡ map source_words lines = ap told_words cut ∙ p.told in
    record {
      lines = lines;
      are = record {
        clean = subst (λ (ts : List (List ℕ)). AllByRecursion IsClean ts) (sym cut) p.clean;
        spelled = spelled;
        stand = subst (λ (ws : List (List (List ℕ))). AllStand (map first_two ws) start lines) (sym spelled) h.stand;
      };
      ended = ap is_ended h.makes ∙ ended;
      same = ap (λ (c : Context). c.script) (sym h.makes);
    }

-- lines that may stand, in a file of just these, spell the script that they make
pub lines_accepted : (lines : List SourceLine) (made : Context) → AllStand (twos lines) start lines
    → after_all start lines ≡ made → is_ended made ≡ true → IsAccepted (flat_map source_text lines) made.script
lines_accepted lines made stand makes ended = lines_taken lines made (record { stand = stand; makes = makes }) ended

-- the canonical text of a script that bytes spell
pub canonical_accepted : (bytes : List ℕ) (script : Script) → IsAccepted bytes script → IsAccepted (canonical_text script) script
unfolding canonical_text
canonical_accepted bytes script s =
    let made : Context = after_all start s.lines in
    let stand : AllStand (twos s.lines) start s.lines = subst
    (λ (ws : List (List (List ℕ))). AllStand (map first_two ws) start s.lines) s.are.spelled s.are.stand in
    let taken = lines_taken (canonical_lines made.script) made (canonical_stands s.lines stand s.ended) s.ended in
    subst (λ (t : Script). IsAccepted (flat_map source_text (canonical_lines t)) t) (sym s.same) taken
