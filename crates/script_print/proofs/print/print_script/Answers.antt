use Rattle.std.proofs.Common.{◌≡◌, ◌++◌, ap, sym, subst, ◌∙◌}
use Rattle.script_print.specs.CanonicalText.{source_texts, canonical_lines, canonical_text}
use Rattle.script_print.proofs.Canonical.{canonical_accepted}
use Rattle.script_grammar.specs.Accepted.{IsAccepted}
use Rattle.script_types.specs.Source.{IsWellFormed}
use Rattle.script_print.proofs.print.print_script.Goals as goal

pub returns : goal.returns
unfolding canonical_text
returns c =
    let script = c.args.script.now in
    let text : c.put_script.new.out.items ≡ canonical_text script =
    c.in_ok-put_script.ensures ∙ ap (λ xs. xs ++ source_texts (canonical_lines script)) c.new-out.ensures.items in
    record {
      text = text;
      again =
          λ (w : IsWellFormed script). subst (λ bytes. IsAccepted bytes script) (sym text)
          (canonical_accepted w.bytes script (record { lines = w.lines; are = w.are; ended = w.ended; same = w.same }));
    }
