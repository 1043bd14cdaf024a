-- In every well-formed script each process has a thread.
use Rattle.std.proofs.Common.{◌≡◌, ◌⊎◌, inl, inr, ℕ, suc, ◌<◌, Bool, true, false, List, [], ◌∷◌, ◌++◌, length, sym, ap, subst, refl, arith, length-append, Option, Some, None}
use Rattle.std.proofs.lemmas.Bool.{eqb-true, cases_lt}
use Rattle.script_types.specs.Context.{start, after, after_all, with_instr, last_of, may_stand, kind_of, is_thread, is_ended, rank_or}
use Rattle.script_types.specs.Names.{Declared}
use Rattle.script_types.specs.Source.{IsWellFormed}
use Rattle.script_types.specs.Stands.{Stands, AllStand}
use Rattle.script_types.specs.declared.context.Context.{Context}
use Rattle.script_types.specs.declared.declaration.ThreadDecl.{ThreadDecl}
use Rattle.script_types.specs.declared.instruction.Instr.{Instr}
use Rattle.script_types.specs.declared.script.Script.{Script}
use Rattle.script_types.specs.declared.source_line.LineKind.{LineKind}
use Rattle.script_types.specs.declared.source_line.LineKind.TheVariants as of
use Rattle.script_types.specs.declared.source_line.SourceLine.{SourceLine}
use Rattle.script_types.specs.declared.source_line.SourceLine.TheVariants as line
use Rattle.script_types.proofs.LimitLaws.{IsSound, sound-after, sound-start, thread_needs}

-- one of the threads is of the process of this number
abbrev pub HasThread : ℕ → List ThreadDecl → Type 0
HasThread i [] = ⊥
HasThread i (t ∷ ts) = (t.process ≡ Some i) ⊎ HasThread i ts

-- what holds of the lines so far: the last process may still lack its thread
record IsSettled (c : Context) : Type 0 where
  others : (i : ℕ) → suc i < length c.script.processes → HasThread i c.script.threads
  last : c.awaits_thread ≡ false → (i : ℕ) → suc i ≡ length c.script.processes → HasThread i c.script.threads
  awaiting : c.awaits_thread ≡ true → c.rank ≡ Some 8

-- one more thread
has_more : (i : ℕ) (ts : List ThreadDecl) (t : ThreadDecl) → HasThread i ts → HasThread i (ts ++ t ∷ [])
has_more i [] t h = absurd h
has_more i (u ∷ us) t (inl here) = inl here
has_more i (u ∷ us) t (inr later) = inr (has_more i us t later)

has_last : (i : ℕ) (ts : List ThreadDecl) (t : ThreadDecl) → t.process ≡ Some i → HasThread i (ts ++ t ∷ [])
has_last i [] t e = inl e
has_last i (u ∷ us) t e = inr (has_last i us t e)

-- one more instruction
has_instr : (i : ℕ) (ts : List ThreadDecl) (what : Instr) → HasThread i ts → HasThread i (with_instr ts what)
has_instr i [] what h = absurd h
has_instr i (t ∷ []) what h = h
has_instr i (t ∷ u ∷ us) what (inl here) = inl here
has_instr i (t ∷ u ∷ us) what (inr later) = inr (has_instr i (u ∷ us) what later)

-- where a line that isn't a thread's may stand, no thread is awaited
settled : (c : Context) (kind : LineKind) (rank : Option ℕ) (awaits : Bool) → c.rank ≡ rank → c.awaits_thread ≡ awaits
    → may_stand rank awaits kind ≡ true → is_thread kind ≡ false → IsSettled c → c.awaits_thread ≡ false
settled c kind rank false e f h other o = f
settled c kind None true e f h other o = let at = o.awaiting f in absurd (cc)
settled c kind (Some rank) true e f h other o = absurd (cc)

last_is : {A : Type 0} (xs : List A) → 0 < length xs → suc (last_of xs) ≡ length xs
last_is [] h = absurd (omega arith)
last_is (x ∷ xs) h = refl

settled-after : (file : List Declared) (c : Context) (l : SourceLine) → Stands file c l → IsSound c → IsSettled c → IsSettled (after c l)
settled-after file c (line.KernelThread name priority held) h s o =
    let before = settled c of.KernelThread c.rank c.awaits_thread refl refl h.order refl o in
    record {
      others = λ i below. has_more i c.script.threads _ (o.others i below);
      last = λ e i is. has_more i c.script.threads _ (o.last before i is);
      awaiting = λ e. absurd (cc);
    }
settled-after file c (line.Process name) h s o =
    let before = settled c of.Process c.rank c.awaits_thread refl refl h.order refl o in
    let size : length (after c (line.Process name)).script.processes ≡ suc (length c.script.processes) = simp length-append (omega arith) in
    record {
      others = λ i below. elim (cases_lt (suc i) (length c.script.processes)) as (λ _. HasThread i c.script.threads) [
        | inl lt ↦ o.others i lt
        | inr le ↦ o.last before i (omega arith)
      ];
      last = λ e. absurd (cc);
      awaiting = λ e. refl;
    }
settled-after file c (line.Thread name priority held) h s o =
    let least = thread_needs c c.rank c.awaits_thread refl refl h.order s in
    let number = last_is c.script.processes least in
    record {
      others = λ i below. has_more i c.script.threads _ (o.others i below);
      last = λ e i is. has_last i c.script.threads _ (ap Some (let same : last_of c.script.processes ≡ i = omega arith in same));
      awaiting = λ e. absurd (cc);
    }
settled-after file c (line.Instr what) h s o =
    let before = settled c of.Instr c.rank c.awaits_thread refl refl h.order refl o in
    record {
      others = λ i below. has_instr i c.script.threads what (o.others i below);
      last = λ e i is. has_instr i c.script.threads what (o.last before i is);
      awaiting = λ e. absurd (cc);
    }
settled-after file c l h s o = record {
  others = o.others;
  last = λ e. o.last (settled c (kind_of l) c.rank c.awaits_thread refl refl h.order refl o);
  awaiting = λ e. absurd (cc);
}

settled-all : (file : List Declared) (c : Context) (lines : List SourceLine) → AllStand file c lines → IsSound c → IsSettled c → IsSettled (after_all c lines)
settled-all file c [] stand s o = o
settled-all file c (l ∷ ls) stand s o = settled-all file (after c l) ls stand.1 (sound-after file c l stand.0 s) (settled-after file c l stand.0 s o)

settled-start : IsSettled start
settled-start = record { others = λ i below. absurd (omega arith); last = λ e i is. absurd (omega arith); awaiting = λ e. absurd (cc) }

-- behind `end` no thread is awaited
ended_settled : (c : Context) (awaits : Bool) → c.awaits_thread ≡ awaits → is_ended c ≡ true → IsSettled c → c.awaits_thread ≡ false
ended_settled c false f ended o = f
ended_settled c true f ended o =
    let at = o.awaiting f in
    let rank : rank_or c.rank ≡ 11 = eqb-true (rank_or c.rank) 11 ended in
    let eight : rank_or c.rank ≡ 8 = ap rank_or at in
    absurd (omega arith)

ended_has : (c : Context) → is_ended c ≡ true → IsSettled c → (i : ℕ) → i < length c.script.processes → HasThread i c.script.threads
ended_has c ended o i below = elim (cases_lt (suc i) (length c.script.processes)) as (λ _. HasThread i c.script.threads) [
  | inl lt ↦ o.others i lt
  | inr le ↦ o.last (ended_settled c c.awaits_thread refl ended o) i (omega arith)
]

pub formed_has_thread : (script : Script) → IsWellFormed script → (i : ℕ) → i < length script.processes → HasThread i script.threads
formed_has_thread script a =
    let c = after_all start a.lines in
    subst (λ (s : Script). (i : ℕ) → i < length s.processes → HasThread i s.threads) (sym a.same)
    (ended_has c a.ended (settled-all _ start a.lines a.are.stand sound-start settled-start))
