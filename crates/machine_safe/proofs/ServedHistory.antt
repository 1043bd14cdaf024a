-- A short history of a server and its client, of which it is proved that its messages are safe.
use Rattle.std.proofs.Common.{◌≡◌, ℕ, ℤ, ◌+◌, ◌<◌, List, [], ◌∷◌, ◌++◌, Option, Some, None, Bool, true, false, refl, sym, ap, subst, ◌∙◌, arith}
use Rattle.std.specs.Prelude.{pos, codes, if◌then◌else◌, ◌==◌}
use Rattle.std.proofs.lemmas.Bool.{eqb-true}
use Rattle.std.proofs.lemmas.List.{append-nil, append_assoc}
use Rattle.sym_base.specs.declared.kind.Arg.TheVariants.{Number}
use Rattle.sym_base.specs.declared.kind.Slots.TheVariants as slots
use Rattle.sym_base.specs.declared.number.MsgNo.{MsgNo}
use Rattle.sym_base.specs.declared.number.ObjNo.{ObjNo}
use Rattle.sym_base.specs.declared.word.Word.TheVariants as word
use Rattle.script_types.specs.declared.declaration.ThreadDecl.{ThreadDecl}
use Rattle.script_types.specs.declared.instruction.Instr.TheVariants.{Server, Connect, Send, Complete, Close}
use Rattle.script_types.specs.declared.script.Script.{Script}
use Rattle.entry_log.specs.declared.effect.Effect.{Effect}
use Rattle.entry_log.specs.declared.effect.Effect.TheVariants as effect
use Rattle.entry_log.specs.declared.effect.Holder.TheVariants as holder
use Rattle.entry_log.specs.declared.effect.StatusNo.TheVariants as status
use Rattle.entry_log.specs.declared.entry.Actor.TheVariants.{Thread}
use Rattle.entry_log.specs.declared.entry.Entry.{Entry}
use Rattle.entry_log.specs.declared.step.Part.TheVariants as part
use Rattle.entry_log.specs.declared.step.Step.{Step}
use Rattle.entry_log.specs.declared.step.Step.TheVariants as step
use Rattle.machine.specs.Boot.{boot_of}
use Rattle.machine_safe.specs.CountAfter.{effects_of}
use Rattle.machine_safe.specs.SafeMessages.{IsAcceptance, IsEnd, IsFinish, IsSafeMessages, NothingLeft}
use Rattle.machine_safe.specs.Sent.{Accepts, accepts, finishes}
use Rattle.machine_safe.specs.Served.{ends, ends_in, is_closing_in}
use Rattle.machine.specs.Decide.{answer}

-- Process 2 has thread 3, which serves, and process 4 has thread 5, its client.
abbrev pub serving_thread : ThreadDecl
serving_thread = record {
  name = codes "sv";
  priority = 20;
  held = false;
  process = Some 0;
  instrs = Server (codes "files") 0 ∷ Complete 0 (pos 0) ∷ Complete 1 (pos 5) ∷ Close 0 ∷ [];
}

abbrev pub client_thread : ThreadDecl
client_thread = record {
  name = codes "c";
  priority = 10;
  held = false;
  process = Some 1;
  instrs =
      Connect (codes "files") (slots.Own 1) 0 ∷ Send 0 1 0
      (record { 0 = Number (pos 0); 1 = Number (pos 0); 2 = Number (pos 0); 3 = Number (pos 0) }) ∷ [];
}

abbrev pub served_script : Script
served_script = record {
  version = 1;
  pool = 0;
  fast = 0;
  queues = [];
  dfcs = [];
  idfcs = [];
  irqs = [];
  processes = record { name = codes "ps" } ∷ record { name = codes "pc" } ∷ [];
  threads = serving_thread ∷ client_thread ∷ [];
  slots = [];
}

-- object n, message n, and an entry of thread t
abbrev pub number : ℕ → ObjNo
number n = record { 0 = n }

abbrev pub message : ℕ → MsgNo
message n = record { 0 = n }

abbrev pub acts : ℕ → ℕ → Step → List Effect → Option ℤ → Entry
acts place t done effects answer = record { place = place; actor = Thread (number t); step = done; effects = effects; answer = answer }

-- the server is object 6, and the session object 7
abbrev pub accepted : ℕ → List Effect
accepted n = effect.Accept (message n) ∷ effect.Plus (holder.Message (message n)) (number 7) ∷ effect.Plus (holder.Message (message n)) (number 5) ∷ []

abbrev pub serves : Entry
serves =
    acts 1 3 (step.Of word.Server part.Do) (effect.Plus (holder.Own (number 3)) (number 6) ∷ effect.Plus
    (holder.InThread (number 3) 0) (number 6) ∷ []) (Some (pos 1073807360))

abbrev pub joins : Entry
joins =
    acts 2 5 (step.Of word.Connect part.Make)
    (effect.Plus (holder.InThread (number 5) 0) (number 7) ∷ effect.Plus (holder.Link (number 7)) (number 6) ∷ []) None

-- the session is linked in another step than the one that makes sessions
abbrev pub links_elsewhere : Entry
links_elsewhere = acts 2 5 (step.Of word.Dup part.Do) (effect.Plus (holder.Link (number 7)) (number 6) ∷ []) None

abbrev pub connects : Entry
connects = acts 3 5 (step.Of word.Connect part.Send) (accepted 1) None

abbrev pub completes : ℕ → ℕ → List Effect → Entry
completes place n told = acts place 3 (step.Of word.Complete part.Do) told (Some (pos 0))

abbrev pub first_end : Entry
first_end = completes 4 1 (effect.Finish (message 1) (pos 0) ∷ effect.Signal (number 5) status.Sync (pos 0) ∷ [])

abbrev pub connected : Entry
connected = acts 5 5 (step.Of word.Connect part.Done) [] (Some (pos 1073807360))

abbrev pub sends : ℕ → ℕ → Entry
sends place n = acts place 5 (step.Of word.Send part.Do) (accepted n) (Some (pos 0))

abbrev pub second_end : Entry
second_end = completes 7 2 (effect.Finish (message 2) (pos 5) ∷ effect.Signal (number 5) (status.Async 0) (pos 5) ∷ [])

abbrev pub closes : ℕ → Entry
closes place = acts place 3 (step.Of word.Close part.Do) (effect.Minus (holder.InThread (number 3) 0) (number 6) ∷ []) (Some (pos 0))

abbrev pub stops : Entry
stops = acts 9 3 step.Stop (effect.Terminated (number 6) ∷ effect.Minus (holder.Own (number 3)) (number 6) ∷ effect.Dead (number 6) ∷ []) None

abbrev pub opens : List Entry
opens = serves ∷ joins ∷ connects ∷ []

abbrev pub served : List Entry
served = serves ∷ joins ∷ connects ∷ first_end ∷ connected ∷ sends 6 2 ∷ second_end ∷ closes 8 ∷ stops ∷ []

-- what holds of each entry, with what is before it
abbrev pub AtEach : (List Entry → Entry → Type 0) → List Entry → List Entry → Type 0
AtEach P before [] = Unit {0}
AtEach P before (e ∷ es) = P before e × AtEach P (before ++ e ∷ []) es

pub same_first : {A : Type 0} (a b : A) (xs ys : List A) → a ∷ xs ≡ b ∷ ys → (a ≡ b) × (xs ≡ ys)
same_first a b xs ys e = (cc, cc)

pub at-each : (P : List Entry → Entry → Type 0) (front es before : List Entry) (e : Entry) (later : List Entry)
    → AtEach P front es → es ≡ before ++ e ∷ later → P (front ++ before) e
at-each P front [] [] e later all is = absurd (cc)
at-each P front [] (b ∷ bs) e later all is = absurd (cc)
at-each P front (x ∷ xs) [] e later all is =
    let first = same_first x e xs later is in
    subst (λ (l : List Entry). P l e) (sym (append-nil front)) (subst (P front) first.0 all.0)
at-each P front (x ∷ xs) (b ∷ bs) e later all is =
    let first = same_first x b xs (bs ++ e ∷ later) is in
    subst (λ (l : List Entry). P l e) (append_assoc front (b ∷ []) bs)
    (subst (λ (y : Entry). P (front ++ y ∷ [] ++ bs) e) first.0
    (at-each P (front ++ x ∷ []) xs bs e later all.1 first.1))

-- which message a finish names
pub one_number : (n : ℕ) (m : MsgNo) → 0 < (if n == m.0 then 1 else 0) + 0 → message n ≡ m
one_number n m some = by (n == m.0) refl some
  where
    by : (b : Bool) → (n == m.0) ≡ b → 0 < (if b then 1 else 0) + 0 → message n ≡ m
    by true is some = let made : ℕ → MsgNo = λ k. record { 0 = k } in ap made (eqb-true n m.0 is)
    by false is some = absurd (omega arith)

-- both messages are accepted as they should
pub first_accepted : IsAcceptance served_script (serves ∷ joins ∷ []) connects
unfolding boot_of
first_accepted = record {
  message = message 1;
  by = record { session = number 7; client = number 5; rest = []; told = refl };
  number = refl;
  only = refl;
  client = refl;
  step = refl;
  server = number 6;
  linked = refl;
  same = refl;
  accepting = refl;
  lasts = refl;
}

pub second_accepted : IsAcceptance served_script (opens ++ first_end ∷ connected ∷ []) (sends 6 2)
unfolding boot_of
second_accepted = record {
  message = message 2;
  by = record { session = number 7; client = number 5; rest = []; told = refl };
  number = refl;
  only = refl;
  client = refl;
  step = refl;
  server = number 6;
  linked = refl;
  same = refl;
  accepting = refl;
  lasts = refl;
}

-- and finished
first_finished : IsFinish served_script opens first_end (message 1)
unfolding boot_of
first_finished = record {
  accepted = record {
    before = serves ∷ joins ∷ [];
    at = connects;
    later = [];
    stands = refl;
    by = record { session = number 7; client = number 5; rest = []; told = refl };
  };
  once = refl;
  server = number 6;
  linked = refl;
  same = refl;
  owner = number 3;
  owns = refl;
  actor = refl;
  code = pos 0;
  cause = refl;
  told = refl;
}

second_finished : IsFinish served_script (opens ++ first_end ∷ connected ∷ sends 6 2 ∷ []) second_end (message 2)
unfolding boot_of
second_finished = record {
  accepted = record {
    before = opens ++ first_end ∷ connected ∷ [];
    at = sends 6 2;
    later = [];
    stands = refl;
    by = record { session = number 7; client = number 5; rest = []; told = refl };
  };
  once = refl;
  server = number 6;
  linked = refl;
  same = refl;
  owner = number 3;
  owns = refl;
  actor = refl;
  code = pos 5;
  cause = refl;
  told = refl;
}

-- nothing is left as the server stops
abbrev pub before_stop : List Entry
before_stop = serves ∷ joins ∷ connects ∷ first_end ∷ connected ∷ sends 6 2 ∷ second_end ∷ closes 8 ∷ []

-- A server that is made with the number of one that ended isn't closing, and has not ended.
abbrev made_again : List Entry
made_again = before_stop ++ stops ∷ serves ∷ []

again_open : is_closing_in made_again (number 6) ≡ false
again_open = refl

again_lasts : ends_in made_again (number 6) ≡ 0
again_lasts = refl

abbrev pub IsDone : List Entry → Entry → Type 0
IsDone before e = (m : MsgNo) → Accepts e m → finishes (effects_of before_stop) m ≡ 1

accepted_number : List Effect → ℕ
accepted_number (effect.Accept m ∷ rest) = m.0
accepted_number _ = 0

pub other_told : (e : Entry) (m : MsgNo) → accepts e.effects ≡ 0 → Accepts e m → ⊥
other_told e m none a = let told = ap accepts a.told in absurd (omega arith)

pub number_told : (n : ℕ) (e : Entry) (m : MsgNo) → e.effects ≡ accepted n → Accepts e m → message n ≡ m
unfolding accepted_number
number_told n e m is a = let made : ℕ → MsgNo = λ k. record { 0 = k } in ap made (ap accepted_number (sym is ∙ a.told))

all_done : AtEach IsDone [] before_stop
all_done = (
  λ m a. absurd (other_told serves m refl a),
  (
    λ m a. absurd (other_told joins m refl a),
    (
      λ m a. subst (λ (n : MsgNo). finishes (effects_of before_stop) n ≡ 1) (number_told 1 connects m refl a) refl,
      (
        λ m a. absurd (other_told first_end m refl a),
        (
          λ m a. absurd (other_told connected m refl a),
          (
            λ m a. subst (λ (n : MsgNo). finishes (effects_of before_stop) n ≡ 1) (number_told 2 (sends 6 2) m refl a) refl,
            (
              λ m a. absurd (other_told second_end m refl a),
              (
                λ m a. absurd (other_told (closes 8) m refl a),
                tt,
              ),
            ),
          ),
        ),
      ),
    ),
  ),
)

pub nothing_left : NothingLeft before_stop (number 6)
nothing_left m a linked = at-each IsDone [] before_stop a.before a.at a.later all_done a.stands m a.by

-- So the history is safe.
abbrev pub IsFine : List Entry → Entry → Type 0
IsFine before e =
    (0 < accepts e.effects → IsAcceptance served_script before e)
    × ((m : MsgNo) → 0 < finishes e.effects m → IsFinish served_script before e m)
    × ((v : ObjNo) → 0 < ends e.effects v → IsEnd before e v)

pub one_object : (n : ℕ) (v : ObjNo) → 0 < (if n == v.0 then 1 else 0) + 0 → number n ≡ v
one_object n v some = by (n == v.0) refl some
  where
    by : (b : Bool) → (n == v.0) ≡ b → 0 < (if b then 1 else 0) + 0 → number n ≡ v
    by true is some = let made : ℕ → ObjNo = λ k. record { 0 = k } in ap made (eqb-true n v.0 is)
    by false is some = absurd (omega arith)

each_fine : AtEach IsFine [] served
each_fine = (
  (λ some. absurd (omega arith), λ m some. absurd (omega arith), λ v some. absurd (omega arith)),
  (
    (λ some. absurd (omega arith), λ m some. absurd (omega arith), λ v some. absurd (omega arith)),
    (
      (λ some. first_accepted, λ m some. absurd (omega arith), λ v some. absurd (omega arith)),
      (
        (
          λ some. absurd (omega arith),
          λ m some. subst (IsFinish served_script opens first_end)
              (one_number 1 m some) first_finished,
          λ v some. absurd (omega arith),
        ),
        (
          (λ some. absurd (omega arith), λ m some. absurd (omega arith), λ v some. absurd (omega arith)),
          (
            (λ some. second_accepted, λ m some. absurd (omega arith), λ v some. absurd (omega arith)),
            (
              (
                λ some. absurd (omega arith),
                λ m some. subst
                    (IsFinish served_script (opens ++ first_end ∷ connected ∷ sends 6 2 ∷ []) second_end)
                    (one_number 2 m some) second_finished,
                λ v some. absurd (omega arith),
              ),
              (
                (λ some. absurd (omega arith), λ m some. absurd (omega arith), λ v some. absurd (omega arith)),
                (
                  (
                    λ some. absurd (omega arith),
                    λ m some. absurd (omega arith),
                    λ v some. subst (IsEnd before_stop stops) (one_object 6 v some)
                        (record { closing = refl; first = refl; once = refl; alone = refl; left = nothing_left }),
                  ),
                  tt,
                ),
              ),
            ),
          ),
        ),
      ),
    ),
  ),
)

served_safe : IsSafeMessages served_script served
served_safe = record {
  acceptances = λ before e later is some. (at-each IsFine [] served before e later each_fine is).0 some;
  finished = λ before e later m is some. (at-each IsFine [] served before e later each_fine is).1 m some;
  ended = λ before e later v is some. (at-each IsFine [] served before e later each_fine is).2 v some;
}
