-- The definitions of how servers end, tried on histories, changed by hand, that aren't safe.
use Rattle.std.proofs.Common.{◌≡◌, ℕ, ◌<◌, List, [], ◌∷◌, ◌++◌, None, true, false, refl, arith}
use Rattle.script_types.specs.declared.script.Script.{Script}
use Rattle.entry_log.specs.declared.effect.Effect.TheVariants as effect
use Rattle.entry_log.specs.declared.entry.Entry.{Entry}
use Rattle.entry_log.specs.declared.step.Step.TheVariants as step
use Rattle.machine_safe.specs.SafeMessages.{IsSafeMessages}
use Rattle.machine_safe.specs.Sent.{WasAccepted}
use Rattle.machine_safe.specs.SafeServers.{IsSafeServers}
use Rattle.machine_safe.proofs.ServedHistory.{number, message, acts, accepted, serves, joins, connects, first_end, connected, closes, stops, opens, before_stop}

-- No server ends with a message that isn't finished, or twice in an entry.
abbrev first_accept : WasAccepted (opens ++ closes 4 ∷ []) (message 1)
first_accept = record {
  before = serves ∷ joins ∷ [];
  at = connects;
  later = closes 4 ∷ [];
  stands = refl;
  by = record { session = number 7; client = number 5; rest = []; told = refl };
}

ended_serving : (script : Script) → IsSafeMessages script (opens ++ closes 4 ∷ stops ∷ []) → ⊥
ended_serving script safe =
    let done : ◌≡◌ {A = ℕ} 0 1 = (safe.ended (opens ++ closes 4 ∷ []) stops [] (number 6) refl (omega arith)).left
    (message 1) first_accept refl in
    absurd (omega arith)

abbrev stops_doubly : Entry
stops_doubly = acts 9 3 step.Stop (effect.Terminated (number 6) ∷ effect.Terminated (number 6) ∷ []) None

ended_doubly : (script : Script) → IsSafeMessages script (before_stop ++ stops_doubly ∷ []) → ⊥
ended_doubly script safe = let once : ◌≡◌ {A = ℕ} 2 1 = (safe.ended before_stop stops_doubly [] (number 6) refl (omega arith)).once in absurd (omega arith)

-- No server ends that isn't closing, or that ended; and nothing is accepted beside the end.
ended_open : (script : Script) → IsSafeMessages script (opens ++ first_end ∷ connected ∷ stops ∷ []) → ⊥
ended_open script safe = let closing : false ≡ true = (safe.ended (opens ++ first_end ∷ connected ∷ []) stops [] (number 6) refl (omega arith)).closing in cc

ended_twice : (script : Script) → IsSafeMessages script (before_stop ++ stops ∷ stops ∷ []) → ⊥
ended_twice script safe =
    let first : ◌≡◌ {A = ℕ} 1 0 = (safe.ended (before_stop ++ stops ∷ []) stops [] (number 6) refl
    (omega arith)).first in
    absurd (omega arith)

abbrev stops_accepting : Entry
stops_accepting = acts 9 3 step.Stop (effect.Terminated (number 6) ∷ accepted 3) None

ended_accepting : (script : Script) → IsSafeMessages script (before_stop ++ stops_accepting ∷ []) → ⊥
ended_accepting script safe =
    let alone : ◌≡◌ {A = ℕ} 1 0 = (safe.ended before_stop stops_accepting [] (number 6) refl (omega arith)).alone in
    absurd (omega arith)

-- And no thread is cleaned before its server ended.
abbrev owner_dies : Entry
owner_dies = acts 2 3 step.End (effect.Doom (number 3) ∷ []) None

abbrev owner_is_cleaned : Entry
owner_is_cleaned = acts 3 3 step.Clean [] None

cleaned_early : IsSafeServers (serves ∷ owner_dies ∷ owner_is_cleaned ∷ []) → ⊥
cleaned_early safe =
    let over : 0 < 0 = safe.ended (serves ∷ owner_dies ∷ []) owner_is_cleaned [] (number 3) (number 6) refl
    (omega arith) refl in
    absurd (omega arith)

-- nor before its messages are finished
abbrev early_stop : List Entry
early_stop = opens ++ closes 4 ∷ stops ∷ []

abbrev early_accept : WasAccepted early_stop (message 1)
early_accept = record {
  before = serves ∷ joins ∷ [];
  at = connects;
  later = closes 4 ∷ stops ∷ [];
  stands = refl;
  by = record { session = number 7; client = number 5; rest = []; told = refl };
}

cleaned_unfinished : IsSafeServers (early_stop ++ owner_is_cleaned ∷ []) → ⊥
cleaned_unfinished safe =
    let done : ◌≡◌ {A = ℕ} 0 1 = safe.finished early_stop owner_is_cleaned [] (number 3) (number 6) refl
    (omega arith) refl (message 1) early_accept refl in
    absurd (omega arith)

-- Nor does another server get its number before it ended, or before its messages are finished.
made_anew_early : IsSafeServers (serves ∷ serves ∷ []) → ⊥
made_anew_early safe = let over : 0 < 0 = (safe.remade (serves ∷ []) serves [] (number 3) (number 6) refl refl refl).0 in absurd (omega arith)

made_anew_unfinished : IsSafeServers (early_stop ++ serves ∷ []) → ⊥
made_anew_unfinished safe =
    let done : ◌≡◌ {A = ℕ} 0 1 = (safe.remade early_stop serves [] (number 3) (number 6) refl refl refl).1
    (message 1) early_accept refl in
    absurd (omega arith)
