-- The definition of safe busy answers, tried on a session with one slot: a `send` that is accepted, and one that isn't while that is outstanding;
-- and six histories, changed by hand, that aren't safe.
use Rattle.entry_log.specs.declared.effect.Effect.TheVariants as effect
use Rattle.entry_log.specs.declared.effect.Holder.TheVariants as holder
use Rattle.entry_log.specs.declared.step.Part.TheVariants as part
use Rattle.entry_log.specs.declared.step.Step.TheVariants as step
use Rattle.sym_base.specs.declared.word.Word.TheVariants as word
use Rattle.entry_log.specs.declared.entry.Entry.{Entry}
use Rattle.machine.specs.Boot.{boot_of}
use Rattle.machine_safe.proofs.ServedHistory.{closes, connects, links_elsewhere, acts, connected, first_end, joins, number, sends, served_script, serves, stops}
use Rattle.machine_safe.specs.SafeBusy.{IsSafeBusy, IsSendAnswer, accepted_of, accepts_in, is_full_in}
use Rattle.machine_safe.specs.Slotted.{looked_in, slots_in}
use Rattle.std.proofs.Common.{List, None, Some, [], arith, refl, subst, sym, ℕ, ◌++◌, ◌∷◌, ◌≡◌}
use Rattle.sym_base.specs.ErrorCode.{error_code}
use Rattle.sym_base.specs.declared.error.Error.TheVariants.{ServerBusy, ServerTerminated}
use Rattle.sym_base.specs.declared.number.ObjNo.{ObjNo}

-- the client's look finds its session
abbrev looks : ℕ → Entry
looks place = acts place 5 (step.Of word.Send part.Look) (effect.Plus (holder.Temp (number 5)) (number 7) ∷ []) None

abbrev is_refused : ℕ → Entry
is_refused place = acts place 5 (step.Of word.Send part.Do) [] (Some (error_code ServerBusy))

-- with a slot left, and with none
abbrev with_slot : List Entry
with_slot = serves ∷ joins ∷ connects ∷ first_end ∷ connected ∷ looks 6 ∷ []

abbrev without_slot : List Entry
without_slot = serves ∷ joins ∷ connects ∷ first_end ∷ connected ∷ looks 6 ∷ sends 7 2 ∷ looks 8 ∷ []

is_accepted : IsSendAnswer served_script with_slot (sends 7 2)
unfolding boot_of
is_accepted = record { thread = number 5; actor = refl; session = number 7; looked = refl; answer = refl; accepted = refl }

is_busy : IsSendAnswer served_script without_slot (is_refused 9)
unfolding boot_of
is_busy = record { thread = number 5; actor = refl; session = number 7; looked = refl; answer = refl; accepted = refl }

-- how many messages a `send` over the session accepts, as told
abbrev wanted : List Entry → ObjNo → ℕ
wanted before s = accepted_of (accepts_in before s) (is_full_in served_script before s (slots_in served_script before s))

-- No `send` is refused as busy with a slot left.
busy_with_slot : IsSafeBusy served_script (with_slot ++ is_refused 7 ∷ []) → ⊥
unfolding boot_of
busy_with_slot safe =
    let a = safe.answers with_slot (is_refused 7) [] refl refl in
    let thread : number 5 ≡ a.thread = cc in
    let session : Some (number 7) ≡ Some a.session = subst (λ (u : ObjNo). looked_in with_slot u ≡ Some a.session) (sym thread) a.looked in
    let own : number 7 ≡ a.session = cc in
    let none : ◌≡◌ {A = ℕ} 0 1 = subst (λ (s : ObjNo). 0 ≡ wanted with_slot s) (sym own) a.accepted in absurd (omega arith)

-- And none is accepted with all slots used.
accepted_without_slot : IsSafeBusy served_script (without_slot ++ sends 9 3 ∷ []) → ⊥
unfolding boot_of
accepted_without_slot safe =
    let a = safe.answers without_slot (sends 9 3) [] refl refl in
    let thread : number 5 ≡ a.thread = cc in
    let session : Some (number 7) ≡ Some a.session = subst (λ (u : ObjNo). looked_in without_slot u ≡ Some a.session) (sym thread) a.looked in
    let own : number 7 ≡ a.session = cc in
    let none : ◌≡◌ {A = ℕ} 1 0 = subst (λ (s : ObjNo). 1 ≡ wanted without_slot s) (sym own) a.accepted in absurd (omega arith)

-- Nor after a look of another instruction, which found another object: the session is the one that the look of a `send` found.
abbrev looks_to_call : ℕ → Entry
looks_to_call place = acts place 5 (step.Of word.Call part.Look) (effect.Plus (holder.Temp (number 5)) (number 8) ∷ []) None

abbrev looked_away : List Entry
looked_away = without_slot ++ looks_to_call 9 ∷ []

accepted_after_other : IsSafeBusy served_script (looked_away ++ sends 10 3 ∷ []) → ⊥
unfolding boot_of
accepted_after_other safe =
    let a = safe.answers looked_away (sends 10 3) [] refl refl in
    let thread : number 5 ≡ a.thread = cc in
    let session : Some (number 7) ≡ Some a.session = subst (λ (u : ObjNo). looked_in looked_away u ≡ Some a.session) (sym thread) a.looked in
    let own : number 7 ≡ a.session = cc in
    let none : ◌≡◌ {A = ℕ} 1 0 = subst (λ (s : ObjNo). 1 ≡ wanted looked_away s) (sym own) a.accepted in absurd (omega arith)

-- Nor over a session that only another step linked: it is at no server then.
abbrev linked_elsewhere : List Entry
linked_elsewhere = serves ∷ links_elsewhere ∷ looks 3 ∷ []

accepted_elsewhere : IsSafeBusy served_script (linked_elsewhere ++ sends 4 1 ∷ []) → ⊥
unfolding boot_of
accepted_elsewhere safe =
    let a = safe.answers linked_elsewhere (sends 4 1) [] refl refl in
    let thread : number 5 ≡ a.thread = cc in
    let session : Some (number 7) ≡ Some a.session = subst (λ (u : ObjNo). looked_in linked_elsewhere u ≡ Some a.session) (sym thread) a.looked in
    let own : number 7 ≡ a.session = cc in
    let none : ◌≡◌ {A = ℕ} 1 0 = subst (λ (s : ObjNo). 1 ≡ wanted linked_elsewhere s) (sym own) a.accepted in absurd (omega arith)

-- And one to a server that is closing is answered as terminated, and not accepted.
abbrev closed_away : List Entry
closed_away = with_slot ++ closes 7 ∷ []

sent_to_closing : IsSafeBusy served_script (closed_away ++ sends 8 2 ∷ []) → ⊥
unfolding boot_of
sent_to_closing safe =
    let a = safe.answers closed_away (sends 8 2) [] refl refl in
    let thread : number 5 ≡ a.thread = cc in
    let session : Some (number 7) ≡ Some a.session = subst (λ (u : ObjNo). looked_in closed_away u ≡ Some a.session) (sym thread) a.looked in
    let own : number 7 ≡ a.session = cc in
    let none : ◌≡◌ {A = ℕ} 1 0 = subst (λ (s : ObjNo). 1 ≡ wanted closed_away s) (sym own) a.accepted in absurd (omega arith)

-- Nor is one to a server that ended, where another has its number since: the session is at none.
abbrev made_anew : List Entry
made_anew = with_slot ++ closes 7 ∷ stops ∷ serves ∷ looks 10 ∷ []

refused_anew : IsSendAnswer served_script made_anew (acts 11 5 (step.Of word.Send part.Do) [] (Some (error_code ServerTerminated)))
unfolding boot_of
refused_anew = record { thread = number 5; actor = refl; session = number 7; looked = refl; answer = refl; accepted = refl }

sent_to_another : IsSafeBusy served_script (made_anew ++ sends 11 2 ∷ []) → ⊥
unfolding boot_of
sent_to_another safe =
    let a = safe.answers made_anew (sends 11 2) [] refl refl in
    let thread : number 5 ≡ a.thread = cc in
    let session : Some (number 7) ≡ Some a.session = subst (λ (u : ObjNo). looked_in made_anew u ≡ Some a.session) (sym thread) a.looked in
    let own : number 7 ≡ a.session = cc in
    let none : ◌≡◌ {A = ℕ} 1 0 = subst (λ (s : ObjNo). 1 ≡ wanted made_anew s) (sym own) a.accepted in absurd (omega arith)
