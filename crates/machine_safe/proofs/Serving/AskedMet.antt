-- What a thread's next step asks of the state stays there until it makes that step: a status that isn't pending, the fast mutex that it wants, the kind
-- of what it uses or found, and the server that it owns and the message for which it waited.
use Rattle.machine.specs.Kept.{dies}
use Rattle.std.proofs.Common.{Bool, List, None, Option, Some, ap, arith, false, get_or, get_or-set_other, inl, inr, refl, subst, sym, true, ℕ, ◌<◌, ◌∙◌, ◌≡◌, ◌⊎◌}
use Rattle.std.specs.Prelude.{is_some, option_map}
use Rattle.sym_base.specs.declared.kind.Kind.{Kind}
use Rattle.sym_base.specs.declared.number.ObjNo.{ObjNo}
use Rattle.script_types.specs.Shape.{IsShaped}
use Rattle.script_types.specs.declared.instruction.Instr.{Instr}
use Rattle.script_types.specs.declared.instruction.Instr.TheVariants as instr
use Rattle.state_rows.specs.declared.thread.Stage.TheVariants.{Live}
use Rattle.machine.specs.Rows.{object_of, thread_of}
use Rattle.machine_laws.proofs.Fitting.LiveObjects.{use_is_alive}
use Rattle.move_laws.proofs.Lives.Bits.{alive_undead}
use Rattle.state_rows.specs.declared.object.ObjectRow.{ObjectRow}
use Rattle.script_types.specs.declared.script.Script.{Script}
use Rattle.entry_log.specs.declared.entry.Actor.{Actor}
use Rattle.entry_log.specs.declared.step.Part.{Part}
use Rattle.entry_log.specs.declared.step.Part.TheVariants as part
use Rattle.state_rows.specs.Nano.{want_of}
use Rattle.state_rows.specs.MessageChanges.{next_of}
use Rattle.state_rows.specs.ServerRows.{closes, is_closing, owner_of, server_at}
use Rattle.state_rows.specs.declared.servers.ServerRow.{ServerRow}
use Rattle.state_rows.specs.declared.duty.Owed.{Owed}
use Rattle.state_rows.specs.declared.duty.Owed.TheVariants as duty
use Rattle.state_rows.specs.declared.thread.ThreadRow.{ThreadRow}
use Rattle.state_rows.proofs.SoundChanges.{set_item}
use Rattle.machine.specs.Boot.{boot_in}
use Rattle.machine.specs.History.{next}
use Rattle.machine.specs.Moves.{moved, perform, threads_closed, unlinked}
use Rattle.machine.specs.References.{total}
use Rattle.machine.specs.Steps.{return_of, step_of}
use Rattle.machine.specs.Task.{instruction}
use Rattle.machine.specs.WellFormed.{AreRows, is_dead}
use Rattle.machine.specs.declared.moves.Move.{Move}
use Rattle.machine.specs.declared.moves.Move.TheVariants.{Pay}
use Rattle.machine.specs.declared.state.State.{State}
use Rattle.machine_safe.proofs.Serving.Course.{FoundOf, HasCome, IsMet, IsOfKind, IsOn, IsUnset, Met, asks, kind_found, kind_used, sets_status, takes_at, wants_at}
use Rattle.machine_safe.proofs.Serving.Courses.{course, return-course}
use Rattle.machine_safe.proofs.Serving.AwaitedMessages.{awaited-row, next-there, there-next, untaken_bit, were-sent}
use Rattle.machine_safe.proofs.Serving.ObjectKinds.{AreKinds}
use Rattle.machine_safe.proofs.Serving.NamedServers.{names-own}
use Rattle.machine_safe.proofs.Serving.ServerOwners.{OwnBefore, Owned, own-kept}
use Rattle.machine_safe.proofs.Serving.ReceivingThreads.{IsMidst, midst-each}
use Rattle.machine_safe.proofs.Serving.LaterSteps.{Facts, IsFact, Passes, StepsGive, SweepsDead, boot-fact, next-fact}
use Rattle.machine_safe.proofs.Serving.OtherThreads.{same-instruction}
use Rattle.machine_safe.proofs.Serving.NextActions.{IsProperly}
use Rattle.machine_safe.proofs.Serving.Proper.{IsTaking, Mark, awaited_by, message_awaited, receiving}
use Rattle.machine_safe.proofs.Serving.StepFacts.{Nowhere, course-gives, returning-part, straight-of, straying}
use Rattle.machine_safe.proofs.Serving.AskedStays.{kind-closed, kind-each, kind-swept, unset-each, want-each, was-each, was-paid}

-- all that a step asks
abbrev pub asked : Option Instr → Option Part → Bool
asked (Some i) (Some p) = asks i (Some p)
asked at p = false

abbrev MetBy : State → ObjNo → ThreadRow → Option Instr → Type 0
MetBy S u row None = Unit {0}
MetBy S u row (Some i) = Met S u row i row.part

abbrev pub MetAt : Script → State → ObjNo → ThreadRow → Type 0
MetAt script S u row = MetBy S u row (instruction script row)

asked-later : (at : Option Instr) (p : Option Part) → asked at p ≡ true → is_some p ≡ true
asked-later None p e = absurd (cc)
asked-later (Some i) None e = absurd (cc)
asked-later (Some i) (Some p) e = refl

takes-receiving : (i : Instr) (p : Option Part) → takes_at i p ≡ true → receiving (Some i) p ≡ true
takes-receiving (instr.Receive x y) (Some part.Done) e = refl
takes-receiving i p e = absurd (cc)

pub met-kept : (S T : State) (u : ObjNo) (old row : ThreadRow) (i : Instr) → old.part ≡ row.part → old.uses ≡ row.uses
    → old.sought ≡ row.sought → old.sought_place ≡ row.sought_place
    → ((s : ℕ) → IsUnset S.synchronization.requests u s → IsUnset T.synchronization.requests u s)
    → (is_some (want_of S.synchronization.nano u) ≡ true → is_some (want_of T.synchronization.nano u) ≡ true)
    → ((k : Kind) (o : ObjNo) → old.uses ≡ Some o → IsOfKind S.references.objects k o → IsOfKind T.references.objects k o)
    → ((k : Kind) (place : ℕ) (o : ObjNo) → FoundOf S k place o → FoundOf T k place o)
    → ((o : ObjNo) → receiving (Some i) old.part ≡ true → old.uses ≡ Some o → owner_of S.serving.servers o ≡ Some u
    → owner_of T.serving.servers o ≡ Some u)
    → ((o : ObjNo) → receiving (Some i) old.part ≡ true → old.uses ≡ Some o → owner_of S.serving.servers o ≡ Some u
    → HasCome S old o → HasCome T row o) → Met S u old i old.part → Met T u row i row.part
met-kept S T u old row i part uses sought place unset want kinds finds owned came met = record {
  unset = λ s is. unset s (met.unset s (ap (sets_status i) part ∙ is));
  wanted = λ is. want (met.wanted (ap (wants_at i) part ∙ is));
  used = λ k o is used. kinds k o (uses ∙ used) (met.used k o (ap (kind_used i) part ∙ is) (uses ∙ used));
  found =
      λ k is. subst (λ (n : ℕ). FoundOf T k n row.sought) place
      (subst (FoundOf T k old.sought_place) sought
      (finds k old.sought_place old.sought (met.found k (ap (kind_found i) part ∙ is))));
  owned = λ o is used. let receives = ap (receiving (Some i)) part ∙ is in owned o receives (uses ∙ used) (met.owned o receives (uses ∙ used));
  came = λ o is used.
      let takes = ap (takes_at i) part ∙ is in
      let receives = takes-receiving i old.part takes in
      came o receives (uses ∙ used) (met.owned o receives (uses ∙ used)) (met.came o takes (uses ∙ used));
}

pub met-by : (script : Script) (S T : State) (u : ObjNo) (old row : ThreadRow)
    → instruction script row ≡ instruction script old → ((i : Instr) → Met S u old i old.part → Met T u row i row.part)
    → MetAt script S u old → MetAt script T u row
met-by script S T u old row same keeps met = by (instruction script row) (subst (MetBy S u old) (sym same) met)
  where
    by : (at : Option Instr) → MetBy S u old at → MetBy T u row at
    by None met = tt
    by (Some i) met = keeps i met

-- a payment leaves who waits for a message
paid-awaited : (S : State) (t : ObjNo) (what : Owed) (u : ObjNo) (row : ThreadRow)
    → thread_of (moved t (Pay what) S) u ≡ Some row → awaited_by (thread_of S u) ≡ message_awaited row.waiting
paid-awaited S t (duty.Close h x) u row is = by (dies S x) is
  where
    by : (last : Bool) → get_or (threads_closed last x S.references.threads) u.0 None ≡ Some row → awaited_by (thread_of S u) ≡ message_awaited row.waiting
    by true e = sym (awaited-row S.references.threads x unlinked (λ r. refl) u) ∙ ap awaited_by e
    by false e = ap awaited_by e
paid-awaited S t (duty.Sweep x) u row is =
    set_item (λ (y : Option ThreadRow). y ≡ Some row → awaited_by (thread_of S u) ≡ message_awaited row.waiting)
    S.references.threads x.0 u.0 None None (λ at e. absurd (cc)) (λ e. ap awaited_by e) is

come-later : (S T : State) (old row : ThreadRow) (o : ObjNo) → message_awaited old.waiting ≡ message_awaited row.waiting
    → next_of T.serving.messages o ≡ next_of S.serving.messages o
    → is_closing T.serving.servers o ≡ is_closing S.serving.servers o → HasCome S old o → HasCome T row o
come-later S T old row o waits next shut (inl awaits) = inl (sym waits ∙ awaits)
come-later S T old row o waits next shut (inr there) = inr (ap is_some next ∙ there.0, shut ∙ there.1)

met-paid : (script : Script) (S : State) (t : ObjNo) (what : Owed) (u : ObjNo) (old row : ThreadRow) (i : Instr)
    → AreRows script S → SweepsDead S what
    → thread_of S u ≡ Some old → thread_of (moved t (Pay what) S) u ≡ Some row → old.part ≡ row.part
    → old.uses ≡ row.uses → old.sought ≡ row.sought → old.sought_place ≡ row.sought_place → Met S u old i old.part
    → Met (moved t (Pay what) S) u row i row.part
met-paid script S t (duty.Close h x) u old row i rows dead was is part uses sought place met =
    met-kept S (moved t (Pay (duty.Close h x)) S) u old row i part uses sought place
    (λ s was. record { done = was.done; free = was.free }) (λ is. is)
    (λ k o used was. kind-closed (dies S x) x S.references.objects k o was)
    (λ k place o was. was-paid S t (duty.Close h x) k place o was)
    (λ o receives used own. own) (λ o receives used own come. come-later S (moved t (Pay (duty.Close h x)) S) old row o
    (sym (ap awaited_by was) ∙ paid-awaited S t (duty.Close h x) u row is) refl refl come) met
met-paid script S t (duty.Sweep x) u old row i rows dead was is part uses sought place met =
    met-kept S (moved t (Pay (duty.Sweep x)) S) u old row i part uses sought place
    (λ s was. record { done = was.done; free = was.free }) (λ is. is)
    (λ k o used was. kind-swept S.references.objects x.0 k o (apart o used) was)
    (λ k place o was. was-paid S t (duty.Sweep x) k place o was)
    (λ o receives used own. ap (option_map (λ (r : ServerRow). r.owner)) (server o used) ∙ own)
    (λ o receives used own come. come-later S (moved t (Pay (duty.Sweep x)) S) old row o
    (sym (ap awaited_by was) ∙ paid-awaited S t (duty.Sweep x) u row is) refl (ap closes (server o used)) come) met
  where
    -- what is used is alive, and so isn't swept
    apart : (o : ObjNo) → old.uses ≡ Some o → o.0 ≡ x.0 → ⊥
    apart o used at =
        let undead = alive_undead (object_of S o) (use_is_alive S u old o rows.lives was used) in
        let same = ap (λ (n : ℕ). is_dead (get_or S.references.objects n None)) at in
        absurd (omega arith)

    server : (o : ObjNo) → old.uses ≡ Some o → server_at (moved t (Pay (duty.Sweep x)) S).serving.servers o ≡ server_at S.serving.servers o
    server o used = get_or-set_other S.serving.servers.servers x.0 o.0 None None (apart o used)

-- what is received is asked
receiving-asked : (at : Option Instr) (p : Option Part) → receiving at p ≡ true → asked at p ≡ true
receiving-asked (Some (instr.Receive x y)) (Some part.Do) e = refl
receiving-asked (Some (instr.Receive x y)) (Some part.Done) e = refl
receiving-asked at p e = absurd (cc)

-- who takes a message of a server owns it
takes-own : (script : Script) (S : State) (v o : ObjNo) (row : ThreadRow) → MetAt script S v row
    → receiving (instruction script row) row.part ≡ true → row.uses ≡ Some o → owner_of S.serving.servers o ≡ Some v
takes-own script S v o row met receives uses = by (instruction script row) met receives
  where
    by : (at : Option Instr) → MetBy S v row at → receiving at row.part ≡ true → owner_of S.serving.servers o ≡ Some v
    by None met receives = absurd (cc)
    by (Some i) met receives = met.owned o receives uses

owned-made : (S : State) (u o : ObjNo) → AreKinds S → owner_of S.serving.servers o ≡ Some u → is_some (object_of S o) ≡ true
owned-made S u o kinds owner = there (object_of S o) refl
  where
    by : (x : Option ServerRow) → option_map (λ (row : ServerRow). row.owner) x ≡ Some u → is_some x ≡ false → ⊥
    by None owner none = cc
    by (Some row) owner none = cc

    there : (x : Option ObjectRow) → object_of S o ≡ x → is_some x ≡ true
    there None is = absurd (by (server_at S.serving.servers o) owner (kinds.unmade o is))
    there (Some row) is = refl

own-before : (script : Script) (on : Option ObjNo) (S : State) (ms : List Move) → Owned S → OwnBefore (on, S, None) S ms
own-before script None S ms own = (own-kept script).rests S ms own
own-before script (Some v) S ms own = (own-kept script).begins S v ms own

-- the server and the message of a thread at a `receive` stay
module _ (script : Script) (S : State) (t : ObjNo) (ms : List Move) (rows : AreRows script S)
    (has : (v : ObjNo) (r : ThreadRow) → thread_of S v ≡ Some r → r.stage ≡ Live → asked (instruction script r) r.part
    ≡ true → MetAt script S v r) (u : ObjNo) (old row : ThreadRow) (was : thread_of S u ≡ Some old)
    (is : thread_of (perform t ms S) u ≡ Some row) (passes : Passes script S t ms u) (o : ObjNo)
    (owner : owner_of S.serving.servers o ≡ Some u) where
  untaken : (last : Option Mark) → IsTaking script (passes.on, S, last) o → ⊥
  untaken last taking =
      let other = takes-own script S taking.thread o taking.row
      (has taking.thread taking.row taking.is taking.live
      (receiving-asked (instruction script taking.row) taking.row.part taking.at)) taking.at taking.uses in
      let both : Some taking.thread ≡ Some u = sym other ∙ owner in
      passes.apart (taking.on ∙ both)

  come-here : HasCome S old o
      → ((awaited_by (thread_of S u) ≡ Some o) × (awaited_by (thread_of S u) ≡ Some o))
      ⊎ ((0 < total (untaken_bit o) S.serving.messages.outstanding) × (is_closing S.serving.servers o ≡ false))
  come-here (inl waits) = let awaits = ap awaited_by was ∙ waits in inl (awaits, awaits)
  come-here (inr there) = inr (there-next S.serving.messages o there.0, there.1)

  stays : (last : Option Mark) × IsMidst (HasCome S old o) u o passes.on S last (perform t ms S)
  stays =
      midst-each script (HasCome S old o) u o passes.on S t rows
      (owned-made S u o passes.own.1 owner) passes.apart untaken None S ms passes.goes passes.proper
      (own-before script passes.on S ms passes.own) passes.stays passes.undoomed row is
      (record { owner = owner; closing = refl; were = were-sent script S rows; accepted = omega arith; sent = λ e. absurd (cc); came = come-here })

  stays-owned : owner_of (perform t ms S).serving.servers o ≡ Some u
  stays-owned = stays.1.owner

  stays-come : HasCome S old o → HasCome (perform t ms S) row o
  stays-come come = elim (stays.1.came come) as (λ _. HasCome (perform t ms S) row o) [
    | inl waits ↦ inl (sym (ap awaited_by is) ∙ waits.0)
    | inr there ↦ inr (next-there (perform t ms S).serving.messages o there.0, stays.1.closing ∙ there.1)
  ]

pub met-fact : (script : Script) → IsFact script asked (MetAt script)
met-fact script = record {
  later = asked-later;
  carried =
      λ S t ms rows has u row is c passes was. met-by script S (perform t ms S) u c.mid.old row
      (same-instruction script c.mid.old row c.mid.role (sym c.mid.place))
      (λ i met. met-kept S (perform t ms S) u c.mid.old row i c.mid.part c.mid.uses c.mid.sought c.mid.sought_place
      (λ s unset. unset-each script S t ms (passes.on, S, None) u s passes.goes.each passes.proper passes.apart unset)
      (λ is. want-each script S t ms (passes.on, S, None) u passes.goes.each passes.proper passes.apart passes.undoomed is)
      (λ k o used was. kind-each script S t ms k o passes.goes.each was)
      (λ k place o was. was-each script S t ms k place o passes.goes.each was)
      (λ o receives used own. stays-owned script S t ms rows has u c.mid.old row c.mid.was is passes o own)
      (λ o receives used own come. stays-come script S t ms rows has u c.mid.old row c.mid.was is passes o own come) met) was;
  paid =
      λ S t what rows dead u row is mid was. met-by script S (moved t (Pay what) S) u mid.old row
      (same-instruction script mid.old row mid.role (sym mid.place))
      (λ i met. met-paid script S t what u mid.old row i rows dead mid.was is mid.part mid.uses mid.sought mid.sought_place met) was;
}

-- what a step asks is asked of a later step
asks-none : (i : Instr) → asks i None ≡ false
asks-none (instr.Lock x) = refl
asks-none i = refl

asked-is : (i : Instr) (p : Option Part) → asks i p ≡ true → asked (Some i) p ≡ true
asked-is i None e = let none = asks-none i in absurd (cc)
asked-is i (Some p) e = e

pub met-of : (script : Script) (S : State) → Facts script asked (MetAt script) S
    → (t : ObjNo) (old : ThreadRow) (i : Instr) → thread_of S t ≡ Some old → old.stage ≡ Live
    → instruction script old ≡ Some i → IsMet S t old i old.part
met-of script S has t old i is live at e = subst (MetBy S t old) at (has t old is live (ap (λ (x : Option Instr). asked x old.part) at ∙ asked-is i old.part e))

-- it is there wherever a step goes on
module _ (script : Script) (S : State) (t : ObjNo) (rows : AreRows script S) (own : Owned S)
    (straight : Facts script straying Nowhere S) (has : Facts script asked (MetAt script) S) where
  gone-met : (T : State) (old row : ThreadRow) (i : Instr) (p : Option Part) (to : Part) → thread_of S t ≡ Some old
      → IsOn S t old i p T to row → IsMet S t old i p → asks i (Some to) ≡ true → instruction script row ≡ Some i
      → MetAt script T t row
  gone-met T old row i p to here on had due now =
      subst (MetBy T t row) (sym now) (subst (Met T t row i) (sym on.part)
      (on.met (names-own S t old own here) had due))

  met-gives : StepsGive script asked (MetAt script) S t
  met-gives = record {
    steps =
        λ old i here live going at was fits. course-gives script asked (MetAt script)
        (met-fact script) S rows own has t old i old.part (step_of script S t old i old.part) here at
        (straight-of script S straight t old i here live at)
        (λ to there due row is now on. gone-met
        (perform t (step_of script S t old i old.part).moves S) old row i old.part to here on
        (met-of script S has t old i here live at) due now) fits
        (course script S t old here rows i old.part live at refl fits going);
    returns =
        λ old i here live back at was fits. course-gives script asked (MetAt script)
        (met-fact script) S rows own has t old i (Some part.Return) (return_of S t old i) here at
        (λ q e. straight-of script S straight t old i here live at q (returning-part old.part back ∙ e))
        (λ to there due row is now on. gone-met (perform t (return_of S t old i).moves S) old row i
        (Some part.Return) to here on (subst (IsMet S t old i) (returning-part old.part back)
        (met-of script S has t old i here live at)) due now) fits (return-course script S t old here rows i);
  }

-- each action leaves it, and at boot nothing is asked
pub met-next : (script : Script) (S : State) → IsShaped script → AreRows script S → Owned S → IsProperly script S
    → Facts script straying Nowhere S → Facts script asked (MetAt script) S → (actor : Actor)
    → Facts script asked (MetAt script) (next script S actor)
met-next script S shaped rows own properly straight has actor =
    next-fact script asked (MetAt script) (met-fact script) S rows own has shaped properly
    (λ t. met-gives script S t rows own straight has) actor

pub met-boot : (shared : Bool) (script : Script) → IsShaped script → Facts script asked (MetAt script) (boot_in shared script)
met-boot shared script shaped = boot-fact shared script asked (MetAt script) (met-fact script) shaped
