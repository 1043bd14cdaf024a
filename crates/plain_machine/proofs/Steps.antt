-- The plain machine after one more entry.
use Rattle.std.proofs.Common.{◌≡◌, ℕ, ◌+◌, ◌<◌, ◌≤◌, Bool, true, false, List, [], ◌∷◌, ◌++◌, length, get_or, arith, ap, subst, sym, ◌∙◌, inl, inr, refl}
use Rattle.std.proofs.lemmas.Bool.{cases_lt, eqb-true}
use Rattle.std.specs.Prelude.{Contains, IsTrue, nat_eq, ◌||◌}
use Rattle.std.proofs.lemmas.List.{get_or_past}
use Rattle.std.proofs.lemmas.List.Elements.{All-weaker, All-contains_itself}
use Rattle.sym_base.specs.declared.number.ObjNo.{ObjNo}
use Rattle.script_types.specs.declared.script.Script.{Script}
use Rattle.script_types.specs.declared.script.Slot.{Slot}
use Rattle.script_types.specs.Shape.{IsShaped}
use Rattle.script_types.specs.Source.{IsWellFormed as IsWellFormedScript}
use Rattle.script_types.proofs.ShapeLaws.{formed_is_shaped}
use Rattle.entry_log.specs.declared.entry.Actor.{Actor}
use Rattle.entry_log.specs.declared.entry.Entry.{Entry}
use Rattle.readings.specs.Readable.{AreSmallRows}
use Rattle.machine.specs.declared.decision.Decision.{Decision}
use Rattle.machine.specs.declared.mode.Mode.{Mode}
use Rattle.machine.specs.declared.moves.Move.{Move}
use Rattle.machine.specs.declared.moves.Move.TheVariants.{Pay}
use Rattle.state_rows.specs.declared.handle_slot.HandleSlot.{HandleSlot}
use Rattle.machine.specs.declared.state.State.{State}
use Rattle.machine.specs.Arrived.{arrived_by_entry, arrived_in, arrived_next}
use Rattle.machine.specs.Boot.{boot, boot_in, ready_at_boot}
use Rattle.machine.specs.History.{after_in, choosing, entry_by, is_deathless, keeping, next, next_by, CanAct, IsLegalIn, IsNext}
use Rattle.plain_machine.specs.PlainView.{IsPlain}
use Rattle.plain_machine.specs.SharedActions.{IsMade, choice_made}
use Rattle.plain_machine.specs.Allowed.{IsSmall, TellsFew, AllowsAction}
use Rattle.state_rows.specs.Deferred.{next_immediate}
use Rattle.machine.specs.declared.plan.Body.TheVariants.{Interrupt}
use Rattle.machine.specs.declared.plan.Plan.TheVariants.{Runs}
use Rattle.machine.specs.Bodies.{decision_by}
use Rattle.machine.specs.Interrupts.{immediate_plan, supervisor}
use Rattle.machine.specs.Moves.{tell}
use Rattle.machine.specs.Room.{HasRoom, IsSmallTable}
use Rattle.machine.specs.Run.{slot_actor}
use Rattle.machine.specs.Slots.{IsDeclared}
use Rattle.machine.specs.Steps.{decision_of}
use Rattle.machine.specs.WellFormed.{AreRows, AreTables, IsWellFormed}
use Rattle.plain_machine.proofs.SmallRows.{IsSmallNumber}
use Rattle.machine_laws.proofs.Fitting.Actions.{fits-action}
use Rattle.machine_laws.proofs.Fitting.Bodies.{Goes}
use Rattle.machine_laws.proofs.Fitting.Interrupts.{goes-immediate, goes-interrupt}
use Rattle.move_laws.proofs.Numbers.Instructions.{few_instructions}
use Rattle.move_laws.proofs.Numbers.FewEffects.{tell_few}
use Rattle.machine_laws.proofs.Reached.AfterHistory.{well_formed-after, well_formed-keeping}
use Rattle.machine_laws.proofs.Reached.Choices.{tells-choice}
use Rattle.machine_laws.proofs.Reached.Histories.{after-push, arrived-push, legal-push, slot_can}
use Rattle.machine_laws.proofs.Reached.Makings.{made-after}
use Rattle.machine_laws.proofs.Reached.Modes.{able-keeping, able-kept, choosing-alone, choosing-shared, mode-next, shared-after, shared-by, unkept-after}

-- a table of a well-formed state is small, also the one that isn't there
small_table : (tables : List (List HandleSlot)) → AreTables tables → (k : ℕ) → IsSmallTable (get_or tables k [])
small_table tables are k = elim (cases_lt k (length tables)) [
  | inl inside ↦ let table = are k inside in record { size = let size = table.size in omega arith; instances = table.instances }
  | inr past ↦ subst IsSmallTable (sym (get_or_past tables k [] past)) (record { size = omega arith; instances = λ i. omega arith })
]

-- so few objects are made that another action may make its own
abbrev MayMakeMore : State → Type 0
MayMakeMore S = S.references.made + 9 ≤ 18446744073709551615

-- a well-formed state has room for an action
room_of_rows : (script : Script) (S : State) → IsShaped script → AreRows script S → MayMakeMore S → HasRoom 9 S
room_of_rows script S shaped rows made = record {
  objects = let few = rows.references.sized.objects_few in omega arith;
  made = made;
  threads = let few = rows.references.sized.threads_few in omega arith;
  instructions =
      λ k row is. let next = (rows.references.threads.rows k row is).next_instruction in
      let few = few_instructions script row.role shaped in omega arith;
  tables = small_table S.references.handles rows.references.tables;
  messages = let few = rows.serving.messages.numbered in omega arith;
}

-- its rows of threads that synchronize are small
small_nano : (script : Script) (S : State) → AreRows script S → AreSmallRows S.synchronization.nano
small_nano script S rows = record {
  mutexes = let few = rows.synchronization.nano.rows.few in omega arith;
  suspensions = rows.synchronization.nano.rows.limited;
}

small_of_rows : (script : Script) (S : State) → IsShaped script → AreRows script S → MayMakeMore S → IsSmall S
small_of_rows script S shaped rows made =
    let room = room_of_rows script S shaped rows made in
    record {
      nano = small_nano script S rows;
      messages =
          All-weaker (Contains S.serving.messages.outstanding) IsSmallNumber
          (λ message is. let few = room.messages in let given = rows.serving.messages.given message is in
          omega arith) S.serving.messages.outstanding (All-contains_itself S.serving.messages.outstanding);
    }

-- an action of a thread tells four effects at most, and so does what is done without one
few_effects : (script : Script) (S : State) (t : ObjNo) → IsShaped script → AreRows script S → TellsFew t S (decision_of script S t)
few_effects script S t shaped rows = elim (fits-action script S t shaped rows) as (λ _. TellsFew t S (decision_of script S t)) [
  | inl fits ↦ fits.told
  | inr pays ↦ subst (λ (ms : List Move). length (tell t ms S) ≤ 4) (sym pays.moves) (let few = tell_few t (Pay pays.what ∷ []) S in omega arith)
]

few_told : (script : Script) (S : State) (d : Decision) → Goes script supervisor S d.moves → TellsFew supervisor S d
few_told script S d goes = let few = tell_few supervisor d.moves S in let most = goes.told in omega arith

pub allows_action : (script : Script) (S : State) → IsShaped script → AreRows script S → MayMakeMore S → AllowsAction script S
allows_action script S shaped rows made = record {
  room = room_of_rows script S shaped rows made;
  small = small_of_rows script S shaped rows made;
  threads = λ t. few_effects script S t shaped rows;
  immediate =
      let found = next_immediate S.synchronization.deferred in
      few_told script S (decision_by script supervisor S (immediate_plan script S found))
      (goes-immediate script S found shaped rows refl);
  interrupts = λ k. few_told script S (decision_by script supervisor S (Runs (Interrupt k))) (goes-interrupt script S k shaped rows);
}

-- the state of a machine and its ready list are well-formed
pub formed_plain : (script : Script) (history : List Entry) (S : State) (qs : List ObjNo) → IsPlain script history S qs → IsWellFormed script S qs
formed_plain script history S qs plain =
    let shared = S.mode.shared in
    subst (λ (s : State). IsWellFormed script s qs) (sym plain.state)
    (subst (IsWellFormed script (after_in shared script history)) (sym plain.ready)
    (well_formed-after shared script history plain.valid))

-- it has made no more objects than it has entries, beside those at boot
pub few_made : (script : Script) (history : List Entry) (S : State) (qs : List ObjNo) → IsPlain script history S qs
    → length history < 4294967295 → MayMakeMore S
few_made script history S qs plain few =
    let made = made-after S.mode.shared script history plain.valid in
    let same : S.references.made ≡ (after_in S.mode.shared script history).references.made = ap (λ (s : State). s.references.made) plain.state in
    omega arith

-- the machine after an entry that may stand behind its history
plain_pushed : (shared : Bool) (script : Script) (history new : List Entry) (T : State) (list : List ObjNo) (e : Entry)
    → IsWellFormedScript script → IsLegalIn shared script history
    → IsNext script (after_in shared script history) (length history + 1) e
    → T ≡ next_by script (after_in shared script history) e
    → list ≡ arrived_by_entry script (after_in shared script history) e (arrived_in shared script history)
    → new ≡ history ++ e ∷ [] → IsPlain script new T list
plain_pushed shared script history new T list e valid legal next did left pushed =
    let mode : T.mode.shared ≡ shared = ap (λ (s : State). s.mode.shared) did
    ∙ (shared-by script (after_in shared script history) e ∙ shared-after script (boot_in shared script) history) in
    record {
      valid = valid;
      legal =
          subst (λ (b : Bool). IsLegalIn b script new) (sym mode)
          (subst (λ (h : List Entry). IsLegalIn shared script h) (sym pushed)
          (legal-push shared script history e legal next));
      state =
          subst (λ (b : Bool). T ≡ after_in b script new) (sym mode)
          (did ∙ (sym (after-push shared script history e)
          ∙ ap (λ (h : List Entry). after_in shared script h) (sym pushed)));
      ready =
          subst (λ (b : Bool). list ≡ arrived_in b script new) (sym mode)
          (left ∙ (sym (arrived-push shared script history e)
          ∙ ap (λ (h : List Entry). arrived_in shared script h) (sym pushed)));
    }

-- a machine on which callers don't share the kernel: what it has is what one caller alone makes
pub record IsAlone (script : Script) (history : List Entry) (S : State) (qs : List ObjNo) : Type 0 where
  pub legal : IsLegalIn false script history
  pub state : S ≡ after_in false script history
  pub ready : qs ≡ arrived_in false script history

pub alone_plain : (script : Script) (history : List Entry) (S : State) (qs : List ObjNo) → IsPlain script history S qs
    → S.mode.shared ≡ false → IsAlone script history S qs
alone_plain script history S qs plain alone = record {
  legal = subst (λ (b : Bool). IsLegalIn b script history) alone plain.legal;
  state = plain.state ∙ ap (λ (b : Bool). after_in b script history) alone;
  ready = plain.ready ∙ ap (λ (b : Bool). arrived_in b script history) alone;
}

-- the actor of a slot is the definitions', and so is its entry
alone_actor : (script : Script) (history : List Entry) (S : State) (qs : List ObjNo) (slot : Slot)
    → IsAlone script history S qs
    → slot_actor S qs slot ≡ slot_actor (after_in false script history) (arrived_in false script history) slot
alone_actor script history S qs slot alone =
    ap (λ (s : State). slot_actor s qs slot) alone.state
    ∙ ap (λ (l : List ObjNo). slot_actor (after_in false script history) l slot) alone.ready

alone_told : (script : Script) (history : List Entry) (S : State) (qs : List ObjNo) (slot : Slot) (place : ℕ)
    (e : Entry)
    → IsAlone script history S qs → place ≡ length history + 1 → e ≡ entry_by script S place (slot_actor S qs slot)
    → e ≡ entry_by script (after_in false script history) (length history + 1)
    (slot_actor (after_in false script history) (arrived_in false script history) slot)
alone_told script history S qs slot place e alone at told =
    told
    ∙ (ap (λ (n : ℕ). entry_by script S n (slot_actor S qs slot)) at
    ∙ (ap (λ (s : State). entry_by script s (length history + 1) (slot_actor S qs slot)) alone.state
    ∙ ap (entry_by script (after_in false script history) (length history + 1))
    (alone_actor script history S qs slot alone)))

pub slot_told : (script : Script) (history : List Entry) (S : State) (qs : List ObjNo) (slot : Slot) (place : ℕ)
    (e : Entry)
    → IsPlain script history S qs → S.mode.shared ≡ false → place ≡ length history + 1
    → e ≡ entry_by script S place (slot_actor S qs slot)
    → e ≡ entry_by script (after_in false script history) (length history + 1)
    (slot_actor (after_in false script history) (arrived_in false script history) slot)
slot_told script history S qs slot place e plain whole at told =
    alone_told script history S qs slot place e (alone_plain script history S qs plain whole) at told

-- it goes on by what the actor of a slot does
pub plain_goes_on : (script : Script) (history new : List Entry) (S T : State) (qs list : List ObjNo) (slot : Slot) (place : ℕ) (e : Entry)
    → IsDeclared script slot → IsPlain script history S qs → S.mode.shared ≡ false → place ≡ length history + 1
    → T ≡ next script S (slot_actor S qs slot) → list ≡ arrived_next script S (slot_actor S qs slot) qs
    → e ≡ entry_by script S place (slot_actor S qs slot) → new ≡ history ++ e ∷ []
    → IsPlain script new T list
plain_goes_on script history new S T qs list slot place e declared plain whole at did left told pushed =
    let alone = alone_plain script history S qs plain whole in
    let A = after_in false script history in
    let Q = arrived_in false script history in
    let actor = slot_actor A Q slot in
    let first = entry_by script A (length history + 1) actor in
    let acts : slot_actor S qs slot ≡ actor = alone_actor script history S qs slot alone in
    let same : choosing first A ≡ A = choosing-alone A first (shared-after script (boot_in false script) history)
    (unkept-after script (boot_in false script) history refl refl) in
    let is : e ≡ first = alone_told script history S qs slot place e alone at told in
    plain_pushed false script history new T list first plain.valid alone.legal (record {
      able = slot_can script A Q slot declared (well_formed-after false script history plain.valid);
      told = ap (λ (s : State). entry_by script s (length history + 1) actor) (sym same);
    })
    (did ∙ (ap (λ (s : State). next script s (slot_actor S qs slot)) alone.state
    ∙ (ap (next script A) acts ∙ ap (λ (s : State). next script s actor) (sym same))))
    (left ∙ (ap (λ (s : State). arrived_next script s (slot_actor S qs slot) qs) alone.state
    ∙ (ap (λ (a : Actor). arrived_next script A a qs) acts
    ∙ (ap (arrived_next script A actor) alone.ready ∙ ap (λ (s : State). arrived_next script s actor Q) (sym same)))))
    (pushed ∙ ap (λ (x : Entry). history ++ x ∷ []) is)

-- and callers still don't share the kernel
pub slot_whole : (script : Script) (S T : State) (actor : Actor) → S.mode.shared ≡ false → T ≡ next script S actor → T.mode.shared ≡ false
slot_whole script S T actor whole did = ap (λ (s : State). s.mode.shared) did ∙ (ap (λ (m : Mode). m.shared) (mode-next script S actor) ∙ whole)

-- a machine on which callers may share the kernel
record IsSplit (script : Script) (history : List Entry) (S : State) (qs : List ObjNo) : Type 0 where
  pub legal : IsLegalIn true script history
  pub state : (keep : Bool) → choice_made keep S ≡ keeping keep (after_in true script history)
  pub ready : qs ≡ arrived_in true script history

-- a list that has an item isn't empty
not_empty : (e : Entry) (rest : List Entry) → IsTrue (nat_eq (length (e ∷ rest)) 0) → ⊥
not_empty e rest empty = let none : length (e ∷ rest) ≡ 0 = eqb-true (length (e ∷ rest)) 0 empty in omega arith

split_plain : (shared : Bool) (script : Script) (history : List Entry) (S : State) (qs : List ObjNo)
    → IsPlain script history S qs → S.mode.shared ≡ shared → IsTrue (shared || nat_eq (length history) 0)
    → IsSplit script history S qs
split_plain true script history S qs plain mode split =
    let A = after_in true script history in
    let same : S ≡ A = plain.state ∙ ap (λ (b : Bool). after_in b script history) mode in
    record {
      legal = subst (λ (b : Bool). IsLegalIn b script history) mode plain.legal;
      state =
          λ keep. ap (choice_made keep) same
          ∙ ap (λ (b : Bool). record A { mode = record A.mode { shared = b; keep = keep } })
          (sym (shared-after script (boot_in true script) history));
      ready = plain.ready ∙ ap (λ (b : Bool). arrived_in b script history) mode;
    }
split_plain false script [] S qs plain mode split = record { legal = tt; state = λ keep. ap (choice_made keep) plain.state; ready = plain.ready }
split_plain false script (x ∷ xs) S qs plain mode split = absurd (not_empty x xs split)

-- such a state is well-formed with the ready list
formed_split : (script : Script) (history : List Entry) (S : State) (qs : List ObjNo) (keep : Bool)
    → IsWellFormedScript script → IsSplit script history S qs → IsWellFormed script (choice_made keep S) qs
formed_split script history S qs keep valid split =
    let formed = well_formed-keeping script (after_in true script history) (arrived_in true script history) keep
    (well_formed-after true script history valid) in
    subst (λ (s : State). IsWellFormed script s qs) (sym (split.state keep))
    (subst (IsWellFormed script (keeping keep (after_in true script history))) (sym split.ready) formed)

-- who may act there may act after the history, and the other way round
able_split : (script : Script) (history : List Entry) (S : State) (qs : List ObjNo) (keep : Bool) (actor : Actor)
    → IsSplit script history S qs → CanAct script (choice_made keep S) actor
    → CanAct script (after_in true script history) actor
able_split script history S qs keep actor split able =
    able-kept script (after_in true script history) keep actor
    (subst (λ (s : State). CanAct script s actor) (split.state keep) able)

split_able : (script : Script) (history : List Entry) (S : State) (qs : List ObjNo) (keep : Bool) (actor : Actor)
    → IsSplit script history S qs → CanAct script (after_in true script history) actor
    → CanAct script (choice_made keep S) actor
split_able script history S qs keep actor split able =
    subst (λ (s : State). CanAct script s actor) (sym (split.state keep))
    (able-keeping script (after_in true script history) keep actor able)

-- the entry is the definitions', with the choice
shares_told : (script : Script) (history : List Entry) (S : State) (qs : List ObjNo) (actor : Actor) (keep : Bool)
    (place : ℕ) (e : Entry)
    → IsSplit script history S qs → place ≡ length history + 1 → e ≡ entry_by script (choice_made keep S) place actor
    → e ≡ entry_by script (keeping keep (after_in true script history)) (length history + 1) actor
shares_told script history S qs actor keep place e split at told =
    told
    ∙ (ap (λ (n : ℕ). entry_by script (choice_made keep S) n actor) at
    ∙ ap (λ (s : State). entry_by script s (length history + 1) actor) (split.state keep))

-- it goes on by what an actor does that may act
plain_shares : (script : Script) (history new : List Entry) (S T : State) (qs list : List ObjNo) (actor : Actor) (keep : Bool) (place : ℕ) (e : Entry)
    → IsWellFormedScript script → IsSplit script history S qs → CanAct script (choice_made keep S) actor → place ≡ length history + 1
    → T ≡ next script (choice_made keep S) actor → list ≡ arrived_next script (choice_made keep S) actor qs
    → e ≡ entry_by script (choice_made keep S) place actor → new ≡ history ++ e ∷ []
    → IsPlain script new (keeping (is_deathless e.effects) T) list
plain_shares script history new S T qs list actor keep place e valid split able at did left told pushed =
    let A = after_in true script history in
    let Q = arrived_in true script history in
    let first = entry_by script (keeping keep A) (length history + 1) actor in
    let is : e ≡ first = shares_told script history S qs actor keep place e split at told in
    let tells = tells-choice script A (length history + 1) actor keep (formed_is_shaped script valid) (well_formed-after true script history valid).rows in
    let same : choosing first A ≡ keeping (is_deathless first.effects) A = choosing-shared A first (shared-after script (boot_in true script) history) in
    plain_pushed true script history new (keeping (is_deathless e.effects) T) list first valid split.legal (record {
      able = able_split script history S qs keep actor split able;
      told = tells.entry ∙ ap (λ (s : State). entry_by script s (length history + 1) actor) (sym same);
    })
    (ap (λ (x : Entry). keeping (is_deathless x.effects) T) is
    ∙ (ap (keeping (is_deathless first.effects)) (did ∙ ap (λ (s : State). next script s actor) (split.state keep))
    ∙ (tells.state ∙ ap (λ (s : State). next script s actor) (sym same))))
    (left ∙ (ap (λ (s : State). arrived_next script s actor qs) (split.state keep)
    ∙ (ap (arrived_next script (keeping keep A) actor) split.ready
    ∙ (tells.ready Q ∙ ap (λ (s : State). arrived_next script s actor Q) (sym same)))))
    (pushed ∙ ap (λ (x : Entry). history ++ x ∷ []) is)

-- an answer isn't both
unable : (able : Bool) → able ≡ false → IsTrue able → ⊥
unable able not is = cc

-- an action on a machine that callers may share
module _ (script : Script) (history : List Entry) (S : State) (qs : List ObjNo) (actor : Actor) (keep : Bool)
    (plain : IsPlain script history S qs) (may : IsTrue (S.mode.shared || nat_eq (length history) 0)) where
  split : IsSplit script history S qs
  split = split_plain S.mode.shared script history S qs plain refl may

  -- it is allowed, and so is the question who may act
  pub shares_formed : IsWellFormed script (choice_made keep S) qs
  shares_formed = formed_split script history S qs keep plain.valid split

  pub shares_allowed : length history < 4294967295 → AllowsAction script (choice_made keep S)
  shares_allowed few =
      allows_action script (choice_made keep S) (formed_is_shaped script plain.valid) shares_formed.rows (few_made script history S qs plain few)

  -- the machine goes on by it
  pub shares_made : (new : List Entry) (T U : State) (list : List ObjNo) (place : ℕ) (e told : Entry)
      → CanAct script (choice_made keep S) actor → place ≡ length history + 1
      → T ≡ next script (choice_made keep S) actor → U ≡ keeping (is_deathless e.effects) T
      → list ≡ arrived_next script (choice_made keep S) actor qs → e ≡ entry_by script (choice_made keep S) place actor
      → new ≡ history ++ e ∷ [] → told ≡ e
      → IsMade script history new actor keep U list told
  shares_made new T U list place e told able at did after left is pushed same = record {
    plain =
        subst (λ (s : State). IsPlain script new s list) (sym after)
        (plain_shares script history new S T qs list actor keep place e plain.valid split able at did left is pushed);
    shared =
        ap (λ (s : State). s.mode.shared) after
        ∙ (ap (λ (s : State). s.mode.shared) did
        ∙ ap (λ (m : Mode). m.shared) (mode-next script (choice_made keep S) actor));
    history = pushed ∙ ap (λ (x : Entry). history ++ x ∷ []) (sym same);
    entry = same ∙ shares_told script history S qs actor keep place e split at is;
  }

  -- and where the actor may not act nothing is made
  pub shares_barred : (able : Bool) → able ≡ false → (CanAct script (choice_made keep S) actor → IsTrue able)
      → CanAct script (after_in true script history) actor → ⊥
  shares_barred able not only can = unable able not (only (split_able script history S qs keep actor split can))

-- at boot nothing has happened, and callers don't share the kernel
pub plain_boot : (script : Script) (S : State) (qs : List ObjNo) → IsWellFormedScript script → S ≡ boot script
    → qs ≡ ready_at_boot script → IsPlain script [] S qs
plain_boot script S qs valid state ready = record {
  valid = valid;
  legal = tt;
  state = subst (λ (b : Bool). S ≡ boot_in b script) (sym (ap (λ (s : State). s.mode.shared) state)) state;
  ready = ready;
}
