-- The definition of safe messages, tried on histories, changed by hand, that aren't safe.
use Rattle.std.proofs.Common.{◌≡◌, ℕ, ℤ, ◌+◌, List, [], ◌∷◌, ◌++◌, ◌∙◌, Option, Some, None, Bool, true, false, refl, sym, ap, subst, arith, length, le-ltb, lt-ltb}
use Rattle.std.specs.Prelude.{pos, nat_lt}
use Rattle.sym_base.specs.declared.number.MsgNo.{MsgNo}
use Rattle.sym_base.specs.declared.number.ObjNo.{ObjNo}
use Rattle.sym_base.specs.declared.word.Word.TheVariants as word
use Rattle.script_types.specs.declared.script.Script.{Script}
use Rattle.entry_log.specs.declared.effect.Effect.{Effect}
use Rattle.entry_log.specs.declared.effect.Effect.TheVariants as effect
use Rattle.entry_log.specs.declared.effect.Holder.TheVariants as holder
use Rattle.entry_log.specs.declared.effect.StatusNo.{StatusNo}
use Rattle.entry_log.specs.declared.effect.StatusNo.TheVariants as status
use Rattle.entry_log.specs.declared.entry.Actor.TheVariants.{Thread}
use Rattle.entry_log.specs.declared.entry.Entry.{Entry}
use Rattle.entry_log.specs.declared.step.Part.TheVariants as part
use Rattle.entry_log.specs.declared.step.Step.TheVariants as step
use Rattle.machine.specs.Boot.{boot_of}
use Rattle.machine_safe.specs.CountAfter.{effects_of, is_by}
use Rattle.machine_safe.specs.SafeDeaths.{dooms}
use Rattle.machine_safe.specs.SafeMessages.{IsSafeMessages, notice, code_of_complete}
use Rattle.machine_safe.specs.Sent.{Accepts, accepts, accepts_by, instruction_in, status_by, WasAccepted}
use Rattle.machine_safe.specs.Served.{ends_in, is_closing_in, is_remade, owner_in, server_in}
use Rattle.machine_safe.proofs.ServedHistory.{served_script, number, message, acts, accepted, serves, joins, connects, completes, first_end, connected, sends, closes, stops, opens, links_elsewhere, AtEach, at-each, other_told, number_told}
use Rattle.machine_safe.proofs.Runs.{effects-append}
use Rattle.machine_safe.proofs.Deaths.EffectSums.{dooms-append}

-- No message is finished a second time.
finished_twice : (script : Script) → IsSafeMessages script (opens ++ first_end ∷ completes 5 1 (effect.Finish (message 1) (pos 0) ∷ []) ∷ []) → ⊥
finished_twice script safe =
    let end = safe.finished (opens ++ first_end ∷ []) (completes 5 1 (effect.Finish (message 1) (pos 0) ∷ [])) [] (message 1) refl (omega arith) in
    let once : ◌≡◌ {A = ℕ} 1 0 = end.once in absurd (omega arith)

-- Nor with another message's code: the instruction has 0, and not 5.
abbrev other_code : Entry
other_code = completes 4 1 (effect.Finish (message 1) (pos 5) ∷ effect.Signal (number 5) status.Sync (pos 5) ∷ [])

finish_code : List Effect → ℤ
finish_code (effect.Finish m code ∷ rest) = code
finish_code _ = pos 0

coded_wrong : IsSafeMessages served_script (opens ++ other_code ∷ []) → ⊥
unfolding boot_of finish_code
coded_wrong safe =
    let end = safe.finished opens other_code [] (message 1) refl (omega arith) in
    let told : pos 5 ≡ end.code = ap finish_code end.told in
    let own : number 3 ≡ end.owner = cc in
    let cause : Some (pos 0) ≡ Some end.code = subst
    (λ (u : ObjNo). code_of_complete (instruction_in served_script opens u) ≡ Some end.code) (sym own) end.cause in
    let code : pos 0 ≡ end.code = cc in cc

-- A client that was doomed gets no signal.
abbrev dies : Entry
dies = acts 4 5 step.End (effect.Doom (number 5) ∷ []) None

abbrev late_end : Entry
late_end = completes 5 1 (effect.Finish (message 1) (pos 0) ∷ effect.Signal (number 5) status.Sync (pos 0) ∷ [])

nothing_more : (told : Option StatusNo) (client : ObjNo) (code : ℤ) → length (notice told true client code) ≡ 0
nothing_more None client code = refl
nothing_more (Some s) client code = refl

pub second_object : List Effect → ObjNo
second_object (a ∷ effect.Plus h s ∷ rest) = s
second_object _ = number 0

pub third_object : List Effect → ObjNo
third_object (a ∷ b ∷ effect.Plus h c ∷ rest) = c
third_object _ = number 0

-- what is told of dooms before a message is accepted, and from then on
since_accepted : (history : List Entry) (a : WasAccepted history (message 1)) (c : ObjNo)
    → dooms (effects_of history) c ≡ dooms (effects_of a.before) c + dooms (effects_of (a.at ∷ a.later)) c
since_accepted history a c =
    let parts = ap (λ (l : List Entry). dooms (effects_of l) c) a.stands in
    let split = ap (λ (l : List Effect). dooms l c) (effects-append a.before (a.at ∷ a.later)) in
    let sum = dooms-append (effects_of a.before) (effects_of (a.at ∷ a.later)) c in omega arith

-- whoever accepted it named its client, who was doomed so often before
abbrev NamesClient : ℕ → List Entry → Entry → Type 0
NamesClient n before e = (by : Accepts e (message 1)) → (number 5 ≡ by.client) × (dooms (effects_of before) (number 5) ≡ n)

each_named : AtEach (NamesClient 0) [] (opens ++ dies ∷ [])
unfolding third_object
each_named = (
  λ a. absurd (other_told serves (message 1) refl a),
  (
    λ a. absurd (other_told joins (message 1) refl a),
    (λ a. (ap third_object a.told, refl), (λ a. absurd (other_told dies (message 1) refl a), tt)),
  ),
)

signalled_dead : (script : Script) → IsSafeMessages script (opens ++ dies ∷ late_end ∷ []) → ⊥
signalled_dead script safe =
    let before = opens ++ dies ∷ [] in
    let end = safe.finished (opens ++ dies ∷ []) late_end [] (message 1) refl (omega arith) in
    let a = end.accepted in
    let named = at-each (NamesClient 0) [] (opens ++ dies ∷ []) a.before a.at a.later each_named a.stands a.by in
    let none = named.1 in
    let all = since_accepted before a (number 5) in
    let once : dooms (effects_of before) (number 5) ≡ 1 = refl in
    let since : nat_lt 0 (dooms (effects_of (a.at ∷ a.later)) (number 5)) ≡ true = lt-ltb 0 (dooms (effects_of (a.at ∷ a.later)) (number 5)) (omega arith) in
    let doomed : nat_lt 0 (dooms (effects_of (a.at ∷ a.later)) a.by.client) ≡ true =
    subst (λ (c : ObjNo). nat_lt 0 (dooms (effects_of (a.at ∷ a.later)) c) ≡ true) named.0 since in
    let told = ap length end.told in
    let silent = nothing_more (status_by a.at.step (instruction_in script a.before a.by.client)) a.by.client end.code in
    let same = ap (λ (b : Bool). length (notice
    (status_by a.at.step (instruction_in script a.before a.by.client)) b a.by.client end.code)) doomed in
    absurd (omega arith)

-- No message is accepted once the handle of its server is closed.
accepted_late : (script : Script) → IsSafeMessages script (opens ++ first_end ∷ connected ∷ closes 6 ∷ sends 7 2 ∷ []) → ⊥
unfolding second_object
accepted_late script safe =
    let a = safe.acceptances (opens ++ first_end ∷ connected ∷ closes 6 ∷ []) (sends 7 2) [] refl (omega arith) in
    let session : number 7 ≡ a.by.session = ap second_object a.by.told in
    let server : Some (number 6) ≡ Some a.server = subst
    (λ (s : ObjNo). server_in (opens ++ first_end ∷ connected ∷ closes 6 ∷ []) s ≡ Some a.server)
    (sym session) a.linked in
    let own : number 6 ≡ a.server = cc in
    let accepting : true ≡ false = subst (λ (v : ObjNo). is_closing_in (opens ++ first_end ∷ connected ∷ closes 6 ∷ []) v ≡ false) (sym own) a.accepting in cc

-- Nor once that handle goes in any other step.
abbrev loses : ℕ → Entry
loses place = acts place 3 (step.Of word.Connect part.Done) (effect.Minus (holder.InThread (number 3) 0) (number 6) ∷ []) (Some (pos 0))

accepted_unhandled : (script : Script) → IsSafeMessages script (opens ++ first_end ∷ connected ∷ loses 6 ∷ sends 7 2 ∷ []) → ⊥
unfolding second_object
accepted_unhandled script safe =
    let a = safe.acceptances (opens ++ first_end ∷ connected ∷ loses 6 ∷ []) (sends 7 2) [] refl (omega arith) in
    let session : number 7 ≡ a.by.session = ap second_object a.by.told in
    let server : Some (number 6) ≡ Some a.server = subst
    (λ (s : ObjNo). server_in (opens ++ first_end ∷ connected ∷ loses 6 ∷ []) s ≡ Some a.server)
    (sym session) a.linked in
    let own : number 6 ≡ a.server = cc in
    let accepting : true ≡ false = subst (λ (v : ObjNo). is_closing_in (opens ++ first_end ∷ connected ∷ loses 6 ∷ []) v ≡ false) (sym own) a.accepting in cc

-- None is accepted in a step that isn't one that accepts: a call under the name of a time slice's end, whose client would wait for ever.
abbrev calls_turning : Entry
calls_turning = acts 6 5 step.Turn (accepted 2) None

accepted_turning : (script : Script) → IsSafeMessages script (opens ++ first_end ∷ connected ∷ calls_turning ∷ []) → ⊥
accepted_turning script safe =
    let a = safe.acceptances (opens ++ first_end ∷ connected ∷ []) calls_turning [] refl (omega arith) in
    let other : accepts_by step.Turn (status_by step.Turn (instruction_in script (opens ++ first_end ∷ connected ∷ []) a.by.client)) ≡ true = a.step in cc

-- Nor in a `send` whose client is at no such instruction: it has a `connect` there.
abbrev sends_connecting : Entry
sends_connecting = acts 3 5 (step.Of word.Send part.Do) (accepted 1) (Some (pos 0))

accepted_misplaced : IsSafeMessages served_script (serves ∷ joins ∷ sends_connecting ∷ []) → ⊥
unfolding boot_of third_object
accepted_misplaced safe =
    let a = safe.acceptances (serves ∷ joins ∷ []) sends_connecting [] refl (omega arith) in
    let client : number 5 ≡ a.by.client = ap third_object a.by.told in
    let other : false ≡ true = subst (λ (u : ObjNo). accepts_by (step.Of word.Send part.Do)
    (status_by (step.Of word.Send part.Do) (instruction_in served_script (serves ∷ joins ∷ []) u)) ≡ true)
    (sym client) a.step in
    cc

-- Messages are numbered in order, one an entry, and it is the acting thread that sends.
first_message : List Effect → MsgNo
first_message (effect.Accept m ∷ rest) = m
first_message _ = message 0

accepted_unordered : (script : Script) → IsSafeMessages script (opens ++ first_end ∷ connected ∷ sends 6 3 ∷ []) → ⊥
unfolding first_message
accepted_unordered script safe =
    let a = safe.acceptances (opens ++ first_end ∷ connected ∷ []) (sends 6 3) [] refl (omega arith) in
    let own : ◌≡◌ {A = ℕ} 3 a.message.0 = ap (λ (l : List Effect). (first_message l).0) a.by.told in
    let number : a.message.0 ≡ 2 = a.number in absurd (omega arith)

abbrev sends_two : Entry
sends_two = acts 6 5 (step.Of word.Send part.Do) (accepted 2 ++ accepted 3) (Some (pos 0))

accepted_two : (script : Script) → IsSafeMessages script (opens ++ first_end ∷ connected ∷ sends_two ∷ []) → ⊥
accepted_two script safe =
    let a = safe.acceptances (opens ++ first_end ∷ connected ∷ []) sends_two [] refl (omega arith) in
    let all : ◌≡◌ {A = ℕ} 2 (1 + accepts a.by.rest) = ap accepts a.by.told in
    let only = a.only in absurd (omega arith)

abbrev sends_for_another : Entry
sends_for_another = acts 6 3 (step.Of word.Send part.Do) (accepted 2) (Some (pos 0))

accepted_for_another : (script : Script) → IsSafeMessages script (opens ++ first_end ∷ connected ∷ sends_for_another ∷ []) → ⊥
unfolding third_object
accepted_for_another script safe =
    let a = safe.acceptances (opens ++ first_end ∷ connected ∷ []) sends_for_another [] refl (omega arith) in
    let client : number 5 ≡ a.by.client = ap third_object a.by.told in
    let other : false ≡ true = subst (λ (u : ObjNo). is_by u (Thread (number 3)) ≡ true) (sym client) a.client in cc

-- Nor over a session that is linked in another step than the one that makes sessions.
accepted_elsewhere : (script : Script) → IsSafeMessages script (serves ∷ links_elsewhere ∷ connects ∷ []) → ⊥
unfolding second_object
accepted_elsewhere script safe =
    let a = safe.acceptances (serves ∷ links_elsewhere ∷ []) connects [] refl (omega arith) in
    let session : number 7 ≡ a.by.session = ap second_object a.by.told in
    let server : None ≡ Some a.server = subst (λ (s : ObjNo). server_in (serves ∷ links_elsewhere ∷ []) s ≡ Some a.server) (sym session) a.linked in cc

-- Nor by a server that ended.
accepted_ended : (script : Script) → IsSafeMessages script (opens ++ first_end ∷ connected ∷ stops ∷ sends 7 2 ∷ []) → ⊥
unfolding second_object
accepted_ended script safe =
    let before = opens ++ first_end ∷ connected ∷ stops ∷ [] in
    let a = safe.acceptances (opens ++ first_end ∷ connected ∷ stops ∷ []) (sends 7 2) [] refl (omega arith) in
    let session : number 7 ≡ a.by.session = ap second_object a.by.told in
    let server : Some (number 6) ≡ Some a.server = subst
    (λ (x : ObjNo). server_in (opens ++ first_end ∷ connected ∷ stops ∷ []) x ≡ Some a.server) (sym session) a.linked in
    let own : number 6 ≡ a.server = cc in
    let lasts : ◌≡◌ {A = ℕ} 1 0 = subst (λ (v : ObjNo). ends_in (opens ++ first_end ∷ connected ∷ stops ∷ []) v ≡ 0) (sym own) a.lasts in absurd (omega arith)

-- Nor by another that has its number since.
accepted_anew : (script : Script) → IsSafeMessages script (opens ++ first_end ∷ connected ∷ stops ∷ serves ∷ sends 7 2 ∷ []) → ⊥
unfolding second_object
accepted_anew script safe =
    let a = safe.acceptances (opens ++ first_end ∷ connected ∷ stops ∷ serves ∷ []) (sends 7 2) [] refl (omega arith) in
    let session : number 7 ≡ a.by.session = ap second_object a.by.told in
    let server : Some (number 6) ≡ Some a.server = subst
    (λ (x : ObjNo). server_in (opens ++ first_end ∷ connected ∷ stops ∷ serves ∷ []) x ≡ Some a.server) (sym session) a.linked in
    let own : number 6 ≡ a.server = cc in
    let first : is_remade (opens ++ first_end ∷ connected ∷ stops ∷ serves ∷ []) a.by.session (number 6) ≡ false =
    subst (λ (v : ObjNo). is_remade (opens ++ first_end ∷ connected ∷ stops ∷ serves ∷ []) a.by.session v ≡ false) (sym own) a.same in
    let same : true ≡ false = subst
    (λ (x : ObjNo). is_remade (opens ++ first_end ∷ connected ∷ stops ∷ serves ∷ []) x (number 6) ≡ false) (sym session) first in cc

-- No message is finished that wasn't accepted,
abbrev never_accepted : List Entry → Entry → Type 0
never_accepted before e = Accepts e (message 9) → ⊥

each_other : AtEach never_accepted [] opens
each_other = (
  λ a. other_told serves (message 9) refl a,
  (
    λ a. other_told joins (message 9) refl a,
    (
      λ a. let same : ◌≡◌ {A = ℕ} 1 9 = ap (λ (m : MsgNo). m.0) (number_told 1 connects (message 9) refl a) in
          omega arith,
      tt,
    ),
  ),
)

finished_unaccepted : (script : Script) → IsSafeMessages script (opens ++ completes 4 9 (effect.Finish (message 9) (pos 0) ∷ []) ∷ []) → ⊥
finished_unaccepted script safe =
    let end = safe.finished opens (completes 4 9 (effect.Finish (message 9) (pos 0) ∷ [])) [] (message 9) refl (omega arith) in
    let a = end.accepted in at-each never_accepted [] opens a.before a.at a.later each_other a.stands a.by

-- or by another than the owner of its server.
abbrev NamesServer : List Entry → Entry → Type 0
NamesServer before e = (by : Accepts e (message 1)) → Some (number 6) ≡ server_in before by.session

each_server : AtEach NamesServer [] opens
unfolding second_object
each_server = (
  λ a. absurd (other_told serves (message 1) refl a),
  (
    λ a. absurd (other_told joins (message 1) refl a),
    (λ a. ap (server_in (serves ∷ joins ∷ [])) (ap second_object a.told), tt),
  ),
)

abbrev ends_own : Entry
ends_own = acts 4 5 (step.Of word.Complete part.Do) (effect.Finish (message 1) (pos 0) ∷ effect.Signal (number 5) status.Sync (pos 0) ∷ []) (Some (pos 0))

finished_by_another : (script : Script) → IsSafeMessages script (opens ++ ends_own ∷ []) → ⊥
finished_by_another script safe =
    let end = safe.finished opens ends_own [] (message 1) refl (omega arith) in
    let a = end.accepted in
    let server : Some (number 6) ≡ Some end.server = at-each NamesServer [] opens a.before a.at a.later each_server a.stands a.by ∙ end.linked in
    let own : number 6 ≡ end.server = cc in
    let owner : Some (number 3) ≡ Some end.owner = subst (λ (v : ObjNo). owner_in opens v ≡ Some end.owner) (sym own) end.owns in
    let actor : Thread (number 5) ≡ Thread end.owner = end.actor in
    let both : number 5 ≡ number 3 = cc in
    let same : ◌≡◌ {A = ℕ} 5 3 = ap (λ (x : ObjNo). x.0) both in omega arith

-- A client that lives is told.
abbrev NamesStatus : List Entry → Entry → Type 0
NamesStatus before e = (by : Accepts e (message 1)) → Some status.Sync ≡ status_by e.step (instruction_in served_script before by.client)

each_status : AtEach NamesStatus [] opens
unfolding boot_of third_object
each_status = (
  λ a. absurd (other_told serves (message 1) refl a),
  (
    λ a. absurd (other_told joins (message 1) refl a),
    (
      λ a. subst (λ (u : ObjNo). Some status.Sync
          ≡ status_by (step.Of word.Connect part.Send) (instruction_in served_script (serves ∷ joins ∷ []) u))
          (ap third_object a.told) refl,
      tt,
    ),
  ),
)

abbrev ends_silent : Entry
ends_silent = completes 4 1 (effect.Finish (message 1) (pos 0) ∷ [])

-- none of those that act here is doomed
undoomed : (u : ObjNo) → dooms (effects_of opens) u ≡ 0
undoomed u = refl

told_nobody : IsSafeMessages served_script (opens ++ ends_silent ∷ []) → ⊥
told_nobody safe =
    let end = safe.finished opens ends_silent [] (message 1) refl (omega arith) in
    let a = end.accepted in
    let told = at-each NamesStatus [] opens a.before a.at a.later each_status a.stands a.by in
    let all = ap length end.told in
    let none = undoomed a.by.client in
    let sum = since_accepted opens a a.by.client in
    let doomed = ap (λ (b : Bool). length (notice
    (status_by a.at.step (instruction_in served_script a.before a.by.client)) b a.by.client end.code))
    (le-ltb 0 (dooms (effects_of (a.at ∷ a.later)) a.by.client) (omega arith)) in
    let one : ◌≡◌ {A = ℕ} 1 (length (notice
    (status_by a.at.step (instruction_in served_script a.before a.by.client)) false a.by.client end.code)) =
    ap (λ (x : Option StatusNo). length (notice x false a.by.client end.code)) told in
    absurd (omega arith)

-- And a doom before the message was accepted is of an earlier life, and takes nothing away from what it is told.
abbrev died_before : List Entry
died_before = dies ∷ opens

abbrev NamesLiving : List Entry → Entry → Type 0
NamesLiving before e =
    (by : Accepts e (message 1)) → (Some status.Sync ≡ status_by e.step (instruction_in served_script before by.client))
    × ((number 5 ≡ by.client) × (dooms (effects_of before) (number 5) ≡ 1))

each_living : AtEach NamesLiving [] died_before
unfolding boot_of third_object
each_living = (
  λ a. absurd (other_told dies (message 1) refl a),
  (
    λ a. absurd (other_told serves (message 1) refl a),
    (
      λ a. absurd (other_told joins (message 1) refl a),
      (
        λ a. (
          subst (λ (u : ObjNo). Some status.Sync
              ≡ status_by (step.Of word.Connect part.Send) (instruction_in served_script (dies ∷ serves ∷ joins ∷ []) u))
              (ap third_object a.told) refl,
          (ap third_object a.told, refl),
        ),
        tt,
      ),
    ),
  ),
)

told_nobody_again : IsSafeMessages served_script (died_before ++ ends_silent ∷ []) → ⊥
told_nobody_again safe =
    let end = safe.finished died_before ends_silent [] (message 1) refl (omega arith) in
    let a = end.accepted in
    let named = at-each NamesLiving [] died_before a.before a.at a.later each_living a.stands a.by in
    let before = named.1.1 in
    let sum = since_accepted died_before a (number 5) in
    let once : dooms (effects_of died_before) (number 5) ≡ 1 = refl in
    let since : nat_lt 0 (dooms (effects_of (a.at ∷ a.later)) (number 5)) ≡ false = le-ltb 0 (dooms (effects_of (a.at ∷ a.later)) (number 5)) (omega arith) in
    let living : nat_lt 0 (dooms (effects_of (a.at ∷ a.later)) a.by.client) ≡ false =
    subst (λ (c : ObjNo). nat_lt 0 (dooms (effects_of (a.at ∷ a.later)) c) ≡ false) named.1.0 since in
    let all = ap length end.told in
    let doomed = ap (λ (b : Bool). length (notice (status_by a.at.step (instruction_in served_script a.before a.by.client)) b a.by.client end.code)) living in
    let one : ◌≡◌ {A = ℕ} 1 (length (notice
    (status_by a.at.step (instruction_in served_script a.before a.by.client)) false a.by.client end.code)) =
    ap (λ (x : Option StatusNo). length (notice x false a.by.client end.code)) named.0 in
    absurd (omega arith)
