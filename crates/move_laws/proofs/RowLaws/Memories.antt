-- The memory of processes, where it changes, or the rows of threads.
use Rattle.std.proofs.Common.{◌≡◌, inl, inr, ℕ, ◌+◌, ◌≤◌, List, length, get_or, arith, sym, ap, subst, ◌∙◌, Option, Some, None, true}
use Rattle.std.specs.Prelude.{is_some, option_map}
use Rattle.std.proofs.lemmas.List.{length-append, length-drop, length-replicate, length-set, length-take}
use Rattle.sym_base.specs.declared.number.ObjNo.{ObjNo}
use Rattle.state_rows.specs.declared.thread.ThreadRow.{ThreadRow}
use Rattle.machine.specs.Memory.{filled, with_memory}
use Rattle.machine.specs.Rows.{with_row}
use Rattle.machine.specs.WellFormed.{AreMemories}
use Rattle.move_laws.proofs.Lists.Sets.{set_either}
use Rattle.move_laws.proofs.References.Counts.{is_some-with}
use Rattle.move_laws.proofs.RowLaws.Threads.{length-with_row, map_some, was_row}

-- a change of a row that leaves the thread's process
pub memories-with_row : (threads : List (Option ThreadRow)) (t : ObjNo) (f : ThreadRow → ThreadRow)
    (memories : List (Option (List ℕ)))
    → ((row : ThreadRow) → get_or threads t.0 None ≡ Some row → (f row).process ≡ row.process)
    → AreMemories threads memories → AreMemories (with_row threads t f) memories
memories-with_row threads t f memories keeps h = record {
  sized = h.sized ∙ sym (length-with_row threads t f);
  bytes = h.bytes;
  processes = was_row threads t f (λ (n : ℕ) (r : ThreadRow). is_some (get_or memories r.process.0 None) ≡ true)
      (λ old is. subst (λ (p : ObjNo). is_some (get_or memories p.0 None) ≡ true) (sym (keeps old is)) (h.processes t.0 old is)) h.processes;
}

-- bytes that get a value are as many as before
length-filled : (at long byte : ℕ) (bytes : List ℕ) → at + long ≤ length bytes → length (filled at long byte bytes) ≡ length bytes
length-filled at long byte bytes within = simp (length-append, length-take, length-drop, length-replicate) (omega arith)

-- a process's memory changes, which has as many bytes as before
pub memories-changed : (threads : List (Option ThreadRow)) (memories : List (Option (List ℕ))) (p : ObjNo)
    (f : List ℕ → List ℕ)
    → ((bytes : List ℕ) → length bytes ≡ 1024 → length (f bytes) ≡ 1024) → AreMemories threads memories
    → AreMemories threads (with_memory memories p f)
memories-changed threads memories p f keeps h = record {
  sized = length-set memories p.0 _ ∙ h.sized;
  bytes = λ k bytes is. elim (set_either memories p.0 (option_map f (get_or memories p.0 None)) k None) as (λ _. length bytes ≡ 1024) [
    | inl here ↦
        let was = map_some f (get_or memories p.0 None) bytes (sym here.1 ∙ is) in
        let same = keeps was.0 (h.bytes p.0 was.0 was.1) in
        let now : length (f was.0) ≡ length bytes = ap length was.2 in omega arith
    | inr there ↦ h.bytes k bytes (sym there ∙ is)
  ];
  processes = λ k row is. is_some-with memories p.0 f row.process.0 ∙ h.processes k row is;
}

-- it is filled
pub memories-filled : (threads : List (Option ThreadRow)) (memories : List (Option (List ℕ))) (p : ObjNo)
    (at long byte : ℕ)
    → at + long ≤ 1024 → AreMemories threads memories
    → AreMemories threads (with_memory memories p (filled at long byte))
memories-filled threads memories p at long byte within h =
    memories-changed threads memories p (filled at long byte)
    (λ bytes long_as. let same = length-filled at long byte bytes (omega arith) in omega arith) h
