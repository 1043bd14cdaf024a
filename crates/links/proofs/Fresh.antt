-- Neighbours that each lead to themselves stand for empty lists.
use Rattle.std.proofs.Common.{◌≡◌, ℕ, zero, suc, ◌+◌, ◌<◌, ◌≤◌, ◌^◌, List, [], ◌∷◌, length, get_or, replicate, arith}
use Rattle.std.proofs.lemmas.List.{length-replicate, get_or-replicate}
use Rattle.links.specs.Rings.{IsRing}
use Rattle.links.proofs.Calls.{Leads, leads}

-- the ring of an end alone
ring_alone : (n end : ℕ) (next previous : List ℕ) → get_or next end 0 ≡ end → get_or previous end 0 ≡ end → IsRing n next previous end []
ring_alone n end next previous forth back = record {
  below = λ k none. absurd (omega arith);
  forward = forward;
  backward = backward;
}
  where
    forward : (k : ℕ) → k ≤ length {A = ℕ} [] → get_or next (get_or (end ∷ []) k end) 0 ≡ get_or [] k end
    forward zero within = forth
    forward (suc k) within = absurd (omega arith)

    backward : (k : ℕ) → k ≤ length {A = ℕ} [] → get_or previous (get_or [] k end) 0 ≡ get_or (end ∷ []) k end
    backward zero within = back
    backward (suc k) within = absurd (omega arith)

pub fresh_leads : (n lists : ℕ) (next previous : List ℕ) → n + lists < 2 ^ 32 → length next ≡ n + lists
    → length previous ≡ n + lists → ((k : ℕ) → k < n + lists → get_or next k 0 ≡ k)
    → ((k : ℕ) → k < n + lists → get_or previous k 0 ≡ k) → Leads n next previous (replicate lists [])
fresh_leads n lists next previous small sized sized' forth back = leads n next previous (replicate lists []) (record {
  next_sized = rw length-replicate sized;
  previous_sized = rw length-replicate sized';
  small = rw length-replicate small;
  rings = λ l listed.
      let inside : l < lists = rw length-replicate at listed in
      rw (get_or-replicate {A = List ℕ} lists l [] [] inside) (ring_alone n (n + l) next previous (forth (n + l) (omega arith)) (back (n + l) (omega arith)));
  free = λ x node unplaced. forth x (omega arith);
})
