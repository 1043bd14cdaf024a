-- What is kept of the table by each change of its rows and lists.
use Rattle.std.proofs.Common.{◌≡◌, ◌≢◌, ℕ, zero, suc, ◌<◌, ◌^◌, true, false, List, [], ◌∷◌, ◌++◌, length, set, get_or, replicate, refl, sym, ap, ◌∙◌, arith, inl, inr, get_or-set_same, get_or-set_other, length-set}
use Rattle.std.specs.Prelude.{Option, Some, None, is_some, slice_get, IfSome}
use Rattle.std.specs.List.{list_any}
use Rattle.std.proofs.lemmas.Bool.{cases_eq, cases_lt}
use Rattle.std.proofs.lemmas.List.{get_or_past, length-replicate}
use Rattle.sym_base.specs.declared.number.ObjNo.{ObjNo}
use Rattle.sym_base.specs.declared.kind.Slots.{Slots}
use Rattle.links.specs.Linked.{Linked, list_at, with_list, pushed_back, empty_lists}
use Rattle.links.specs.Linked as nodes
use Rattle.links.proofs.Marks.{listed_from}
use Rattle.state_rows.specs.declared.servers.ServerRow.{ServerRow}
use Rattle.state_rows.specs.declared.servers.SessionRow.{SessionRow}
use Rattle.state_rows.specs.ServerRows.{link_of, holds}
use Rattle.state_rows.specs.ServerChanges.{new_session, detached, after_add_session, after_detach, after_sweep}
use Rattle.server_table.specs.Kept.{AreKept, object, link_at, rows_of, sessions_of}
use Rattle.server_table.proofs.Numbers.{holds_last, holds_before, holds_gone, holds_rest, listed_at, replicated, stands_at}
use Rattle.server_table.proofs.Sessions.{holds_at_server, session_added, session_left}

-- a session's link after a row was written
link_same : (sessions : List (Option SessionRow)) (s : ℕ) (row : Option SessionRow) → s < length sessions → link_at (set sessions s row) s ≡ link_of row
link_same sessions s row inside = ap link_of (get_or-set_same sessions s row None inside)

link_other : (sessions : List (Option SessionRow)) (s x : ℕ) (row : Option SessionRow) → x ≢ s → link_at (set sessions s row) x ≡ link_at sessions x
link_other sessions s x row other = ap link_of (get_or-set_other sessions s x row None other)

-- all links stay where a row with the same link is written
pub link_stays : (sessions : List (Option SessionRow)) (s : ℕ) (row : Option SessionRow)
    → link_of row ≡ link_at sessions s → (x : ℕ) → link_at (set sessions s row) x ≡ link_at sessions x
link_stays sessions s row same x =
    elim (cases_eq x s) [
      | inl here ↦ elim (cases_lt s (length sessions)) [
        | inl inside ↦ rw here (link_same sessions s row inside ∙ same)
        | inr past ↦
            rw here (ap link_of (get_or_past (set sessions s row) s None (omega (arith, length-set sessions s row))
            ∙ sym (get_or_past sessions s None past)))
      ]
      | inr there ↦ link_other sessions s x row there
    ]

-- no test has both answers, and no link is there and isn't
both_answers : true ≡ false → ⊥
both_answers same = absurd (cc)

no_link : (link : Option ObjNo) (v : ℕ) → link ≡ None → link ≡ Some (object v) → ⊥
no_link link v none some = absurd (cc)

-- a session has one link
one_link : (link : Option ObjNo) (v w : ℕ) → link ≡ Some (object v) → link ≡ Some (object w) → v ≡ w
one_link link v w one other =
    let same : object v ≡ object w = cc in
    ap (λ (o : ObjNo). o.0) same

-- nothing is linked at first
pub kept_new : (n : ℕ) → n < 2 ^ 16 → AreKept (replicate n None) (replicate n None) (empty_lists n n)
kept_new n small = record {
  small = small;
  lists = length-replicate {A = List ℕ} n [];
  servers_sized = length-replicate {A = Option ServerRow} n None;
  sessions_sized = length-replicate {A = Option SessionRow} n None;
  linked = λ v s held. let no : false ≡ true = rw (replicated {X = List ℕ} n v []) at held in absurd (cc);
  listed = λ v s is. absurd (no_link (link_at (replicate n None) s) v (ap link_of (replicated {X = Option SessionRow} n s None)) is);
}

module _ (servers : List (Option ServerRow)) (sessions : List (Option SessionRow)) (links : Linked) (kept : AreKept servers sessions links) where
  -- rows may change that have the same links
  pub kept_rows : (servers' : List (Option ServerRow)) (sessions' : List (Option SessionRow))
      → length servers' ≡ length servers → length sessions' ≡ length sessions
      → ((x : ℕ) → link_at sessions' x ≡ link_at sessions x) → AreKept servers' sessions' links
  kept_rows servers' sessions' as_many as_many_sessions same = record {
    small = kept.small;
    lists = kept.lists;
    servers_sized = as_many ∙ kept.servers_sized;
    sessions_sized = as_many_sessions ∙ kept.sessions_sized;
    linked = λ v s held. same s ∙ kept.linked v s held;
    listed = λ v s is. kept.listed v s (sym (same s) ∙ is);
  }

  -- a session that is linked to nothing stands nowhere
  pub unlinked_free : (s : ℕ) → link_at sessions s ≡ None → list_any (nodes.holds s) links.lists ≡ true → ⊥
  unlinked_free s none held =
      let at = listed_at links.lists s held in
      no_link (link_at sessions s) at.0 none (kept.linked at.0 s at.1)

  -- where a linked session stands
  pub linked_stands : (s v : ℕ) → link_at sessions s ≡ Some (object v) → (k : ℕ) × (slice_get (list_at links v) k ≡ Some s)
  linked_stands s v is = stands_at (list_at links v) s (kept.listed v s is)

  pub linked_below : (s v : ℕ) → link_at sessions s ≡ Some (object v) → v < length links.lists
  linked_below s v is = let at = linked_stands s v is in listed_from links.lists v at.0 s at.1

  -- a session comes to a server's list
  pub kept_added : (servers' : List (Option ServerRow)) (s v : ℕ) (row : Option SessionRow)
      → length servers' ≡ length servers → s < length sessions → v < length links.lists → link_at sessions s ≡ None
      → link_of row ≡ Some (object v) → AreKept servers' (set sessions s row) (pushed_back links v s)
  kept_added servers' s v row as_many inside listed none link = record {
    small = kept.small;
    lists = rw length-set kept.lists;
    servers_sized = as_many ∙ kept.servers_sized;
    sessions_sized = rw length-set kept.sessions_sized;
    linked = λ w x. added_linked w x;
    listed = λ w x. added_listed w x;
  }
    where
      here : list_at (pushed_back links v s) v ≡ list_at links v ++ s ∷ []
      here = get_or-set_same links.lists v (list_at links v ++ s ∷ []) [] listed

      there : (w : ℕ) → w ≢ v → list_at (pushed_back links v s) w ≡ list_at links w
      there w other = get_or-set_other links.lists v w (list_at links v ++ s ∷ []) [] other

      added_linked : (w x : ℕ) → nodes.holds x (list_at (pushed_back links v s) w) ≡ true → link_at (set sessions s row) x ≡ Some (object w)
      added_linked w x held =
          elim (cases_eq w v) [
            | inl same ↦
                let at : nodes.holds x (list_at links v ++ s ∷ []) ≡ true = rw (same, here) at held in
                elim (cases_eq x s) [
                  | inl new ↦ rw (new, same) (link_same sessions s row inside ∙ link)
                  | inr old ↦ rw same (link_other sessions s x row old ∙ kept.linked v x (sym (holds_before x s old (list_at links v)) ∙ at))
                ]
            | inr other ↦
                let at : nodes.holds x (list_at links w) ≡ true = rw (there w other) at held in
                elim (cases_eq x s) [
                  | inl new ↦ absurd (no_link (link_at sessions s) w none (rw new at (kept.linked w x at)))
                  | inr old ↦ link_other sessions s x row old ∙ kept.linked w x at
                ]
          ]

      added_listed : (w x : ℕ) → link_at (set sessions s row) x ≡ Some (object w) → nodes.holds x (list_at (pushed_back links v s) w) ≡ true
      added_listed w x is =
          elim (cases_eq x s) [
            | inl new ↦
                let same = one_link (link_of row) v w link (sym (link_same sessions s row inside) ∙ rw new at is) in
                rw (new, ← same, here) (holds_last s (list_at links v))
            | inr old ↦
                let held = kept.listed w x (sym (link_other sessions s x row old) ∙ is) in
                elim (cases_eq w v) [
                  | inl same ↦ rw (same, here) (holds_before x s old (list_at links v) ∙ rw same at held)
                  | inr other ↦ rw (there w other) held
                ]
          ]

  -- a session leaves its server's list
  pub kept_left : (s v : ℕ) (row : Option SessionRow) → s < length sessions → link_at sessions s ≡ Some (object v)
      → link_of row ≡ None
      → AreKept servers (set sessions s row) (with_list links v (nodes.without s (list_at links v)))
  kept_left s v row inside was link = record {
    small = kept.small;
    lists = rw length-set kept.lists;
    servers_sized = kept.servers_sized;
    sessions_sized = rw length-set kept.sessions_sized;
    linked = λ w x. left_linked w x;
    listed = λ w x. left_listed w x;
  }
    where
      here : list_at (with_list links v (nodes.without s (list_at links v))) v ≡ nodes.without s (list_at links v)
      here = get_or-set_same links.lists v (nodes.without s (list_at links v)) [] (linked_below s v was)

      there : (w : ℕ) → w ≢ v → list_at (with_list links v (nodes.without s (list_at links v))) w ≡ list_at links w
      there w other = get_or-set_other links.lists v w (nodes.without s (list_at links v)) [] other

      left_linked : (w x : ℕ) → nodes.holds x (list_at (with_list links v (nodes.without s (list_at links v))) w) ≡ true
          → link_at (set sessions s row) x ≡ Some (object w)
      left_linked w x held =
          elim (cases_eq w v) [
            | inl same ↦
                let stands : nodes.holds x (nodes.without s (list_at links v)) ≡ true = rw (same, here) at held in
                elim (cases_eq x s) [
                  | inl gone ↦ absurd (both_answers (sym (rw gone at stands) ∙ holds_gone s (list_at links v)))
                  | inr stays ↦ rw same (link_other sessions s x row stays ∙ kept.linked v x (sym (holds_rest x s stays (list_at links v)) ∙ stands))
                ]
            | inr other ↦
                let stands : nodes.holds x (list_at links w) ≡ true = rw (there w other) at held in
                elim (cases_eq x s) [
                  | inl gone ↦ absurd (other (one_link (link_at sessions s) w v (rw gone at (kept.linked w x stands)) was))
                  | inr stays ↦ link_other sessions s x row stays ∙ kept.linked w x stands
                ]
          ]

      left_listed : (w x : ℕ) → link_at (set sessions s row) x ≡ Some (object w)
          → nodes.holds x (list_at (with_list links v (nodes.without s (list_at links v))) w) ≡ true
      left_listed w x is =
          elim (cases_eq x s) [
            | inl gone ↦ absurd (no_link (link_of row) w link (sym (link_same sessions s row inside) ∙ rw gone at is))
            | inr stays ↦
                let held = kept.listed w x (sym (link_other sessions s x row stays) ∙ is) in
                elim (cases_eq w v) [
                  | inl same ↦ rw (same, here) (holds_rest x s stays (list_at links v) ∙ rw same at held)
                  | inr other ↦ rw (there w other) held
                ]
          ]

  -- a session stands among a server's exactly where its row has that server
  pub server_tells : (s server : ObjNo) (r : Option ObjNo) → r ≡ link_at sessions s.0
      → (holds s (get_or (sessions_of links.lists) server.0 []) ≡ true → r ≡ Some server)
      × (r ≡ Some server → holds s (get_or (sessions_of links.lists) server.0 []) ≡ true)
  server_tells s server r is = (
    λ held. is ∙ kept.linked server.0 s.0 (sym (holds_at_server links.lists server.0 s) ∙ held),
    λ some. holds_at_server links.lists server.0 s ∙ kept.listed server.0 s.0 (sym is ∙ some),
  )

  -- the server is one of those that the table is made for
  pub server_known : (s : ObjNo) (r : Option ObjNo) → r ≡ link_at sessions s.0 → IfSome r (λ server. server.0 < length servers)
  server_known s None is = tt
  server_known s (Some server) is = omega (arith, linked_below s.0 server.0 (sym is), kept.lists, kept.servers_sized)

-- a linked session has a row, and a server
pub linked_session : (row : Option SessionRow) → is_some (link_of row) ≡ true → is_some row ≡ true
linked_session None linked = absurd (cc)
linked_session (Some row) linked = refl

pub linked_server : (link : Option ObjNo) → is_some link ≡ true → (server : ObjNo) × (link ≡ Some server)
linked_server None linked = absurd (cc)
linked_server (Some server) linked = (server, refl)

-- what the table stands for once a session came
pub rows_added : (servers : List (Option ServerRow)) (sessions : List (Option SessionRow)) (links : Linked)
    (s server : ObjNo) (slots : Slots) (client : ObjNo)
    → rows_of (set servers s.0 None) (set sessions s.0 (Some (new_session server slots client)))
    (pushed_back links server.0 s.0) ≡ after_add_session (rows_of servers sessions links) s server slots client
rows_added servers sessions links s server slots client = rw (session_added links.lists server.0 s) refl

-- and once one was detached
pub rows_left : (servers : List (Option ServerRow)) (sessions : List (Option SessionRow)) (links : Linked)
    (s server : ObjNo) (row : SessionRow)
    → get_or sessions s.0 None ≡ Some row → row.server ≡ Some server
    → rows_of servers (set sessions s.0 (Some (detached row)))
    (with_list links server.0 (nodes.without s.0 (list_at links server.0)))
    ≡ after_detach (rows_of servers sessions links) s
rows_left servers sessions links s server row at link = rw (at, link, session_left links.lists server.0 s) refl

-- and once an object is swept to which none is linked
list_empty : {A : Type 0} (lists : List (List A)) (o : ℕ) → get_or lists o [] ≡ [] → set lists o [] ≡ lists
list_empty [] zero none = refl
list_empty [] (suc o) none = refl
list_empty (list ∷ lists) zero none = ap (λ l. l ∷ lists) (sym none)
list_empty (list ∷ lists) (suc o) none = ap (λ l. list ∷ l) (list_empty lists o none)

pub rows_swept : (servers : List (Option ServerRow)) (sessions : List (Option SessionRow)) (links : Linked) (o : ObjNo)
    → get_or (sessions_of links.lists) o.0 [] ≡ []
    → rows_of (set servers o.0 None) (set sessions o.0 None) links ≡ after_sweep (rows_of servers sessions links) o
rows_swept servers sessions links o none = rw (list_empty (sessions_of links.lists) o.0 none) refl
