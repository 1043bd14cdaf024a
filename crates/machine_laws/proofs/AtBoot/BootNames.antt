-- What stands at boot: processes and threads that are alive, each with a new name among its kind.
use Rattle.std.proofs.Common.{◌≡◌, ◌⊎◌, inl, inr, ℕ, suc, zero, ◌+◌, ◌<◌, ◌≤◌, List, [], ◌∷◌, ◌++◌, length, take, arith, refl, sym, subst, ap, ◌∙◌, Option, Some, None, Bool, true, false}
use Rattle.std.specs.Prelude.{if◌then◌else◌, ◌==◌, codes, slice_get}
use Rattle.std.specs.List.{AllByRecursion, list_any}
use Rattle.std.specs.Str.{bytes_eq}
use Rattle.std.proofs.lemmas.Bool.{eq-eqb, eqb-true, ne_eqb, and_left, and_right, or_parts, or_from}
use Rattle.std.proofs.lemmas.List.{append_assoc}
use Rattle.sym_base.specs.KindNumber.{kind_number}
use Rattle.sym_base.specs.declared.kind.Kind.TheVariants.{Process, Thread}
use Rattle.script_types.specs.declared.declaration.ProcessDecl.{ProcessDecl}
use Rattle.script_types.specs.declared.declaration.QueueDecl.{QueueDecl}
use Rattle.script_types.specs.declared.declaration.ThreadDecl.{ThreadDecl}
use Rattle.script_types.specs.declared.script.Script.{Script}
use Rattle.script_types.specs.Source.{IsWellFormed}
use Rattle.script_types.proofs.NamesApart.{AreNamesApart, IsPut, put_behind, none_put, apart_put}
use Rattle.script_types.proofs.NewNames.{process_names, queue_names, thread_names, formed_names_new}
use Rattle.machine.specs.declared.boot.Born.{Born}
use Rattle.state_rows.specs.declared.object.ObjectRow.{ObjectRow}
use Rattle.machine_laws.proofs.AtBoot.BootObjects.{length-from}
use Rattle.machine_laws.proofs.AtBoot.Declared.{all_threads, all_processes}
use Rattle.machine.specs.Boot.{boot, boot_of, objects_from, born, born_kernel, born_queues, born_thread, born_threads, born_processes, is_of}
use Rattle.state_rows.specs.ObjectRows.{has_name}
use Rattle.move_laws.proofs.Lists.Each.{all-both}

-- an object at boot is alive, and is a process or a thread
abbrev IsPlain : Born → Type 0
IsPlain b = (b.object.dead ≡ false) × ((b.object.kind ≡ Process) ⊎ (b.object.kind ≡ Thread))

plain_thread : (p k : ℕ) (d : ThreadDecl) → IsPlain (born_thread p k d)
plain_thread p k d = (refl, inr refl)

plain_queues : (q : ℕ) (ds : List QueueDecl) → AllByRecursion IsPlain (born_queues q ds)
plain_queues q [] = tt
plain_queues q (d ∷ ds) = ((refl, inr refl), plain_queues (q + 1) ds)

plain_born : (script : Script) → AllByRecursion IsPlain (born script)
plain_born script =
    let queues = born_queues 1 script.queues in
    let own = born_threads None 0 0 script.threads in
    let first = length (born_kernel script) in
    all-both IsPlain (born_kernel script) (born_processes script.threads 0 first script.processes) (
      (refl, inl refl),
      (
        (refl, inr refl),
        all-both IsPlain queues own (plain_queues 1 script.queues)
            (all_threads IsPlain plain_thread None 0 0 script.threads),
      ),
    )
    (all_processes IsPlain plain_thread (λ name. (refl, inl refl)) script.threads 0 first script.processes)

-- what holds of a row at boot
abbrev IsPlainRow : ObjectRow → Type 0
IsPlainRow row = (row.dead ≡ false) × ((row.kind ≡ Process) ⊎ (row.kind ≡ Thread))

row_at : (n : ℕ) (bs : List Born) (k : ℕ) → AllByRecursion IsPlain bs → k < length bs
    → (row : ObjectRow) × (slice_get (objects_from n bs) k ≡ Some (Some row)) × (row.dead ≡ false)
    × ((row.kind ≡ Process) ⊎ (row.kind ≡ Thread))
row_at n [] k all inside = absurd (omega arith)
row_at n (b ∷ bs) zero all inside = (record b.object { place = n }, refl, all.0.0, all.0.1)
row_at n (b ∷ bs) (suc k) all inside = row_at (n + 1) bs k all.1 (omega arith)

plain_at : (n : ℕ) (bs : List Born) (k : ℕ) (row : ObjectRow) → AllByRecursion IsPlain bs
    → slice_get (objects_from n bs) k ≡ Some (Some row) → IsPlainRow row
plain_at n [] k row all at = absurd (cc)
plain_at n (b ∷ bs) zero row all at = let e : record b.object { place = n } ≡ row = cc in subst IsPlainRow e all.0
plain_at n (b ∷ bs) (suc k) row all at = plain_at (n + 1) bs k row all.1 at

-- each row at boot is of a process or a thread that is alive
pub boot_rows : (script : Script) (k : ℕ) → k < length (boot script).references.objects
    → (row : ObjectRow) × (slice_get (boot script).references.objects k ≡ Some (Some row)) × (row.dead ≡ false)
    × ((row.kind ≡ Process) ⊎ (row.kind ≡ Thread))
unfolding boot_of
boot_rows script k inside =
    let long = length-from 0 (born script) in
    row_at 0 (born script) k (plain_born script) (omega arith)

-- and each object that is read there is one
pub boot_kinds : (script : Script) (k : ℕ) (row : ObjectRow)
    → slice_get (boot script).references.objects k ≡ Some (Some row)
    → (row.dead ≡ false) × ((row.kind ≡ Process) ⊎ (row.kind ≡ Thread))
unfolding boot_of
boot_kinds script k row at = plain_at 0 (born script) k row (plain_born script) at

-- no session stands at boot
pub boot_no_session : (script : Script) (k : ℕ) (row : ObjectRow)
    → slice_get (boot script).references.objects k ≡ Some (Some row) → (kind_number row.kind == 5) ≡ false
boot_no_session script k row at = elim (boot_kinds script k row at).1 as (λ _. (kind_number row.kind == 5) ≡ false) [
  | inl process ↦ ap (λ kind. kind_number kind == 5) process
  | inr thread ↦ ap (λ kind. kind_number kind == 5) thread
]

-- the names of those of a kind, by the kind's number
abbrev names_of : ℕ → List Born → List (List ℕ)
names_of c [] = []
names_of c (b ∷ bs) = if kind_number b.object.kind == c then b.object.name ∷ names_of c bs else names_of c bs

-- a name that none of a kind has isn't the name of one of the kind
other_here : (c : ℕ) (name : List ℕ) (names : List (List ℕ)) (row : ObjectRow) (own : Bool)
    → (kind_number row.kind == c) ≡ own → kind_number row.kind ≡ c
    → list_any (bytes_eq name) (if own then row.name ∷ names else names) ≡ false → bytes_eq name row.name ≡ false
other_here c name names row true e is none = (or_parts (bytes_eq name row.name) (list_any (bytes_eq name) names) none).0
other_here c name names row false e is none = let same = eq-eqb (kind_number row.kind) c is in absurd (cc)

none_later : (name first : List ℕ) (names : List (List ℕ)) (own : Bool)
    → list_any (bytes_eq name) (if own then first ∷ names else names) ≡ false → list_any (bytes_eq name) names ≡ false
none_later name first names true none = (or_parts (bytes_eq name first) (list_any (bytes_eq name) names) none).1
none_later name first names false none = none

other_name : (c n : ℕ) (bs : List Born) (k : ℕ) (name : List ℕ) (row : ObjectRow) → kind_number row.kind ≡ c
    → list_any (bytes_eq name) (names_of c bs) ≡ false → slice_get (objects_from n bs) k ≡ Some (Some row)
    → bytes_eq name row.name ≡ false
other_name c n [] k name row is none at = absurd (cc)
other_name c n (b ∷ bs) zero name row is none at =
    let e : record b.object { place = n } ≡ row = cc in
    subst (λ (r : ObjectRow). kind_number r.kind ≡ c → bytes_eq name r.name ≡ false) e
    (λ own. other_here c name (names_of c bs) b.object (kind_number b.object.kind == c) refl own none) is
other_name c n (b ∷ bs) (suc k) name row is none at =
    other_name c (n + 1) bs k name row is (none_later name b.object.name (names_of c bs) (kind_number b.object.kind == c) none)
    at

-- the first of a list, beside one of a kind that stands behind it
new_behind : (c n : ℕ) (bs : List Born) (k : ℕ) (first row : ObjectRow) (own : Bool) → (kind_number first.kind == c) ≡ own
    → kind_number row.kind ≡ c → AreNamesApart (if own then first.name ∷ names_of c bs else names_of c bs)
    → slice_get (objects_from n bs) k ≡ Some (Some row)
    → (has_name row.kind row.name (Some first) ≡ false) × AreNamesApart (names_of c bs)
new_behind c n bs k first row true e is apart at = (
  and_right (kind_number first.kind == kind_number row.kind) (bytes_eq first.name row.name)
      (other_name c n bs k first.name row is apart.0 at),
  apart.1,
)
new_behind c n bs k first row false e is apart at = (
  and_left (kind_number first.kind == kind_number row.kind) (bytes_eq first.name row.name)
      (ap (λ n. kind_number first.kind == n) is ∙ e),
  apart,
)

-- where the names of a kind are apart, no object before one of the kind has its kind and its name
new_at : (c n : ℕ) (bs : List Born) (k : ℕ) (row : ObjectRow) → kind_number row.kind ≡ c → AreNamesApart (names_of c bs)
    → slice_get (objects_from n bs) k ≡ Some (Some row) → list_any (has_name row.kind row.name) (take k (objects_from n bs)) ≡ false
new_at c n [] k row is apart at = absurd (cc)
new_at c n (b ∷ bs) zero row is apart at = refl
new_at c n (b ∷ bs) (suc k) row is apart at =
    let first = new_behind c (n + 1) bs k b.object row (kind_number b.object.kind == c) refl is apart at in
    or_from (has_name row.kind row.name (Some b.object)) (list_any (has_name row.kind row.name) (take k (objects_from (n + 1) bs)))
    first.0 (new_at c (n + 1) bs k row is first.1 at)

names_step : (own : Bool) (name : List ℕ) (xs ys zs : List (List ℕ)) → zs ≡ xs ++ ys → (if own then name ∷ zs else zs) ≡ (if own then name ∷ xs else xs) ++ ys
names_step true name xs ys zs e = ap (λ (l : List (List ℕ)). name ∷ l) e
names_step false name xs ys zs e = e

names_of-append : (c : ℕ) (xs ys : List Born) → names_of c (xs ++ ys) ≡ names_of c xs ++ names_of c ys
names_of-append c [] ys = refl
names_of-append c (x ∷ xs) ys =
    names_step (kind_number x.object.kind == c) x.object.name (names_of c xs) (names_of c ys) (names_of c (xs ++ ys))
    (names_of-append c xs ys)

-- the names of processes are those that the script declares
no_process_step : (p k : ℕ) (d : ThreadDecl) (rest : List Born) (own : Bool) → names_of 0 rest ≡ []
    → names_of 0 (if own then born_thread p k d ∷ rest else rest) ≡ []
no_process_step p k d rest true e = e
no_process_step p k d rest false e = e

no_process : (j : Option ℕ) (p k : ℕ) (ds : List ThreadDecl) → names_of 0 (born_threads j p k ds) ≡ []
no_process j p k [] = refl
no_process j p k (d ∷ ds) = no_process_step p k d (born_threads j p (k + 1) ds) (is_of j d.process) (no_process j p (k + 1) ds)

no_process_queue : (q : ℕ) (ds : List QueueDecl) → names_of 0 (born_queues q ds) ≡ []
no_process_queue q [] = refl
no_process_queue q (d ∷ ds) = no_process_queue (q + 1) ds

born_processes-names : (threads : List ThreadDecl) (j p : ℕ) (ds : List ProcessDecl) → names_of 0 (born_processes threads j p ds) ≡ process_names ds
born_processes-names threads j p [] = refl
born_processes-names threads j p (d ∷ ds) =
    let own = born_threads (Some j) p 0 threads in
    let rest = born_processes threads (j + 1) (p + 1 + length own) ds in
    ap (λ (l : List (List ℕ)). d.name ∷ l)
    (names_of-append 0 own rest ∙ (ap (λ (l : List (List ℕ)). l ++ names_of 0 rest) (no_process (Some j) p 0 threads)
    ∙ born_processes-names threads (j + 1) (p + 1 + length own) ds))

-- the names of the declared threads of the j-th process, or of the kernel threads
abbrev own_names : Option ℕ → List ThreadDecl → List (List ℕ)
own_names j [] = []
own_names j (d ∷ ds) = if is_of j d.process then d.name ∷ own_names j ds else own_names j ds

born_names_step : (p k : ℕ) (d : ThreadDecl) (rest : List Born) (names : List (List ℕ)) (own : Bool)
    → names_of 1 rest ≡ names
    → names_of 1 (if own then born_thread p k d ∷ rest else rest) ≡ (if own then d.name ∷ names else names)
born_names_step p k d rest names true e = ap (λ (l : List (List ℕ)). d.name ∷ l) e
born_names_step p k d rest names false e = e

born_names : (j : Option ℕ) (p k : ℕ) (ds : List ThreadDecl) → names_of 1 (born_threads j p k ds) ≡ own_names j ds
born_names j p k [] = refl
born_names j p k (d ∷ ds) = born_names_step p k d (born_threads j p (k + 1) ds) (own_names j ds) (is_of j d.process) (born_names j p (k + 1) ds)

born_queue-names : (q : ℕ) (ds : List QueueDecl) → names_of 1 (born_queues q ds) ≡ queue_names ds
born_queue-names q [] = refl
born_queue-names q (d ∷ ds) = ap (λ (l : List (List ℕ)). d.name ∷ l) (born_queue-names (q + 1) ds)

-- the names of the threads of the processes from the j-th on, one process after another
abbrev names_from : ℕ → List ProcessDecl → List ThreadDecl → List (List ℕ)
names_from j [] ts = []
names_from j (d ∷ ds) ts = own_names (Some j) ts ++ names_from (j + 1) ds ts

born_threads-names : (threads : List ThreadDecl) (j p : ℕ) (ds : List ProcessDecl) → names_of 1 (born_processes threads j p ds) ≡ names_from j ds threads
born_threads-names threads j p [] = refl
born_threads-names threads j p (d ∷ ds) =
    let own = born_threads (Some j) p 0 threads in
    let rest = born_processes threads (j + 1) (p + 1 + length own) ds in
    names_of-append 1 own rest
    ∙ (ap (λ (l : List (List ℕ)). l ++ names_of 1 rest) (born_names (Some j) p 0 threads)
    ∙ ap (λ (l : List (List ℕ)). own_names (Some j) threads ++ l)
    (born_threads-names threads (j + 1) (p + 1 + length own) ds))

-- the names of all declared threads, those of the kernel threads first
abbrev grouped : List ProcessDecl → List ThreadDecl → List (List ℕ)
grouped ds ts = own_names None ts ++ names_from 0 ds ts

-- a thread adds its name to those of its own process, and to no others
from-other : (j : ℕ) (ds : List ProcessDecl) (t : ThreadDecl) (ts : List ThreadDecl)
    → ((i : ℕ) → j ≤ i → is_of (Some i) t.process ≡ false) → names_from j ds (t ∷ ts) ≡ names_from j ds ts
from-other j [] t ts other = refl
from-other j (d ∷ ds) t ts other =
    ap (λ (own : Bool). (if own then t.name ∷ own_names (Some j) ts else own_names (Some j) ts) ++ names_from (j + 1) ds (t ∷ ts)) (other j (omega arith))
    ∙ ap (λ (l : List (List ℕ)). own_names (Some j) ts ++ l) (from-other (j + 1) ds t ts (λ i le. other i (omega arith)))

of_no_later : (j i : ℕ) (process : Option ℕ) → is_of (Some j) process ≡ true → j < i → is_of (Some i) process ≡ false
of_no_later j i None own lt = refl
of_no_later j i (Some p) own lt = let same = eqb-true p j own in ne_eqb p i (λ e. absurd (omega arith))

of_no_process : (i : ℕ) (process : Option ℕ) → is_of None process ≡ true → is_of (Some i) process ≡ false
of_no_process i None own = refl
of_no_process i (Some p) own = absurd (cc)

put_first : (name : List ℕ) (names rest more : List (List ℕ)) (own : Bool) → (own ≡ true → more ≡ rest)
    → IsPut name rest more → IsPut name (names ++ rest) ((if own then name ∷ names else names) ++ more)
put_first name names rest more true same put = inr ([], names ++ rest, refl, ap (λ (l : List (List ℕ)). name ∷ (names ++ l)) (same refl))
put_first name names rest more false same put = put_behind name names rest more put

from-put : (j : ℕ) (ds : List ProcessDecl) (t : ThreadDecl) (ts : List ThreadDecl) → IsPut t.name (names_from j ds ts) (names_from j ds (t ∷ ts))
from-put j [] t ts = inl refl
from-put j (d ∷ ds) t ts = put_first t.name (own_names (Some j) ts) (names_from (j + 1) ds ts) (names_from (j + 1) ds (t ∷ ts)) (is_of (Some j) t.process)
    (λ own. from-other (j + 1) ds t ts (λ i le. of_no_later j i t.process own (omega arith))) (from-put (j + 1) ds t ts)

grouped-put : (ds : List ProcessDecl) (t : ThreadDecl) (ts : List ThreadDecl) → IsPut t.name (grouped ds ts) (grouped ds (t ∷ ts))
grouped-put ds t ts = put_first t.name (own_names None ts) (names_from 0 ds ts) (names_from 0 ds (t ∷ ts)) (is_of None t.process)
    (λ own. from-other 0 ds t ts (λ i le. of_no_process i t.process own)) (from-put 0 ds t ts)

from-none : (j : ℕ) (ds : List ProcessDecl) → names_from j ds [] ≡ []
from-none j [] = refl
from-none j (d ∷ ds) = from-none (j + 1) ds

-- threads whose names are apart have them apart in groups too
none_grouped : (x : List ℕ) (ds : List ProcessDecl) (ts : List ThreadDecl)
    → list_any (bytes_eq x) (thread_names ts) ≡ false → list_any (bytes_eq x) (grouped ds ts) ≡ false
none_grouped x ds [] none = ap (list_any (bytes_eq x)) (from-none 0 ds)
none_grouped x ds (t ∷ ts) none =
    let parts = or_parts (bytes_eq x t.name) (list_any (bytes_eq x) (thread_names ts)) none in
    none_put x t.name (grouped ds ts) (grouped ds (t ∷ ts)) (grouped-put ds t ts) parts.0 (none_grouped x ds ts parts.1)

apart_grouped : (ds : List ProcessDecl) (ts : List ThreadDecl) → AreNamesApart (thread_names ts) → AreNamesApart (grouped ds ts)
apart_grouped ds [] apart = subst AreNamesApart (sym (from-none 0 ds)) tt
apart_grouped ds (t ∷ ts) apart =
    apart_put t.name (grouped ds ts) (grouped ds (t ∷ ts)) (grouped-put ds t ts) (none_grouped t.name ds ts apart.0)
    (apart_grouped ds ts apart.1)

-- also behind other names
none_behind : (x : List ℕ) (front : List (List ℕ)) (ds : List ProcessDecl) (ts : List ThreadDecl)
    → list_any (bytes_eq x) (front ++ thread_names ts) ≡ false → list_any (bytes_eq x) (front ++ grouped ds ts) ≡ false
none_behind x [] ds ts none = none_grouped x ds ts none
none_behind x (y ∷ ys) ds ts none =
    let parts = or_parts (bytes_eq x y) (list_any (bytes_eq x) (ys ++ thread_names ts)) none in
    or_from (bytes_eq x y) (list_any (bytes_eq x) (ys ++ grouped ds ts)) parts.0 (none_behind x ys ds ts parts.1)

apart_behind : (front : List (List ℕ)) (ds : List ProcessDecl) (ts : List ThreadDecl)
    → AreNamesApart (front ++ thread_names ts) → AreNamesApart (front ++ grouped ds ts)
apart_behind [] ds ts apart = apart_grouped ds ts apart
apart_behind (x ∷ xs) ds ts apart = (none_behind x xs ds ts apart.0, apart_behind xs ds ts apart.1)

processes_apart : (script : Script) → IsWellFormed script → AreNamesApart (names_of 0 (born script))
processes_apart script valid =
    let queues = born_queues 1 script.queues in
    let own = born_threads None 0 0 script.threads in
    let first = length (born_kernel script) in
    let rest = born_processes script.threads 0 first script.processes in
    let kernel : names_of 0 (born_kernel script) ≡ codes "kernel" ∷ [] =
    ap (λ (l : List (List ℕ)). codes "kernel" ∷ l)
    (names_of-append 0 queues own ∙ rw (no_process_queue 1 script.queues, no_process None 0 0 script.threads) refl) in
    let names : names_of 0 (born script) ≡ codes "kernel" ∷ process_names script.processes =
    names_of-append 0 (born_kernel script) rest
    ∙ (ap (λ (l : List (List ℕ)). l ++ names_of 0 rest) kernel
    ∙ ap (λ (l : List (List ℕ)). codes "kernel" ∷ l) (born_processes-names script.threads 0 first script.processes)) in
    subst AreNamesApart (sym names) (formed_names_new script valid).processes

threads_apart : (script : Script) → IsWellFormed script → AreNamesApart (names_of 1 (born script))
threads_apart script valid =
    let own = born_threads None 0 0 script.threads in
    let first = length (born_kernel script) in
    let rest = born_processes script.threads 0 first script.processes in
    let front = codes "supervisor" ∷ queue_names script.queues in
    let kernel : names_of 1 (born_kernel script) ≡ front ++ own_names None script.threads =
    ap (λ (l : List (List ℕ)). codes "supervisor" ∷ l)
    (names_of-append 1 (born_queues 1 script.queues) own
    ∙ rw (born_queue-names 1 script.queues, born_names None 0 0 script.threads) refl) in
    let names : names_of 1 (born script) ≡ front ++ grouped script.processes script.threads =
    names_of-append 1 (born_kernel script) rest
    ∙ (ap (λ (l : List (List ℕ)). l ++ names_of 1 rest) kernel
    ∙ (ap (λ (l : List (List ℕ)). front ++ own_names None script.threads ++ l) (born_threads-names script.threads 0 first script.processes)
    ∙ append_assoc front (own_names None script.threads) (names_from 0 script.processes script.threads))) in
    subst AreNamesApart (sym names) (apart_behind front script.processes script.threads (formed_names_new script valid).threads)

-- no two objects at boot have one kind and one name
pub boot_names_new : (script : Script) → IsWellFormed script → (k : ℕ) (row : ObjectRow)
    → slice_get (boot script).references.objects k ≡ Some (Some row)
    → list_any (has_name row.kind row.name) (take k (boot script).references.objects) ≡ false
unfolding boot_of
boot_names_new script valid k row at =
    elim (boot_kinds script k row at).1 as (λ _. list_any (has_name row.kind row.name)
    (take k (boot script).references.objects) ≡ false) [
      | inl process ↦ new_at 0 0 (born script) k row (ap kind_number process) (processes_apart script valid) at
      | inr thread ↦ new_at 1 0 (born script) k row (ap kind_number thread) (threads_apart script valid) at
    ]
