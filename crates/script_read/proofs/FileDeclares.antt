-- What the lines of a file declare, with one more line.
use Rattle.std.proofs.Common.{◌≡◌, ℕ, ◌<◌, Bool, true, false, List, [], ◌∷◌, ◌++◌, refl, sym, ap, ◌∙◌}
use Rattle.std.proofs.Math.Bool.{or_assoc, and-false, and_assoc, and-or_distrib_right, or-false}
use Rattle.std.proofs.lemmas.List.Folds.{list_any-append}
use Rattle.std.specs.BTreeSet.{contains}
use Rattle.std.specs.List.{list_any}
use Rattle.std.specs.Ordering.{nat_cmp}
use Rattle.std.specs.Prelude.{◌||◌, ◌&&◌, not, codes, decimal}
use Rattle.std.specs.Str.{bytes_eq}
use Rattle.script_read.specs.FileNames.{Knows, has_name, is_schedule}
use Rattle.script_read.specs.declared.declarations.Declarations.{Declarations}
use Rattle.script_words.proofs.Steps.{same_bytes}
use Rattle.script_types.specs.Names.{Declared, declares, is_declared, is_thread_declared, is_irq_declared}

-- tests, in another order
swap_two : (a b c d : Bool) → ((a || b) || (c || d)) ≡ ((a || c) || (b || d))
swap_two false true true d = refl
swap_two _ _ _ _ = refl

-- a name that one more line declares
declared_more : (file : List Declared) (sort name first second : List ℕ)
    → is_declared (file ++ (first, second) ∷ []) sort name
    ≡ (is_declared file sort name || (bytes_eq first sort && bytes_eq second name))
declared_more file sort name first second =
    list_any-append (declares sort name) file ((first, second) ∷ [])
    ∙ ap (λ (b : Bool). is_declared file sort name || b) (or-false (bytes_eq first sort && bytes_eq second name))

thread_more : (file : List Declared) (name first second : List ℕ)
    → is_thread_declared (file ++ (first, second) ∷ []) name
    ≡ (is_thread_declared file name || ((bytes_eq first (codes "thread") || bytes_eq first
    (codes "kthread") || bytes_eq first (codes "dfcq")) && bytes_eq second name))
thread_more file name first second =
    let A = is_declared file (codes "thread") name in
    let B = is_declared file (codes "kthread") name in
    let C = is_declared file (codes "dfcq") name in
    let s = bytes_eq first (codes "thread") in
    let t = bytes_eq first (codes "kthread") in
    let u = bytes_eq first (codes "dfcq") in
    let e = bytes_eq second name in
    let one = declared_more file (codes "thread") name first second in
    let two = declared_more file (codes "kthread") name first second in
    let three = declared_more file (codes "dfcq") name first second in
    rw (one, two, three) (ap (λ (b : Bool). b || (C || (u && e))) (swap_two A (s && e) B (t && e))
    ∙ swap_two (A || B) ((s && e) || (t && e)) C (u && e)
    ∙ ap (λ (b : Bool). (A || B || C) || b) (sym (and-or_distrib_right (s || t) u e ∙ ap (λ (b : Bool). b || (u && e)) (and-or_distrib_right s t e))))

-- a line that declares an interrupt isn't `schedule`
irq_alone : (first : List ℕ) (b test : Bool) → bytes_eq first (codes "irq") ≡ test
    → (not (bytes_eq first (codes "schedule")) && ((test && b) || false)) ≡ (test && b)
irq_alone first b true h = let same = same_bytes first (codes "irq") h in rw same (or-false b)
irq_alone first b false h = and-false (not (bytes_eq first (codes "schedule")))

-- the tests of the first line, with what is told of the lines behind it
irq_step : (schedule here later before more : Bool)
    → (not schedule && (here || (later || (not before && more))))
    ≡ ((not schedule && (here || later)) || (not (schedule || before) && more))
irq_step true here later before more = refl
irq_step false here later before more = sym (or_assoc here later (not before && more))

-- an interrupt that one more line declares
irq_more : (file : List Declared) (number first second : List ℕ)
    → is_irq_declared (file ++ (first, second) ∷ []) number
    ≡ (is_irq_declared file number || ((not (list_any is_schedule file) && bytes_eq first (codes "irq")) && bytes_eq
    second number))
irq_more [] number first second = irq_alone first (bytes_eq second number) (bytes_eq first (codes "irq")) refl
irq_more (two ∷ file) number first second =
    let tests = irq_more file number first second in
    let same = and_assoc (not (list_any is_schedule file)) (bytes_eq first (codes "irq")) (bytes_eq second number) in
    let same_here = and_assoc (not (list_any is_schedule (two ∷ file))) (bytes_eq first (codes "irq")) (bytes_eq second number) in
    rw (tests, same, same_here) (irq_step (is_schedule two) (declares (codes "irq") number two)
    (is_irq_declared file number) (list_any is_schedule file) (bytes_eq first (codes "irq") && bytes_eq second number))

schedule_more : (file : List Declared) (first second : List ℕ)
    → list_any is_schedule (file ++ (first, second) ∷ [])
    ≡ (list_any is_schedule file || bytes_eq first (codes "schedule"))
schedule_more file first second =
    list_any-append is_schedule file ((first, second) ∷ [])
    ∙ ap (λ (b : Bool). list_any is_schedule file || b) (or-false (bytes_eq first (codes "schedule")))

-- a set of one sort
sort_more : (old new known : Bool) (test sort : Bool) (e : Bool) → test ≡ sort → new ≡ (old || (test && e)) → old ≡ known → new ≡ (known || (sort && e))
sort_more old new known test sort e same added knows =
    added ∙ ap (λ (b : Bool). b || (test && e)) knows ∙ ap (λ (b : Bool). known || (b && e)) same

-- what is known with one more line
pub knows_more : (old new : Declarations) (first second : List ℕ) (t q d i r : Bool)
    → t ≡ (bytes_eq first (codes "thread") || bytes_eq first (codes "kthread") || bytes_eq first (codes "dfcq"))
    → ((name : List ℕ) → has_name new.threads name ≡ (has_name old.threads name || (t && bytes_eq second name)))
    → q ≡ bytes_eq first (codes "dfcq")
    → ((name : List ℕ) → has_name new.queues name ≡ (has_name old.queues name || (q && bytes_eq second name)))
    → d ≡ bytes_eq first (codes "dfc")
    → ((name : List ℕ) → has_name new.dfcs name ≡ (has_name old.dfcs name || (d && bytes_eq second name)))
    → i ≡ bytes_eq first (codes "idfc")
    → ((name : List ℕ) → has_name new.idfcs name ≡ (has_name old.idfcs name || (i && bytes_eq second name)))
    → r ≡ (not old.scheduled && bytes_eq first (codes "irq"))
    → ((k : ℕ) → k < 256 → contains nat_cmp new.irqs k ≡ (contains nat_cmp old.irqs k || (r && bytes_eq second (decimal k))))
    → new.scheduled ≡ (old.scheduled || bytes_eq first (codes "schedule"))
    → (file : List Declared) → Knows old file → Knows new (file ++ (first, second) ∷ [])
knows_more old new first second t q d i r is_t threads is_q queues is_d dfcs is_i idfcs is_r irqs scheduled file knows =
    record {
      threads = λ name. sort_more _ _ _ _ _ _ is_t (threads name) (knows.threads name) ∙ sym (thread_more file name first second);
      queues = λ name. sort_more _ _ _ _ _ _ is_q (queues name) (knows.queues name) ∙ sym (declared_more file (codes "dfcq") name first second);
      dfcs = λ name. sort_more _ _ _ _ _ _ is_d (dfcs name) (knows.dfcs name) ∙ sym (declared_more file (codes "dfc") name first second);
      idfcs = λ name. sort_more _ _ _ _ _ _ is_i (idfcs name) (knows.idfcs name) ∙ sym (declared_more file (codes "idfc") name first second);
      irqs =
          λ k small. sort_more _ _ _ _ _ _ (is_r ∙ ap (λ (b : Bool). not b && bytes_eq first (codes "irq")) knows.scheduled)
          (irqs k small) (knows.irqs k small)
          ∙ sym (irq_more file (decimal k) first second);
      scheduled = scheduled ∙ ap (λ (b : Bool). b || bytes_eq first (codes "schedule")) knows.scheduled ∙ sym (schedule_more file first second);
    }
