-- The lines that declare what lines make are those lines, but for the settings of 0.
use Rattle.std.proofs.Common.{◌≡◌, ℕ, ◌<◌, ◌≤◌, Bool, true, false, List, [], ◌∷◌, ◌++◌, append_assoc, map, refl, ap, sym, ◌∙◌, Some, None, arith}
use Rattle.std.proofs.lemmas.Bool.Decides.{nat_tests}
use Rattle.std.proofs.lemmas.List.{append-nil, map-append}
use Rattle.std.specs.List.{AllByRecursion, flat_map}
use Rattle.std.specs.Prelude.{◌==◌, not}
use Rattle.script_print.specs.CanonicalText.{setting_lines, queue_line, dfc_line, idfc_line, irq_line, processes_lines, declared_lines}
use Rattle.script_print.proofs.Front.{so_far, IsFront, front_after, HasLast, last_after, in_last, owner_is}
use Rattle.script_print.proofs.ThreadGroups.{owned_lines, last_owner, thread_push, instr_push, process_push}
use Rattle.script_types.specs.Context.{may_stand, after_all, kind_of, rank_of, told, is_process, last_of}
use Rattle.script_types.specs.Names.{Declared}
use Rattle.script_types.specs.Stands.{Stands, AllStand}
use Rattle.script_types.specs.declared.script.Script.{Script}
use Rattle.script_types.specs.declared.declaration.ThreadDecl.{ThreadDecl}
use Rattle.script_types.specs.declared.source_line.LineKind.TheVariants as of
use Rattle.script_types.specs.declared.source_line.SourceLine.{SourceLine}
use Rattle.script_types.specs.declared.source_line.SourceLine.TheVariants as line
use Rattle.script_types.proofs.LimitLaws.{IsSound, sound-after, earlier, thread_needs}

-- What a line leaves among the lines that declare: itself, but for a setting of 0, and for the schedule's lines.
abbrev pub tells : SourceLine → List SourceLine
tells (line.Pool count) = setting_lines line.Pool count
tells (line.Fast count) = setting_lines line.Fast count
tells line.Schedule = []
tells (line.Go count) = []
tells (line.IrqSlot k) = []
tells line.Tick = []
tells line.End = []
tells l = l ∷ []

abbrev pub said : List SourceLine → List SourceLine
said lines = flat_map tells lines

-- groups of lines, one behind another
abbrev behind : List SourceLine → List (List SourceLine) → List SourceLine
behind front [] = front
behind front (group ∷ groups) = behind (front ++ group) groups

abbrev AreEmpty : List (List SourceLine) → Type 0
AreEmpty groups = AllByRecursion (λ (group : List SourceLine). group ≡ []) groups

-- what stands before empty groups stands at the end
before_empty : (front more : List SourceLine) (groups : List (List SourceLine)) → AreEmpty groups → behind (front ++ more) groups ≡ behind front groups ++ more
before_empty front more [] all = refl
before_empty front more (g ∷ gs) all =
    let long : front ++ more ++ g ≡ front ++ more = ap (λ (ls : List SourceLine). front ++ more ++ ls) all.0 ∙ append-nil (front ++ more) in
    let short : front ++ g ≡ front = ap (λ (ls : List SourceLine). front ++ ls) all.0 ∙ append-nil front in
    ap (λ (ls : List SourceLine). behind ls gs) long ∙ before_empty front more gs all.1 ∙ ap (λ (ls : List SourceLine). behind ls gs ++ more) (sym short)

-- one line more in a group
group_grows : (front group grown more : List SourceLine) (groups : List (List SourceLine)) → grown ≡ group ++ more
    → AreEmpty groups → behind (front ++ grown) groups ≡ behind (front ++ group) groups ++ more
group_grows front group grown more groups e all =
    ap (λ (ls : List SourceLine). behind (front ++ ls) groups) e
    ∙ ap (λ (ls : List SourceLine). behind ls groups) (sym (append_assoc front group more))
    ∙ before_empty (front ++ group) more groups all

-- a header stands nowhere but first
pub no_header : (awaits : Bool) (rank : ℕ) → may_stand (Some rank) awaits of.Header ≡ true → ⊥
no_header true rank h = cc
no_header false rank h = cc

-- a setting stands once
pub first_setting : (rank last : ℕ) → rank ≤ last → not (rank == last) ≡ true → rank < last
first_setting rank last le h = grind (arith, nat_tests)

-- the groups of a script
module _ (s : Script) where
  abbrev pool : List SourceLine
  pool = setting_lines line.Pool s.pool

  abbrev fast : List SourceLine
  fast = setting_lines line.Fast s.fast

  abbrev queues : List SourceLine
  queues = map queue_line s.queues

  abbrev dfcs : List SourceLine
  dfcs = map dfc_line s.dfcs

  abbrev idfcs : List SourceLine
  idfcs = map idfc_line s.idfcs

  abbrev irqs : List SourceLine
  irqs = map irq_line s.irqs

  abbrev kernel : List SourceLine
  kernel = owned_lines None s.threads

  abbrev processes : List SourceLine
  processes = processes_lines s.threads 0 s.processes

  module _ (rank : ℕ) (f : IsFront s rank) where
    no_pool : rank < 1 → pool ≡ []
    no_pool e = ap (setting_lines line.Pool) (f.pool e)

    no_fast : rank < 2 → fast ≡ []
    no_fast e = ap (setting_lines line.Fast) (f.fast e)

    no_queues : rank < 3 → queues ≡ []
    no_queues e = ap (map queue_line) (f.queues e)

    no_dfcs : rank < 4 → dfcs ≡ []
    no_dfcs e = ap (map dfc_line) (f.dfcs e)

    no_idfcs : rank < 5 → idfcs ≡ []
    no_idfcs e = ap (map idfc_line) (f.idfcs e)

    no_irqs : rank < 6 → irqs ≡ []
    no_irqs e = ap (map irq_line) (f.irqs e)

    no_kernel : rank < 7 → kernel ≡ []
    no_kernel e = ap (owned_lines None) (f.threads e)

    no_processes : rank < 8 → processes ≡ []
    no_processes e = ap (processes_lines s.threads 0) (f.processes e)

-- one line more
line_again : (file : List Declared) (s : Script) (rank : ℕ) (awaits : Bool) (l : SourceLine)
    → Stands file (so_far s rank awaits) l → IsSound (so_far s rank awaits) → IsFront s rank → HasLast s rank awaits
    → declared_lines (told s l) ≡ declared_lines s ++ tells l
line_again file s rank awaits (line.Header version) h sound f o = absurd (no_header awaits rank h.order)
line_again file s rank awaits (line.Pool n) h sound f o =
    let below = first_setting rank 1 (earlier (Some rank) awaits of.Pool refl h.order) h.new in
    ap (λ (ls : List SourceLine). line.Header s.version ∷ ls)
    (group_grows [] (pool s) (setting_lines line.Pool n) (setting_lines line.Pool n)
    (fast s ∷ queues s ∷ dfcs s ∷ idfcs s ∷ irqs s ∷ kernel s ∷ processes s ∷ [])
    (ap (λ (ls : List SourceLine). ls ++ setting_lines line.Pool n) (sym (no_pool s rank f below))) (
      no_fast s rank f (omega arith),
      (
        no_queues s rank f (omega arith),
        (
          no_dfcs s rank f (omega arith),
          (
            no_idfcs s rank f (omega arith),
            (no_irqs s rank f (omega arith), (no_kernel s rank f (omega arith), (no_processes s rank f (omega arith), tt))),
          ),
        ),
      ),
    ))
line_again file s rank awaits (line.Fast n) h sound f o =
    let below = first_setting rank 2 (earlier (Some rank) awaits of.Fast refl h.order) h.new in
    ap (λ (ls : List SourceLine). line.Header s.version ∷ ls)
    (group_grows (pool s) (fast s) (setting_lines line.Fast n) (setting_lines line.Fast n)
    (queues s ∷ dfcs s ∷ idfcs s ∷ irqs s ∷ kernel s ∷ processes s ∷ [])
    (ap (λ (ls : List SourceLine). ls ++ setting_lines line.Fast n) (sym (no_fast s rank f below))) (
      no_queues s rank f (omega arith),
      (
        no_dfcs s rank f (omega arith),
        (
          no_idfcs s rank f (omega arith),
          (
            no_irqs s rank f (omega arith),
            (no_kernel s rank f (omega arith), (no_processes s rank f (omega arith), tt)),
          ),
        ),
      ),
    ))
line_again file s rank awaits (line.Queue name p) h sound f o =
    let le = earlier (Some rank) awaits of.Queue refl h.order in
    ap (λ (ls : List SourceLine). line.Header s.version ∷ ls)
    (group_grows (pool s ++ fast s) (queues s) (map queue_line (told s (line.Queue name p)).queues)
    (line.Queue name p ∷ []) (dfcs s ∷ idfcs s ∷ irqs s ∷ kernel s ∷ processes s ∷ [])
    (map-append queue_line s.queues _) (
      no_dfcs s rank f (omega arith),
      (
        no_idfcs s rank f (omega arith),
        (no_irqs s rank f (omega arith), (no_kernel s rank f (omega arith), (no_processes s rank f (omega arith), tt))),
      ),
    ))
line_again file s rank awaits (line.Dfc name queue p ops) h sound f o =
    let le = earlier (Some rank) awaits of.Dfc refl h.order in
    ap (λ (ls : List SourceLine). line.Header s.version ∷ ls)
    (group_grows (pool s ++ fast s ++ queues s) (dfcs s) (map dfc_line (told s (line.Dfc name queue p ops)).dfcs)
    (line.Dfc name queue p ops ∷ []) (idfcs s ∷ irqs s ∷ kernel s ∷ processes s ∷ []) (map-append dfc_line s.dfcs _)
    (no_idfcs s rank f (omega arith), (no_irqs s rank f (omega arith), (no_kernel s rank f (omega arith), (no_processes s rank f (omega arith), tt)))))
line_again file s rank awaits (line.Idfc name ops) h sound f o =
    let le = earlier (Some rank) awaits of.Idfc refl h.order in
    ap (λ (ls : List SourceLine). line.Header s.version ∷ ls)
    (group_grows (pool s ++ fast s ++ queues s ++ dfcs s) (idfcs s) (map idfc_line (told s (line.Idfc name ops)).idfcs)
    (line.Idfc name ops ∷ []) (irqs s ∷ kernel s ∷ processes s ∷ []) (map-append idfc_line s.idfcs _)
    (no_irqs s rank f (omega arith), (no_kernel s rank f (omega arith), (no_processes s rank f (omega arith), tt))))
line_again file s rank awaits (line.IrqBody k ops) h sound f o =
    let le = earlier (Some rank) awaits of.IrqBody refl h.order in
    ap (λ (ls : List SourceLine). line.Header s.version ∷ ls)
    (group_grows (pool s ++ fast s ++ queues s ++ dfcs s ++ idfcs s) (irqs s)
    (map irq_line (told s (line.IrqBody k ops)).irqs) (line.IrqBody k ops ∷ []) (kernel s ∷ processes s ∷ [])
    (map-append irq_line s.irqs _)
    (no_kernel s rank f (omega arith), (no_processes s rank f (omega arith), tt)))
line_again file s rank awaits (line.KernelThread name p held) h sound f o =
    let le = earlier (Some rank) awaits of.KernelThread refl h.order in
    let none : last_owner s.processes ≡ None = ap last_owner (f.processes (omega arith)) in
    let t : ThreadDecl = record { name = name; priority = p; held = held; process = None; instrs = [] } in
    ap (λ (ls : List SourceLine). line.Header s.version ∷ ls)
    (thread_push (pool s ++ fast s ++ queues s ++ dfcs s ++ idfcs s ++ irqs s) s.processes s.threads t (sym none))
line_again file s rank awaits (line.Process name) h sound f o =
    ap (λ (ls : List SourceLine). line.Header s.version ∷ ls)
    (process_push (pool s ++ fast s ++ queues s ++ dfcs s ++ idfcs s ++ irqs s) s.processes
    (record { name = name }) s.threads sound.threads)
line_again file s rank awaits (line.Thread name p held) h sound f o =
    let least = thread_needs (so_far s rank awaits) (Some rank) awaits refl refl h.order sound in
    let t : ThreadDecl = record { name = name; priority = p; held = held; process = Some (last_of s.processes); instrs = [] } in
    ap (λ (ls : List SourceLine). line.Header s.version ∷ ls)
    (thread_push (pool s ++ fast s ++ queues s ++ dfcs s ++ idfcs s ++ irqs s) s.processes s.threads t
    (owner_is s.processes least))
line_again file s rank awaits (line.Instr what) h sound f o =
    ap (λ (ls : List SourceLine). line.Header s.version ∷ ls)
    (instr_push (pool s ++ fast s ++ queues s ++ dfcs s ++ idfcs s ++ irqs s) s.processes s.threads what
    (in_last s rank awaits h.order o))
line_again file s rank awaits _ h sound f o = sym (append-nil (declared_lines s))

-- all lines behind the header
pub lines_again : (file : List Declared) (s : Script) (rank : ℕ) (awaits : Bool) (lines : List SourceLine)
    → AllStand file (so_far s rank awaits) lines → IsSound (so_far s rank awaits) → IsFront s rank
    → HasLast s rank awaits
    → declared_lines (after_all (so_far s rank awaits) lines).script ≡ declared_lines s ++ said lines
lines_again file s rank awaits [] stand sound f o = sym (append-nil (declared_lines s))
lines_again file s rank awaits (l ∷ ls) stand sound f o =
    lines_again file (told s l) (rank_of rank (kind_of l)) (is_process (kind_of l)) ls stand.1
    (sound-after file (so_far s rank awaits) l stand.0 sound) (front_after file s rank awaits l stand.0 o.awaited f)
    (last_after file s rank awaits l stand.0 sound f o)
    ∙ ap (λ (xs : List SourceLine). xs ++ said ls) (line_again file s rank awaits l stand.0 sound f o) ∙ append_assoc (declared_lines s) (tells l) (said ls)
