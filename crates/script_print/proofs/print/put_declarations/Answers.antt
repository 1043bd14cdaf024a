use Rattle.std.proofs.Common.{◌++◌, map, ap, ◌∙◌}
use Rattle.std.specs.List.{flat_map}
use Rattle.std.specs.Prelude.{None}
use Rattle.script_print.specs.CanonicalText.{source_texts, queue_line, dfc_line, idfc_line, irq_line, thread_lines, threads_of, processes_lines}
use Rattle.script_print.proofs.PartLaws.{declared_by}
use Rattle.script_print.proofs.print.put_declarations.Goals as goal

pub returns : goal.returns
returns c =
    declared_by c.args.script.now c.args.out.now.items c.put_header.new.out.items c.put_pool.new.out.items
    c.put_fast.new.out.items c.put_queues.new.out.items c.put_dfcs.new.out.items c.put_idfcs.new.out.items
    c.put_irqs.new.out.items c.put_threads.new.out.items c.put_processes.new.out.items
    c.in_ok-put_header.ensures c.in_ok-put_pool.ensures c.in_ok-put_fast.ensures
    (c.in_ok-put_queues.ensures ∙ ap (λ xs. c.put_fast.new.out.items ++ source_texts (map queue_line xs)) c.as_slice.ensures)
    (c.in_ok-put_dfcs.ensures ∙ ap (λ xs. c.put_queues.new.out.items ++ source_texts (map dfc_line xs)) c.as_slice-2.ensures)
    (c.in_ok-put_idfcs.ensures ∙ ap (λ xs. c.put_dfcs.new.out.items ++ source_texts (map idfc_line xs)) c.as_slice-3.ensures)
    (c.in_ok-put_irqs.ensures ∙ ap (λ xs. c.put_idfcs.new.out.items ++ source_texts (map irq_line xs)) c.as_slice-4.ensures)
    (c.in_ok-put_threads.ensures ∙ ap (λ xs. c.put_irqs.new.out.items ++ source_texts (flat_map thread_lines (threads_of None xs))) c.as_slice-5.ensures)
    (c.in_ok-put_processes.ensures ∙ ap (λ xs. c.put_threads.new.out.items ++ source_texts
    (processes_lines c.as_slice-7.result.now 0 xs)) c.as_slice-6.ensures
    ∙ ap (λ xs. c.put_threads.new.out.items ++ source_texts (processes_lines xs 0 c.args.script.now.processes))
    c.as_slice-7.ensures)
