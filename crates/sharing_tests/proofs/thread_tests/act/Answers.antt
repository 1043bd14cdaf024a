use Rattle.sharing_tests.proofs.thread_tests.act.Goals as goal

pub give_back-requires-clause-opened : goal.give_back-requires-clause-opened
give_back-requires-clause-opened g c = c.opened-ticket.ensures _ _ _ c.in-Some.ensures.found
