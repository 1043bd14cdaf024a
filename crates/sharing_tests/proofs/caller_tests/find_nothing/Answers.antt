use Rattle.sharing_tests.proofs.caller_tests.find_nothing.Goals as goal

pub give_back-requires-clause-opened : goal.give_back-requires-clause-opened
give_back-requires-clause-opened g c = c.opened-ticket.ensures _ _ _ c.in-Some.ensures.found
