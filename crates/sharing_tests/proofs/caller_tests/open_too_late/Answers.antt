use Rattle.sharing_tests.proofs.caller_tests.open_too_late.Goals as goal

pub give_back-requires-clause-opened : goal.give_back-requires-clause-opened
give_back-requires-clause-opened g c = c.opened-ticket.ensures _ _ _ c.in-Some.ensures.found
