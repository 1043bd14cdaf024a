use Rattle.sharing_tests.proofs.calls.finds.Goals as goal

pub returns-in-Seek-clause-found : goal.returns-in-Seek-clause-found
returns-in-Seek-clause-found g c =
    let found = c.in-Seek.ensures.did.did.1 in
    record { unopened = found.unopened; same_words = found.same_words; its = found.its }
