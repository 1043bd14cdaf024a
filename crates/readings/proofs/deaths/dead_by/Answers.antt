use Rattle.readings.proofs.deaths.dead_by.Goals as goal

pub returns-in-Lose : goal.returns-in-Lose
returns-in-Lose c = rw c.in-Lose.is c.dead_of.ensures

pub returns-in-Pay-Close : goal.returns-in-Pay-Close
returns-in-Pay-Close c =
    let what = rw c.in-Pay-Close.is at c.in-Pay-Close.field-0-is in
    rw (c.in-Pay-Close.is, what) c.dead_of-in-Pay-Close.ensures
