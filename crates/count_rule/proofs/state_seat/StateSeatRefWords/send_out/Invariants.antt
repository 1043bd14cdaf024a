use Rattle.count_rule.proofs.state_seat.StateSeatRefWords.send_out.Given as goal

abbrev pub ghosts-split : goal.ghosts-split
ghosts-split a = record { place = a.place }
