use Rattle.shared_kernel.proofs.shared_kernel.SharedKernel.meet.Goals as goal

pub meet-requires : goal.meet-requires
meet-requires c = record { one = rw c.self.view_is c.requires.one; other = rw c.self.view_is c.requires.other }

pub returns : goal.returns
returns c =
    let said = c.meet.ensures in
    record {
      one = rw (← c.self.view_is) said.one;
      other = rw (← c.self.view_is) said.other;
      one_caller = said.one_caller;
      other_caller = said.other_caller;
      known = said.known;
      same = said.same;
      begins = said.begins;
      other_begins = said.other_begins;
      own = said.own;
      other_own = said.other_own;
      made = rw (← c.self.view_is) said.made;
      other_made = rw (← c.self.view_is) said.other_made;
    }
