use Rattle.std.proofs.Common.{◌≡◌, ◌++◌, ◌∷◌, [], rules}
use Rattle.sharing_tests.proofs.ThreePasses.{three-made}
use Rattle.sharing_tests.proofs.caller_tests.three.Goals as goal

pub returns : goal.returns
returns c =
    let none : c.in_ok-passes.passes.items ≡ [] = search rules in
    let one : c.push.new.self.items ≡ c.in_ok-passes.passes.items ++ c.args.first ∷ [] = search rules in
    let two : c.push-2.new.self.items ≡ c.push.new.self.items ++ c.args.second ∷ [] = search rules in
    let three : c.push-3.new.self.items ≡ c.push-2.new.self.items ++ c.args.third ∷ [] = search rules in
    three-made c.in_ok-passes.passes.items c.push.new.self.items c.push-2.new.self.items
    c.push-3.new.self.items c.args.first c.args.second c.args.third none one two three
