use Rattle.std.proofs.Common.{◌≡◌, ◌==◌, ◌∷◌, false, rules}
use Rattle.member_link.proofs.ResultLens.{behind_class}
use Rattle.member_link.proofs.descriptors.behind_name.Goals as goal

pub returns-else-first-eq91 : goal.returns-else-first-eq91
returns-else-first-eq91 c =
    let split : c.args.name.now ≡ c.in-Some.first.now ∷ c.in-Some.field-0-1.now = search rules in
    let other : (c.in-Some.first.now == 91) ≡ false = search rules in
    behind_class c.args.name.now c.in-Some.field-0-1.now c.args.bytes.now c.behind-rest.result.now c.behind-else-first-eq91.result.now c.in-Some.first.now
    split other c.behind-rest.ensures c.behind-else-first-eq91.ensures
