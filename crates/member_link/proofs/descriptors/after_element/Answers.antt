use Rattle.std.proofs.Common.{◌≡◌, ◌∷◌, ℕ, List, ap, ◌∙◌, rules}
use Rattle.member_link.specs.Laws.Parameters.{name_dropped}
use Rattle.member_link.proofs.descriptors.after_element.Goals as goal

pub returns-then-first-eq76 : goal.returns-then-first-eq76
returns-then-first-eq76 c =
    let split : c.args.bytes.now ≡ c.in-Some.first.now ∷ c.in-Some.rest.now = search rules in
    let first : c.in-Some.first.now ≡ 76 = search rules in
    name_dropped c.args.bytes.now c.in-Some.rest.now c.after_name.result.now (split ∙ ap (λ (n : ℕ). n ∷ c.in-Some.rest.now) first) c.after_name.ensures
