use Rattle.std.proofs.Common.{◌+◌, ℕ, refl, ap, ◌∙◌, arith}
use Rattle.inline_expand.proofs.PlaceParts.{exact-before, exact-starts}
use Rattle.inline_expand.proofs.expanded.sites.numbered_at.Goals as goal

pub overflow_add-result : goal.overflow_add-result
overflow_add-result c =
    let found = c.args.found.now in
    let before = exact-before found c.args.start c.requires.body c.requires.layout c.requires.points c.points_before.result (c.points_before.ensures found.body.now.host c.requires.layout.shape) in
    omega (arith, before, c.requires.points)

pub returns-clause-numbers : goal.returns-clause-numbers
returns-clause-numbers c =
    let found = c.args.found.now in
    let before = exact-before found c.args.start c.requires.body c.requires.layout c.requires.points c.points_before.result (c.points_before.ensures found.body.now.host c.requires.layout.shape) in
    record {
      steps = c.requires.body.steps;
      starts = c.as_slice.ensures.value ∙ exact-starts found c.args.start c.requires.body c.requires.layout c.requires.points;
      points = omega (arith, before, c.requires.points);
    }

pub returns-clause-behind : goal.returns-clause-behind
returns-clause-behind c =
    let found = c.args.found.now in
    let before = exact-before found c.args.start c.requires.body c.requires.layout c.requires.points c.points_before.result (c.points_before.ensures found.body.now.host c.requires.layout.shape) in
    record { is_callee = refl; body = refl; base = ap (λ (n : ℕ). c.args.start + n) before }
