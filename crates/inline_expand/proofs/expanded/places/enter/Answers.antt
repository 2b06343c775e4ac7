use Rattle.std.proofs.Common.{◌≡◌, ◌+◌, ℕ, Some, length, refl, ap, ◌∙◌, arith}
use mathlib.Core.Path.{fun_ext}
use Rattle.expanded_code.specs.Alone.{number_at}
use Rattle.expanded_code.specs.Expanded.{arguments, number_from, points_before}
use Rattle.inline_expand.proofs.PlaceParts.{exact-before, exact-points, exact-starts, its-number, many-arguments}
use Rattle.inline_expand.proofs.expanded.places.enter.Goals as goal
use Rattle.inline_expand.specs.Inner.CalleePlaces.{callee_in}
use Rattle.inline_expand.specs.Inner.Numbers.{placed_by}
use Rattle.member_link.specs.Rows.Operands.{lowest_of, under}
use Rattle.member_link.specs.Scope.{Scope, instructions}

pub overflow_add-result : goal.overflow_add-result
overflow_add-result c =
    let found = c.args.found.now in
    let before = exact-before found c.args.start c.requires.body c.requires.layout c.requires.points c.points_before.result (c.points_before.ensures found.body.now.host c.requires.layout.shape) in
    omega (arith, before, c.requires.points)

pub returns-clause-place : goal.returns-clause-place
returns-clause-place c =
    let found = c.args.found.now in
    let before = exact-before found c.args.start c.requires.body c.requires.layout c.requires.points c.points_before.result (c.points_before.ensures found.body.now.host c.requires.layout.shape) in
    record {
      body = c.requires.body;
      narrows = c.requires.layout.shape.narrowing;
      starts = c.as_slice.ensures.value ∙ exact-starts found c.args.start c.requires.body c.requires.layout c.requires.points;
      points = omega (arith, before, c.requires.points);
      units = omega (arith, c.requires.units);
    }

pub returns-clause-stands : goal.returns-clause-stands
returns-clause-stands c =
    let found = c.args.found.now in
    let before = exact-before found c.args.start c.requires.body c.requires.layout c.requires.points c.points_before.result (c.points_before.ensures found.body.now.host c.requires.layout.shape) in
    record {
      body = refl;
      base = ap (λ (n : ℕ). c.args.start + n) before;
      unit_is = refl;
    }

pub returns-clause-setting : goal.returns-clause-setting
returns-clause-setting c = λ t at is.
    let found = c.args.found.now in
    let s : Scope = found.body.now.host in
    let entry = c.args.entry.now in
    let before = exact-before found c.args.start c.requires.body c.requires.layout c.requires.points c.points_before.result (c.points_before.ensures s c.requires.layout.shape) in
    let base = ap (λ (n : ℕ). c.args.start + n) before in
    let number : (λ (within : ℕ). placed_by c.as_slice.result.now (c.args.start + c.points_before.result) (number_at s within)) ≡ number_from (Some s) (c.args.start + points_before s) (instructions s) (callee_in found).inner =
    fun_ext (its-number found c.args.start c.requires.body c.requires.layout c.requires.points c.as_slice.result.now (c.args.start + c.points_before.result) c.as_slice.ensures.value base) in
    let count : c.len-count.result ≡ length (arguments s c.args.unit) = omega (arith, c.len-count.ensures, many-arguments found c.args.start c.requires.body c.requires.layout c.requires.points c.args.unit) in
    let below : c.in-Ok-frame_under.below ≡ record entry { stack = under (length (arguments s c.args.unit)) entry.stack } =
    c.in-Ok-frame_under.ensures ∙ ap (λ (n : ℕ). record entry { stack = under n entry.stack }) count in
    let this : c.in-Ok.this ≡ lowest_of (length (arguments s c.args.unit)) entry.stack =
    c.in-Ok.ensures ∙ ap (λ (n : ℕ). lowest_of n c.as_slice-stack.result.now) count ∙ ap (lowest_of (length (arguments s c.args.unit))) c.as_slice-stack.ensures in
    let handlers = c.in_ok-handlers.ensures ∙ is.handlers in
    let behind = ap (λ (n : ℕ). c.args.start + n) (exact-points found c.args.start c.requires.body c.requires.layout c.requires.points) in
    λ i. record {
      coded = (callee_in found).coded;
      number = number i;
      unit = c.args.unit;
      below = below i;
      this = this i;
      handlers = λ within. handlers i;
      behind = Some (behind i);
    }
