use Rattle.std.proofs.Common.{◌≡◌, ◌∙◌, length, sym, ap, arith, rules}
use Rattle.plan_flow.specs.Inner.Fronts.{tops_before}
use Rattle.plan_flow.proofs.KeptUnits.{kept_units}
use Rattle.plan_flow.proofs.fronts.is_as_before.Goals as goal

pub returns : goal.returns
returns c = λ told.
    let listed = c.listed_with_gaps.result.0.now in
    let target = c.args.target.now in
    let front = c.args.front.now in
    let types = c.args.types.now in
    let one = c.if-len.false in
    let two = c.if-len-2.false in
    let three = c.if-listed.false in
    let len = c.len.ensures.len in
    let also = c.len-2.ensures in
    let again = c.len-3.ensures.len in
    let locals = c.len-4.ensures in
    let same_len : length front ≡ length target = omega (arith, one, len, also) in
    let few : length front ≡ length types.locals = omega (arith, two, again, locals) in
    let count : length listed ≡ c.listed.result = omega (arith, three) in
    kept_units c.args.state.now types c.args.stored target front listed c.listed_with_gaps.result.1.now c.listed.result
    c.requires.first c.listed_with_gaps.ensures.listed c.listed_with_gaps.ensures.gaps same_len few count c.listed.ensures.tops
    (ap (tops_before target) (sym count) ∙ c.has_tops_at.ensures told) (search rules)
