use Rattle.std.proofs.Common.{◌≡◌, ◌∙◌, ◌-◌, length, take, sym, subst, ap, refl, arith, ℕ}
use Rattle.std.proofs.lemmas.Bool.{false≢true}
use Rattle.inline_expand.proofs.ThisLocals.{more_without, rest_without, there_not}
use Rattle.inline_expand.proofs.without_this.are_locals_without.Goals as goal
use Rattle.member_link.specs.Rows.MemberRows.{NoUninitThis}

pub returns-then-is_this : goal.returns-then-is_this
returns-then-is_this c =
    let is = sym c.get.ensures ∙ c.is_this.ensures.0 c.if-is_this.true in
    (λ yes. absurd (false≢true yes), λ all. absurd (there_not c.args.locals.now c.loop-at.at is all))

pub loop-at-preserved : goal.loop-at-preserved
loop-at-preserved c =
    more_without c.args.locals.now c.loop-at.at
    (λ is. false≢true (sym c.if-is_this.false ∙ c.is_this.ensures.1 (c.get.ensures ∙ is)))
    c.loop-at.invariant

pub returns : goal.returns
returns c =
    let listed = c.listed-at-end.result in
    let same : c.loop-at.at ≡ listed = omega (arith, c.loop-at-test.false, c.loop-at.auto.at-end) in
    let first = subst (λ (n : ℕ). NoUninitThis (take n c.args.locals.now)) same c.loop-at.invariant in
    let all = rest_without c.args.locals.now listed (length c.args.locals.now - listed) c.listed-at-end.ensures.tops first in
    (λ yes. all, λ also. refl)
