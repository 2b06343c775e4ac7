use Rattle.std.proofs.Common.{◌∙◌, sym, refl, arith}
use Rattle.std.proofs.lemmas.Bool.{false≢true}
use Rattle.type_rules.proofs.LocalWalks.{any_found, any_more, none_behind}
use Rattle.type_rules.proofs.assignability.has_uninit_this.Goals as goal

pub returns-then-is_uninit_this : goal.returns-then-is_uninit_this
returns-then-is_uninit_this c =
    (λ yes. any_found c.args.locals.now c.loop-at.at (c.if-is_uninit_this.ensures.0 refl), λ any. refl)

pub loop-at-preserved : goal.loop-at-preserved
loop-at-preserved c =
    any_more c.args.locals.now c.loop-at.at (omega (arith, c.loop-at-test.true, c.listed-at-end.ensures.few)) (λ is. false≢true (c.if-is_uninit_this.ensures.1 is)) c.loop-at.invariant

pub returns : goal.returns
returns c =
    let none = none_behind c.args.locals.now c.loop-at.at c.listed-at-end.result c.loop-at-test.false c.loop-at.auto.at-end c.listed-at-end.ensures.tops c.loop-at.invariant in
    (λ yes. absurd (false≢true yes), λ any. sym none ∙ any)
