use Rattle.std.proofs.Common.{◌≡◌, ◌-◌, ◌∙◌, List, sym, ap, subst, arith, length, ◌==◌}
use Rattle.class_model.specs.declared.class_file.MethodAt.{MethodAt}
use Rattle.inline_expand.proofs.ShallowLevels.{descends_on, ends, no_items, no_more_level, stops}
use Rattle.inline_expand.specs.Inner.Chains.{IsNeeded, NoneIsOneOf}
use Rattle.inline_expand.proofs.shallow.is_shallow.Goals as goal

pub returns-then-not-none_is_one_of : goal.returns-then-not-none_is_one_of
returns-then-not-none_is_one_of c =
    let next = c.loop-left.left - 1 in (
      λ no. absurd (cc no),
      λ shallow. absurd (stops c.args.host.tree.now c.args.host.typed.now c.args.host.number c.args.outer.now c.args.steps c.args.root c.loop-left.left next c.loop-left.level
          (omega (arith, c.loop-left-test.true)) c.loop-left.invariant
          (λ apart. absurd (cc (sym c.if-not-none_is_one_of.true ∙ c.none_is_one_of.ensures.1 (subst (NoneIsOneOf c.args.outer.now) (sym c.list.ensures) apart)))) shallow),
    )

pub loop-left-preserved : goal.loop-left-preserved
loop-left-preserved c =
    descends_on c.args.host.tree.now c.args.host.typed.now c.args.host.number c.args.outer.now c.args.steps c.args.root c.loop-left.left (c.loop-left.left - 1) c.loop-left.level c.in_ok-level-2.level
    (omega (arith, c.loop-left-test.true)) c.loop-left.invariant
    (subst (λ (level : List MethodAt). IsNeeded c.args.host.tree.now c.args.host.typed.now level c.in_ok-level-2.level) c.list-in-loop-left.ensures c.in_ok-level-2.ensures)
    (subst (NoneIsOneOf c.args.outer.now) c.list.ensures (c.none_is_one_of.ensures.0 c.if-not-none_is_one_of.false))

pub returns : goal.returns
returns c =
    let over : c.loop-left.left ≡ 0 = omega (arith, c.loop-left-test.false) in (
      λ yes. no_more_level c.args.host.tree.now c.args.host.typed.now c.args.host.number c.args.outer.now c.args.steps c.args.root c.loop-left.left c.loop-left.level c.loop-left.invariant
          (no_items c.loop-left.level (sym c.is_empty-2.ensures ∙ yes)),
      λ shallow. c.is_empty-2.ensures ∙ ap (λ (level : List MethodAt). length level == 0)
          (ends c.args.host.tree.now c.args.host.typed.now c.args.host.number c.args.outer.now c.args.steps c.args.root c.loop-left.left c.loop-left.level over c.loop-left.invariant shallow),
    )
