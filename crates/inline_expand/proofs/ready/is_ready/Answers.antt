use Rattle.std.proofs.Common.{sym, ◌∙◌, subst, Vec, Global, Option}
use Rattle.std.specs.Option.{option_map}
use Rattle.class_model.specs.declared.class_file.MethodAt.{MethodAt}
use Rattle.inline_expand.proofs.Walking.{goes_down, met_fails, sees_more, unneeded_fails}
use Rattle.inline_expand.specs.Inner.Walks.{HasNeeds, NeedsThese}
use Rattle.inline_expand.proofs.ready.is_ready.Goals as goal

pub returns-then-is_some-clause-ready : goal.returns-then-is_some-clause-ready
returns-then-is_some-clause-ready c =
    let h = met_fails c.args.host.tree.now c.args.host.typed.now c.args.host.number c.args.root c.loop-stack.verdicts c.loop-stack.stack c.next.new.verdicts c.next.new.stack c.loop-stack.invariant
    c.in_ok-at.field-0 c.in-Some.at c.of-in-Some.result c.in_ok-at.ensures c.in-Some.is c.of-in-Some.ensures (sym c.is_some.ensures ∙ c.if-is_some.true) in
    (λ no. absurd (cc no), λ is. absurd (h.1 is))

pub returns-then-is_some-clause-right : goal.returns-then-is_some-clause-right
returns-then-is_some-clause-right c =
    let h = met_fails c.args.host.tree.now c.args.host.typed.now c.args.host.number c.args.root c.loop-stack.verdicts c.loop-stack.stack c.next.new.verdicts c.next.new.stack c.loop-stack.invariant
    c.in_ok-at.field-0 c.in-Some.at c.of-in-Some.result c.in_ok-at.ensures c.in-Some.is c.of-in-Some.ensures (sym c.is_some.ensures ∙ c.if-is_some.true) in
    h.0

pub returns-in_default-2-clause-ready : goal.returns-in_default-2-clause-ready
returns-in_default-2-clause-ready c =
    let none = subst (λ (o : Option (Vec MethodAt Global)). HasNeeds c.args.host.tree.now c.args.host.typed.now c.args.host.number c.in-Some.at (option_map (λ v. v.items) o)) c.in_default-2.is c.in_ok-needs.ensures in
    let h = unneeded_fails c.args.host.tree.now c.args.host.typed.now c.args.host.number c.args.root c.loop-stack.verdicts c.loop-stack.stack c.next.new.verdicts c.next.new.stack c.loop-stack.invariant
    c.in_ok-at.field-0 c.in-Some.at c.in_ok-at.ensures c.in-Some.is none in
    (λ no. absurd (cc no), λ is. absurd (h.1 is))

pub returns-in_default-2-clause-right : goal.returns-in_default-2-clause-right
returns-in_default-2-clause-right c =
    let none = subst (λ (o : Option (Vec MethodAt Global)). HasNeeds c.args.host.tree.now c.args.host.typed.now c.args.host.number c.in-Some.at (option_map (λ v. v.items) o)) c.in_default-2.is c.in_ok-needs.ensures in
    let h = unneeded_fails c.args.host.tree.now c.args.host.typed.now c.args.host.number c.args.root c.loop-stack.verdicts c.loop-stack.stack c.next.new.verdicts c.next.new.stack c.loop-stack.invariant
    c.in_ok-at.field-0 c.in-Some.at c.in_ok-at.ensures c.in-Some.is none in
    h.0

pub loop-stack-smaller : goal.loop-stack-smaller
loop-stack-smaller c =
    let has = subst (λ (o : Option (Vec MethodAt Global)). HasNeeds c.args.host.tree.now c.args.host.typed.now c.args.host.number c.in-Some.at (option_map (λ v. v.items) o)) c.in-Some-2.is c.in_ok-needs.ensures in
    sees_more c.args.host.tree.now c.args.host.typed.now c.args.host.number c.loop-stack.verdicts c.loop-stack.stack c.next.new.verdicts c.next.new.stack
    c.in_ok-at.field-0 c.in-Some.at c.of-in-Some.result c.judge.new.self c.in_ok-at.ensures c.of-in-Some.ensures (sym c.is_some.ensures ∙ c.if-is_some.false) has.fits c.in_ok-judge.ensures.ok

pub loop-stack-preserved : goal.loop-stack-preserved
loop-stack-preserved c =
    let has = subst (λ (o : Option (Vec MethodAt Global)). HasNeeds c.args.host.tree.now c.args.host.typed.now c.args.host.number c.in-Some.at (option_map (λ v. v.items) o)) c.in-Some-2.is c.in_ok-needs.ensures in
    goes_down c.args.host.tree.now c.args.host.typed.now c.args.host.number c.args.root c.loop-stack.verdicts c.loop-stack.stack c.next.new.verdicts c.next.new.stack c.loop-stack.invariant
    c.in_ok-at.field-0 c.in-Some.at c.of-in-Some.result c.as_slice.result.now c.judge.new.self c.enter.new.self c.in_ok-at.ensures c.in-Some.is c.of-in-Some.ensures (sym c.is_some.ensures ∙ c.if-is_some.false)
    (subst (NeedsThese c.args.host.tree.now c.args.host.typed.now c.args.host.number c.in-Some.at) (sym c.as_slice.ensures.value) has)
    c.in_ok-judge.ensures.ok c.in_ok-enter.ensures
