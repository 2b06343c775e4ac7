use Rattle.std.proofs.Common.{[], None, subst, ◌∙◌, arith}
use Rattle.inline_expand.proofs.GrownSteps.{kept_within, other_line}
use Rattle.inline_expand.specs.Inner.Growths.{AreStepsFound}
use Rattle.inline_expand.specs.Inner.Places.{chain_of, host_of}
use Rattle.inline_expand.specs.declared.expansions.Growth.{Growth}
use Rattle.member_link.specs.Scope.{instructions}
use Rattle.inline_expand.proofs.expansions.expansion_of.Goals as goal

pub returns-clause-expansion : goal.returns-clause-expansion
returns-clause-expansion c expansion is =
    let before : Growth = record { verdicts = c.replace.result; bodies = c.new-2.result; left = c.args.most } in
    let none = c.in-None.is in
    let found = other_line c.args.tree.now c.args.typed.now c.as_slice.result.now c.args.host.at [] c.args.host before c.steps_of.new.growth None (c.as_slice.ensures.value ∙ c.in-Ok.ensures.items)
    (subst (AreStepsFound c.args.tree.now c.args.typed.now (host_of c.as_slice.result.now) (chain_of c.as_slice.result.now) c.args.host before c.steps_of.new.growth) none c.in-Ok-steps_of.ensures.steps) in
    omega (arith, found expansion is, kept_within c.args.tree.now c.args.typed.now c.args.host.at [] c.args.host.at (instructions c.args.host.host) expansion is None)
