use Rattle.std.proofs.Common.{◌≡◌, ◌-◌, ◌+◌, length, subst, arith}
use Rattle.inline_expand.proofs.PlacedCalls.{constructs_if_shallow, shallow_if_constructs}
use Rattle.inline_expand.proofs.ReadyCalls.{from_callee}
use Rattle.inline_expand.specs.Inner.ReadyCallees.{IsCalleeFound}
use Rattle.inline_expand.proofs.places.constructs_at.Goals as goal

pub is_shallow-shallow-requires-clause-ready : goal.is_shallow-shallow-requires-clause-ready
is_shallow-shallow-requires-clause-ready c =
    let found = subst (IsCalleeFound c.args.place.class.tree.now c.args.place.class.typed.now c.args.place.class.number c.args.method.now.at c.args.at) c.in-Some.is c.in_ok-callee.ensures.callee in
    (from_callee c.args.place.class.tree.now c.args.place.class.typed.now (λ s at one other calls also. c.a_call_runs_one_method.ensures c.args.place.class.tree.now s at one other c.a_tree_is_a_hierarchy.ensures calls also)
    c.args.place.class.number c.args.method.now.at c.args.at c.in-Some.callee.at found.is_callee).1

pub returns-clause-constructs : goal.returns-clause-constructs
returns-clause-constructs c =
    let found = subst (IsCalleeFound c.args.place.class.tree.now c.args.place.class.typed.now c.args.place.class.number c.args.method.now.at c.args.at) c.in-Some.is c.in_ok-callee.ensures.callee in
    let steps = 7 - length c.args.place.line.now in
    let seven : length c.args.place.line.now + steps ≡ 7 = omega (arith, c.requires.place.short) in (
      λ yes. constructs_if_shallow c.args.place.class.tree.now c.args.place.class.typed.now c.args.place.class.number (λ s at one other calls also. c.a_call_runs_one_method.ensures c.args.place.class.tree.now s at one other c.a_tree_is_a_hierarchy.ensures calls also)
          c.args.place.line.now c.requires.place.some c.requires.place.of_host c.args.method.now.at c.args.at steps seven c.in-Some.callee found (c.in_ok-shallow.ensures.0 yes),
      λ constructed. c.in_ok-shallow.ensures.1 (shallow_if_constructs c.args.place.class.tree.now c.args.place.class.typed.now c.args.place.class.number (λ s at one other calls also. c.a_call_runs_one_method.ensures c.args.place.class.tree.now s at one other c.a_tree_is_a_hierarchy.ensures calls also)
          c.args.place.line.now c.requires.place.some c.requires.place.of_host c.args.method.now.at c.args.at steps seven c.in-Some.callee found constructed),
    )
