use Rattle.std.proofs.Common.{sym, ◌∙◌, subst}
use Rattle.inline_expand.proofs.FoundCallees.{found_ready, found_unready, none_found}
use Rattle.inline_expand.specs.Inner.ReadyCallees.{FindsCallee}
use Rattle.inline_expand.proofs.callees.find_ready.Goals as goal

pub returns-in_default-clause-callee : goal.returns-in_default-clause-callee
returns-in_default-clause-callee c =
    none_found c.args.host.tree.now c.args.host.typed.now c.args.host.number c.args.caller.now.at c.args.at (λ s at one other calls also. c.a_call_runs_one_method.ensures c.args.host.tree.now s at one other c.a_tree_is_a_hierarchy.ensures calls also)
    (subst (FindsCallee c.args.host.tree.now c.args.host.typed.now c.args.caller.now.at c.args.at) c.in_default.is c.in_ok-callee.ensures)

pub returns-in-Ok-true-clause-callee : goal.returns-in-Ok-true-clause-callee
returns-in-Ok-true-clause-callee c =
    found_ready c.args.host.tree.now c.args.host.typed.now c.args.host.number c.args.caller.now.at c.args.at (λ s at one other calls also. c.a_call_runs_one_method.ensures c.args.host.tree.now s at one other c.a_tree_is_a_hierarchy.ensures calls also)
    c.in-Some.callee (subst (FindsCallee c.args.host.tree.now c.args.host.typed.now c.args.caller.now.at c.args.at) c.in-Some.is c.in_ok-callee.ensures)
    (c.in-Ok-true.ensures.ready.0 c.in-Ok-true.field-0-test)

pub returns-in-Ok-false-clause-callee : goal.returns-in-Ok-false-clause-callee
returns-in-Ok-false-clause-callee c =
    found_unready c.args.host.tree.now c.args.host.typed.now c.args.host.number c.args.caller.now.at c.args.at (λ s at one other calls also. c.a_call_runs_one_method.ensures c.args.host.tree.now s at one other c.a_tree_is_a_hierarchy.ensures calls also)
    c.in-Some.callee (subst (FindsCallee c.args.host.tree.now c.args.host.typed.now c.args.caller.now.at c.args.at) c.in-Some.is c.in_ok-callee.ensures)
    (λ ready. absurd (cc (sym c.in-Ok-false.field-0-test ∙ c.in-Ok-false.ensures.ready.1 ready)))
