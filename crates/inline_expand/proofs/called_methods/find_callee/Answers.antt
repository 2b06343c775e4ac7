use Rattle.std.proofs.Common.{sym, ◌∙◌, subst}
use Rattle.inline_expand.proofs.FoundCallees.{it_says, it_says_not, none_called, none_short}
use Rattle.inline_expand.specs.Inner.Calls.{DecidesCall}
use Rattle.inline_expand.specs.Inner.Coded.{IsShortCoded}
use Rattle.inline_expand.proofs.called_methods.find_callee.Goals as goal

pub returns-in_default : goal.returns-in_default
returns-in_default c =
    none_called c.args.host.tree.now c.args.host.typed.now (λ s at one other calls also. c.a_call_runs_one_method.ensures c.args.host.tree.now s at one other c.a_tree_is_a_hierarchy.ensures calls also) c.args.caller.now c.requires.stands c.args.at
    (subst (DecidesCall c.args.host.tree.now c.args.caller.now.host c.args.at) c.in_default.is c.in_ok-callee.ensures)

pub returns-in_default-2 : goal.returns-in_default-2
returns-in_default-2 c =
    none_short c.args.host.tree.now c.args.host.typed.now (λ s at one other calls also. c.a_call_runs_one_method.ensures c.args.host.tree.now s at one other c.a_tree_is_a_hierarchy.ensures calls also) c.args.caller.now c.requires.stands c.args.at
    c.in-Some.callee (subst (DecidesCall c.args.host.tree.now c.args.caller.now.host c.args.at) c.in-Some.is c.in_ok-callee.ensures)
    (subst (IsShortCoded c.args.host.tree.now c.args.host.typed.now c.in-Some.callee) c.in_default-2.is c.in_ok-callee-2.ensures)

pub says_at_most-requires : goal.says_at_most-requires
says_at_most-requires c =
    let short = subst (IsShortCoded c.args.host.tree.now c.args.host.typed.now c.in-Some.callee) c.in-Some-2.is c.in_ok-callee-2.ensures in
    c.a_method_of_a_tree_was_read.ensures c.in-Some-2.callee.at c.in-Some-2.callee.host short.1.is_scope

pub returns-in-Ok-true : goal.returns-in-Ok-true
returns-in-Ok-true c =
    it_says c.args.host.tree.now c.args.host.typed.now (λ s at one other calls also. c.a_call_runs_one_method.ensures c.args.host.tree.now s at one other c.a_tree_is_a_hierarchy.ensures calls also) c.args.caller.now c.requires.stands c.args.at
    c.in-Some.callee (subst (DecidesCall c.args.host.tree.now c.args.caller.now.host c.args.at) c.in-Some.is c.in_ok-callee.ensures)
    c.in-Some-2.callee (subst (IsShortCoded c.args.host.tree.now c.args.host.typed.now c.in-Some.callee) c.in-Some-2.is c.in_ok-callee-2.ensures)
    (c.in-Ok-true.ensures.0 c.in-Ok-true.field-0-test)

pub returns-in-Ok-false : goal.returns-in-Ok-false
returns-in-Ok-false c =
    it_says_not c.args.host.tree.now c.args.host.typed.now (λ s at one other calls also. c.a_call_runs_one_method.ensures c.args.host.tree.now s at one other c.a_tree_is_a_hierarchy.ensures calls also) c.args.caller.now c.requires.stands c.args.at
    c.in-Some.callee (subst (DecidesCall c.args.host.tree.now c.args.caller.now.host c.args.at) c.in-Some.is c.in_ok-callee.ensures)
    c.in-Some-2.callee (subst (IsShortCoded c.args.host.tree.now c.args.host.typed.now c.in-Some.callee) c.in-Some-2.is c.in_ok-callee-2.ensures)
    (λ says. absurd (cc (sym c.in-Ok-false.field-0-test ∙ c.in-Ok-false.ensures.1 says)))
