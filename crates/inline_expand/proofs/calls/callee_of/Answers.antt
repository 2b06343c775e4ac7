use Rattle.std.proofs.Common.{ℕ, sym, subst}
use Rattle.class_tree.specs.Headers.{Classes}
use Rattle.inline_expand.specs.Inner.Calls.{DecidesRun}
use Rattle.member_link.specs.MemberRefs.{reference_meant}
use Rattle.inline_expand.proofs.calls.callee_of.Goals as goal

pub returns-then-call : goal.returns-then-call
returns-then-call c =
    let own = c.args.own.now in
    let reference = reference_meant c.args.call.now.reference in
    let run = subst (λ (opcode : ℕ). DecidesRun c.tree-tree.result.now own reference opcode c.static_callee.result) (sym c.if-call.true) (c.static_callee.ensures own) in
    subst (λ (classes : Classes). DecidesRun classes own reference c.args.call.now.opcode c.static_callee.result) c.tree-tree.ensures run

pub returns-then-call-2 : goal.returns-then-call-2
returns-then-call-2 c =
    let own = c.args.own.now in
    let reference = reference_meant c.args.call.now.reference in
    let run = subst (λ (opcode : ℕ). DecidesRun c.tree-tree.result.now own reference opcode c.special_callee.result) (sym c.if-call-2.true) c.special_callee.ensures in
    subst (λ (classes : Classes). DecidesRun classes own reference c.args.call.now.opcode c.special_callee.result) c.tree-tree.ensures run

pub returns-then-call-3 : goal.returns-then-call-3
returns-then-call-3 c =
    subst (λ (opcode : ℕ). DecidesRun c.args.methods.now c.args.own.now (reference_meant c.args.call.now.reference) opcode c.virtual_callee.result) (sym c.if-call-3.true) (c.virtual_callee.ensures c.args.own.now)
