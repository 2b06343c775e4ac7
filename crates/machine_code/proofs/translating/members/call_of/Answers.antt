use Rattle.std.proofs.Common.{sym, subst}
use Rattle.class_tree.specs.Headers.{Classes}
use Rattle.member_link.specs.declared.selection.CallForm.TheVariants.{Interface, Virtual}
use Rattle.member_link.specs.TreePrograms.{IsProgram}
use Rattle.member_link.specs.RunOps.{HasParameters, IsFoundByReceiver, IsFoundStatic}
use Rattle.member_link.specs.declared.run_op.CallOp.{CallOp}
use Rattle.machine_code.proofs.translating.members.call_of.Goals as goal

pub returns-in_ok-new-in-182-clause-resolved : goal.returns-in_ok-new-in-182-clause-resolved
returns-in_ok-new-in-182-clause-resolved c = λ P is.
    let made = c.in_ok-op-in-182.ensures in
    let of_tree = subst (λ (classes : Classes). IsProgram classes P) (sym c.tree.ensures) is in
    subst (λ (op : CallOp). HasParameters op × IsFoundByReceiver P Virtual op op.found) (sym c.in_ok-new-in-182.ensures.ok)
    (made.parameters, made.resolved P Virtual of_tree)

pub returns-in_ok-new-in-184-clause-resolved : goal.returns-in_ok-new-in-184-clause-resolved
returns-in_ok-new-in-184-clause-resolved c = λ P is.
    let made = c.in_ok-op-in-184.ensures in
    let of_tree = subst (λ (classes : Classes). IsProgram classes P) (sym c.tree-in-184.ensures) is in
    subst (λ (op : CallOp). HasParameters op × IsFoundStatic P op op.found) (sym c.in_ok-new-in-184.ensures.ok)
    (made.parameters, made.resolved P of_tree)

pub returns-in_ok-new-in-185-clause-resolved : goal.returns-in_ok-new-in-185-clause-resolved
returns-in_ok-new-in-185-clause-resolved c = λ P is.
    let made = c.in_ok-op-in-185.ensures in
    let of_tree = subst (λ (classes : Classes). IsProgram classes P) (sym c.tree-in-185.ensures) is in
    subst (λ (op : CallOp). HasParameters op × IsFoundByReceiver P Interface op op.found) (sym c.in_ok-new-in-185.ensures.ok)
    (made.parameters, made.resolved P Interface of_tree)
