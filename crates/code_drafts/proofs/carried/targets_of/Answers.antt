use Rattle.std.proofs.Common.{sym, ◌∙◌}
use Rattle.code_drafts.proofs.CarriedLaws.{targets_end, targets_next}
use Rattle.code_drafts.proofs.carried.targets_of.Goals as goal
use Rattle.plan_flow.specs.PlanTable.{targets_at}

pub loop-to-preserved : goal.loop-to-preserved
loop-to-preserved c = λ links route are here.
    targets_next c.args.at route (targets_at c.args.instr.now) c.loop-to.list c.push.new.self c.loop-to.number c.in-Some.to c.target_behind.result
    (c.loop-to.invariant links route are here) (sym c.target.ensures ∙ c.in-Some.is) (c.target_behind.ensures links route are here) c.in_ok-push.ensures.ok

pub returns : goal.returns
returns c = λ links route are here.
    targets_end c.args.at route (targets_at c.args.instr.now) c.loop-to.list c.loop-to.number (c.loop-to.invariant links route are here) (sym c.target.ensures ∙ c.in_default.is)
