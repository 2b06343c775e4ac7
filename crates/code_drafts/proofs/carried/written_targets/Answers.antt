use Rattle.std.proofs.Common.{sym, ap, ◌∙◌}
use Rattle.std.proofs.lemmas.Result.{IfOk-weaker}
use Rattle.code_drafts.specs.Laws.LedRoutes.{instr_is}
use Rattle.code_drafts.proofs.carried.written_targets.Goals as goal
use Rattle.code_drafts.specs.Emits.{Writing}
use Rattle.flow_code.specs.declared.point.FlatInstr.{FlatInstr}
use Rattle.plan_flow.specs.PlanTable.{targets_at}
use Rattle.plan_flow.specs.Written.Templates.{jump_targets}

pub returns-in-Some : goal.returns-in-Some
returns-in-Some c =
    IfOk-weaker c.targets_of.result _ _
    (λ list leads links point route are there here.
    leads links route are here
    ∙ ap (λ (i : FlatInstr). jump_targets c.args.at route 0 (targets_at i))
    (sym (instr_is c.setting.inside.flat.now c.args.setting.now c.args.at point c.in-Some.instr.now c.in-Some.ensures (ap (λ (one : Writing). one.flat) c.setting.view_is) there)))
    c.targets_of.ensures
