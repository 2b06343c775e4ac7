use Rattle.std.proofs.Common.{sym, ◌∙◌}
use Rattle.code_emit.proofs.EdgeLaws.{no_sites}
use Rattle.code_emit.proofs.PadLaws.{below_all, below_first, below_more}
use Rattle.code_emit.proofs.pads.may_make.Goals as goal

pub loop-number-init : goal.loop-number-init
loop-number-init c = below_first c.args.plan.now c.args.at

pub returns-in_default : goal.returns-in_default
returns-in_default c = λ told.
    below_all c.args.plan.now c.args.at c.loop-number.number c.edge.result c.loop-number.invariant c.edge.ensures c.in_default.is

pub loop-number-preserved : goal.loop-number-preserved
loop-number-preserved c =
    below_more c.args.plan.now c.args.at c.loop-number.number c.edge.result c.in-Some.edge c.loop-number.invariant c.edge.ensures c.in-Some.is
    (no_sites c.in-Some.edge.made.now (sym c.is_empty.ensures ∙ c.if-not-is_empty.false))
