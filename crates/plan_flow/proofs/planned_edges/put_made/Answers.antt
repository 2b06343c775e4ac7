use Rattle.std.proofs.Common.{sym, ◌∙◌}
use Rattle.std.specs.BTreeMap.{get}
use Rattle.std.specs.Ordering.{nat_cmp}
use Rattle.plan_flow.proofs.OwnPlans.{put_empty, put_some}
use Rattle.plan_flow.proofs.planned_edges.put_made.Goals as goal

pub returns-then-is_empty : goal.returns-then-is_empty
returns-then-is_empty c = λ at. put_empty c.args.to at c.args.sites (get nat_cmp c.args.made.now at) (sym c.is_empty.ensures ∙ c.if-is_empty.true)

pub returns : goal.returns
returns c = λ at.
    c.in_ok-insert.ensures.updates.0 at ∙ put_some c.args.to at c.args.sites (get nat_cmp c.args.made.now at) (sym c.is_empty.ensures ∙ c.if-is_empty.false)
