use Rattle.std.proofs.Common.{IsTrue, refl, true}
use Rattle.member_link.specs.Rows.Table.{new_row}
use Rattle.type_rules.proofs.RowSteps.{no_needs, concluded_row}
use Rattle.type_rules.proofs.objects.new_object.Goals as goal
use Rattle.member_link.specs.Scope.{row_scope}

pub returns : goal.returns
returns c =
    let s = row_scope c.args.step.now.rules.now in
    let f = c.args.step.now.before.now in
    let row = new_row f c.args.at in
    let is_first = c.has_none_made-is_first in
    concluded_row s f row c.in_ok-stack.stack c.in_ok-locals.locals (IsTrue is_first.result) (IsTrue true) c.conclude.result (no_needs s f.stack) tt refl c.in_ok-stack.ensures c.in_ok-locals.ensures (λ h. (is_first.ensures.0 h.0, tt)) (λ h. (is_first.ensures.1 h.0, refl)) c.conclude.ensures
