use Rattle.std.proofs.Common.{true, IsTrue, refl, sym, ◌∙◌}
use Rattle.std.proofs.lemmas.List.{append-nil}
use Rattle.member_link.specs.Rows.LocalRows.{store_row}
use Rattle.type_rules.proofs.RowSteps.{concluded_row}
use Rattle.type_rules.proofs.StoredLocals.{popped_stored}
use Rattle.type_rules.proofs.locals.store.Goals as goal
use Rattle.member_link.specs.Scope.{row_scope}

pub returns : goal.returns
returns c =
    let s = row_scope c.args.step.now.rules.now in
    let f = c.args.step.now.before.now in
    let row = store_row f c.args.kind c.args.local in
    let popped = popped_stored f.locals f.stack c.as_slice.result.now c.args.local c.from.result c.in-Some.value.now c.as_slice.ensures c.in-Some.ensures.value c.from.ensures in
    concluded_row s f row c.in_ok-stack.stack c.in_ok-locals.locals (IsTrue true) (IsTrue true) c.conclude.result c.in_ok-takes.ensures (c.has_room.ensures.0 c.if-not-has_room.false) refl (c.in_ok-stack.ensures ∙ sym (append-nil _)) (c.in_ok-locals.ensures ∙ popped) (λ yes. (tt, tt)) (λ always. (refl, refl)) c.conclude.ensures
