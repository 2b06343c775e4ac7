use Rattle.std.proofs.Common.{◌≡◌, Option, subst}
use Rattle.class_model.specs.declared.frame.Frame.{Frame}
use Rattle.member_link.specs.RowScope.{RowScope}
use Rattle.row_frames.proofs.Pushing.{if_ok, in_scope}
use Rattle.row_frames.proofs.table.frame_behind.Goals as goal
use Rattle.row_frames.specs.Behind.{IsBehind}
use Rattle.row_frames.specs.Inner.Scopes.{scope_with}

pub returns : goal.returns
returns c =
    let pool = c.args.pool.now in
    let own = c.args.own.now in
    let f = c.args.before.now in
    let number = c.args.number in
    let instr = c.args.instr.now in
    if_ok (λ (frame : Option Frame). (s : RowScope) → IsBehind (scope_with s pool own) f number instr frame)
    (λ (frame : Option Frame). (s : RowScope) → s.pool ≡ pool → s.own.name ≡ own → IsBehind s f number instr frame)
    c.behind.result
    (λ frame told s pool_is own_is. subst (λ (scope : RowScope). IsBehind scope f number instr frame) (in_scope s pool own pool_is own_is) (told s))
    c.behind.ensures
