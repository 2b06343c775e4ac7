use Rattle.std.proofs.Common.{◌≡◌, Option, IfOk, sym, subst, refl}
use Rattle.class_model.specs.declared.frame.Frame.{Frame}
use Rattle.class_model.specs.declared.instr.Instr.{Instr}
use Rattle.class_model.specs.declared.instr.Instr.TheVariants.{NewMulti, NewRefArray}
use Rattle.member_link.specs.RowScope.{RowScope}
use Rattle.member_link.specs.Rows.ArrayRows.{new_multi_row, new_ref_array_row}
use Rattle.member_link.specs.Rows.Row.{row_frame}
use Rattle.row_frames.proofs.Pushing.{if_ok}
use Rattle.row_frames.proofs.table.behind.Goals as goal
use Rattle.row_frames.specs.Behind.{IsBehind}
use Rattle.row_frames.specs.Inner.Rows.{IsBehindRow}
use Rattle.row_frames.specs.Inner.Scopes.{scope_with}

pub returns-in-NewRefArray : goal.returns-in-NewRefArray
returns-in-NewRefArray c =
    let step = c.args.step.now in
    let f = step.before.now in
    let index = c.in-NewRefArray.index in
    subst (λ (instr : Instr). IfOk c.new_ref_array.result (λ (frame : Option Frame). (s : RowScope)
    → IsBehind (scope_with s step.pool.now step.own.now) f c.args.number instr frame)) (sym c.in-NewRefArray.is)
    (if_ok (λ (frame : Option Frame). (s : RowScope) → IsBehindRow f (new_ref_array_row (scope_with s step.pool.now step.own.now) f index) frame)
    (λ (frame : Option Frame). (s : RowScope) → IsBehind (scope_with s step.pool.now step.own.now) f c.args.number (NewRefArray index) frame)
    c.new_ref_array.result (λ frame is s texts. is s (texts refl)) c.new_ref_array.ensures)

pub returns-in-NewMulti : goal.returns-in-NewMulti
returns-in-NewMulti c =
    let step = c.args.step.now in
    let f = step.before.now in
    let index = c.in-NewMulti.index in
    let dimensions = c.in-NewMulti.dimensions in
    subst (λ (instr : Instr). IfOk c.new_multi.result (λ (frame : Option Frame). (s : RowScope)
    → IsBehind (scope_with s step.pool.now step.own.now) f c.args.number instr frame)) (sym c.in-NewMulti.is)
    (if_ok (λ (frame : Option Frame). (s : RowScope) → frame ≡ row_frame f (new_multi_row (scope_with s step.pool.now step.own.now) f index dimensions))
    (λ (frame : Option Frame). (s : RowScope) → IsBehind (scope_with s step.pool.now step.own.now) f c.args.number (NewMulti index dimensions) frame)
    c.new_multi.result (λ frame is s texts. is s) c.new_multi.ensures)
