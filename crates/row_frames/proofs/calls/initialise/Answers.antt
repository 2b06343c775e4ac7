use Rattle.std.proofs.Common.{◌≡◌, ◌+◌, ℕ, List, length, Option, ap, ◌∙◌}
use Rattle.class_model.specs.Descriptors.{parameters_of}
use Rattle.class_model.specs.declared.frame.Frame.{Frame}
use Rattle.member_link.specs.MemberRefs.{reference_meant}
use Rattle.member_link.specs.RowScope.{RowScope}
use Rattle.member_link.specs.Rows.MemberRows.{init_row}
use Rattle.row_frames.proofs.Pushing.{if_ok, init_leaves, initialised_frame, told_of}
use Rattle.row_frames.proofs.calls.initialise.Goals as goal
use Rattle.row_frames.specs.Inner.Rows.{IsBehindRow}
use Rattle.row_frames.specs.Inner.Scopes.{scope_with}
use Rattle.row_frames.specs.Inner.Stacks.{given}

pub returns-in-Some : goal.returns-in-Some
returns-in-Some c =
    let step = c.args.step.now in
    let f = step.before.now in
    let r = reference_meant c.args.reference.now in
    let gives = c.in-Some.gives in
    let count = c.parameter_count.result in
    let many : count ≡ length (parameters_of r.desc) = c.parameter_count.ensures.is ∙ ap (λ (d : List ℕ). length (parameters_of d)) c.bytes-desc.ensures.same in
    let tells = told_of c.bytes-desc.result.now r.desc c.in_ok-gives.field-0 gives c.bytes-desc.ensures.same c.in-Some.is c.in_ok-gives.ensures in
    if_ok (λ (frame : Option Frame). frame ≡ initialised_frame step.own.now r.class f (count + 1) (given gives))
    (λ (frame : Option Frame). (s : RowScope) → IsBehindRow f (init_row (scope_with s step.pool.now step.own.now) f r) frame)
    c.initialised.result (λ frame is s. init_leaves f (scope_with s step.pool.now step.own.now) r count gives frame many tells is) c.initialised.ensures
