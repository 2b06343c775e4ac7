use Rattle.std.proofs.Common.{◌++◌, List, sym, ap, ◌∙◌, arith}
use Rattle.std.proofs.lemmas.Result.{on_ok_weaker}
use Rattle.class_model.specs.declared.frame.Frame.{Frame}
use Rattle.flow_code.specs.declared.point.Point.{Point}
use Rattle.inline_expand.proofs.MethodParts.{own-host}
use Rattle.inline_expand.proofs.expanded.points.push_own.Goals as goal
use Rattle.inline_expand.specs.Inner.Settings.{own_point, setting_of}

pub set_frame-requires : goal.set_frame-requires
set_frame-requires c = omega (arith, c.requires.stays.units, c.requires.long)

pub returns-in-None : goal.returns-in-None
returns-in-None c =
    let t = setting_of c.args.setting.now in
    let before = c.args.points.now.items in
    let placed = c.args.placed.now in
    on_ok_weaker c.push_set.result (λ pushed spot.
    pushed spot
    ∙ ap (λ (typed : Frame). before ++ own_point t placed typed) c.in_ok-typed.ensures
    ∙ ap (λ (points : List Point). before ++ points) (sym (own-host c.args.setting.now placed c.args.frame.now c.in-None.is))) c.push_set.ensures
