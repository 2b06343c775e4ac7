use Rattle.std.proofs.Common.{◌≡◌, ◌<◌, ◌++◌, ◌∷◌, [], List, length, take, refl, sym, ap, ◌∙◌, arith}
use Rattle.std.proofs.lemmas.Option.{slice_get_read}
use Rattle.class_model.specs.declared.instr.Placed.{Placed}
use Rattle.expanded_code.specs.Alone.{alone_points}
use Rattle.flow_code.specs.declared.point.Point.{Point}
use Rattle.inline_expand.proofs.AlonePoints.{points-more}
use Rattle.inline_expand.proofs.alone.points_of.Goals as goal

pub loop-number-preserved : goal.loop-number-preserved
loop-number-preserved c =
    let s = c.args.host.now in
    let class = c.args.class in
    let instrs = c.instrs-instrs.result.now in
    let frames = c.args.frames.now in
    let number = c.loop-number.number in
    let placed = c.index-instrs-number.result in
    let frame = c.index-frames-number.result in
    let within : number < length instrs = omega (arith, c.loop-number-test.true) in
    let as-many : length frames ≡ length instrs = c.requires ∙ ap (λ (all : List Placed). length all) (sym c.instrs-instrs.ensures) in
    let placed_is = slice_get_read instrs (length instrs) number placed refl within c.index-instrs-number.is in
    let frame_is = slice_get_read frames (length instrs) number frame (sym as-many) within c.index-frames-number.is in
    let made = alone_points s class (take number instrs) (take number frames) in
    let before = ap (λ (all : List Point). all ++ c.in_ok-point.field-0 ∷ []) c.loop-number.invariant.0 in
    let last = ap (λ (one : Point). made ++ one ∷ []) c.in_ok-point.ensures in
    (c.in_ok-push.ensures.items ∙ (before ∙ (last ∙ sym (points-more s class instrs frames number placed frame placed_is frame_is))), c.in_ok-around.ensures.around)
