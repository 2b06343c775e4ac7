use Rattle.std.proofs.Common.{◌≡◌, ◌∷◌, ◌++◌, ◌+◌, ◌-◌, ◌<◌, ◌≤◌, ℕ, List, [], length, map, refl, reverse, sym, ap, ◌∙◌, take, arith, append_assoc}
use Rattle.std.proofs.lemmas.Option.{slice_get_read}
use Rattle.class_model.specs.Laws.Lists.{at_index}
use Rattle.class_model.specs.declared.frame.Frame.{Frame}
use Rattle.class_model.specs.declared.instr.Instr.TheVariants.{Store}
use Rattle.expanded_code.specs.Expanded.{Argument, frame_behind_stores, frame_stored, point_in, store_points}
use Rattle.flow_code.specs.declared.point.Point.{Point}
use Rattle.inline_expand.proofs.FrameParts.{last-first}
use Rattle.inline_expand.proofs.expanded.entries.push_stores.Goals as goal
use Rattle.inline_expand.specs.Inner.Layouts.{argument_from}
use Rattle.inline_expand.specs.declared.expanded.shapes.Parameter.{Parameter}

pub push_store-requires : goal.push_store-requires
push_store-requires c =
    let parameters = c.args.parameters.now in
    let next = c.loop-left.left - 1 in
    let parameter = c.in-Some.parameter.now in
    let inside : next < length parameters = omega (arith, c.loop-left.invariant.within, c.loop-left-test.true) in
    at_index (λ (p : Parameter). c.args.unit + p.unit ≤ 65535) parameters next parameter c.requires (slice_get_read parameters (length parameters) next parameter refl inside c.in-Some.ensures.lookup.1)

pub loop-left-preserved : goal.loop-left-preserved
loop-left-preserved c =
    let f = argument_from c.args.unit in
    let parameters = c.args.parameters.now in
    let next = c.loop-left.left - 1 in
    let parameter = c.in-Some.parameter.now in
    let before = c.loop-left.points.items in
    let frame = c.loop-left.frame in
    let rest = reverse (map f (take next parameters)) in
    let inside : next < length parameters = omega (arith, c.loop-left.invariant.within, c.loop-left-test.true) in
    let found = slice_get_read parameters (length parameters) next parameter refl inside c.in-Some.ensures.lookup.1 in
    let more : c.loop-left.left ≡ next + 1 = omega (arith, c.loop-left-test.true) in
    let all : reverse (map f (take c.loop-left.left parameters)) ≡ f parameter ∷ rest =
    ap (λ (n : ℕ). reverse (map f (take n parameters))) more ∙ last-first f parameters next parameter found in
    record {
      within = omega (arith, c.loop-left.invariant.within);
      points = λ t at is.
          ap (λ (items : List Point). items ++ store_points t at c.in_ok-frame.frame rest) (c.in_ok-frame.ensures.point t at is)
          ∙ ap (λ (behind : Frame). (before ++ point_in t at frame (Store parameter.kind (c.args.unit + parameter.unit)) ∷ []) ++ store_points t at behind rest) c.in_ok-frame.ensures.behind
          ∙ append_assoc before (point_in t at frame (Store parameter.kind (c.args.unit + parameter.unit)) ∷ []) (store_points t at (frame_stored frame (f parameter)) rest)
          ∙ ap (λ (arguments : List Argument). before ++ store_points t at frame arguments) (sym all)
          ∙ c.loop-left.invariant.points t at is;
      behind =
          ap (λ (behind : Frame). frame_behind_stores behind rest) c.in_ok-frame.ensures.behind
          ∙ ap (frame_behind_stores frame) (sym all)
          ∙ c.loop-left.invariant.behind;
    }
