use Rattle.std.proofs.Common.{◌≡◌, ◌∷◌, ◌++◌, ◌+◌, ◌≤◌, ℕ, List, [], length, map, sym, ap, ◌∙◌, take, arith}
use Rattle.std.proofs.lemmas.List.{length-map, length-take-le, map-append}
use Rattle.class_model.specs.Laws.Lists.{take_item}
use Rattle.class_model.specs.declared.frame.VType.{VType}
use Rattle.expanded_code.specs.Expanded.{overlaid, set_type}
use Rattle.inline_expand.proofs.Overlays.{laid-more}
use Rattle.inline_expand.proofs.expanded.frames.set_locals.Goals as goal
use Rattle.inline_expand.specs.Inner.Frames.{put_at}
use Rattle.inline_expand.specs.Inner.Settings.{setting_of}

pub put-requires : goal.put-requires
put-requires c = omega (arith, c.requires, c.loop-at-test.true, c.written_units-at-end.ensures.few, c.from-unit.ensures)

pub loop-at-preserved : goal.loop-at-preserved
loop-at-preserved c =
    let s = c.args.setting.now in
    let f = set_type (setting_of s) in
    let own = c.args.own.now in
    let below = s.below.locals in
    let at = c.loop-at.at in
    let type = c.in-Some.type_.now in
    let first = map f (take at own) in
    let few : at ≤ length own = omega (arith, c.loop-at-test.true, c.written_units-at-end.ensures.few) in
    let long : length first ≡ at = length-map (take at own) f ∙ length-take-le at own few in
    let more : map f (take (at + 1) own) ≡ first ++ f type ∷ [] = ap (map f) (take_item own at type (sym c.in-Some.ensures)) ∙ map-append f (take at own) (type ∷ []) in
    c.in_ok-put.ensures
    ∙ ap (λ (list : List VType). put_at list (c.from-unit.result + at) c.in_ok-type_of.field-0) c.loop-at.invariant
    ∙ ap (λ (unit : ℕ). put_at (overlaid s.unit first below) (unit + at) c.in_ok-type_of.field-0) c.from-unit.ensures
    ∙ ap (put_at (overlaid s.unit first below) (s.unit + at)) c.in_ok-type_of.ensures
    ∙ ap (λ (n : ℕ). put_at (overlaid s.unit first below) (s.unit + n) (f type)) (sym long)
    ∙ laid-more s.unit first below (f type)
    ∙ ap (λ (all : List VType). overlaid s.unit all below) (sym more)
