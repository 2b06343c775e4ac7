use Rattle.std.proofs.Common.{◌≡◌, ℕ, ◌+◌, List, ◌∷◌, [], ◌++◌, take, Some, Vec, Global, ap, sym, ◌∙◌, arith}
use Rattle.std.specs.List.{slice_get}
use Rattle.class_model.specs.Laws.Lists.{take_item, none_behind}
use Rattle.class_model.specs.declared.frame.VType.{VType}
use Rattle.map_frames.proofs.local_units.listed_units.Goals as goal
use Rattle.map_frames.proofs.local_units.listed_units.Goals.{in-Some+in_ok-copy+in_ok-push, in_default}

next_copied : (types now after : List VType) (at : ℕ) (unit copy : VType) → slice_get types at ≡ Some unit → copy ≡ unit → now ≡ take at types → after ≡ now ++ copy ∷ [] → after ≡ take (at + 1) types
next_copied types now after at unit copy is same so_far pushed = rw (pushed, so_far, same) (sym (take_item types at unit is))

pub loop-at-preserved : goal.loop-at-preserved
loop-at-preserved c =
    elim c.match-get.branch [
      | in-Some+in_ok-copy+in_ok-push w ↦
          let items = w.in_ok-push.ensures.items in
          ap (λ (v : Vec VType Global). v.items) w.units-is ∙ next_copied c.args.locals.now c.loop-at.units.items w.push.new.self.items c.loop-at.at w.in-Some.unit.now w.in_ok-copy.field-0 (sym w.in-Some.ensures) w.in_ok-copy.ensures c.loop-at.invariant items
      | in_default w ↦ absurd (omega (arith, none_behind c.args.locals.now c.loop-at.at (sym w.in_default.ensures)))
    ]
