-- Words of a method in its place.
use Rattle.std.specs.Prelude.{◌≡◌, ◌<◌, ◌≤◌, ℕ, List, [], ◌∷◌, ◌++◌, map, Option, Some, None, option_map}
use Rattle.class_model.specs.declared.frame.Frame.{Frame}
use Rattle.class_model.specs.declared.instr.Placed.{Placed}
use Rattle.expanded_code.specs.Alone.{handlers_by, number_at}
use Rattle.expanded_code.specs.Expanded.{Setting, class_of, point_in, set_instr}
use Rattle.flow_code.specs.declared.handlers.FlatHandler.{FlatHandler}
use Rattle.flow_code.specs.declared.point.Point.{Point}
use Rattle.inline_expand.specs.Inner.Layouts.{narrowing_of}
use Rattle.inline_expand.specs.Inner.Numbers.{placed_by}
use Rattle.inline_expand.specs.Inner.Steps.{coded_of}
use Rattle.inline_expand.specs.declared.expanded.settings.Call.{Call}
use Rattle.inline_expand.specs.declared.expanded.settings.Setting.{Setting as Placing}
use Rattle.inline_expand.specs.declared.expanded.settings.Spot.{Spot}
use Rattle.inline_expand.specs.declared.expanded.shapes.Narrowed.{Narrowed}
use Rattle.inline_expand.specs.declared.handlers.Around.{Around}

-- a callee has the handlers of its call
abbrev pub caught_by : Option Call → (ℕ → List FlatHandler) → ℕ → List FlatHandler
caught_by None own = own
caught_by (Some call) own = λ at. call.handlers

abbrev pub number_in : Placing → ℕ → ℕ
number_in s at = placed_by s.starts.now s.base (number_at s.body.now.host at)

abbrev pub setting_of : Placing → Setting
setting_of s = record {
  coded = coded_of s.body.now;
  number = number_in s;
  unit = s.unit;
  below = s.below;
  this = s.this;
  handlers = caught_by s.call (handlers_by s.body.now.host (number_in s));
  behind = option_map (λ call. call.behind) s.call;
}

-- its class and its handlers are those of a method's instruction at an offset
pub record IsSpot (t : Setting) (at : ℕ) (spot : Spot) : Type 0 where
  pub class : spot.class ≡ class_of t
  pub handlers : spot.handlers.now ≡ t.handlers at

-- those of its instructions
abbrev pub AreCaught : Placing → Around → Type 0
AreCaught s around =
    (at : ℕ)
    → around.from ≤ at
    → at < around.until
    → (setting_of s).handlers at ≡ around.handlers

-- what narrows a result behind a frame
abbrev pub narrowed_points : Setting → ℕ → Frame → Narrowed → List Point
narrowed_points t at typed narrowed =
    map (λ n. point_in t at (record typed { stack = typed.stack ++ n.above }) n.instr)
    (narrowing_of narrowed)

-- an instruction that stays one point
abbrev pub own_point : Setting → Placed → Frame → List Point
own_point t placed typed = point_in t placed.at typed (set_instr t placed.instr) ∷ []
