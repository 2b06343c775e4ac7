use Rattle.std.proofs.Common.{◌≡◌, ◌++◌, ◌≤◌, ℕ, length, map, reverse, take}
use Rattle.expanded_code.specs.Expanded.{Setting, frame_behind_stores, store_points}
use Rattle.inline_expand.proofs.expanded.entries.push_stores.Given as goal
use Rattle.inline_expand.specs.Inner.Layouts.{argument_from}
use Rattle.inline_expand.specs.Inner.Settings.{IsSpot}

abbrev pub invariant-loop-left : goal.invariant-loop-left
invariant-loop-left l = record {
  within : l.left ≤ length l.parameters;
  points : (t : Setting) (at : ℕ)
      → IsSpot t at l.spot
      → l.points.items ++ store_points t at l.frame (reverse (map (argument_from l.unit) (take l.left l.parameters)))
      ≡ l.fn.points.items ++ store_points t at l.fn.frame (reverse (map (argument_from l.unit) l.parameters));
  behind : frame_behind_stores l.frame (reverse (map (argument_from l.unit) (take l.left l.parameters)))
      ≡ frame_behind_stores l.fn.frame (reverse (map (argument_from l.unit) l.parameters));
}

abbrev pub decreases-loop-left : goal.decreases-loop-left
decreases-loop-left l = l.left
