use Rattle.std.proofs.Common.{◌≡◌, map, take}
use Rattle.expanded_code.specs.Expanded.{overlaid, set_type}
use Rattle.inline_expand.proofs.expanded.frames.set_locals.Given as goal
use Rattle.inline_expand.specs.Inner.Settings.{setting_of}

abbrev pub invariant-loop-at : goal.invariant-loop-at
invariant-loop-at l = l.list ≡ overlaid l.setting.unit (map (set_type (setting_of l.setting)) (take l.at l.own)) l.setting.below.locals
