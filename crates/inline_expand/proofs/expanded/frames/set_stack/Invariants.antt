use Rattle.std.proofs.Common.{◌≡◌, ◌++◌, map, take}
use Rattle.expanded_code.specs.Expanded.{set_type}
use Rattle.inline_expand.proofs.expanded.frames.set_stack.Given as goal
use Rattle.inline_expand.specs.Inner.Settings.{setting_of}

abbrev pub invariant-loop-type_ : goal.invariant-loop-type_
invariant-loop-type_ l = l.stack.items ≡ take l.type_-index l.type_-items

abbrev pub invariant-loop-type_-2 : goal.invariant-loop-type_-2
invariant-loop-type_-2 l = l.stack.items ≡ l.setting.below.stack ++ map (set_type (setting_of l.setting)) (take l.type_-index l.type_-items)
