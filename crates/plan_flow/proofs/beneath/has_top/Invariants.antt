use Rattle.std.proofs.Common.{◌≡◌, false, take}
use Rattle.std.specs.List.{list_any}
use Rattle.class_model.specs.Frames.{is_top}
use Rattle.plan_flow.proofs.beneath.has_top.Given as goal

abbrev pub invariant-loop-one : goal.invariant-loop-one
invariant-loop-one l = list_any is_top (take l.one-index l.types) ≡ false
