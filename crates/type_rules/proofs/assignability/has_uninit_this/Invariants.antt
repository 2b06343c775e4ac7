use Rattle.std.proofs.Common.{◌≡◌, take, false}
use Rattle.std.specs.List.{list_any}
use Rattle.member_link.specs.Rows.FrameAssignability.{is_uninit_this}
use Rattle.type_rules.proofs.assignability.has_uninit_this.Given as goal

abbrev pub invariant-loop-at : goal.invariant-loop-at
invariant-loop-at l = list_any is_uninit_this (take l.at l.locals) ≡ false
