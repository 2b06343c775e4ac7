use Rattle.std.proofs.Common.{w32}
use Rattle.std.proofs.lemmas.Int.{to_z-of_z}
use Rattle.machine_code.proofs.Switches.{is_gap, target_within, target_past}
use Rattle.machine_code.proofs.jumps.table_target.Goals as goal

pub returns-then-at-targets : goal.returns-then-at-targets
returns-then-at-targets c =
    target_within c.args.low c.args.other c.args.targets.now c.args.key _
    (is_gap _ _ _ _ _ (to_z-of_z w32 c.args.low c.ranges.low)
    (to_z-of_z w32 c.args.key c.ranges.key) c.if-key-low.false c.abs_diff-at.ensures)
    c.if-at-targets.true

pub returns-else-at-targets : goal.returns-else-at-targets
returns-else-at-targets c =
    target_past c.args.low c.args.other c.args.targets.now c.args.key _
    (is_gap _ _ _ _ _ (to_z-of_z w32 c.args.low c.ranges.low)
    (to_z-of_z w32 c.args.key c.ranges.key) c.if-key-low.false c.abs_diff-at.ensures)
    c.if-at-targets.false
