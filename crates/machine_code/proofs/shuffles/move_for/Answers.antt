use Rattle.machine_code.proofs.WidthMoves.{dup2_x1_is, dup2_x2_is}
use Rattle.machine_code.proofs.shuffles.move_for.Goals as goal

pub returns-in-93 : goal.returns-in-93
returns-in-93 c =
    dup2_x1_is c.args.opcode _ _ _ _ _ c.in-93.is c.wide_at-in-93.ensures
    c.wide_at-in-93-2.ensures c.wide_at-in-93-3.ensures c.dup2_x1_move.ensures

pub returns-in-94 : goal.returns-in-94
returns-in-94 c =
    dup2_x2_is c.args.opcode _ _ _ _ _ _ c.in-94.is c.wide_at-in-94.ensures
    c.wide_at-in-94-2.ensures c.wide_at-in-94-3.ensures c.wide_at-in-94-4.ensures
    c.dup2_x2_move.ensures
