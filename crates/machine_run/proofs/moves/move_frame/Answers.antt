use Rattle.std.proofs.Common.{refl}
use Rattle.machine_run.proofs.WorkOps.{step_works}
use Rattle.machine_run.proofs.moves.move_frame.Goals as goal

pub returns-in_default : goal.returns-in_default
returns-in_default c = record {
  moved = λ P w rest. step_works P w c.args.frame.now rest c.args.op.now
      (record {
        not_nop = c.in_default.not-Nop;
        not_meaningless = c.in_default.not-Meaningless;
        not_load = c.in_default.not-Load;
        not_store = c.in_default.not-Store;
        not_increment = c.in_default.not-Increment;
        not_shuffle = c.in_default.not-Shuffle;
        not_jump_int = c.in_default.not-JumpInt;
        not_jump_ints = c.in_default.not-JumpInts;
        not_jump_references = c.in_default.not-JumpReferences;
        not_jump_null = c.in_default.not-JumpNull;
        not_jump = c.in_default.not-Jump;
        not_table = c.in_default.not-Table;
        not_lookup = c.in_default.not-Lookup;
        not_return = c.in_default.not-ReturnNothing;
        not_return_value = c.in_default.not-ReturnValue;
      });
  stays = refl;
}
