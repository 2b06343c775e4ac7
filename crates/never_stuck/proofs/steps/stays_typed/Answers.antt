use Rattle.never_stuck.proofs.TypedByFrames.{stays_typed_by}
use Rattle.never_stuck.proofs.TypedSteps.{step_not_stuck, step_typed}
use Rattle.never_stuck.proofs.steps.stays_typed.Goals as goal

pub returns-clause-typed : goal.returns-clause-typed
returns-clause-typed c =
    step_typed c.args.tree.now c.args.world.now.world c.step.new.world.world c.a_world_goes_on.ensures c.a_step_stays_typed.ensures
    c.step.result c.step.ensures.stepped

pub returns-clause-not_stuck : goal.returns-clause-not_stuck
returns-clause-not_stuck c =
    step_not_stuck c.args.tree.now c.args.world.now.world c.step.new.world.world c.a_world_goes_on.ensures c.a_step_stays_typed.ensures
    c.step.result c.step.ensures.stepped

pub returns-clause-by_frames : goal.returns-clause-by_frames
returns-clause-by_frames c =
    stays_typed_by c.args.tree.now c.args._typed.now c.args.world.now.world c.step.new.world.world c.folder.ensures.tree
    c.a_verified_folder_is_a_typed_program.ensures c.step.result (returns-clause-typed c)
