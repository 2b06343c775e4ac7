use Rattle.never_stuck.proofs.TypedByFrames.{stays_typed_by}
use Rattle.never_stuck.proofs.TypedSteps.{act_not_stuck, act_typed}
use Rattle.never_stuck.proofs.steps.acts_typed.Goals as goal

pub returns-clause-typed : goal.returns-clause-typed
returns-clause-typed c =
    act_typed c.args.tree.now c.args.world.now.world c.act.new.world.world c.args.action.now c.a_world_goes_on.ensures c.requires.turn
    c.an_action_stays_typed.ensures c.act.result c.act.ensures.acted

pub returns-clause-not_stuck : goal.returns-clause-not_stuck
returns-clause-not_stuck c =
    act_not_stuck c.args.tree.now c.args.world.now.world c.act.new.world.world c.args.action.now c.a_world_goes_on.ensures
    c.requires.turn c.an_action_stays_typed.ensures c.act.result c.act.ensures.acted

pub returns-clause-by_frames : goal.returns-clause-by_frames
returns-clause-by_frames c =
    stays_typed_by c.args.tree.now c.args._typed.now c.args.world.now.world c.act.new.world.world c.folder.ensures.tree
    c.a_verified_folder_is_a_typed_program.ensures c.act.result (returns-clause-typed c)
