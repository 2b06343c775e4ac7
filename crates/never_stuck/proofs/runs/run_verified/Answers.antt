use Rattle.never_stuck.proofs.TypedRuns.{shown_not_stuck}
use Rattle.never_stuck.proofs.runs.run_verified.Goals as goal

pub returns-clause-never_stuck : goal.returns-clause-never_stuck
returns-clause-never_stuck c =
    shown_not_stuck c.args.tree.now c.args.actions.now c.args.steps
    (λ P is. c.a_verified_run_is_never_stuck.ensures P c.args.actions.now c.args.steps is (record {
      tree = c.folder.ensures.tree;
      linked = c.requires.linked;
      typed = c.args._typed.now;
      types = c.requires.typed;
    })) c.run.result c.run.ensures
