use Rattle.std.proofs.Common.{sym, subst}
use Rattle.never_stuck.proofs.TypedRuns.{verified_not_stuck}
use Rattle.never_stuck.proofs.runs.a_verified_run_is_never_stuck.Goals as goal
use Rattle.member_link.specs.Machine.Programs.{Program}
use Rattle.typed_runs.specs.TypedPrograms.{IsTypedProgram}

pub returns : goal.returns
returns c = λ P actions count is verified.
    verified_not_stuck
    (record {
      starts = c.a_run_starts_typed.ensures;
      steps = c.a_step_stays_typed.ensures;
      acts = c.an_action_stays_typed.ensures;
    }) c.args.tree.now P is
    (λ some.
    let typed = c.a_verified_folder_is_a_typed_program.ensures c.args.tree.now verified.typed is.links verified.tree verified.linked verified.types is.are_links some in
    (typed.0, subst (λ (p : Program). IsTypedProgram p typed.0) (sym is.same) typed.1)) actions count
