use Rattle.std.proofs.Common.{◌∙◌, [], append-nil, subst, sym}
use Rattle.class_model.specs.Checks.{AllHold}
use Rattle.class_model.specs.ClassOf.{class_file_checks}
use Rattle.class_model.specs.Methods.{bootstrap_count}
use Rattle.class_model.specs.Pool.{Constants}
use Rattle.class_model.specs.PoolChecks.{entries_checks}
use Rattle.written_files.proofs.GrownPools.{adds_all}
use Rattle.written_files.proofs.laws.a_grown_pool_passes.Goals as goal

pub returns-clause-added : goal.returns-clause-added
returns-clause-added c = λ major limit pool grown needs sound is.
    adds_all c.constants_compare_by_value.ensures major limit needs sound pool grown is

pub returns-clause-class : goal.returns-clause-class
returns-clause-class c = λ limit class grown needs holds sound is.
    let adds = adds_all c.constants_compare_by_value.ensures class.major limit needs sound class.pool grown is in
    subst (λ (pool : Constants). AllHold (class_file_checks (record class { pool = pool }))) (sym adds.is)
    (c.a_class_file_holds_over_a_grown_pool.ensures class adds.added 0 0 holds
    (subst (λ (pool : Constants). AllHold (entries_checks class.major pool 0 adds.added)) (append-nil _ ∙ adds.is) (adds.pass [] 0))
    (adds.calls (bootstrap_count class.pool class.attrs) 0))
