use Rattle.std.proofs.Common.{◌≡◌, ◌∙◌, ℕ, ap}
use Rattle.std.proofs.lemmas.Result.{err_from_is_err_and}
use Rattle.class_model.specs.ClassOf.{bootstrap_index_checks}
use Rattle.class_model.specs.Methods.{bootstrap_count}
use Rattle.class_model.specs.Pool.{Constants}
use Rattle.class_bytes.specs.Inner.Cut.{class_of}
use Rattle.class_bytes.specs.Inner.Parts.{behind_checks}
use Rattle.class_bytes.proofs.ClassParts.{flags_at, entries_stop, behind_stops, dynamics_stop, all_told, same_fault}
use Rattle.class_bytes.proofs.class_checks.check_class.Goals as goal

pub returns-in_err-check : goal.returns-in_err-check
returns-in_err-check c =
    let class = class_of c.args.raw.now c.args.body.now in
    let p = err_from_is_err_and c.from_residual.result c.from_residual.ensures.1 in
    rw (p.1, p.2) (entries_stop class (λ (done : Unit {0}). Unit {0}) (λ (pool : Constants). pool ≡ c.args.raw.now) c.in_err-check.field-0.0 c.in_err-check.ensures.told)

pub returns-in_err-bootstraps : goal.returns-in_err-bootstraps
returns-in_err-bootstraps c =
    let class = class_of c.args.raw.now c.args.body.now in
    let p = err_from_is_err_and c.from_residual-in_err-bootstraps.result c.from_residual-in_err-bootstraps.ensures.1 in
    let same =
    ap (λ (pool : Constants). behind_checks c.args.flags_at (class_of pool c.args.body.now)) c.in_ok-pool.ensures
    ∙ ap (λ (n : ℕ). behind_checks n class) c.requires.place in
    let Is = λ (count : ℕ). count ≡ bootstrap_count c.in_ok-pool.pool class.attrs in
    let Other = λ (pool : Constants). pool ≡ c.args.raw.now in
    let e = c.in_err-bootstraps.field-0.0 in
    rw (p.1, p.2) (behind_stops class c.in_ok-check.ensures.told.0 Is Other e (same_fault _ (behind_checks (flags_at class) class) Is Is e same c.in_err-bootstraps.ensures))

pub returns-in_err-check_dynamics : goal.returns-in_err-check_dynamics
returns-in_err-check_dynamics c =
    let class = class_of c.args.raw.now c.args.body.now in
    let p = err_from_is_err_and c.from_residual-in_err-check_dynamics.result c.from_residual-in_err-check_dynamics.ensures.1 in
    let behind = rw (c.in_ok-pool.ensures, c.requires.place) at c.in_ok-bootstraps.ensures in
    let same = ap (λ (n : ℕ). bootstrap_index_checks n 10 class.pool) behind.1 in
    let Is = λ (done : Unit {0}). Unit {0} in
    let Other = λ (pool : Constants). pool ≡ c.args.raw.now in
    let e = c.in_err-check_dynamics.field-0.0 in
    rw (p.1, p.2) (dynamics_stop class c.in_ok-check.ensures.told.0 behind.0 Is Other e (same_fault (bootstrap_index_checks c.in_ok-bootstraps.bootstraps 10 class.pool) _ Is Is e same c.in_err-check_dynamics.ensures.told))

pub returns : goal.returns
returns c =
    let class = class_of c.args.raw.now c.args.body.now in
    let behind = rw (c.in_ok-pool.ensures, c.requires.place) at c.in_ok-bootstraps.ensures in
    (all_told class c.in_ok-check.ensures.told.0 behind.0 (rw behind.1 at c.in_ok-check_dynamics.ensures.told).0, c.in_ok-pool.ensures)
