-- The class file behind its version is its pool and what stands behind that.
use Rattle.std.proofs.Common.{◌≡◌, Ok, Err, refl, ◌∙◌}
use Rattle.class_model.specs.Checks.{◌>>=◌, Fault}
use Rattle.class_model.specs.Cutting.{Rest, Version, pool_at, class_file_at, body_at}
use Rattle.class_model.specs.Pool.{Constants}

in_two : (version : Version) (rest : Rest) → class_file_at version rest ≡ (pool_at version.major rest >>= λ pool. body_at version pool.0 pool.1)
in_two version rest = refl

pub behind_pool : (version : Version) (rest : Rest) (pool : Constants) (after : Rest) → pool_at version.major rest ≡ Ok (pool, after) → class_file_at version rest ≡ body_at version pool after
behind_pool version rest pool after cut = in_two version rest ∙ rw cut refl

-- where the pool fails, the class file does
pub no_pool : (version : Version) (rest : Rest) (f : Fault) → pool_at version.major rest ≡ Err f → class_file_at version rest ≡ Err f
no_pool version rest f none = rw none refl
