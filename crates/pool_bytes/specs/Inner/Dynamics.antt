-- What a constant is asked of the bootstrap methods (JVM Specification SE 8, 4.4.10).
use Rattle.std.specs.Prelude.{◌<◌, ℕ, List, [], ◌∷◌}
use Rattle.class_model.specs.Checks.{Check, check, Fault}
use Rattle.class_model.specs.declared.fault.FileRule.TheVariants as rules
use Rattle.class_model.specs.declared.pool.Const.{Const}
use Rattle.class_model.specs.declared.pool.Const.TheVariants.{InvokeDynamic}

-- a dynamic call names one of so many; its place is that of the constant
abbrev pub constant_bootstrap_checks : ℕ → ℕ → Const → List (Check Fault)
constant_bootstrap_checks count at (InvokeDynamic bootstrap member) =
    check at rules.Index (bootstrap < count) ∷ []
constant_bootstrap_checks count at other = []
