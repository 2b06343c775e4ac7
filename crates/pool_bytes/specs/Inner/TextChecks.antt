-- What a constant is asked where texts alone are, as in a library's class file (JVM Specification SE 8, 4.4.7).
use Rattle.std.specs.Prelude.{ℕ, List, [], ◌∷◌}
use Rattle.class_model.specs.Checks.{Check, check, Fault}
use Rattle.class_model.specs.ModifiedUtf8.{IsModifiedUtf8}
use Rattle.class_model.specs.declared.fault.FileRule.TheVariants as rules
use Rattle.class_model.specs.declared.pool.Const.{Const}
use Rattle.class_model.specs.declared.pool.Const.TheVariants.{Utf8}

-- one constant at a place
abbrev pub text_checks : ℕ → Const → List (Check Fault)
text_checks at (Utf8 text) = check at rules.Text (IsModifiedUtf8 text) ∷ []
text_checks at constant = []
