-- How many methods of a folder were not seen.
use Rattle.std.specs.Prelude.{◌+◌, ℕ, suc, List, [], ◌∷◌, Option, Some, None, Bool}
use Rattle.class_model.specs.declared.class_file.ClassFile.{ClassFile}
use Rattle.class_model.specs.declared.class_file.Method.{Method}
use Rattle.class_model.specs.declared.class_file.MethodAt.{MethodAt}

abbrev pub unseen_one : Option Bool → ℕ
unseen_one None = 1
unseen_one (Some is_ready) = 0

abbrev pub unseen_methods : (MethodAt → Option Bool) → ℕ → ℕ → List Method → ℕ
unseen_methods seen class number [] = 0
unseen_methods seen class number (method ∷ methods) =
    unseen_one (seen (record { class = class; method = number }))
    + unseen_methods seen class (suc number) methods

abbrev pub unseen : (MethodAt → Option Bool) → ℕ → List ClassFile → ℕ
unseen seen number [] = 0
unseen seen number (class ∷ classes) =
    unseen_methods seen number 0 class.methods + unseen seen (suc number) classes
