-- What stands in the locals before the parameters where a method's code begins (JVM Specification SE 8, 4.10.1.6).
use Rattle.std.specs.Prelude.{ℕ, List, [], ◌∷◌, Option, Some, None, if◌then◌else◌}
use Rattle.class_model.specs.Members.{has, STATIC, is_text}
use Rattle.class_model.specs.Names.{init}
use Rattle.class_model.specs.declared.frame.VType.{VType}
use Rattle.class_model.specs.declared.frame.VType.TheVariants as types

-- an instance of a class
abbrev pub class_entry : Option (List ℕ) → VType
class_entry (Some class) = types.Object class
class_entry None = types.Top

-- the entry of this in a method of these flags and this name, if it has one
abbrev pub this_entries : ℕ → Option (List ℕ) → Option (List ℕ) → List VType
this_entries flags name class =
    if has flags STATIC then []
    else ((if is_text init name then types.UninitThis else class_entry class) ∷ [])
