-- Bootstrap methods as the reader holds them, and how many there are (JVM Specification SE 8, 4.7.23).
use Rattle.std.specs.Prelude.{◌≡◌, ◌+◌, ◌*◌, ℕ, List, [], ◌∷◌, length, map, Option, Some, None, if◌then◌else◌}
use Rattle.class_model.specs.Checks.{Check, check, Fault}
use Rattle.class_model.specs.Members.{is_named}
use Rattle.class_model.specs.Methods.{Bootstrap, IsHandle, arguments_checks, bootstrap_methods, bootstrap_count}
use Rattle.class_model.specs.Pool.{Constants, constant_at}
use Rattle.class_model.specs.declared.class_file.Attr.{Attr}
use Rattle.class_model.specs.declared.fault.FileRule.TheVariants as rules
use Rattle.class_bytes.specs.declared.bootstraps.CutBootstrap.{CutBootstrap}

abbrev pub bootstrap_of : CutBootstrap → Bootstrap
bootstrap_of method = record { handle = method.handle; arguments = method.arguments }

abbrev pub bootstraps_of : List CutBootstrap → List Bootstrap
bootstraps_of methods = map bootstrap_of methods

-- how many bytes bootstrap methods take
abbrev pub bootstraps_len : List Bootstrap → ℕ
bootstraps_len [] = 0
bootstraps_len (method ∷ methods) = 4 + 2 * length method.arguments + bootstraps_len methods

-- what one bootstrap method is asked, which stands at a place
abbrev pub bootstrap_checks : Constants → ℕ → Bootstrap → List (Check Fault)
bootstrap_checks pool at method =
    check at rules.Index (IsHandle (constant_at pool method.handle))
    ∷ arguments_checks pool (at + 4) method.arguments

-- a table could be cut, and has so many methods
pub record CountsMethods (table : Option (List Bootstrap)) (count : ℕ) : Type 0 where
  pub methods : List Bootstrap
  pub is : table ≡ Some methods
  pub len : length methods ≡ count

-- how many bootstrap methods an attribute has, if it is a BootstrapMethods attribute
abbrev pub own_count : Constants → Attr → Option ℕ
own_count pool attr =
    if is_named pool bootstrap_methods attr then Some (bootstrap_count pool (attr ∷ [])) else None
