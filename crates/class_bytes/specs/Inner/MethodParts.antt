-- What the name and the descriptor of a method at a place are asked (JVM Specification SE 8, 4.6).
use Rattle.std.specs.Prelude.{◌+◌, ℕ, List, [], ◌∷◌, IfSome, IsSome}
use Rattle.class_model.specs.Checks.{Check, check, Fault}
use Rattle.class_model.specs.Methods.{IsDescriptorOf}
use Rattle.class_model.specs.Names.{IsMethodName}
use Rattle.class_model.specs.Pool.{Constants}
use Rattle.class_model.specs.PoolChecks.{utf8_at, InitIsVoid}
use Rattle.class_model.specs.declared.class_file.Method.{Method}
use Rattle.class_model.specs.declared.fault.FileRule.TheVariants as rules

abbrev pub signature_checks : Constants → ℕ → Method → List (Check Fault)
signature_checks pool at method =
    check (at + 2) rules.Index (IsSome (utf8_at pool method.name))
    ∷ check (at + 2) rules.Name (IfSome (utf8_at pool method.name)
    (λ name. IsMethodName name × InitIsVoid name (utf8_at pool method.desc)))
    ∷ check (at + 4) rules.Index (IsSome (utf8_at pool method.desc))
    ∷ check (at + 4) rules.Descriptor
    (IfSome (utf8_at pool method.desc) (IsDescriptorOf method.flags))
    ∷ []
