-- What a check answers beside what a definition gives.
use Rattle.std.specs.Prelude.{◌≡◌, Result, Ok, Err}
use Rattle.class_model.specs.Checks.{Fault, fault}
use Rattle.class_model.specs.declared.fault.ClassFault.{ClassFault}
use Rattle.class_model.specs.declared.fault.ClassFault.TheVariants.{Malformed, Version, NoMemory}

-- whether a definition gives a value, or its fault
abbrev pub Accepts : {X : Type 0} → Result X Fault → Result (Unit {0}) ClassFault → Type 0
Accepts {X} given (Ok done) = (x : X) × (given ≡ Ok x)
Accepts given (Err (Malformed at rule)) = given ≡ Err (fault at rule)
Accepts given (Err NoMemory) = Unit {0}
Accepts given (Err (Version major minor)) = ⊥
