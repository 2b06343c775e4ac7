-- What a reader answers beside what a definition gives: the value, the fault at its place, or want of memory.
use Rattle.std.specs.Prelude.{◌≡◌, ℕ, List, Result, Ok, Err}
use Rattle.std.specs.Borrow.{Bor}
use Rattle.class_model.specs.Checks.{Check, Fault, fault, AllHold, IsFirstFault}
use Rattle.class_model.specs.Cutting.{Rest, Cut}
use Rattle.class_model.specs.declared.fault.ClassFault.{ClassFault}
use Rattle.class_model.specs.declared.fault.ClassFault.TheVariants.{Malformed, Version, NoMemory}

-- the value that a definition gives, or its fault
abbrev pub Gives : {X : Type 0} → Result X Fault → Result X ClassFault → Type 0
Gives given (Ok x) = given ≡ Ok x
Gives given (Err (Malformed at rule)) = given ≡ Err (fault at rule)
Gives given (Err NoMemory) = Unit {0}
Gives given (Err (Version major minor)) = ⊥

-- an item, and what is left behind it
abbrev pub Takes : {X : Type 0} → Cut X → Rest → Result X ClassFault → Type 0
Takes cut after (Ok x) = cut ≡ Ok (x, after)
Takes cut after (Err (Malformed at rule)) = cut ≡ Err (fault at rule)
Takes cut after (Err NoMemory) = Unit {0}
Takes cut after (Err (Version major minor)) = ⊥

-- some bytes behind a reference, and what is left behind them
abbrev pub TakesBytes : Cut (List ℕ) → Rest → Result (Bor (List ℕ)) ClassFault → Type 0
TakesBytes cut after (Ok bytes) = cut ≡ Ok (bytes.now, after)
TakesBytes cut after (Err (Malformed at rule)) = cut ≡ Err (fault at rule)
TakesBytes cut after (Err NoMemory) = Unit {0}
TakesBytes cut after (Err (Version major minor)) = ⊥

-- every check holds and the value is this, or the first fault
abbrev pub Tells : {X : Type 0} → List (Check Fault) → (X → Type 0) → Result X ClassFault → Type 0
Tells checks Is (Ok x) = AllHold checks × Is x
Tells checks Is (Err (Malformed at rule)) = IsFirstFault checks (fault at rule)
Tells checks Is (Err NoMemory) = Unit {0}
Tells checks Is (Err (Version major minor)) = ⊥

-- every check holds, or this is the first fault
abbrev pub Answers : {X : Type 0} → List (Check Fault) → Result X ClassFault → Type 0
Answers checks result = Tells checks (λ _. Unit {0}) result
