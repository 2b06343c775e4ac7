-- What is told of checks asked one part after the other.
use Rattle.std.proofs.Common.{List, ◌++◌, Result, Ok, Err}
use Rattle.class_model.specs.Answers.{Tells}
use Rattle.class_model.specs.Checks.{Check, Fault, fault, AllHold}
use Rattle.class_model.specs.Laws.Checks.{Remain, both_hold, first_behind, first_before, fails_first}
use Rattle.class_model.specs.declared.fault.ClassFault.{ClassFault}
use Rattle.class_model.specs.declared.fault.ClassFault.TheVariants.{Malformed, Version, NoMemory}

-- the first part holds, and the rest is told
pub goes_on :
    {X : Type 0} (a b : List (Check Fault)) (Is : X → Type 0) (result : Result X ClassFault)
    → AllHold a
    → Tells b Is result
    → Tells (a ++ b) Is result
goes_on a b Is (Ok x) h told = (both_hold a b h told.0, told.1)
goes_on a b Is (Err (Malformed at rule)) h told = first_behind a b (fault at rule) h told
goes_on a b Is (Err NoMemory) h told = tt
goes_on a b Is (Err (Version major minor)) h told = told

-- the first part is refused
pub stops :
    {X Y : Type 0} (a b : List (Check Fault)) (Is : X → Type 0) (Other : Y → Type 0)
    (e : ClassFault)
    → Tells a Is (Err e)
    → Tells (a ++ b) Other (Err e)
stops a b Is Other (Malformed at rule) told = first_before a b (fault at rule) told
stops a b Is Other NoMemory told = tt
stops a b Is Other (Version major minor) told = told

-- one of the first of those that are left is refused
pub refused :
    {X Y : Type 0} {whole : List (Check Fault)} (a b : List (Check Fault)) (Is : X → Type 0)
    (Other : Y → Type 0) (e : ClassFault)
    → Remain whole (a ++ b)
    → Tells a Is (Err e)
    → Tells whole Other (Err e)
refused a b Is Other (Malformed at rule) left told = fails_first a b (fault at rule) left told
refused a b Is Other NoMemory left told = tt
refused a b Is Other (Version major minor) left told = told
