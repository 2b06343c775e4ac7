-- What a part of linking answers: every check holds, or the first problem, or want of memory.
use Rattle.std.specs.Prelude.{List, Result, Ok, Err}
use Rattle.class_model.specs.Checks.{Check, AllHold, IsFirstFault}
use Rattle.class_tree.specs.Problems.{Problem}
use Rattle.class_tree.specs.declared.fault.LinkFault.{LinkFault}
use Rattle.class_tree.specs.declared.fault.LinkFault.TheVariants.{Unlinked, NoMemory}

abbrev pub Answers : {X : Type 0} → List (Check Problem) → Result X LinkFault → Type 0
Answers checks (Ok x) = AllHold checks
Answers checks (Err (Unlinked class member rule)) =
    IsFirstFault checks (record { class = class; member = member; rule = rule })
Answers checks (Err NoMemory) = Unit {0}
