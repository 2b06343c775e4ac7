-- The units that entries take.
use Rattle.std.proofs.Common.{◌≡◌, ◌+◌, List, ◌++◌, length, ap, ◌∙◌, length-append}
use Rattle.std.proofs.lemmas.Grind.{flat_map-append}
use Rattle.class_model.specs.Frames.{units, depth, units_of_entries}
use Rattle.class_model.specs.declared.frame.VType.{VType}

pub units-append :
    (xs ys : List VType) → units_of_entries (xs ++ ys) ≡ units_of_entries xs ++ units_of_entries ys
units-append xs ys = flat_map-append units xs ys

pub depth-append : (xs ys : List VType) → depth (xs ++ ys) ≡ depth xs + depth ys
depth-append xs ys = ap length (units-append xs ys) ∙ length-append (units_of_entries xs) (units_of_entries ys)
