-- How types differ.
use Rattle.std.specs.Prelude.{Bool, true, false, if◌then◌else◌}
use Rattle.class_model.specs.Frames.{is_top}
use Rattle.class_model.specs.contracts.frame.VTypePartialEq.TheImpl.{ghosts as comparison}
use Rattle.class_model.specs.declared.frame.VType.{VType}

-- a later type is not Top, and another one
abbrev pub is_lost : VType → VType → Bool
is_lost type later =
    if is_top later then false else if comparison.eq type later then false else true
