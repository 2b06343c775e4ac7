-- Types that may stay as they are.
use Rattle.std.specs.Prelude.{Option, Some, None}
use Rattle.class_model.specs.declared.frame.VType.{VType}

-- a type in place of one, if there is another
abbrev pub type_or : Option VType → VType → VType
type_or None type = type
type_or (Some other) type = other
