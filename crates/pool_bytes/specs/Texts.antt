-- Texts of a pool that stands in bytes.
use Rattle.std.specs.Prelude.{Option, Some}
use Rattle.std.specs.List.{AllByRecursion}
use Rattle.class_model.specs.ModifiedUtf8.{IsModifiedUtf8}
use Rattle.class_model.specs.Pool.{Constants}
use Rattle.class_model.specs.declared.pool.Const.{Const}
use Rattle.class_model.specs.declared.pool.Const.TheVariants.{Utf8}

-- a Utf8 constant is modified UTF-8
abbrev pub HasText : Option Const → Type 0
HasText (Some (Utf8 text)) = IsModifiedUtf8 text
HasText other = Unit {0}

-- each Utf8 constant of a pool
abbrev pub HasTexts : Constants → Type 0
HasTexts pool = AllByRecursion HasText pool
