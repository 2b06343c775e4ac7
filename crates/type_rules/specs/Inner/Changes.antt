-- Words for private functions, beside the definitions of the file of the same name in specs/.
use Rattle.std.specs.Prelude.{◌≡◌, ℕ, List, Some, slice_get, IsTrue}
use Rattle.std.specs.List.{list_any}
use Rattle.class_model.specs.declared.frame.VType.{VType}
use Rattle.class_model.specs.declared.frame.VType.TheVariants as types
use Rattle.class_tree.specs.Headers.{Headers}
use Rattle.member_link.specs.Assignability.{IsAssignable}
use Rattle.member_link.specs.Rows.FrameAssignability.{is_uninit_this}

-- A unit is assignable to the one in its place, and where it is an uninitialised this one is among the others too.
pub record IsUnitAssignable (headers : Headers) (lows highs : List VType) (at : ℕ) : Type 0 where
  pub low : VType
  pub high : VType
  pub low_is : slice_get lows at ≡ Some low
  pub high_is : slice_get highs at ≡ Some high
  pub may : IsAssignable headers low high
  pub keeps_this : slice_get lows at ≡ Some types.UninitThis
      → IsTrue (list_any is_uninit_this highs)
