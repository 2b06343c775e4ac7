-- What the frames are that written code states (JVM Specification SE 8, 4.7.4): each has a type for each local unit, and the uninitialised objects in
-- it are those of its own news. It is this project's profile.
use Rattle.std.specs.Prelude.{◌≡◌, ◌≤◌, ℕ, List, length, slice_get, Some}
use Rattle.std.specs.List.{AllByRecursion}
use Rattle.class_model.specs.declared.frame.Frame.{Frame}
use Rattle.class_model.specs.declared.frame.VType.{VType}
use Rattle.class_model.specs.declared.frame.VType.TheVariants.{Uninit}
use Rattle.class_model.specs.declared.instr.Instr.TheVariants.{New}
use Rattle.flow_code.specs.WrittenUnits.{greatest_depth, written_units}
use Rattle.making_code.specs.IndexedItems.{IndexedItem}
use Rattle.written_types.specs.FitsTypes.{HavePairs}
use Rattle.written_types.specs.Writing.{Writing, items_in}

-- the item of a number is a new
pub record IsNewItem (items : List IndexedItem) (number : ℕ) : Type 0 where
  pub item : IndexedItem
  pub there : slice_get items number ≡ Some item
  pub index : ℕ
  pub is_new : item.instr ≡ New index

-- an uninitialised object is one that the new of an item makes
abbrev pub HasNewItem : List IndexedItem → VType → Type 0
HasNewItem items (Uninit number) = IsNewItem items number
HasNewItem items type = Unit {0}

-- All local units have a type, a long or double is followed by its second unit, the stack has no more entries than the typed stacks of flat code have
-- units, and each uninitialised object has its new.
pub record IsWholeFrame (w : Writing) (frame : Frame) : Type 0 where
  pub all_locals : length frame.locals ≡ written_units w.s.flat
  pub pairs : HavePairs frame.locals
  pub few_entries : length frame.stack ≤ greatest_depth w.s.flat.points
  pub locals : AllByRecursion (HasNewItem (items_in w)) frame.locals
  pub stack : AllByRecursion (HasNewItem (items_in w)) frame.stack
