-- The frame behind an instruction, as its row of the table has it, whether or not the row's conditions hold.
use Rattle.std.specs.Prelude.{◌≡◌, ℕ, Bool, true, false, Option, IsTrue}
use Rattle.std.specs.List.{AllByRecursion}
use Rattle.class_model.specs.ModifiedUtf8.{IsText}
use Rattle.class_model.specs.declared.frame.Frame.{Frame}
use Rattle.class_model.specs.declared.frame.VType.{VType}
use Rattle.class_model.specs.declared.frame.VType.TheVariants as types
use Rattle.class_model.specs.declared.instr.Instr.{Instr}
use Rattle.class_model.specs.declared.instr.Instr.TheVariants.{ArrayLoad, Dynamic, GetField, GetStatic, Invoke, NewRefArray}
use Rattle.member_link.specs.RowScope.{RowScope}
use Rattle.member_link.specs.Rows.Row.{Row, row_frame}
use Rattle.member_link.specs.Rows.Table.{row_of}

-- the name of its class or array, if it has one, is a text
abbrev pub HasText : VType → Type 0
HasText (types.Object name) = IsText name
HasText other = Unit {0}

-- what is pushed has names that are texts
abbrev pub GivesTexts : Row → Type 0
GivesTexts row = AllByRecursion HasText row.gives

-- It may push a type whose name stands neither in the frame nor in the pool: it is cut from a descriptor or from the name of an array, or is
-- that of an array of a class.
abbrev pub makes_names : Instr → Bool
makes_names (ArrayLoad opcode) = true
makes_names (GetStatic index) = true
makes_names (GetField index) = true
makes_names (Invoke opcode index count) = true
makes_names (Dynamic index) = true
makes_names (NewRefArray index) = true
makes_names other = false

-- where such a name is a text
abbrev pub NamesTexts : RowScope → Frame → ℕ → Instr → Type 0
NamesTexts s before number instr =
    IsTrue (makes_names instr) → GivesTexts (row_of s before number instr)

-- this is the frame with which control goes on behind the instruction of a number, if it does
abbrev pub IsBehind : RowScope → Frame → ℕ → Instr → Option Frame → Type 0
IsBehind s before number instr frame =
    NamesTexts s before number instr → frame ≡ row_frame before (row_of s before number instr)
