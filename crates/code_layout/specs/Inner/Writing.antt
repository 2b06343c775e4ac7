-- What the functions that write a layout ask and keep.
use Rattle.std.specs.Prelude.{◌≡◌, ℕ, ◌≤◌, List, ◌++◌, length}
use Rattle.std.specs.List.{AllByRecursion}
use Rattle.class_model.specs.Instructions.{IsSpelling}
use Rattle.class_model.specs.declared.instr.Instr.{Instr}
use Rattle.class_model.specs.declared.instr.Instr.TheVariants.{Goto}
use Rattle.class_model.specs.declared.instr.Placed.{Placed}
use Rattle.code_bytes.specs.Encoding.{HasSpelling, IsPlace}
use Rattle.member_link.specs.Targets.{with_targets, HasForm}
use Rattle.code_layout.specs.Layout.{Spelled, end_from, item_starts, len_of, placed_items, short_spelled, start_in, wide_spelled}
use Rattle.code_layout.specs.declared.emitted.EmitItem.{EmitItem}
use Rattle.code_layout.specs.declared.form.Form.{Form}
use Rattle.code_layout.specs.declared.form.Form.TheVariants.{Short, Wide}

-- how instructions are spelled in a form
abbrev pub spelled_in : Form → Spelled
spelled_in Short = short_spelled
spelled_in Wide = wide_spelled

-- how many bytes it may have
abbrev pub most_in : Form → ℕ
most_in Short = 32767
most_in Wide = 65535

-- each instruction has a form
abbrev pub HaveForms : List EmitItem → Type 0
HaveForms items = AllByRecursion (λ item. HasForm item.instr) items

-- an instruction can be spelled at an offset
abbrev pub CanBeSpelled : Form → ℕ → Instr → Type 0
CanBeSpelled Wide at (Goto to) = IsPlace to
CanBeSpelled form at instr = HasSpelling at instr

abbrev pub CanBePlaced : Form → List Placed → Type 0
CanBePlaced form instrs = AllByRecursion (λ placed. CanBeSpelled form placed.at placed.instr) instrs

-- items that start at these offsets in a form; they can be spelled there, and their lengths do not depend on their targets
pub record ArePlaced (form : Form) (items : List EmitItem) (starts : List ℕ) : Type 0 where
  pub are : starts ≡ item_starts (spelled_in form) items
  pub fits : end_from (spelled_in form) 0 items ≤ 65535
  pub kept : (at : ℕ) (instr : Instr)
      → at ≤ end_from (spelled_in form) 0 items
      → length (spelled_in form at (with_targets (start_in starts) instr)) ≡ len_of (spelled_in form) at instr
  pub can : CanBePlaced form (placed_items (spelled_in form) items)

-- instructions that are read back from what is written of them
abbrev pub AreSpelled : Spelled → List Placed → Type 0
AreSpelled spelled instrs =
    AllByRecursion
    (λ placed. IsSpelling placed.at placed.instr (spelled placed.at placed.instr)) instrs

-- an instruction was appended at the end of a code, with offsets for targets
pub record IsAppended (spelled : Spelled) (place : ℕ → ℕ) (instr : Instr) (before after : List ℕ) : Type 0 where
  pub bytes : after ≡ before ++ spelled (length before) (with_targets place instr)
  pub spells :
      IsSpelling (length before) (with_targets place instr)
      (spelled (length before) (with_targets place instr))
