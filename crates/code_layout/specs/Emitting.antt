-- Code that was emitted: instructions whose targets are numbers of items. It is this project's profile.
use Rattle.std.specs.Prelude.{◌≡◌, ℕ, ◌+◌, ◌<◌, true, List, length, slice_get, Some}
use Rattle.std.specs.List.{AllByRecursion}
use Rattle.class_model.specs.Instructions.{targets}
use Rattle.member_link.specs.Targets.{HasForm}
use Rattle.class_model.specs.declared.instr.Imm.TheVariants as imms
use Rattle.class_model.specs.declared.instr.Instr.{Instr}
use Rattle.class_model.specs.declared.instr.Instr.TheVariants.{Const, IfNull, Throw}
use Rattle.code_layout.specs.declared.emitted.EmitItem.{EmitItem}

-- a number names one of so many items
abbrev pub NamesItem : ℕ → ℕ → Type 0
NamesItem items to = to < items

-- the item of a number has this instruction
abbrev pub HasInstr : List EmitItem → ℕ → Instr → Type 0
HasInstr items at instr =
    (item : EmitItem) × (slice_get items at ≡ Some item) × (item.instr ≡ instr)

-- The jump inside a test against null: an ifnonnull to three items on, over an aconst_null and an athrow.
pub record JumpsNear (items : List EmitItem) (at : ℕ) (instr : Instr) : Type 0 where
  pub jump : instr ≡ IfNull 199 (at + 3)
  pub null : HasInstr items (at + 1) (Const imms.Null)
  pub throw : HasInstr items (at + 2) Throw

abbrev pub IfNear : List EmitItem → ℕ → EmitItem → Type 0
IfNear items at item = item.near ≡ true → JumpsNear items at item.instr

-- what is asked of an item that stands at a number among items
pub record IsItem (items : List EmitItem) (at : ℕ) (item : EmitItem) : Type 0 where
  pub form : HasForm item.instr
  pub targets : AllByRecursion (NamesItem (length items)) (targets item.instr)
  pub catches : AllByRecursion (λ catch. NamesItem (length items) catch.to) item.catches
  pub near : IfNear items at item

-- There is an item, and each is as asked.
pub record IsEmitted (items : List EmitItem) : Type 0 where
  pub some : 0 < length items
  pub each : (at : ℕ) (item : EmitItem) → slice_get items at ≡ Some item → IsItem items at item
