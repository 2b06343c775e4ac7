-- The form in which emitted code is laid out: the short one where jumps of 16 bits reach over all of it, else the wide one. It is this
-- project's profile.
use Rattle.std.specs.Prelude.{◌⊎◌, ℕ, ◌<◌, ◌≤◌, Bool, List, nat_le, if◌then◌else◌}
use Rattle.flow_code.specs.declared.reason.KeptFault.{KeptFault}
use Rattle.flow_code.specs.declared.reason.KeptFault.TheVariants.{Kept, NoMemory}
use Rattle.flow_code.specs.declared.reason.Reason.TheVariants as reasons
use Rattle.code_layout.specs.EmittedCode.{HasCodeOf}
use Rattle.code_layout.specs.Layout.{IsLaid, Spelled, end_from, short_spelled, table_len, wide_spelled}
use Rattle.code_layout.specs.WideForm.{widened}
use Rattle.code_layout.specs.declared.emitted.EmitItem.{EmitItem}
use Rattle.code_layout.specs.declared.laid.Laid.{Laid}

-- the short form has at most 32,767 bytes
abbrev pub is_short : List EmitItem → Bool
is_short items = nat_le (end_from short_spelled 0 items) 32767

abbrev pub chosen_items : List EmitItem → List EmitItem
chosen_items items = if is_short items then items else widened items

abbrev pub chosen_spelled : List EmitItem → Spelled
chosen_spelled items = if is_short items then short_spelled else wide_spelled

-- how many bytes the chosen form has
abbrev pub chosen_len : List EmitItem → ℕ
chosen_len items = end_from (chosen_spelled items) 0 (chosen_items items)

-- The bytes, the exception table and the starts are those of the items of the chosen form, and the method that has them runs these items.
pub record IsLaidOut (items : List EmitItem) (laid : Laid) : Type 0 where
  pub is : IsLaid (chosen_spelled items) (chosen_items items) laid
  pub code : HasCodeOf (chosen_items items) laid

-- the code has at most 65,535 bytes, and the exception table at most as many entries (JVM Specification SE 8, 4.7.3)
pub record IsWithin (items : List EmitItem) : Type 0 where
  pub code : chosen_len items ≤ 65535
  pub table : table_len items ≤ 65535

abbrev pub IsLong : List EmitItem → Type 0
IsLong items = (65535 < chosen_len items) ⊎ (65535 < table_len items)

-- why there is no layout
abbrev pub KeepsLong : List EmitItem → KeptFault → Type 0
KeepsLong items (Kept reasons.Long) = IsLong items
KeepsLong items (Kept other) = ⊥
KeepsLong items NoMemory = Unit {0}
