-- Operations that are none of a family.
use Rattle.member_link.specs.Machine.Ops.{Op}

abbrev pub IsNot : (Op → Type 0) → Op → Type 0
IsNot Family op = Family op → ⊥
