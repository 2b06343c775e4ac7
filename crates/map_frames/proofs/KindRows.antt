-- The row of a frame's first byte, for the kinds of several bytes.
use Rattle.std.proofs.Common.{◌≡◌, ℕ, ◌-◌, ◌≤◌, Some, arith}
use Rattle.std.proofs.lemmas.Bool.Decides.{nat_tests}
use Rattle.class_model.specs.Frames.{SameFrame, ItemFrame, ChopFrame, AppendFrame, frame_rows}
use Rattle.class_model.specs.Tables.{given_in}

pub same_row : (kind : ℕ) → kind ≤ 63 → given_in frame_rows kind ≡ Some (SameFrame kind)
same_row kind high = grind (arith, nat_tests)

pub item_row : (kind : ℕ) → 64 ≤ kind → kind ≤ 127 → given_in frame_rows kind ≡ Some (ItemFrame (kind - 64))
item_row kind low high = grind (arith, nat_tests)

pub chop_row : (kind : ℕ) → 248 ≤ kind → kind ≤ 250 → given_in frame_rows kind ≡ Some (ChopFrame (251 - kind))
chop_row kind low high = grind (arith, nat_tests)

pub append_row : (kind : ℕ) → 252 ≤ kind → kind ≤ 254 → given_in frame_rows kind ≡ Some (AppendFrame (kind - 251))
append_row kind low high = grind (arith, nat_tests)
