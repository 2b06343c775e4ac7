-- Instructions of flat code as they are read where objects of candidate sites count as initialised, and their rows. It is this project's
-- profile.
use Rattle.std.specs.Prelude.{ℕ, List, [], ◌∷◌}
use Rattle.class_model.specs.declared.frame.Frame.{Frame}
use Rattle.class_model.specs.declared.frame.VType.TheVariants.{Object}
use Rattle.class_tree.specs.Headers.{Name}
use Rattle.member_link.specs.Rows.MemberRows.{argument_needs}
use Rattle.member_link.specs.Rows.Operands.{single}
use Rattle.member_link.specs.Rows.Row.{Row, access_aside, plain}

-- an instruction is read as it is, or makes an object of a class, or takes an object and arguments of these types away
pub data Reading : Type 0 where
  reads_itself : Reading
  reads_object : Name → Reading
  reads_pop : List ℕ → Reading

-- The row of an instruction that is read, behind a frame that is read. Without arguments what takes an object away is the row of pop.
abbrev pub row_by : Reading → Frame → Row → Row
row_by reads_itself frame row = access_aside row
row_by (reads_object class) frame row = plain frame [] (Object class ∷ [])
row_by (reads_pop desc) frame row = plain frame (single ∷ argument_needs desc) []
