-- What it means that the row of an instruction holds behind a frame where nothing is said of the depth of the stack (JVM Specification SE 8,
-- 4.10.1.9). It is this project's profile.
use Rattle.std.specs.Prelude.{length}
use Rattle.class_model.specs.declared.frame.Frame.{Frame}
use Rattle.member_link.specs.RowScope.{RowScope}
use Rattle.member_link.specs.Rows.Operands.{AllFit, topmost}
use Rattle.member_link.specs.Rows.Row.{Row}

-- The rule has a value behind a frame, whatever its stack's depth.
pub record RowFits (s : RowScope) (f : Frame) (row : Row) : Type 0 where
  pub operands : AllFit s row.takes (topmost (length row.takes) f.stack)
  pub local : row.local
  pub further : row.further
  pub access : row.access
