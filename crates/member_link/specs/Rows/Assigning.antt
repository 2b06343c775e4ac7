-- Assignability in the code of a class of a major version (JVM Specification SE 8, 4.10.1.2). What a row asks, and what flows
-- along the edges of a code, is decided by these two; they are the same in all versions that are read.
use Rattle.std.specs.Prelude.{ℕ}
use Rattle.class_model.specs.declared.frame.Frame.{Frame}
use Rattle.class_model.specs.declared.frame.VType.{VType}
use Rattle.class_tree.specs.Headers.{Headers}
use Rattle.member_link.specs.Assignability.{IsAssignable}
use Rattle.member_link.specs.Rows.FrameAssignability.{IsFrameAssignable}

-- of types
abbrev pub IsAssignableIn : Headers → ℕ → VType → VType → Type 0
IsAssignableIn headers major from to = IsAssignable headers from to

-- of frames
abbrev pub IsFrameAssignableIn : Headers → ℕ → Frame → Frame → Type 0
IsFrameAssignableIn headers major from to = IsFrameAssignable headers from to
