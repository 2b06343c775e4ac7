-- The frames that a method's code begins with and states (JVM Specification SE 8, 4.7.4 and 4.10.1.6).
use Rattle.std.specs.Prelude.{ℕ, List, Option}
use Rattle.class_model.specs.Methods.{entry_of, home_of}
use Rattle.class_model.specs.Stated.{frame_for, stated_in}
use Rattle.class_model.specs.declared.frame.Frame.{Frame}
use Rattle.class_model.specs.declared.frame.PlacedFrame.{PlacedFrame}
use Rattle.member_link.specs.Scope.{Scope}

-- the frame that the code begins with
abbrev pub entry : Scope → Frame
entry s = entry_of (home_of s.class) s.method s.part

-- the frames that it states
abbrev pub stated : Scope → List PlacedFrame
stated s = stated_in (home_of s.class) s.method s.part s.part.attrs

-- the frame that is stated for an offset, if one is
abbrev pub stated_at : Scope → ℕ → Option Frame
stated_at s at = frame_for (stated s) at
