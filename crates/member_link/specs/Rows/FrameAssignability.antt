-- Assignability of frames (JVM Specification SE 8, 4.10.1.2).
use Rattle.std.specs.Prelude.{Bool, true, false, List, [], ◌∷◌, IsTrue}
use Rattle.std.specs.List.{list_any}
use Rattle.class_model.specs.declared.frame.Frame.{Frame}
use Rattle.class_model.specs.declared.frame.VType.{VType}
use Rattle.class_model.specs.declared.frame.VType.TheVariants as types
use Rattle.class_tree.specs.Headers.{Headers}
use Rattle.member_link.specs.Assignability.{IsAssignable}

-- as many entries, each assignable to the one in its place
abbrev pub AreAssignable : Headers → List VType → List VType → Type 0
AreAssignable headers [] [] = Unit {0}
AreAssignable headers (low ∷ lows) (high ∷ highs) =
    IsAssignable headers low high × AreAssignable headers lows highs
AreAssignable headers lows highs = ⊥

abbrev pub is_uninit_this : VType → Bool
is_uninit_this types.UninitThis = true
is_uninit_this other = false

-- An uninitialised this among the locals is not lost.
pub record IsFrameAssignable (headers : Headers) (from to : Frame) : Type 0 where
  pub locals : AreAssignable headers from.locals to.locals
  pub stack : AreAssignable headers from.stack to.stack
  pub keeps_this : IsTrue (list_any is_uninit_this from.locals)
      → IsTrue (list_any is_uninit_this to.locals)
