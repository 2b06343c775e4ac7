-- Frames whose uninitialised objects have other numbers: those of the places at which their `new`s stand in another code.
use Rattle.std.specs.Prelude.{ℕ, map}
use Rattle.class_model.specs.declared.frame.Frame.{Frame}
use Rattle.class_model.specs.declared.frame.VType.{VType}
use Rattle.class_model.specs.declared.frame.VType.TheVariants.{Uninit}

abbrev pub numbered_type : (ℕ → ℕ) → VType → VType
numbered_type number (Uninit at) = Uninit (number at)
numbered_type number type = type

abbrev pub numbered_frame : (ℕ → ℕ) → Frame → Frame
numbered_frame number frame = record {
  locals = map (numbered_type number) frame.locals;
  stack = map (numbered_type number) frame.stack;
}
