-- A method with code: its class file, the method, and the content of its Code attribute (JVM Specification SE 8, 4.7.3).
use Rattle.std.specs.Prelude.{◌==◌, ℕ, List, [], ◌∷◌, Option, Some, None, if◌then◌else◌}
use Rattle.class_model.specs.Methods.{entry_of, home_of}
use Rattle.class_model.specs.PoolChecks.{utf8_at, text_or_empty}
use Rattle.class_model.specs.Stated.{frame_for, stated_in}
use Rattle.class_model.specs.declared.class_file.ClassFile.{ClassFile}
use Rattle.class_model.specs.declared.class_file.CodePart.{CodePart}
use Rattle.class_model.specs.declared.class_file.Method.{Method}
use Rattle.class_model.specs.declared.frame.Frame.{Frame}
use Rattle.class_model.specs.declared.frame.PlacedFrame.{PlacedFrame}
use Rattle.class_model.specs.declared.instr.Placed.{Placed}

pub record CodedMethod : Type 0 where
  pub class : ClassFile
  pub method : Method
  pub part : CodePart

-- the method's descriptor
abbrev pub descriptor_text : CodedMethod → List ℕ
descriptor_text m = text_or_empty (utf8_at m.class.pool m.method.desc)

-- the frame that the code begins with
abbrev pub entry : CodedMethod → Frame
entry m = entry_of (home_of m.class) m.method m.part

-- the frames that it states
abbrev pub stated : CodedMethod → List PlacedFrame
stated m = stated_in (home_of m.class) m.method m.part m.part.attrs

-- the frame that is stated for an offset, if one is
abbrev pub stated_at : CodedMethod → ℕ → Option Frame
stated_at m at = frame_for (stated m) at

-- the instruction at an offset among these
abbrev pub placed_at : List Placed → ℕ → Option Placed
placed_at [] at = None
placed_at (placed ∷ others) at = if placed.at == at then Some placed else placed_at others at
