-- The frames that a method's code states (JVM Specification SE 8, 4.7.4).
use Rattle.std.specs.Prelude.{◌==◌, ℕ, List, [], ◌∷◌, Option, Some, None, Result, Ok, Err, if◌then◌else◌}
use Rattle.class_model.specs.Checks.{Fault}
use Rattle.class_model.specs.Code.{inner_is_named, stack_map_table}
use Rattle.class_model.specs.Frames.{stack_map_table_at}
use Rattle.class_model.specs.Instructions.{decoded}
use Rattle.class_model.specs.Methods.{Home, entry_of}
use Rattle.class_model.specs.declared.class_file.CodePart.{CodePart}
use Rattle.class_model.specs.declared.class_file.InnerAttr.{InnerAttr}
use Rattle.class_model.specs.declared.class_file.Method.{Method}
use Rattle.class_model.specs.declared.frame.Frame.{Frame}
use Rattle.class_model.specs.declared.frame.PlacedFrame.{PlacedFrame}
use Rattle.class_model.specs.declared.instr.Placed.{Placed}

-- those that an attribute of the code of these instructions states
abbrev pub stated_frames : Home → Method → CodePart → Result (List Placed) Fault → InnerAttr
    → Result (List PlacedFrame) Fault
stated_frames home method part (Ok instrs) attr =
    stack_map_table_at (record {
      pool = home.pool;
      max_locals = part.max_locals;
      max_stack = part.max_stack;
      code = instrs;
    }) (entry_of home method part) attr.bytes
stated_frames home method part (Err fault) attr = Ok []

-- what cannot be read states no frames
abbrev pub read_or_none : Result (List PlacedFrame) Fault → List PlacedFrame
read_or_none (Ok frames) = frames
read_or_none (Err fault) = []

-- those of the first StackMapTable among attributes of the code
abbrev pub stated_in : Home → Method → CodePart → List InnerAttr → List PlacedFrame
stated_in home method part [] = []
stated_in home method part (attr ∷ attrs) =
    if inner_is_named home.pool stack_map_table attr then read_or_none
    (stated_frames home method part (decoded part.code) attr)
    else stated_in home method part attrs

-- the frame for an offset among these
abbrev pub frame_for : List PlacedFrame → ℕ → Option Frame
frame_for [] at = None
frame_for (placed ∷ others) at = if placed.at == at then Some placed.frame else frame_for others at
