-- The constants that stated frames need: the name StackMapTable, and then the classes that they have, in order. It is this project's profile.
use Rattle.std.specs.Prelude.{ℕ, nat_le, List, [], ◌∷◌, ◌++◌, Option, Some, None, if◌then◌else◌}
use Rattle.std.specs.List.{flat_map}
use Rattle.class_model.specs.Code.{stack_map_table}
use Rattle.class_model.specs.Pool.{Constants}
use Rattle.class_model.specs.declared.frame.Frame.{Frame}
use Rattle.class_model.specs.declared.frame.VType.{VType}
use Rattle.class_model.specs.declared.frame.VType.TheVariants.{Object}
use Rattle.making_code.specs.Constants.{Need, class_needs, grow, needs_text}

-- the classes of types, in order
abbrev pub type_needs : VType → List Need
type_needs (Object name) = class_needs name
type_needs type = []

-- those of a frame that is stated: of its locals by unit, then of its stack upwards
abbrev pub frame_needs : Option Frame → List Need
frame_needs None = []
frame_needs (Some frame) = flat_map type_needs (frame.locals ++ frame.stack)

-- the frames that are stated, in order
abbrev pub stated_frames : List (Option Frame) → List Frame
stated_frames [] = []
stated_frames (None ∷ frames) = stated_frames frames
stated_frames (Some frame ∷ frames) = frame ∷ stated_frames frames

abbrev pub needs_named : List Need → List Frame → List Need
needs_named needs [] = []
needs_named needs (frame ∷ frames) = needs_text stack_map_table ++ needs

-- the name StackMapTable, if a frame is stated, and then the classes of the frames, in order
abbrev pub table_needs : List (Option Frame) → List Need
table_needs stated = needs_named (flat_map frame_needs stated) (stated_frames stated)

-- the pool with the constants of frames; below version 50 no frames are stated
abbrev pub frames_pool : ℕ → List (Option Frame) → Constants → Option Constants
frames_pool major stated pool =
    if nat_le 50 major then grow 64535 pool (table_needs stated) else Some pool
