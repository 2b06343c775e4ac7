-- The frames that written code states, at the offsets of its items (JVM Specification SE 8, 4.7.4). It is this project's profile.
use Rattle.std.specs.Prelude.{◌≡◌, ℕ, suc, List, [], ◌∷◌, map, Option, Some, None}
use Rattle.class_model.specs.Pool.{Constants}
use Rattle.class_model.specs.declared.frame.Frame.{Frame}
use Rattle.class_model.specs.declared.frame.PlacedFrame.{PlacedFrame}
use Rattle.class_model.specs.declared.frame.VType.{VType}
use Rattle.class_model.specs.declared.frame.VType.TheVariants.{Uninit}
use Rattle.code_layout.specs.Layout.{IsLaid, Spelled, short_spelled, start_in, wide_spelled}
use Rattle.code_layout.specs.PlainItems.{plain_items}
use Rattle.code_layout.specs.declared.emitted.EmitItem.{EmitItem}
use Rattle.code_layout.specs.declared.laid.Laid.{Laid}
use Rattle.flow_code.specs.FlatCode.{FlatCode}
use Rattle.member_link.specs.Scope.{Scope}
use Rattle.plan_flow.specs.Written.Finish.{Finished}
use Rattle.plan_flow.specs.Written.FramedCode.{IsFramed, body_of_items}
use Rattle.plan_flow.specs.Written.WrittenCode.{Form, short, wide}

-- items are laid out in a form
abbrev pub spelled_in : Form → Spelled
spelled_in short = short_spelled
spelled_in wide = wide_spelled

abbrev pub IsLaidIn : Form → List EmitItem → Laid → Type 0
IsLaidIn form items laid = IsLaid (spelled_in form) items laid

-- ---- from numbers of items to offsets

-- an uninitialised object is named by the offset of its new
abbrev pub type_at : (ℕ → ℕ) → VType → VType
type_at start (Uninit number) = Uninit (start number)
type_at start type = type

abbrev pub frame_at : (ℕ → ℕ) → Frame → Frame
frame_at start frame = record {
  locals = map (type_at start) frame.locals;
  stack = map (type_at start) frame.stack;
}

-- the frame that is stated before each item, if one is, from the number of an item on
abbrev pub stated_from : (ℕ → Option Frame) → ℕ → List EmitItem → List (Option Frame)
stated_from stated number [] = []
stated_from stated number (item ∷ items) = stated number ∷ stated_from stated (suc number) items

-- the frames that are stated, by offsets, from the number of an item on
abbrev pub placed_frames : (ℕ → ℕ) → ℕ → List (Option Frame) → List PlacedFrame
placed_frames start number [] = []
placed_frames start number (None ∷ frames) = placed_frames start (suc number) frames
placed_frames start number (Some frame ∷ frames) =
    record { at = start number; frame = frame_at start frame } ∷ placed_frames start (suc number) frames

-- ---- of a method

-- The frames of a method's written items: those that the items state, at their offsets. The constants are those of a pool that has the items'.
pub record ArePlaced (host : Scope) (flat : FlatCode) (form : Form) (blocks : List Finished)
    (pool : Constants) (items : List EmitItem) (laid : Laid) (placed : List PlacedFrame)
    : Type 0 where
  pub state : ℕ → Option Frame
  pub frames : List Frame
  pub framed : IsFramed flat form blocks (plain_items items)
      (body_of_items host flat pool 0 (plain_items items) state) frames
  pub is : placed ≡ placed_frames (start_in laid.starts) 0 (stated_from state 0 items)
