-- The frames of written code as they are placed: what they are made from, and what they are. It is this project's profile.
--
-- There is one list of frames at most that written code has, and where the code is typed there is one (`IsFramed`). What is promised is promised of it.
use Rattle.std.specs.Prelude.{◌≡◌, ℕ, min, slice_get, List, Option, Some, if◌then◌else◌}
use Rattle.std.specs.List.{AllByRecursion}
use Rattle.class_model.specs.Methods.{entry_of, home_of}
use Rattle.class_model.specs.Pool.{Constants}
use Rattle.class_model.specs.declared.frame.Frame.{Frame}
use Rattle.class_model.specs.declared.frame.PlacedFrame.{PlacedFrame}
use Rattle.class_tree.specs.Headers.{Name}
use Rattle.code_layout.specs.ChosenForm.{chosen_items, is_short}
use Rattle.code_layout.specs.Layout.{start_in}
use Rattle.code_layout.specs.PlainItems.{plain_items}
use Rattle.code_layout.specs.declared.emitted.EmitItem.{EmitItem}
use Rattle.flow_code.specs.FlatCode.{FlatCode}
use Rattle.flow_code.specs.WrittenUnits.{written_units}
use Rattle.member_link.specs.Bodies.{Body}
use Rattle.member_link.specs.Scope.{Scope}
use Rattle.plan_flow.specs.PlanScope.{PlanScope}
use Rattle.plan_flow.specs.Written.Blocks.{blocks_of}
use Rattle.plan_flow.specs.Written.Finish.{Finished, finish}
use Rattle.plan_flow.specs.Written.FramedCode.{IsFramed, body_of_items, greatest_of, items_scope}
use Rattle.plan_flow.specs.Written.Routes.{Routes}
use Rattle.plan_flow.specs.Written.WrittenCode.{Form, short, wide, written_items}
use Rattle.plan_flow.specs.Written.WrittenConstants.{indexed_items}
use Rattle.row_frames.specs.Behind.{NamesTexts}
use Rattle.stackmap_emit.specs.PlacedFrames.{placed_frames, stated_from}
use Rattle.written_frames.specs.BlockStarts.{block_starts}
use Rattle.written_frames.specs.WideItems.{KeepsWidth}
use Rattle.written_frames.specs.declared.starts.BlockStart.{BlockStart}

-- ---- from what

-- the form in which items are laid out
abbrev pub form_of : List EmitItem → Form
form_of items = if is_short items then short else wide

abbrev pub finished_by : PlanScope → Routes → List Finished
finished_by s routes = finish s.flat (blocks_of s routes)

-- The frame with which written code begins: that of its method, with the local units that written code has.
abbrev pub entry_with : Scope → FlatCode → Frame
entry_with host flat = entry_of (home_of host.class) host.method
    (record host.part { max_locals = written_units flat })

-- Items that were emitted for a method by the routes of a plan, in a pool that has their constants, and the starts of their blocks; also in
-- the form in which they are laid out.
pub record AreEmitted (s : PlanScope) (constructor : Name → List ℕ) (routes : Routes)
    (pool : Constants) (emitted : List EmitItem) (starts : List BlockStart)
    : Type 0 where
  pub short_items : plain_items emitted
      ≡ indexed_items s constructor pool short (finished_by s routes)
  pub items : plain_items (chosen_items emitted)
      ≡ indexed_items s constructor pool (form_of emitted) (finished_by s routes)
  pub widths : AllByRecursion KeepsWidth (written_items short (finished_by s routes))
  pub are_starts : starts ≡ block_starts 0 (finished_by s routes)

-- ---- what

abbrev pub items_body :
    Scope → FlatCode → Constants → List EmitItem → (ℕ → Option Frame) → Body
items_body host flat pool items state =
    body_of_items host flat pool 0 (plain_items items) state

-- the names that the items push are texts, where they have these frames
abbrev pub AreTexts : Scope → Constants → List EmitItem → List Frame → Type 0
AreTexts host pool items frames =
    (number : ℕ) (item : EmitItem) (frame : Frame)
    → slice_get items number ≡ Some item
    → slice_get frames number ≡ Some frame
    → NamesTexts (items_scope host pool 0 (plain_items items)) frame number item.instr

-- The frames of items, in a form, that blocks have: they are placed where they are stated, and the greatest depth of the stack is that of
-- them and of what is behind each item, up to 65,535.
pub record ArePlacedBy (host : Scope) (flat : FlatCode) (form : Form) (blocks : List Finished)
    (pool : Constants) (items : List EmitItem) (offsets : List ℕ) (placed : List PlacedFrame)
    (max_stack : ℕ)
    : Type 0 where
  pub frames : (state : ℕ → Option Frame) (frames : List Frame)
      → IsFramed flat form blocks (plain_items items) (items_body host flat pool items state) frames
      → AreTexts host pool items frames
      → placed ≡ placed_frames (start_in offsets) 0 (stated_from state 0 items)
  pub deepest : (state : ℕ → Option Frame) (frames : List Frame)
      → IsFramed flat form blocks (plain_items items) (items_body host flat pool items state) frames
      → AreTexts host pool items frames
      → max_stack ≡ min (greatest_of (items_body host flat pool items state).points frames) 65535
