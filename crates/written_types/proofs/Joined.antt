-- Each block of written code carries each frame with which it can begin: so frames type the whole, and there are such frames.
use Rattle.std.proofs.Common.{◌≡◌, ◌≤◌, ℕ, List, ◌∷◌, ◌++◌, length, slice_get, Option, Some, None, refl}
use Rattle.class_model.specs.declared.frame.Frame.{Frame}
use Rattle.expanded_runs.specs.UsableNames.{IsUsableCode}
use Rattle.flow_code.specs.declared.point.FlatInstr.{FlatInstr}
use Rattle.flow_code.specs.declared.point.FlatInstr.TheVariants.{Of, NullTest}
use Rattle.flow_code.specs.declared.point.Point.{Point}
use Rattle.making_code.specs.IndexedItems.{IndexedItem}
use Rattle.making_code.specs.Items.{WInstr}
use Rattle.member_link.specs.BodyTyping.{HasFrames}
use Rattle.member_link.specs.Rows.Table.{row_of}
use Rattle.plan_flow.specs.Written.Blocks.{blocks_of, state_written}
use Rattle.plan_flow.specs.Written.Finish.{Finished}
use Rattle.plan_flow.specs.Written.FramedCode.{IsFramed, greatest_of}
use Rattle.plan_flow.specs.Written.Routes.{Route}
use Rattle.plan_flow.specs.Written.Templates.{template}
use Rattle.plan_flow.specs.Written.WrittenCode.{written_items}
use Rattle.same_runs.specs.Laws.FoundMembers.{FieldLaws}
use Rattle.written_types.proofs.BlockKinds.{kind_of_block}
use Rattle.written_types.proofs.CarriedBlocks.{AllCarry}
use Rattle.written_types.proofs.CarriedPoints.{Behind, carried_carries}
use Rattle.written_types.proofs.AllEdges.{edges_written}
use Rattle.written_types.proofs.CaughtTypes.{catch_types}
use Rattle.written_types.proofs.ConstructorTakes.{constants_there}
use Rattle.written_types.proofs.ConstructorTexts.{ReadsParameters}
use Rattle.written_types.proofs.EdgeTargets.{edges_fit}
use Rattle.written_types.proofs.EmptyBlocks.{OwnCarried, empties_go}
use Rattle.written_types.proofs.EndingRows.{is_deep_enough}
use Rattle.written_types.proofs.Ends.{ends_carry}
use Rattle.written_types.proofs.Entry.{begins}
use Rattle.written_types.proofs.FieldNumbers.{fields_numbered}
use Rattle.written_types.proofs.FieldReads.{FieldsNumbered}
use Rattle.written_types.proofs.FramedBodies.{are_had}
use Rattle.written_types.proofs.FreshBlocks.{blocks_fresh}
use Rattle.written_types.proofs.Given.{AtInstruction, EdgesFit, EndsCarry, Given, MakesCarry, TargetsStand}
use Rattle.written_types.proofs.HeldItems.{item_held}
use Rattle.written_types.proofs.MadeBlocks.{kind_carries}
use Rattle.written_types.proofs.MakeWhole.{makes_carry}
use Rattle.written_types.proofs.NoThis.{no_this}
use Rattle.written_types.proofs.NullPoints.{null_test_block}
use Rattle.written_types.proofs.SiteFields.{SitesKnown}
use Rattle.written_types.proofs.Targets.{targets_stand}
use Rattle.written_types.proofs.TemplateBlocks.{template_block}
use Rattle.written_types.proofs.Templates.{Before}
use Rattle.written_types.proofs.TypedBodies.{AreThere, frames_are_there, frames_type}
use Rattle.written_types.proofs.Ways.{sites}
use Rattle.written_types.proofs.WrittenPool.{PoolLaws}
use Rattle.written_types.specs.HeldRows.{RowFits}
use Rattle.written_types.specs.Inner.CarriedFrames.{Agrees, BlockCarries, IsFresh, frame_in}
use Rattle.written_types.specs.Writing.{Writing, body_in, items_in, points_in, scope_in}

-- what laws of other crates say
pub record LawsBelow : Type 0 where
  pub pools : PoolLaws
  pub fields : FieldLaws
  pub parameters : ReadsParameters

module _ (w : Writing) (given : Given w) (laws : LawsBelow) where
  fit : EdgesFit w given
  fit = edges_fit w given

  stand : TargetsStand w given
  stand = targets_stand w given fit

  ends : EndsCarry w given
  ends = ends_carry w given fit stand

  makes : MakesCarry w given
  makes = makes_carry w given (constants_there w given laws.pools laws.parameters)

  known : SitesKnown w.s
  known =
      sites w.s.classes w.s.links w.host w.s.flat given.setting.plan given.hierarchy given.setting.tree.holds given.setting.links given.setting.ready
      given.setting.sites given.setting.valid

  numbers : FieldsNumbered w
  numbers = fields_numbered w given known laws.fields

  -- the block of an instruction
  instruction_carries : (front behind : List Finished) (one : Finished) (frame : Frame) (at : ℕ) (point : Point) (route : Route)
      → w.blocks ≡ front ++ (one ∷ behind)
      → Agrees frame (frame_in w one)
      → IsFresh w (length (written_items w.form front)) one frame
      → AtInstruction w given at point route one behind
      → Behind w given at route behind
      → BlockCarries w (length (written_items w.form front)) one behind frame
  instruction_carries front behind one frame at point route is agrees fresh here last = by point.instr refl where
    before : Before w given
    before = record {
      front = front;
      behind = behind;
      one = one;
      is = is;
      at = at;
      point = point;
      route = route;
      here = here;
      frame = frame;
      agrees = agrees;
      fresh = fresh;
    }

    by : (found : FlatInstr) → point.instr ≡ found → BlockCarries w (length (written_items w.form front)) one behind frame
    by (NullTest local) is_test = null_test_block w given laws.pools before fit stand ends local is_test
    by (Of class instr) is_instr = of_template (template w.s at point.typed (state_written route) route class instr) refl where
      of_template : (found : Option (List WInstr)) → template w.s at point.typed (state_written route) route class instr ≡ found
          → BlockCarries w (length (written_items w.form front)) one behind frame
      of_template None none =
          carried_carries w given laws.pools laws.fields.one fit stand front behind one at point route class instr frame is here last is_instr none agrees fresh
      of_template (Some instrs) some = template_block w given fit ends makes known numbers before class instr instrs is_instr some

  own_carried : OwnCarried w
  own_carried = record {
    no_this = no_this w given;
    carries = λ front behind one frame is agrees fresh.
        kind_carries w given ends makes front behind one frame is (kind_of_block w given fit front behind one is) agrees fresh
        (λ at point route here last. instruction_carries front behind one frame at point route is agrees fresh here last);
  }

  -- All blocks of written code.
  pub all_carry : AllCarry w
  all_carry = record {
    begins = begins w given;
    no_this = no_this w given;
    fresh = blocks_fresh w given fit (edges_written w given);
    empties = empties_go w (blocks_of w.s given.setting.routes) given.setting.blocks own_carried;
    carries = own_carried.carries;
  }

  -- Frames of written code type it, where its stack may be as deep as they are.
  pub written_frames_type : (state : ℕ → Option Frame) (frames : List Frame)
      → IsFramed w.s.flat w.form w.blocks (items_in w) (body_in w state) frames
      → greatest_of (points_in w) frames ≤ w.max_stack
      → HasFrames (body_in w state) frames
  written_frames_type state frames framed most =
      frames_type w state frames all_carry (is_deep_enough w frames (are_had w state frames framed) most) (catch_types w given laws.pools fit) framed

  -- Where the host may use what the flat code names, the rows of written items fit, with the access that they ask for.
  pub written_rows_fit : (state : ℕ → Option Frame) (frames : List Frame)
      → IsFramed w.s.flat w.form w.blocks (items_in w) (body_in w state) frames
      → IsUsableCode w.s.classes w.host w.s.flat
      → (number : ℕ) (item : IndexedItem) (frame : Frame)
      → slice_get (items_in w) number ≡ Some item
      → slice_get frames number ≡ Some frame
      → RowFits (scope_in w) frame (row_of (scope_in w) frame number item.instr)
  written_rows_fit state frames framed usable number item frame is is_frame =
      item_held w state frames all_carry framed number item frame is is_frame usable

  pub written_frames_are_there : AreThere w
  written_frames_are_there = frames_are_there w all_carry
