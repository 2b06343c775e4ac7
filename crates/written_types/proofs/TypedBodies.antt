-- The frames of written code type its body, and there are such frames, where each block carries its frames.
use Rattle.std.proofs.Common.{◌≡◌, ◌+◌, ◌==◌, ◌||◌, ℕ, zero, suc, Bool, true, false, List, [], ◌∷◌, ◌++◌, length, map, slice_get, Option, Some, refl, sym, ap, subst, ◌∙◌, arith}
use Rattle.std.specs.List.{AllByRecursion, list_any}
use Rattle.std.proofs.lemmas.Bool.{eq-eqb}
use Rattle.std.proofs.lemmas.Option.{none-some, same_Some}
use Rattle.class_model.specs.declared.frame.Frame.{Frame}
use Rattle.class_model.specs.Instructions.{targets}
use Rattle.making_code.specs.Items.{WItem}
use Rattle.member_link.specs.Bodies.{BodyCatch, catch_frame, flows_on}
use Rattle.member_link.specs.BodyTyping.{FlowsInto, HasFrames, IsThrowable, MayGoTo, PointFits, begins_at}
use Rattle.member_link.specs.Machine.Replaced.{map_numbered}
use Rattle.plan_flow.specs.Written.FramedCode.{IsFramed, body_catch, flow_into, frame_had, item_body, item_table}
use Rattle.plan_flow.specs.Written.WrittenCode.{written_items}
use Rattle.plan_flow.specs.Written.WrittenConstants.{indexed_item}
use Rattle.written_types.proofs.CarriedBlocks.{AllCarry, HoldFrom, all_hold, flows_next}
use Rattle.written_types.proofs.FramedBodies.{AreHad, From, Known, flows_from_there, frame_at_number, frame_there, known_of, leads_stated, leads_to_item, next_from, same_flow, stands_from}
use Rattle.written_types.proofs.ItemPlaces.{StandsAt, numbered_long}
use Rattle.written_types.specs.Inner.CarriedFrames.{IsDeepEnough, LeadsIn, comes, had_in, stated_in}
use Rattle.written_types.specs.Writing.{Writing, body_in, items_in, point_in, scope_in}

-- ---- targets and handlers

-- each number of a list is found in it
found_here : (to : ℕ) (left right : List ℕ) → list_any (λ (other : ℕ). other == to) (left ++ (to ∷ right)) ≡ true
found_here to [] right = rw (eq-eqb to to refl) refl
found_here to (first ∷ left) right = by (first == to) refl (found_here to left right) where
  by : (b : Bool) → (first == to) ≡ b → list_any (λ (other : ℕ). other == to) (left ++ (to ∷ right)) ≡ true
      → list_any (λ (other : ℕ). other == to) (first ∷ left ++ (to ∷ right)) ≡ true
  by true e rest = rw (e) refl
  by false e rest = rw (e) rest

either_first : (one other : Bool) → one ≡ true → (one || other) ≡ true
either_first one other is = rw (is) refl

either_second : (one other : Bool) → other ≡ true → (one || other) ≡ true
either_second true other is = refl
either_second false other is = is

joined_left : {A : Type 0} (left right : List A) (item : A) → (left ++ (item ∷ [])) ++ right ≡ left ++ (item ∷ right)
joined_left [] right item = refl
joined_left {A = A} (first ∷ left) right item = ap (λ (xs : List A). first ∷ xs) (joined_left left right item)

targets_go : (w : Writing) (state : ℕ → Option Frame) (frames : List Frame) (number : ℕ) (one : WItem) (frame : Option Frame)
    → Known w state frames
    → StandsAt w number one
    → (left right : List ℕ)
    → targets (indexed_item w.s w.constructor w.pool w.form w.blocks number one).instr ≡ left ++ right
    → AllByRecursion (LeadsIn w frame) right
    → AllByRecursion (λ target. MayGoTo (scope_in w) frame (state target)) right
targets_go w state frames number one frame known at left [] is all = tt
targets_go w state frames number one frame known at left (to ∷ right) is all =
    let led = leads_to_item w number to one at (either_first _ _ (ap (list_any (λ (other : ℕ). other == to)) is ∙ found_here to left right)) in (
      subst (MayGoTo (scope_in w) frame) (sym (known.stated to)) (leads_stated w known.all (comes w to) frame to all.0 led),
      targets_go w state frames number one frame known at (left ++ (to ∷ [])) right (is ∙ sym (joined_left left right to)) all.1,
    )

catch_found : (catch : ℕ × ℕ) (left right : List (ℕ × ℕ)) → list_any (λ (other : ℕ × ℕ). other.0 == catch.0) (left ++ (catch ∷ right)) ≡ true
catch_found catch [] right = rw (eq-eqb catch.0 catch.0 refl) refl
catch_found catch (first ∷ left) right = by (first.0 == catch.0) refl (catch_found catch left right) where
  by : (b : Bool) → (first.0 == catch.0) ≡ b → list_any (λ (other : ℕ × ℕ). other.0 == catch.0) (left ++ (catch ∷ right)) ≡ true
      → list_any (λ (other : ℕ × ℕ). other.0 == catch.0) (first ∷ left ++ (catch ∷ right)) ≡ true
  by true e rest = rw (e) refl
  by false e rest = rw (e) rest

handlers_go : (w : Writing) (state : ℕ → Option Frame) (frames : List Frame) (number : ℕ) (one : WItem) (frame : Frame)
    → Known w state frames
    → StandsAt w number one
    → (left right : List (ℕ × ℕ))
    → (indexed_item w.s w.constructor w.pool w.form w.blocks number one).catches ≡ left ++ right
    → AllByRecursion (λ (catch : BodyCatch). LeadsIn w (Some (catch_frame frame catch.class)) catch.to) (map (body_catch w.pool) right)
    → AllByRecursion (λ (catch : BodyCatch). MayGoTo (scope_in w) (Some (catch_frame frame catch.class)) (state catch.to))
    (map (body_catch w.pool) right)
handlers_go w state frames number one frame known at left [] is all = tt
handlers_go w state frames number one frame known at left (catch ∷ right) is all =
    let led = leads_to_item w number catch.0 one at
    (either_second _ _ (ap (list_any (λ (other : ℕ × ℕ). other.0 == catch.0)) is ∙ catch_found catch left right)) in (
      subst (MayGoTo (scope_in w) (Some (catch_frame frame (body_catch w.pool catch).class))) (sym (known.stated catch.0))
          (leads_stated w known.all (comes w catch.0) (Some (catch_frame frame (body_catch w.pool catch).class)) catch.0 all.0 led),
      handlers_go w state frames number one frame known at (left ++ (catch ∷ [])) right (is ∙ sym (joined_left left right catch)) all.1,
    )

-- ---- points

point_fits : (w : Writing) (state : ℕ → Option Frame) (frames : List Frame) (number : ℕ) (left right : List WItem) (one : WItem)
    → Known w state frames
    → IsDeepEnough w
    → From w number left (one ∷ right)
    → HoldFrom w number (one ∷ right)
    → PointFits (body_in w state) frames (point_in w number one)
point_fits w state frames number left right one known deep from holds =
    let at = stands_from w number left right one from in
    record {
      frame = holds.0.frame;
      is_at = frame_there w state frames number one known at holds.0;
      row = record {
        operands = holds.0.holds.row.operands;
        local = holds.0.holds.row.local;
        depth_fits = deep number left right one holds.0.frame from.is from.number_is holds.0.is_frame;
        further = holds.0.holds.row.further;
        access = holds.0.holds.row.access;
      };
      next =
          subst (λ (n : ℕ). FlowsInto (body_in w state) frames n (flows_on (point_in w number one) holds.0.frame))
          (the_same (suc number) (number + 1) (omega arith))
          (flows_from_there w state frames (suc number) (left ++ (one ∷ [])) right _ known (next_from w number left right one from) holds.1
          (flows_next w number one holds.0.frame at holds.0.is_frame));
      targets = targets_go w state frames number one _ known at [] _ refl holds.0.holds.targets;
      handlers = handlers_go w state frames number one holds.0.frame known at [] _ refl holds.0.holds.handlers;
    }
  where
    the_same : (a b : ℕ) → a ≡ b → a ≡ b
    the_same a b is = is

points_fit : (w : Writing) (state : ℕ → Option Frame) (frames : List Frame) (number : ℕ) (left right : List WItem)
    → Known w state frames
    → IsDeepEnough w
    → From w number left right
    → HoldFrom w number right
    → AllByRecursion (PointFits (body_in w state) frames)
    (map_numbered (item_body w.pool (scope_in w)) number
    (map_numbered (indexed_item w.s w.constructor w.pool w.form w.blocks) number right))
points_fit w state frames number left [] known deep from holds = tt
points_fit w state frames number left (one ∷ right) known deep from holds = (
  point_fits w state frames number left right one known deep from holds,
  points_fit w state frames (suc number) (left ++ (one ∷ [])) right known deep (next_from w number left right one from) holds.1,
)

-- ---- the whole

all_from : (w : Writing) → From w 0 [] (written_items w.form w.blocks)
all_from w = record { is = refl; number_is = refl }

begins : (w : Writing) (items : List WItem)
    → HoldFrom w 0 items
    → begins_at (map_numbered (item_body w.pool (scope_in w)) 0 (map_numbered (indexed_item w.s w.constructor w.pool w.form w.blocks) 0 items))
    (length (items_in w)) ≡ 0
begins w [] holds = absurd (none-some _ (sym holds))
begins w (one ∷ items) holds = refl

-- Frames that are those of written code type its body.
pub frames_type : (w : Writing) (state : ℕ → Option Frame) (frames : List Frame)
    → AllCarry w
    → IsDeepEnough w
    → AllByRecursion (λ caught. IsThrowable (scope_in w).headers caught.class) (item_table w.pool 0 (items_in w))
    → IsFramed w.s.flat w.form w.blocks (items_in w) (body_in w state) frames
    → HasFrames (body_in w state) frames
frames_type w state frames all deep catches framed =
    let holds = all_hold w all in
    let known = known_of w state frames all framed in
    record {
      one_each = known.had.many;
      catch_types = catches;
      stated = λ place frame stated there is.
          same_Some frame stated
          (sym (framed.had place frame (sym (frame_at_number w state frames place known.had) ∙ there))
          ∙ ap (λ (from : Option Frame). frame_had from (flow_into (body_in w state) frames place)) is);
      entry =
          subst (λ (n : ℕ). FlowsInto (body_in w state) frames n (comes w 0)) (sym (begins w (written_items w.form w.blocks) holds))
          (flows_from_there w state frames 0 [] (written_items w.form w.blocks) _ known (all_from w) holds refl);
      points = points_fit w state frames 0 [] (written_items w.form w.blocks) known deep (all_from w) holds;
    }

-- ---- there are such frames

abbrev held : (w : Writing) (number : ℕ) (items : List WItem) → HoldFrom w number items → List Frame
held w number [] holds = []
held w number (one ∷ items) holds = holds.0.frame ∷ held w (suc number) items holds.1

held_many : (w : Writing) (number : ℕ) (items : List WItem) (holds : HoldFrom w number items) → length (held w number items holds) ≡ length items
held_many w number [] holds = refl
held_many w number (one ∷ items) holds = ap suc (held_many w (suc number) items holds.1)

held_had : (w : Writing) (number at : ℕ) (items : List WItem) (holds : HoldFrom w number items) (frame : Frame)
    → slice_get (held w number items holds) at ≡ Some frame
    → had_in w (number + at) (comes w (number + at)) ≡ Some frame
held_had w number at [] holds frame is = absurd (none-some frame is)
held_had w number zero (one ∷ items) holds frame is =
    subst (λ (n : ℕ). had_in w n (comes w n) ≡ Some frame) (the_same number (number + 0) (omega arith)) (holds.0.is_frame ∙ is) where
      the_same : (a b : ℕ) → a ≡ b → a ≡ b
      the_same a b is = is
held_had w number (suc at) (one ∷ items) holds frame is =
    subst (λ (n : ℕ). had_in w n (comes w n) ≡ Some frame) (the_same (suc number + at) (number + suc at) (omega arith))
    (held_had w (suc number) at items holds.1 frame is) where
      the_same : (a b : ℕ) → a ≡ b → a ≡ b
      the_same a b is = is

-- what is stated in written code, and the frames of its items
pub record AreThere (w : Writing) : Type 0 where
  pub state : ℕ → Option Frame
  pub frames : List Frame
  pub framed : IsFramed w.s.flat w.form w.blocks (items_in w) (body_in w state) frames

pub frames_are_there : (w : Writing) → AllCarry w → AreThere w
frames_are_there w all = record {
  state = state;
  frames = frames;
  framed = record {
    stated = λ number. sym (ap (stated_in w number) (same_flow w state frames had number));
    many = held_many w 0 (written_items w.form w.blocks) holds ∙ items_many;
    had = λ number frame is.
        subst (λ (from : Option Frame). frame_had (state number) from ≡ Some frame)
        (sym (same_flow w state frames had number)) (had.had number frame is);
  };
} where
  holds : HoldFrom w 0 (written_items w.form w.blocks)
  holds = all_hold w all

  state : ℕ → Option Frame
  state = λ number. stated_in w number (comes w number)

  frames : List Frame
  frames = held w 0 (written_items w.form w.blocks) holds

  items_many : length (written_items w.form w.blocks) ≡ length (items_in w)
  items_many = sym (numbered_long (indexed_item w.s w.constructor w.pool w.form w.blocks) zero (written_items w.form w.blocks))

  had : AreHad w frames
  had = record {
    many =
        held_many w 0 (written_items w.form w.blocks) holds ∙ items_many
        ∙ sym (numbered_long (item_body w.pool (scope_in w)) zero (items_in w));
    had = λ number frame is.
        subst (λ (n : ℕ). had_in w n (comes w n) ≡ Some frame) (omega arith)
        (held_had w 0 number (written_items w.form w.blocks) holds frame is);
  }
