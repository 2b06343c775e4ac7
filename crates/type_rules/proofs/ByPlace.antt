-- The frames that type a body, place by place.
use Rattle.std.proofs.Common.{◌≡◌, ℕ, suc, List, [], ◌∷◌, ◌++◌, length, slice_get, Option, Some, None, refl, sym, ap, subst, ◌∙◌, arith}
use Rattle.std.specs.Prelude.{IsSome}
use Rattle.std.specs.List.{AllByRecursion}
use Rattle.std.proofs.lemmas.Bool.{false≢true}
use Rattle.std.proofs.lemmas.Option.{same_Some}
use Rattle.class_model.specs.Checks.{AllHold, Check}
use Rattle.class_model.specs.Laws.Checks.{both_hold, first_holds, others_hold}
use Rattle.class_model.specs.declared.frame.Frame.{Frame}
use Rattle.member_link.specs.Bodies.{Body, BodyCatch, BodyPoint, catch_frame, flows_on, frame_behind, item_targets, point_row}
use Rattle.member_link.specs.BodyTyping.{AreInOrder, FlowsInto, HasFrames, MayGoTo, PointFits, Reaches, RowHolds, begins_at, frame_among, frame_at}
use Rattle.member_link.specs.RowScope.{RowScope}
use Rattle.member_link.specs.Rows.Row.{Row}
use Rattle.type_rules.proofs.EachTyped.{each_instruction, frames_counted, into_behind, nothing_flows_past}
use Rattle.type_rules.proofs.Places.{at_head, at_number, each_number, further_down, is_at, last_number, next_place, none_behind}
use Rattle.type_rules.specs.Checks.{IsTypedAt, MayFlowIn, frame_before, handler_checks, target_checks}
use Rattle.type_rules.specs.Rule.{row_checks}
use Rattle.type_rules.specs.Typed.{AreTyped, TypesBody, flows_into}
use Rattle.type_rules.specs.declared.fault.TypeRule.{TypeRule}

-- ---- the checks of an instruction

pub row_holds : (s : RowScope) (f : Frame) (row : Row) → AllHold (row_checks s f row) → RowHolds s f row
row_holds s f row (fits, (held, (deep, (kind, done)))) = record { operands = fits; local = held; depth_fits = deep; further = kind.0; access = kind.1 }

pub row_asked : (s : RowScope) (f : Frame) (row : Row) → RowHolds s f row → AllHold (row_checks s f row)
row_asked s f row h = (h.operands, (h.local, (h.depth_fits, ((h.further, h.access), tt))))

handlers_hold : (b : Body) (before : Frame) (catches : List BodyCatch) → AllHold (handler_checks b before catches) → AllByRecursion (λ catch. MayGoTo b.scope (Some (catch_frame before catch.class)) (b.stated catch.to)) catches
handlers_hold b before [] h = tt
handlers_hold b before (catch ∷ catches) h = (h.0, handlers_hold b before catches h.1)

handlers_asked : (b : Body) (before : Frame) (catches : List BodyCatch) → AllByRecursion (λ catch. MayGoTo b.scope (Some (catch_frame before catch.class)) (b.stated catch.to)) catches → AllHold (handler_checks b before catches)
handlers_asked b before [] h = tt
handlers_asked b before (catch ∷ catches) h = (h.0, handlers_asked b before catches h.1)

targets_hold : (b : Body) (behind : Option Frame) (targets : List ℕ) → AllHold (target_checks b behind targets) → AllByRecursion (λ target. MayGoTo b.scope behind (b.stated target)) targets
targets_hold b behind [] h = tt
targets_hold b behind (target ∷ targets) h = (h.0, targets_hold b behind targets h.1)

targets_asked : (b : Body) (behind : Option Frame) (targets : List ℕ) → AllByRecursion (λ target. MayGoTo b.scope behind (b.stated target)) targets → AllHold (target_checks b behind targets)
targets_asked b behind [] h = tt
targets_asked b behind (target ∷ targets) h = (h.0, targets_asked b behind targets h.1)

-- ---- what flows into a place

none_is_some : {X : Type 0} (x : X) (o : Option X) → o ≡ None → o ≡ Some x → ⊥
none_is_some x o e f = cc

module _ (b : Body) (frames : List Frame) where
  -- into a point that is typed
  flows_there : (flows : Option Frame) (point : BodyPoint) (frame : Frame) (stated : Option Frame) → b.stated point.place ≡ stated → frame_before flows stated ≡ Some frame → MayFlowIn b.scope flows stated → frame_at b frames point.place ≡ Some frame → FlowsInto b frames point.place flows
  flows_there (Some own) point frame (Some state) state_is before may at = (
    frame,
    at,
    subst (Reaches b.scope own frame) (sym state_is) (subst (λ (f : Frame). Reaches b.scope own f (Some state)) (same_Some state frame before) may),
  )
  flows_there (Some own) point frame None state_is before may at = (frame, at, subst (Reaches b.scope own frame) (sym state_is) (same_Some own frame before))
  flows_there None point frame (Some state) state_is before may at = λ other other_at. subst (λ (o : Option Frame). IsSome o) (sym state_is) refl
  flows_there None point frame None state_is before may at = absurd cc

  flows_typed : (flows : Option Frame) (point : BodyPoint) (frame : Frame) → IsTypedAt b flows point frame → frame_at b frames point.place ≡ Some frame → FlowsInto b frames point.place flows
  flows_typed flows point frame typed at = flows_there flows point frame (b.stated point.place) refl typed.before_is typed.holds.0 at

  -- and out of what flows in the frame before the point
  module _ (stated_is : (place : ℕ) (frame state : Frame) → frame_at b frames place ≡ Some frame → b.stated place ≡ Some state → frame ≡ state) where
    before_there : (flows : Option Frame) (place : ℕ) (frame : Frame) (stated : Option Frame) → b.stated place ≡ stated → frame_at b frames place ≡ Some frame → FlowsInto b frames place flows → (frame_before flows stated ≡ Some frame) × MayFlowIn b.scope flows stated
    before_there (Some own) place frame (Some state) state_is at (other, other_at, reaches) = (
      ap Some (sym (stated_is place frame state at state_is)),
      subst (λ (f : Frame). Reaches b.scope own f (Some state)) (stated_is place other state other_at state_is) (subst (Reaches b.scope own other) state_is reaches),
    )
    before_there (Some own) place frame None state_is at (other, other_at, reaches) =
        let equal : own ≡ other = subst (Reaches b.scope own other) state_is reaches in
        (ap Some (equal ∙ same_Some other frame (sym other_at ∙ at)), tt)
    before_there None place frame (Some state) state_is at into = (ap Some (sym (stated_is place frame state at state_is)), tt)
    before_there None place frame None state_is at into = absurd (false≢true (subst (λ (o : Option Frame). IsSome o) state_is (into frame at)))

-- ---- frames that type a body have its places

module _ (b : Body) (frames : List Frame) (order : AreInOrder b.points) (typed : TypesBody b frames) where
  at_its_place : (number : ℕ) (point : BodyPoint) (frame : Frame) → slice_get b.points number ≡ Some point → slice_get frames number ≡ Some frame → frame_at b frames point.place ≡ Some frame
  at_its_place number point frame stands frame_is = at_number b.points frames order number point frame stands frame_is

  into_number : (number : ℕ) (point : BodyPoint) → slice_get b.points number ≡ Some point → FlowsInto b frames point.place (flows_into b frames number)
  into_number number point stands =
      let own = each_instruction b frames typed number point stands in
      flows_typed b frames (flows_into b frames number) point own.0 own.2 (at_its_place number point own.0 stands own.1)

  behind_number : (number : ℕ) (point : BodyPoint) (frame : Frame) (next : Option BodyPoint) → slice_get b.points number ≡ Some point → slice_get frames number ≡ Some frame → slice_get b.points (suc number) ≡ next → FlowsInto b frames point.next (flows_on point frame)
  behind_number number point frame (Some next) stands frame_is next_is =
      subst (λ (flows : Option Frame). FlowsInto b frames point.next flows) (into_behind b frames number point frame stands frame_is)
      (subst (λ (place : ℕ). FlowsInto b frames place (flows_into b frames (suc number))) (next_place b.points order number point next stands next_is) (into_number (suc number) next next_is))
  behind_number number point frame None stands frame_is none =
      let past : flows_into b frames (suc number) ≡ None = subst (λ (n : ℕ). flows_into b frames n ≡ None) (sym (last_number b.points number point stands none)) (nothing_flows_past b frames typed) in
      let nothing : flows_on point frame ≡ None = sym (into_behind b frames number point frame stands frame_is) ∙ past in
      let none_there : frame_at b frames point.next ≡ None = none_behind b.points frames order number point stands none point.next (omega arith) in
      subst (λ (flows : Option Frame). FlowsInto b frames point.next flows) (sym nothing) (λ other at. absurd (none_is_some other _ none_there at))

  fits : (number : ℕ) (point : BodyPoint) → slice_get b.points number ≡ Some point → PointFits b frames point
  fits number point stands =
      let own = each_instruction b frames typed number point stands in
      let frame = own.0 in
      let of_handlers : List (Check TypeRule) = handler_checks b frame point.catches in
      let of_row : List (Check TypeRule) = row_checks point.scope frame (point_row point frame) in
      let of_targets : List (Check TypeRule) = target_checks b (frame_behind point frame) (item_targets point.item) in
      let first : AllHold (of_handlers ++ of_row) = first_holds (of_handlers ++ of_row) of_targets own.2.holds.1 in
      record {
        frame = frame;
        is_at = at_its_place number point frame stands own.1;
        row = row_holds point.scope frame (point_row point frame) (others_hold of_handlers of_row first);
        next = behind_number number point frame (slice_get b.points (suc number)) stands own.1 refl;
        targets = targets_hold b (frame_behind point frame) (item_targets point.item) (others_hold (of_handlers ++ of_row) of_targets own.2.holds.1);
        handlers = handlers_hold b frame point.catches (first_holds of_handlers of_row first);
      }

  stated_is : (place : ℕ) (frame state : Frame) → frame_at b frames place ≡ Some frame → b.stated place ≡ Some state → frame ≡ state
  stated_is place frame state at state_is =
      let there = is_at b.points frames place frame at in
      let own = each_instruction b frames typed there.number there.point there.stands in
      let same : own.0 ≡ frame = same_Some own.0 frame (sym own.1 ∙ there.frame_is) in
      let stated : b.stated there.point.place ≡ Some state = ap b.stated there.place_is ∙ state_is in
      sym same ∙ sym (same_Some state own.0 (subst (λ (o : Option Frame). frame_before (flows_into b frames there.number) o ≡ Some own.0) stated own.2.before_is))

  enters : (points : List BodyPoint) → b.points ≡ points → FlowsInto b frames (begins_at points b.end) (Some b.entry)
  enters [] none = absurd (none_is_some b.entry _ (subst (λ (points : List BodyPoint). flows_into b frames (length points) ≡ None) none (nothing_flows_past b frames typed)) refl)
  enters (point ∷ points) is = into_number 0 point (ap (λ (all : List BodyPoint). slice_get all 0) is)

  pub by_place : HasFrames b frames
  by_place = record {
    one_each = frames_counted b frames typed;
    catch_types = typed.catch_types;
    stated = stated_is;
    entry = enters b.points refl;
    points = each_number (PointFits b frames) b.points fits;
  }

-- ---- and frames that have its places type it

-- what flows into the first of these points; past the last, nothing
abbrev EntersAt : Body → List Frame → List BodyPoint → Option Frame → Type 0
EntersAt b frames [] flows = flows ≡ None
EntersAt b frames (point ∷ points) flows = FlowsInto b frames point.place flows

-- no frame stands behind the last of these points
record NoneBehind (b : Body) (frames : List Frame) (points : List BodyPoint) : Type 0 where
  none : (number : ℕ) (point : BodyPoint) → slice_get points number ≡ Some point → slice_get points (suc number) ≡ None → frame_at b frames point.next ≡ None

-- the frames of these points stand at their places
record StandThere (b : Body) (frames : List Frame) (points : List BodyPoint) (own : List Frame) : Type 0 where
  there : (place : ℕ) (frame : Frame) → frame_among points own place ≡ Some frame → frame_at b frames place ≡ Some frame

module _ (b : Body) (frames : List Frame) (has : HasFrames b frames) where
  enters_next : (place : ℕ) (points : List BodyPoint) (flows : Option Frame) → FlowsInto b frames place flows → ((point : BodyPoint) → slice_get points 0 ≡ Some point → point.place ≡ place) → (slice_get points 0 ≡ None → frame_at b frames place ≡ None) → EntersAt b frames points flows
  enters_next place [] None into begin none = refl
  enters_next place [] (Some flows) (frame, at, reaches) begin none = absurd (none_is_some frame _ (none refl) at)
  enters_next place (point ∷ points) flows into begin none = subst (λ (p : ℕ). FlowsInto b frames p flows) (sym (begin point refl)) into

  typed_own : (point : BodyPoint) (flows : Option Frame) (own : PointFits b frames point) → FlowsInto b frames point.place flows → IsTypedAt b flows point own.frame
  typed_own point flows own into =
      let before = before_there b frames has.stated flows point.place own.frame (b.stated point.place) refl own.is_at into in
      let of_handlers : List (Check TypeRule) = handler_checks b own.frame point.catches in
      let of_row : List (Check TypeRule) = row_checks point.scope own.frame (point_row point own.frame) in
      let of_targets : List (Check TypeRule) = target_checks b (frame_behind point own.frame) (item_targets point.item) in
      record {
        before_is = before.0;
        holds = (
          before.1,
          both_hold (of_handlers ++ of_row) of_targets (both_hold of_handlers of_row (handlers_asked b own.frame point.catches own.handlers) (row_asked point.scope own.frame (point_row point own.frame) own.row))
              (targets_asked b (frame_behind point own.frame) (item_targets point.item) own.targets),
        );
      }

  typed_here : (point : BodyPoint) (frame : Frame) (flows : Option Frame) (own : PointFits b frames point) → own.frame ≡ frame → FlowsInto b frames point.place flows → IsTypedAt b flows point frame
  typed_here point frame flows own same into = subst (λ (f : Frame). IsTypedAt b flows point f) same (typed_own point flows own into)

  typed_from : (points : List BodyPoint) (own : List Frame) (flows : Option Frame) → length own ≡ length points → AreInOrder points → StandThere b frames points own → NoneBehind b frames points → AllByRecursion (PointFits b frames) points → EntersAt b frames points flows → AreTyped b flows points own
  typed_from [] [] flows long order stand behind fit enter = enter
  typed_from [] (frame ∷ own) flows long order stand behind fit enter = absurd (omega (arith, long))
  typed_from (point ∷ points) [] flows long order stand behind fit enter = absurd (omega (arith, long))
  typed_from (point ∷ points) (frame ∷ own) flows long order stand behind fit enter =
      let here : frame_at b frames point.place ≡ Some frame = stand.there point.place frame (at_head point points frame own point.place refl) in
      let same : fit.0.frame ≡ frame = same_Some fit.0.frame frame (sym fit.0.is_at ∙ here) in
      let on : FlowsInto b frames point.next (flows_on point frame) = subst (λ (f : Frame). FlowsInto b frames point.next (flows_on point f)) same fit.0.next in
      let later : StandThere b frames points own = record { there = λ place other found. stand.there place other (further_down point points frame own place other order found) } in
      let past : NoneBehind b frames points = record { none = λ number last is none. behind.none (suc number) last is none } in (
        typed_here point frame flows fit.0 same enter,
        typed_from points own (flows_on point frame) (omega (arith, long)) order.2 later past fit.1
            (enters_next point.next points (flows_on point frame) on (λ next is. next_place (point ∷ points) order 0 point next refl is) (λ none. behind.none 0 point refl none)),
      )

  enters_first : (points : List BodyPoint) → b.points ≡ points → FlowsInto b frames (begins_at points b.end) (Some b.entry) → EntersAt b frames points (Some b.entry)
  enters_first [] is (frame, at, reaches) = absurd (none_is_some frame _ (ap (λ (points : List BodyPoint). frame_among points frames b.end) is) at)
  enters_first (point ∷ points) is into = into

  pub from_places : AreInOrder b.points → TypesBody b frames
  from_places order =
      record {
        catch_types = has.catch_types;
        instrs = typed_from b.points frames (Some b.entry) has.one_each order (record { there = λ place frame at. at })
            (record { none = λ number point is none. none_behind b.points frames order number point is none point.next (omega arith) })
            has.points (enters_first b.points refl has.entry);
      }
