-- Where control goes in the flat code of a method by itself, and how deep its stack is there.
use Rattle.std.proofs.Common.{◌≡◌, ◌≤◌, ◌<◌, ◌-◌, ℕ, Bool, true, List, [], ◌∷◌, ◌++◌, length, map, slice_get, Option, Some, None, option_map, if◌then◌else◌, refl, sym, ap, subst, ◌∙◌, arith, inl, inr, append-nil, length-take}
use Rattle.std.specs.Prelude.{◌⊎◌, IsSome}
use Rattle.std.specs.List.{AllByRecursion}
use Rattle.std.proofs.lemmas.List.{length-map}
use Rattle.std.proofs.lemmas.Option.{same_Some, slice_get_within}
use Rattle.class_model.specs.Instructions.{targets}
use Rattle.class_model.specs.declared.class_file.MethodAt.{MethodAt}
use Rattle.class_model.specs.declared.frame.Frame.{Frame}
use Rattle.class_model.specs.declared.frame.VType.{VType}
use Rattle.class_model.specs.declared.instr.Instr.{Instr}
use Rattle.class_model.specs.declared.instr.Instr.TheVariants.{Goto, Table, Lookup, Return, Throw}
use Rattle.class_tree.specs.Headers.{Name, Classes}
use Rattle.expanded_code.specs.Alone.{flat_alone, number_at, numbered_frame, numbered_type}
use Rattle.expanded_runs.proofs.FlatPlaces.{frame_is_stated}
use Rattle.row_frames.specs.Laws.RenumberedEntry.{as_many, to_itself}
use Rattle.row_frames.specs.Laws.RenumberedRows.{Leaves}
use Rattle.row_frames.specs.Laws.RenumberedTypes.{frame_assignable_kept, renumbered}
use Rattle.expanded_runs.proofs.StackRoom.{no_deeper}
use Rattle.expanded_runs.proofs.TypedAloneNumbers.{frame_found, is_number, point_there, IsNumber}
use Rattle.flow_code.specs.FlatCode.{FlatCode}
use Rattle.flow_code.specs.FlatRoom.{deepest, stack_room}
use Rattle.flow_code.specs.declared.point.Point.{Point}
use Rattle.member_link.specs.Bodies.{Body, falls_through}
use Rattle.member_link.specs.BodyTyping.{AreInOrder, FlowsInto, GoesInto, GoesToStated, HasFrames, MayGoTo, Reaches, frame_at}
use Rattle.member_link.specs.RowScope.{RowScope}
use Rattle.member_link.specs.Rows.FrameAssignability.{IsFrameAssignable}
use Rattle.member_link.specs.Rows.Operands.{under}
use Rattle.member_link.specs.Rows.Row.{Row, row_frame, stack_behind}
use Rattle.member_link.specs.Rows.Table.{row_of}
use Rattle.member_link.specs.Scope.{Scope, instructions, row_scope}
use Rattle.same_runs.specs.FlatBodies.{body_of_flat, typed_points}
use Rattle.same_runs.specs.Flats.{class_of_flat_new, pool_of}
use Rattle.type_rules.specs.MethodBodies.{body_of, point_of}

-- a method of the class of its number, whose frames type it place by place
pub record IsTypedMethod (classes : Classes) (s : Scope) (at : MethodAt) (frames : List Frame) : Type 0 where
  pub pool_is : pool_of classes at.class ≡ s.class.pool
  pub order : AreInOrder (body_of s).points
  pub has : HasFrames (body_of s) frames
  pub goes : AllByRecursion (GoesToStated (body_of s) frames) (body_of s).points

module _ (classes : Classes) (s : Scope) (at : MethodAt) (frames : List Frame) (m : IsTypedMethod classes s at frames) where
  abbrev pub number : ℕ → ℕ
  number = number_at s

  abbrev pub own : Body
  own = body_of s

  abbrev pub flat : FlatCode
  flat = flat_alone s at frames

  abbrev pub body : Body
  body = body_of_flat classes s flat

  abbrev pub typed : List Frame
  typed = typed_points flat

  abbrev pub news : ℕ → Option Name
  news = class_of_flat_new classes flat

  abbrev pub scope : RowScope
  scope = renumbered (row_scope s) (stack_room flat) news

  pub counted : length frames ≡ length (instructions s)
  counted = m.has.one_each ∙ length-map (instructions s) (point_of s)

  -- a frame at a place is stated for the number of the place, with the other numbers
  pub carried : (place : ℕ) (frame : Frame) → frame_at own frames place ≡ Some frame
      → body.stated (number place) ≡ Some (numbered_frame number frame)
  carried place frame is =
      let there : slice_get frames (number place) ≡ Some frame = frame_found s (instructions s) frames place frame is in
      let within : number place < length (instructions s) =
      subst (λ (n : ℕ). number place < n) counted (slice_get_within frames (number place) frame there) in
      let placed : IsNumber (instructions s) place (number place) = is_number (instructions s) place (number place) refl within in
      ap (option_map (λ (point : Point). point.typed))
      (point_there s at.class (instructions s) frames (number place) placed.placed frame placed.stands there)

  pub is_there : (place : ℕ) (frame : Frame) → frame_at own frames place ≡ Some frame
      → frame_at body typed (number place) ≡ Some (numbered_frame number frame)
  is_there place frame is = frame_is_stated classes s flat (number place) ∙ carried place frame is

  -- ---- along the edges

  reached : (from to : Frame) (stated : Option Frame) → Reaches own.scope from to stated → IsFrameAssignable s.headers from to
  reached from to (Some stated) reaches = reaches
  reached from to None reaches = subst (IsFrameAssignable s.headers from) reaches (to_itself s.headers from)

  pub flows_carried : (place : ℕ) (flows : Option Frame) → FlowsInto own frames place flows
      → FlowsInto body typed (number place) (option_map (numbered_frame number) flows)
  flows_carried place (Some from) into =
      let stated : body.stated (number place) ≡ Some (numbered_frame number into.0) = carried place into.0 into.1 in (
        numbered_frame number into.0,
        is_there place into.0 into.1,
        subst (Reaches body.scope (numbered_frame number from) (numbered_frame number into.0)) (sym stated)
            (frame_assignable_kept number s.headers from into.0 (reached from into.0 (own.stated place) into.2)),
      )
  flows_carried place None into =
      λ frame is. subst (λ (o : Option Frame). IsSome o) (sym (sym (frame_is_stated classes s flat (number place)) ∙ is)) refl

  pub goes_carried : (from : Option Frame) (place : ℕ) → GoesInto own frames from place
      → MayGoTo body.scope (option_map (numbered_frame number) from) (body.stated (number place))
  goes_carried from place into =
      subst (λ (o : Option Frame). MayGoTo body.scope (option_map (numbered_frame number) o) (body.stated (number place)))
      (sym into.goes_is)
      (subst (MayGoTo body.scope (Some (numbered_frame number into.frame))) (sym (carried place into.stated into.is_at))
      (frame_assignable_kept number s.headers into.frame into.stated into.assignable))

  pub all_go : (from : Option Frame) (places : List ℕ) → AllByRecursion (GoesInto own frames from) places
      → AllByRecursion (λ place. MayGoTo body.scope (option_map (numbered_frame number) from) (body.stated place)) (map number places)
  all_go from [] all = tt
  all_go from (place ∷ places) all = (goes_carried from place all.0, all_go from places all.1)

  -- ---- the room of the stack

  few : (place : ℕ) (frame : Frame) → frame_at own frames place ≡ Some frame → length frame.stack ≤ deepest flat.points
  few place frame is =
      subst (λ (n : ℕ). n ≤ deepest flat.points) (length-map frame.stack (numbered_type number))
      (no_deeper flat.points (number place) (numbered_frame number frame) (carried place frame is))

  abbrev as_frame : Row → Frame → Frame
  as_frame row f = record { locals = row.locals; stack = stack_behind f row }

  -- what goes on has as many entries as the stack where it flows
  few_flowing : (place : ℕ) (from : Frame) → FlowsInto own frames place (Some from) → length from.stack ≤ deepest flat.points
  few_flowing place from into =
      let assignable : IsFrameAssignable s.headers from into.0 = reached from into.0 (own.stated place) into.2 in
      subst (λ (n : ℕ). n ≤ deepest flat.points) (sym (as_many s.headers from.stack into.0.stack assignable.stack))
      (few place into.0 into.1)

  few_going : (place : ℕ) (from : Frame) → GoesInto own frames (Some from) place → length from.stack ≤ deepest flat.points
  few_going place from into =
      let same : into.frame ≡ from = same_Some into.frame from (sym into.goes_is) in
      subst (λ (n : ℕ). n ≤ deepest flat.points)
      (sym (as_many s.headers from.stack into.stated.stack
      (subst (λ (f : Frame). IsFrameAssignable s.headers f into.stated) same into.assignable).stack)) (few place into.stated into.is_at)

  -- what ends has no more entries than before
  few_under : (count : ℕ) (stack : List VType) → length (under count stack) ≤ length stack
  few_under count stack = let taken = length-take (length stack - count) stack in omega (arith, taken)

  few_left : (f : Frame) (row : Row) → Leaves row → length (stack_behind f row) ≤ length f.stack
  few_left f row leaves =
      let left : stack_behind f row ≡ under (length row.takes) f.stack =
      ap (λ (given : List VType). row.becomes (under (length row.takes) f.stack) ++ given) leaves.none_given ∙ append-nil _
      ∙ leaves.as_before (under (length row.takes) f.stack) in
      subst (λ (entries : List VType). length entries ≤ length f.stack) (sym left) (few_under (length row.takes) f.stack)

  framed_on : (row : Row) (f : Frame) → row.goes_on ≡ true → row_frame f row ≡ Some (as_frame row f)
  framed_on row f on = ap (λ (b : Bool). if b then Some (as_frame row f) else None) on

  -- behind an instruction at a place, whose row ends or goes on
  pub few_behind : (f : Frame) (place next : ℕ) (instr : Instr) → frame_at own frames place ≡ Some f
      → let row = row_of (row_scope s) f place instr in
      ((row.goes_on ≡ true) ⊎ Leaves row)
      → FlowsInto own frames next (if falls_through instr then row_frame f row else None)
      → AllByRecursion (GoesInto own frames (row_frame f row)) (targets instr)
      → length (stack_behind f row) ≤ deepest flat.points
  few_behind f place next (Goto to) is ends flows all = few_going to _ all.0
  few_behind f place next (Table low other to) is ends flows all = few_going other _ all.0
  few_behind f place next (Lookup other pairs) is ends flows all = few_going other _ all.0
  few_behind f place next (Return None) is ends flows all =
      let left = few_left f (row_of (row_scope s) f place (Return None)) (record { none_given = refl; as_before = λ entries. refl }) in
      let there = few place f is in
      omega (arith, left, there)
  few_behind f place next (Return (Some kind)) is ends flows all =
      let left = few_left f (row_of (row_scope s) f place (Return (Some kind)))
      (record { none_given = refl; as_before = λ entries. refl }) in
      let there = few place f is in
      omega (arith, left, there)
  few_behind f place next Throw is ends flows all =
      let left = few_left f (row_of (row_scope s) f place Throw) (record { none_given = refl; as_before = λ entries. refl }) in
      let there = few place f is in
      omega (arith, left, there)
  few_behind f place next instr is (inl on) flows all =
      let row : Row = row_of (row_scope s) f place instr in
      few_flowing next (as_frame row f) (subst (FlowsInto own frames next) (framed_on row f on) flows)
  few_behind f place next instr is (inr leaves) flows all =
      let left = few_left f (row_of (row_scope s) f place instr) leaves in
      let there = few place f is in
      omega (arith, left, there)
