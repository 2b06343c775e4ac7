-- What holds of the frame that a method begins with and of those that are stated, and holds behind an instruction where it holds before, holds of
-- each frame of a typed method.
use Rattle.std.proofs.Common.{◌≡◌, ◌+◌, ℕ, zero, suc, Bool, true, false, List, [], ◌∷◌, length, map, slice_get, Option, Some, None, option_map, if◌then◌else◌, refl, sym, ap, subst, ◌∙◌, arith}
use Rattle.std.specs.Prelude.{IsSome}
use Rattle.std.proofs.lemmas.Option.{none-some, same_Some, slice_get-map, slice_get_within}
use Rattle.class_model.specs.Laws.Lists.{at_index}
use Rattle.class_model.specs.declared.frame.Frame.{Frame}
use Rattle.class_model.specs.declared.instr.Placed.{Placed}
use Rattle.expanded_runs.proofs.TypedAloneNumbers.{frame_found, is_number, number_of_next, number_of_placed}
use Rattle.expanded_runs.proofs.Types.OwnPoints.{IsTyped}
use Rattle.expanded_runs.proofs.Types.Units.{item_there}
use Rattle.member_link.specs.Bodies.{Body, flows_on}
use Rattle.member_link.specs.BodyTyping.{FlowsInto, PointFits, Reaches, RowHolds, begins_at, frame_at}
use Rattle.member_link.specs.Rows.Table.{row_of}
use Rattle.member_link.specs.Scope.{Scope, instructions, row_scope}
use Rattle.type_rules.specs.MethodBodies.{body_of, point_of}
use Rattle.type_rules.specs.Stated.{entry, stated_at}

-- the frame behind an instruction that falls through
pub framed_is : (falls on : Bool) (frame flows : Frame)
    → (if falls then (if on then Some frame else None) else None) ≡ Some flows → frame ≡ flows
framed_is true true frame flows is = same_Some frame flows is
framed_is true false frame flows is = absurd (none-some flows is)
framed_is false on frame flows is = absurd (none-some flows is)

module _ (s : Scope) (frames : List Frame) (typed : IsTyped s frames) (one_each : length frames ≡ length (instructions s)) (Has : Frame → Type 0)
    (entry_has : Has (entry s)) (stated_has : (place : ℕ) (frame : Frame) → stated_at s place ≡ Some frame → Has frame)
    (behind_has : (k : ℕ) (placed : Placed) → slice_get (instructions s) k ≡ Some placed → (frame flows : Frame) → Has frame
    → RowHolds (row_scope s) frame (row_of (row_scope s) frame placed.at placed.instr)
    → flows_on (point_of s placed) frame ≡ Some flows
    → Has flows) where
  abbrev body : Body
  body = body_of s

  -- what flows into a place
  reached_has : (place : ℕ) (flows found : Frame) → Has flows → frame_at body frames place ≡ Some found
      → Reaches body.scope flows found (body.stated place) → Has found
  reached_has place flows found has is_at reaches = by (stated_at s place) refl reaches where
    by : (stated : Option Frame) → stated_at s place ≡ stated → Reaches body.scope flows found stated → Has found
    by (Some stated) is reaches =
        let same : found ≡ stated = typed.has.stated place found stated is_at is in
        subst Has (sym same) (stated_has place stated is)
    by None is same = subst Has same has

  -- ---- by the numbers of instructions

  fits_at : (k : ℕ) (placed : Placed) → slice_get (instructions s) k ≡ Some placed → PointFits body frames (point_of s placed)
  fits_at k placed is =
      at_index (PointFits body frames) body.points k (point_of s placed) typed.has.points
      (slice_get-map (point_of s) (instructions s) k ∙ ap (option_map (point_of s)) is)

  at_place : (k : ℕ) (placed : Placed) (frame : Frame) → slice_get (instructions s) k ≡ Some placed → slice_get frames k ≡ Some frame
      → (other : Frame) → frame_at body frames placed.at ≡ Some other → other ≡ frame
  at_place k placed frame is has other there =
      same_Some other frame
      (sym (frame_found s (instructions s) frames placed.at other there)
      ∙ ap (slice_get frames) (number_of_placed s (instructions s) typed.order k placed is) ∙ has)

  first_has : (instrs : List Placed) → instructions s ≡ instrs → (frame : Frame) → slice_get frames 0 ≡ Some frame → Has frame
  first_has [] are frame has =
      let some = slice_get_within frames 0 frame has in
      let none : length (instructions s) ≡ 0 = ap length are in
      absurd (omega (arith, some, one_each, none))
  first_has (first ∷ instrs) are frame has =
      let is : slice_get (instructions s) 0 ≡ Some first = ap (λ (all : List Placed). slice_get all 0) are in
      let into : FlowsInto body frames first.at (Some (entry s)) =
      subst (λ (place : ℕ). FlowsInto body frames place (Some (entry s)))
      (ap (λ (all : List Placed). begins_at (map (point_of s) all) (length s.part.code)) are) typed.has.entry in
      subst Has (at_place 0 first frame is has into.0 into.1)
      (reached_has first.at (entry s) into.0 entry_has into.1 into.2)

  next_has : (place : ℕ) (frame : Frame) → frame_at body frames place ≡ Some frame → (flows : Option Frame)
      → ((after : Frame) → flows ≡ Some after → Has after)
      → FlowsInto body frames place flows → Has frame
  next_has place frame is_at None has into = by (stated_at s place) refl (into frame is_at) where
    by : (stated : Option Frame) → stated_at s place ≡ stated → IsSome stated → Has frame
    by None none some = absurd cc
    by (Some stated) is some =
        subst Has (sym (typed.has.stated place frame stated is_at is)) (stated_has place stated is)
  next_has place frame is_at (Some after) has into =
      let same : into.0 ≡ frame = same_Some into.0 frame (sym into.1 ∙ is_at) in
      subst Has same (reached_has place after into.0 (has after refl) into.1 into.2)

  -- Each frame.
  pub each_frame : (k : ℕ) (frame : Frame) → slice_get frames k ≡ Some frame → Has frame
  each_frame zero frame has = first_has (instructions s) refl frame has
  each_frame (suc k) frame has =
      let within = slice_get_within frames (suc k) frame has in
      let before = item_there frames k (omega (arith, within)) in
      let one = item_there (instructions s) k (omega (arith, within, one_each)) in
      let next = is_number (instructions s) (one.0.at + one.0.len) (suc k)
      (number_of_next s (instructions s) typed.order k one.0 one.1) (omega (arith, within, one_each)) in
      let fits = fits_at k one.0 one.1 in
      let here : fits.frame ≡ before.0 = at_place k one.0 before.0 one.1 before.1 fits.frame fits.is_at in
      let fits_next = fits_at (suc k) next.placed next.stands in
      let there : fits_next.frame ≡ frame = at_place (suc k) next.placed frame next.stands has fits_next.frame fits_next.is_at in
      let earlier = subst Has (sym here) (each_frame k before.0 before.1) in
      next_has (one.0.at + one.0.len) frame
      (subst (λ (place : ℕ). frame_at body frames place ≡ Some frame) next.place_is (fits_next.is_at ∙ ap Some there))
      (flows_on (point_of s one.0) fits.frame) (λ after is. behind_has k one.0 one.1 fits.frame after earlier fits.row is) fits.next
