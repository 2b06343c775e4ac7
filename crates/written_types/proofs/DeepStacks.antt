-- The greatest depth of the frames before and behind items bounds the stack behind each item.
use Rattle.std.proofs.Common.{◌≡◌, ◌+◌, ◌-◌, ◌≤◌, ◌⊎◌, inl, inr, ℕ, zero, suc, max, Bool, true, List, [], ◌∷◌, ◌++◌, length, slice_get, take, drop, Option, Some, None, if◌then◌else◌, refl, sym, ap, subst, ◌∙◌, arith}
use Rattle.std.specs.List.{flat_map}
use Rattle.std.proofs.lemmas.Grind.{flat_map-append}
use Rattle.std.proofs.lemmas.List.{append-nil, length-append, take-append-drop}
use Rattle.std.proofs.lemmas.Option.{none-some, same_Some}
use Rattle.class_model.specs.Frames.{depth, units}
use Rattle.class_model.specs.declared.frame.Frame.{Frame}
use Rattle.class_model.specs.declared.frame.VType.{VType}
use Rattle.making_code.specs.Items.{WItem}
use Rattle.member_link.specs.Bodies.{BodyPoint, frame_behind, point_row}
use Rattle.member_link.specs.Rows.Operands.{under}
use Rattle.member_link.specs.Rows.Row.{Row, row_frame, stack_behind}
use Rattle.plan_flow.specs.Written.FramedCode.{depth_in, greatest_of}
use Rattle.written_types.proofs.FramedBodies.{AreHad}
use Rattle.written_types.proofs.ItemPlaces.{StandsAt, point_stands}
use Rattle.written_types.specs.Inner.CarriedFrames.{IsDeepEnough}
use Rattle.written_types.specs.Writing.{Writing, point_in, points_in}

-- ---- depths

depth_apart : (ones others : List VType) → depth (ones ++ others) ≡ depth ones + depth others
depth_apart ones others = ap length (flat_map-append units ones others) ∙ length-append (flat_map units ones) (flat_map units others)

depth_under : (count : ℕ) (stack : List VType) → depth (under count stack) ≤ depth stack
depth_under count stack =
    let whole = ap depth (take-append-drop (length stack - count) stack) in
    let parts = depth_apart (take (length stack - count) stack) (drop (length stack - count) stack) in
    omega (arith, whole, parts)

-- ---- rows that do not go on

-- such a row gives nothing, and what is under its operands stays
pub record Ends (row : Row) : Type 0 where
  pub gives : row.gives ≡ []
  pub becomes : (entries : List VType) → row.becomes entries ≡ entries

abbrev pub GoesOrEnds : Row → Type 0
GoesOrEnds row = (row.goes_on ≡ true) ⊎ Ends row

-- behind a point the stack is as deep as before it, or as in the frame behind it
pub behind_depth : (frame : Frame) (row : Row) → GoesOrEnds row → (n : ℕ) → depth frame.stack ≤ n → depth_in (row_frame frame row) ≤ n
    → depth (stack_behind frame row) ≤ n
behind_depth frame row (inl goes) n before behind =
    let is : row_frame frame row ≡ Some (record { locals = row.locals; stack = stack_behind frame row }) =
    ap (λ (b : Bool). if b then Some (record { locals = row.locals; stack = stack_behind frame row }) else None) goes in
    subst (λ (found : Option Frame). depth_in found ≤ n) is behind
behind_depth frame row (inr ends) n before behind =
    let same : stack_behind frame row ≡ under (length row.takes) frame.stack =
    (λ i. row.becomes (under (length row.takes) frame.stack) ++ ends.gives i)
    ∙ append-nil (row.becomes (under (length row.takes) frame.stack))
    ∙ ends.becomes (under (length row.takes) frame.stack) in
    let low = depth_under (length row.takes) frame.stack in
    let deep = ap depth same in
    omega (arith, before, low, deep)

-- ---- the greatest

pub greatest_at : (points : List BodyPoint) (frames : List Frame) (number : ℕ) (point : BodyPoint) (frame : Frame) (n : ℕ)
    → slice_get points number ≡ Some point
    → slice_get frames number ≡ Some frame
    → greatest_of points frames ≤ n
    → (depth frame.stack ≤ n) × (depth_in (frame_behind point frame) ≤ n)
greatest_at [] frames number point frame n is also most = absurd (none-some point is)
greatest_at (first ∷ points) [] number point frame n is also most = absurd (none-some frame also)
greatest_at (first ∷ points) (one ∷ frames) zero point frame n is also most =
    let low : max (max (depth one.stack) (depth_in (frame_behind first one))) (greatest_of points frames) ≤ n = most in
    subst (λ (f : Frame). (depth f.stack ≤ n) × (depth_in (frame_behind point f) ≤ n)) (same_Some one frame also)
    (subst (λ (p : BodyPoint). (depth one.stack ≤ n) × (depth_in (frame_behind p one) ≤ n)) (same_Some first point is)
    (omega (arith, low), omega (arith, low)))
greatest_at (first ∷ points) (one ∷ frames) (suc number) point frame n is also most =
    let low : max (max (depth one.stack) (depth_in (frame_behind first one))) (greatest_of points frames) ≤ n = most in
    greatest_at points frames number point frame n is also (omega (arith, low))

some_frame : (frames : List Frame) (points : List BodyPoint) (number : ℕ) (point : BodyPoint) → length frames ≡ length points
    → slice_get points number ≡ Some point
    → (frame : Frame) × (slice_get frames number ≡ Some frame)
some_frame [] [] number point long is = absurd (none-some point is)
some_frame [] (first ∷ points) number point long is = absurd cc
some_frame (frame ∷ frames) [] number point long is = absurd cc
some_frame (frame ∷ frames) (first ∷ points) zero point long is = (frame, refl)
some_frame (frame ∷ frames) (first ∷ points) (suc number) point long is =
    some_frame frames points number point (let e : length frames ≡ length points = cc in e) is

-- Where each item's row goes on or ends, the greatest depth is enough.
pub deep_enough : (w : Writing) (frames : List Frame)
    → ((number : ℕ) (one : WItem) (frame : Frame) → GoesOrEnds (point_row (point_in w number one) frame))
    → AreHad w frames
    → greatest_of (points_in w) frames ≤ w.max_stack
    → IsDeepEnough w
deep_enough w frames rows had most number front behind one frame is number_is here =
    let stands : StandsAt w number one = record { left = front; right = behind; is = is; number_is = number_is } in
    let point = point_stands w number one stands in
    let there = some_frame frames (points_in w) number (point_in w number one) had.many point in
    let same : there.0 ≡ frame = same_Some there.0 frame (sym (had.had number there.0 there.1) ∙ here) in
    let both = greatest_at (points_in w) frames number (point_in w number one) frame w.max_stack point (there.1 ∙ ap Some same) most in
    behind_depth frame (point_row (point_in w number one) frame) (rows number one frame) w.max_stack both.0 both.1
