-- What it means that frames type a body (JVM Specification SE 8, 4.10.1.6), place by place.
use Rattle.std.specs.Prelude.{◌≡◌, ◌⊎◌, ◌==◌, ◌<◌, ◌≤◌, ℕ, List, [], ◌∷◌, length, Option, Some, None, IsSome, if◌then◌else◌}
use Rattle.std.specs.List.{AllByRecursion}
use Rattle.class_model.specs.Frames.{depth}
use Rattle.class_model.specs.declared.frame.Frame.{Frame}
use Rattle.class_tree.specs.Headers.{Name, Headers}
use Rattle.class_tree.specs.Names.{throwable}
use Rattle.member_link.specs.Access.{IsAtOrBelow}
use Rattle.member_link.specs.Bodies.{Body, BodyPoint, catch_frame, flows_on, frame_behind, item_targets, point_row}
use Rattle.member_link.specs.RowScope.{RowScope}
use Rattle.member_link.specs.Rows.Assigning.{IsFrameAssignableIn}
use Rattle.member_link.specs.Rows.Operands.{AllFit, topmost}
use Rattle.member_link.specs.Rows.Row.{Row, stack_behind}

-- ---- the parts

-- The rule of an instruction has a value behind a frame: all that its row asks holds.
pub record RowHolds (s : RowScope) (f : Frame) (row : Row) : Type 0 where
  pub operands : AllFit s row.takes (topmost (length row.takes) f.stack)
  pub local : row.local
  pub depth_fits : depth (stack_behind f row) ≤ s.max_stack
  pub further : row.further
  pub access : row.access

-- a class that a handler catches is a throwable
pub record IsThrowable (headers : Headers) (caught : Option Name) : Type 0 where
  pub class : Name
  pub is_caught : caught ≡ Some class
  pub is_throwable : IsAtOrBelow headers class throwable

-- a frame is stated at a place, and this one may stand for it
abbrev pub MayGoTo : RowScope → Option Frame → Option Frame → Type 0
MayGoTo s (Some frame) (Some stated) = IsFrameAssignableIn s.headers s.major frame stated
MayGoTo s frame stated = ⊥

-- ---- frames by place

abbrev pub frame_among : List BodyPoint → List Frame → ℕ → Option Frame
frame_among (point ∷ points) (frame ∷ frames) place =
    if point.place == place then Some frame else frame_among points frames place
frame_among points frames place = None

-- the frame at a place
abbrev pub frame_at : Body → List Frame → ℕ → Option Frame
frame_at b frames place = frame_among b.points frames place

-- a frame that flows into another is assignable to it where that is stated, and else is equal to it
abbrev pub Reaches : RowScope → Frame → Frame → Option Frame → Type 0
Reaches s flows frame (Some stated) = IsFrameAssignableIn s.headers s.major flows frame
Reaches s flows frame None = flows ≡ frame

-- what flows into a place reaches the frame there; where nothing does, the frame there is a stated one
abbrev pub FlowsInto : Body → List Frame → ℕ → Option Frame → Type 0
FlowsInto b frames place (Some flows) =
    (frame : Frame)
    × (frame_at b frames place ≡ Some frame)
    × Reaches b.scope flows frame (b.stated place)
FlowsInto b frames place None =
    (frame : Frame) → frame_at b frames place ≡ Some frame → IsSome (b.stated place)

-- ---- a point, and a body

-- the frame at the place of a point: its row holds, and the frames along the edges from it reach those at their places
pub record PointFits (b : Body) (frames : List Frame) (point : BodyPoint) : Type 0 where
  pub frame : Frame
  pub is_at : frame_at b frames point.place ≡ Some frame
  pub row : RowHolds point.scope frame (point_row point frame)
  pub next : FlowsInto b frames point.next (flows_on point frame)
  pub targets : AllByRecursion
      (λ target. MayGoTo b.scope (frame_behind point frame) (b.stated target))
      (item_targets point.item)
  pub handlers : AllByRecursion
      (λ catch. MayGoTo b.scope (Some (catch_frame frame catch.class))
      (b.stated catch.to)) point.catches

-- the place of the first of these points, or this one
abbrev pub begins_at : List BodyPoint → ℕ → ℕ
begins_at [] end = end
begins_at (point ∷ points) end = point.place

-- The frames are one for each point, and at each place where a frame is stated the one there is equal to it.
pub record HasFrames (b : Body) (frames : List Frame) : Type 0 where
  pub one_each : length frames ≡ length b.points
  pub catch_types : AllByRecursion (λ caught. IsThrowable b.scope.headers caught.class) b.table
  pub stated : (place : ℕ) (frame stated : Frame)
      → frame_at b frames place ≡ Some frame
      → b.stated place ≡ Some stated
      → frame ≡ stated
  pub entry : FlowsInto b frames (begins_at b.points b.end) (Some b.entry)
  pub points : AllByRecursion (PointFits b frames) b.points

-- ---- the order of places

-- the first of these points stands at a place, if there is one
abbrev pub BeginAt : ℕ → List BodyPoint → Type 0
BeginAt place [] = Unit {0}
BeginAt place (point ∷ points) = point.place ≡ place

-- each point stands behind the one before it
abbrev pub AreInOrder : List BodyPoint → Type 0
AreInOrder [] = Unit {0}
AreInOrder (point ∷ points) =
    (point.place < point.next) × BeginAt point.next points × AreInOrder points

-- one of these points stands at a place
abbrev pub IsPlaceOf : List BodyPoint → ℕ → Type 0
IsPlaceOf [] place = ⊥
IsPlaceOf (point ∷ points) place = (point.place ≡ place) ⊎ IsPlaceOf points place

-- they stand one after the other from one place to another
abbrev pub AreConsecutivePoints : ℕ → List BodyPoint → ℕ → Type 0
AreConsecutivePoints from [] to = from ≡ to
AreConsecutivePoints from (point ∷ points) to =
    (point.place ≡ from) × (point.place < point.next) × AreConsecutivePoints point.next points to

-- a frame is stated for the place of a point only
abbrev pub StatesAtPoints : Body → Type 0
StatesAtPoints b =
    (place : ℕ) (stated : Frame) → b.stated place ≡ Some stated → IsPlaceOf b.points place

-- ---- into the frames that are stated

-- a frame is there, and it goes to a place whose frame is the one that is stated there
pub record GoesInto (b : Body) (frames : List Frame) (goes : Option Frame) (place : ℕ)
    : Type 0 where
  pub frame : Frame
  pub goes_is : goes ≡ Some frame
  pub stated : Frame
  pub is_stated : b.stated place ≡ Some stated
  pub is_at : frame_at b frames place ≡ Some stated
  pub assignable : IsFrameAssignableIn b.scope.headers b.scope.major frame stated

-- so do those behind a point that jumps and those that its handlers begin with
pub record GoesToStated (b : Body) (frames : List Frame) (point : BodyPoint) : Type 0 where
  pub frame : Frame
  pub is_at : frame_at b frames point.place ≡ Some frame
  pub targets :
      AllByRecursion (GoesInto b frames (frame_behind point frame)) (item_targets point.item)
  pub handlers :
      AllByRecursion (λ catch. GoesInto b frames (Some (catch_frame frame catch.class)) catch.to)
      point.catches
