-- What is asked where an instruction stands, in the order in which it is asked (JVM Specification SE 8, 4.10.1.6).
use Rattle.std.specs.Prelude.{◌≡◌, ℕ, List, [], ◌∷◌, ◌++◌, Option, Some, None}
use Rattle.class_model.specs.Checks.{AllHold, Check, IsFirstFault}
use Rattle.class_model.specs.declared.frame.Frame.{Frame}
use Rattle.member_link.specs.Bodies.{Body, BodyCatch, BodyPoint, catch_frame, frame_behind, item_targets, point_row}
use Rattle.member_link.specs.BodyTyping.{MayGoTo}
use Rattle.member_link.specs.RowScope.{RowScope}
use Rattle.member_link.specs.Rows.Assigning.{IsFrameAssignableIn}
use Rattle.type_rules.specs.Rule.{check, row_checks}
use Rattle.type_rules.specs.declared.fault.TypeRule.{TypeRule}
use Rattle.type_rules.specs.declared.fault.TypeRule.TheVariants as rules

-- ---- the frame before an instruction

-- the one that is stated, and where none is the one that flows in
abbrev pub frame_before : Option Frame → Option Frame → Option Frame
frame_before flows (Some stated) = Some stated
frame_before flows None = flows

-- what flows in may stand where a frame is stated
abbrev pub MayFlowIn : RowScope → Option Frame → Option Frame → Type 0
MayFlowIn s (Some flows) (Some stated) = IsFrameAssignableIn s.headers s.major flows stated
MayFlowIn s flows stated = Unit {0}

-- ---- where control may go

-- each of these handlers
abbrev pub handler_checks : Body → Frame → List BodyCatch → List (Check TypeRule)
handler_checks b before [] = []
handler_checks b before (catch ∷ catches) =
    check rules.Handler
    (MayGoTo b.scope (Some (catch_frame before catch.class)) (b.stated catch.to))
    ∷ handler_checks b before catches

-- each target, in order
abbrev pub target_checks : Body → Option Frame → List ℕ → List (Check TypeRule)
target_checks b behind [] = []
target_checks b behind (target ∷ targets) =
    check rules.Target (MayGoTo b.scope behind (b.stated target)) ∷ target_checks b behind targets

-- ---- an instruction

abbrev pub instr_checks : Body → Option Frame → BodyPoint → Frame → List (Check TypeRule)
instr_checks b flows point before =
    check rules.Mismatch (MayFlowIn b.scope flows (b.stated point.place))
    ∷ handler_checks b before point.catches
    ++ row_checks point.scope before (point_row point before)
    ++ target_checks b (frame_behind point before) (item_targets point.item)

-- the frame is the one before the instruction, and every check holds
pub record IsTypedAt (b : Body) (flows : Option Frame) (point : BodyPoint) (before : Frame)
    : Type 0 where
  pub before_is : frame_before flows (b.stated point.place) ≡ Some before
  pub holds : AllHold (instr_checks b flows point before)

-- there is no frame before the instruction, or a check is the first that fails
abbrev pub FailsBehind : Body → Option Frame → BodyPoint → TypeRule → Option Frame → Type 0
FailsBehind b flows point rule None = rule ≡ rules.NoFrame
FailsBehind b flows point rule (Some before) = IsFirstFault (instr_checks b flows point before) rule

abbrev pub FailsAt : Body → Option Frame → BodyPoint → TypeRule → Type 0
FailsAt b flows point rule =
    FailsBehind b flows point rule (frame_before flows (b.stated point.place))
