-- What the parts of verification answer.
use Rattle.std.specs.Prelude.{◌≡◌, ◌⊎◌, ℕ, List, map, Option, Some, None, Result, Ok, Err}
use Rattle.std.specs.List.{AllByRecursion}
use Rattle.class_model.specs.Checks.{AllHold, Check, IsFirstFault}
use Rattle.class_model.specs.declared.class_file.Handler.{Handler}
use Rattle.class_model.specs.declared.frame.Frame.{Frame}
use Rattle.class_model.specs.declared.instr.Placed.{Placed}
use Rattle.member_link.specs.Bodies.{flows_on}
use Rattle.member_link.specs.Rows.Table.{row_of}
use Rattle.type_rules.specs.Checks.{FailsAt, IsTypedAt, MayFlowIn, frame_before}
use Rattle.type_rules.specs.Handlers.{caught_in}
use Rattle.type_rules.specs.MethodBodies.{body_of, point_of}
use Rattle.type_rules.specs.Rule.{row_checks, ruled}
use Rattle.member_link.specs.Scope.{Scope, row_scope}
use Rattle.type_rules.specs.Stated.{entry, stated_at}
use Rattle.type_rules.specs.Typed.{AreTyped, CaughtIsThrowable, FailsIn, FailsInTable, IsFirstFailure, Typed}
use Rattle.type_rules.specs.declared.fault.TypeRule.{TypeRule}
use Rattle.type_rules.specs.declared.fault.TypeRule.TheVariants as rules
use Rattle.type_rules.specs.declared.ruled.Ruled.{Ruled}
use Rattle.verify_folder.specs.declared.stop.Stop.{Stop}
use Rattle.verify_folder.specs.declared.stop.Stop.TheVariants as stops

-- checks of an instruction at an offset
abbrev pub ChecksAnswer : ℕ → List (Check TypeRule) → Result Unit Stop → Type 0
ChecksAnswer at checks (Ok done) = AllHold checks
ChecksAnswer at checks (Err (stops.Fails offset rule)) = (offset ≡ at) × IsFirstFault checks rule
ChecksAnswer at checks (Err stops.NoMemory) = Unit {0}

-- the exception table
abbrev pub TableAnswers : Scope → List Handler → Result Unit Stop → Type 0
TableAnswers s handlers (Ok done) =
    AllByRecursion (CaughtIsThrowable s.headers) (map (caught_in s) handlers)
TableAnswers s handlers (Err (stops.Fails offset rule)) =
    FailsInTable s.headers (map (caught_in s) handlers) offset × (rule ≡ rules.CatchType)
TableAnswers s handlers (Err stops.NoMemory) = Unit {0}

-- the frame before an instruction at an offset
abbrev pub BeforeAnswers : Scope → Option Frame → ℕ → Result Frame Stop → Type 0
BeforeAnswers s flows at (Ok before) =
    (frame_before flows (stated_at s at) ≡ Some before)
    × MayFlowIn (row_scope s) flows (stated_at s at)
BeforeAnswers s flows at (Err (stops.Fails offset rule)) =
    (offset ≡ at)
    × (((frame_before flows (stated_at s at) ≡ None) × (rule ≡ rules.NoFrame))
    ⊎ (((before : Frame) × (frame_before flows (stated_at s at) ≡ Some before)) × (¬ MayFlowIn (row_scope s) flows (stated_at s at)) × (rule ≡ rules.Mismatch)))
BeforeAnswers s flows at (Err stops.NoMemory) = Unit {0}

-- the row of an instruction behind a frame
abbrev pub RowAnswers : Scope → Placed → Frame → Result Ruled Stop → Type 0
RowAnswers s placed before (Ok result) =
    AllHold (row_checks (row_scope s) before (row_of (row_scope s) before placed.at placed.instr))
    × (result ≡ ruled before (row_of (row_scope s) before placed.at placed.instr))
RowAnswers s placed before (Err (stops.Fails offset rule)) =
    (offset ≡ placed.at)
    × IsFirstFault
    (row_checks (row_scope s) before (row_of (row_scope s) before placed.at placed.instr)) rule
RowAnswers s placed before (Err stops.NoMemory) = Unit {0}

-- an instruction, behind what flows into it: its frame, and what flows into the next
abbrev pub StepAnswers : Scope → Option Frame → Placed → Result (Frame × Option Frame) Stop → Type 0
StepAnswers s flows placed (Ok (before, behind)) =
    IsTypedAt (body_of s) flows (point_of s placed) before
    × (behind ≡ flows_on (point_of s placed) before)
StepAnswers s flows placed (Err (stops.Fails offset rule)) =
    (offset ≡ placed.at) × FailsAt (body_of s) flows (point_of s placed) rule
StepAnswers s flows placed (Err stops.NoMemory) = Unit {0}

-- a method
abbrev pub TypingAnswers : Scope → Result (List Frame) Stop → Type 0
TypingAnswers s (Ok frames) = Typed s frames
TypingAnswers s (Err (stops.Fails offset rule)) = IsFirstFailure s offset rule
TypingAnswers s (Err stops.NoMemory) = Unit {0}

-- its instructions
abbrev pub WalkAnswers : Scope → Result (List Frame) Stop → Type 0
WalkAnswers s (Ok frames) = AreTyped (body_of s) (Some (entry s)) (body_of s).points frames
WalkAnswers s (Err (stops.Fails offset rule)) =
    FailsIn (body_of s) (Some (entry s)) (body_of s).points offset rule
WalkAnswers s (Err stops.NoMemory) = Unit {0}
