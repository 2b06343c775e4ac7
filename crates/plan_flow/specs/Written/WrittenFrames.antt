-- What written code has at the start of a block: the types that frames state there. It is this project's profile.
use Rattle.class_model.specs.declared.frame.Frame.{Frame}
use Rattle.flow_code.specs.FlatCode.{FlatCode}
use Rattle.making_code.specs.StateFrames.{state_frame}
use Rattle.plan_flow.specs.Written.Blocks.{Block}

-- An uninitialised object is named by the point of its new.
abbrev pub written_frame : FlatCode → Block → Frame
written_frame flat block = state_frame flat block.at block.state
