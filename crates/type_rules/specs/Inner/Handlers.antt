-- Words for private functions, beside the definitions of the file of the same name in specs/.
use Rattle.class_model.specs.declared.class_file.Handler.{Handler}
use Rattle.class_model.specs.declared.frame.Frame.{Frame}
use Rattle.member_link.specs.Bodies.{catch_frame}
use Rattle.member_link.specs.BodyTyping.{IsThrowable}
use Rattle.member_link.specs.Scope.{Scope}
use Rattle.type_rules.specs.Handlers.{caught}

-- the handler catches throwables
abbrev pub CatchesThrowables : Scope → Handler → Type 0
CatchesThrowables s handler = IsThrowable s.headers (caught s handler)

-- what a handler begins with behind these locals
abbrev pub caught_frame : Scope → Frame → Handler → Frame
caught_frame s before handler = catch_frame before (caught s handler)
