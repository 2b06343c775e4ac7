use Rattle.std.proofs.Common.{List, sym, ap, ◌∙◌}
use Rattle.class_model.specs.Frames.{listed}
use Rattle.class_model.specs.declared.class_file.CodePart.{CodePart}
use Rattle.class_model.specs.declared.frame.Frame.{Frame}
use Rattle.class_model.specs.declared.frame.VType.{VType}
use Rattle.class_bytes.specs.Inner.Cut.{home_seen, method_of}
use Rattle.class_bytes.proofs.EntryFrames.{entry_lists}
use Rattle.class_bytes.proofs.entry.entry_frame.Goals as goal

pub returns : goal.returns
returns c = λ (part : CodePart).
    let with_stack : List VType → Frame = λ stack. record { locals = c.in_ok-locals.locals; stack = stack } in
    ap (λ (stack : List VType). listed (with_stack stack)) c.new.ensures
    ∙ entry_lists (home_seen c.args.home.now) (method_of c.args.method.now) c.in-Some.desc.now c.in_ok-locals.locals (sym c.in-Some.ensures) c.in_ok-locals.ensures part
