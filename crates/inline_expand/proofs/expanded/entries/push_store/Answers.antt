use Rattle.std.proofs.Common.{◌≡◌, ◌+◌, refl}
use Rattle.std.proofs.lemmas.Result.{IfOk-weaker}
use Rattle.class_model.specs.declared.frame.Frame.{Frame}
use Rattle.expanded_code.specs.Expanded.{Argument, frame_stored}
use Rattle.inline_expand.proofs.expanded.entries.push_store.Goals as goal
use Rattle.inline_expand.specs.Inner.Layouts.{argument_from}

pub returns-in-Ok-clause-behind : goal.returns-in-Ok-clause-behind
returns-in-Ok-clause-behind c =
    let frame = c.args.frame in
    let argument = argument_from c.args.unit c.args.parameter.now in
    IfOk-weaker c.stored.result
    (λ (behind : Frame). (other : Argument) → other.unit ≡ c.args.unit + c.args.parameter.now.unit → behind ≡ frame_stored frame other)
    (λ (behind : Frame). behind ≡ frame_stored frame argument)
    (λ behind told. told argument refl) c.stored.ensures
