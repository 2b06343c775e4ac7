use Rattle.std.proofs.Common.{◌↔◌, List, IsTrue, ap, sym, subst, ◌∙◌}
use Rattle.std.specs.Option.{option_copied}
use Rattle.class_model.specs.declared.frame.Frame.{Frame}
use Rattle.inline_expand.proofs.KnownMethods.{judged_known}
use Rattle.inline_expand.proofs.known_frames.judge_method.Goals as goal
use Rattle.inline_expand.specs.Inner.KnownFrames.{AreWithoutThis}

pub returns : goal.returns
returns c =
    let told = subst (λ (frames : List Frame). IsTrue c.are_without_this.result ↔ AreWithoutThis frames) c.as_slice.ensures c.are_without_this.ensures in
    judged_known c.args.typed.now c.args.found.now c.judge.new.self c.args.at c.are_without_this.result c.in-Some.frames.now c.requires
    (sym c.of.ensures ∙ ap option_copied c.in-Some.is) told c.in_ok-judge.ensures.ok
