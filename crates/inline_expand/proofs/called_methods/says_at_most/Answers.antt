use Rattle.std.proofs.Common.{IsTrue, ap, sym, ◌∙◌, refl}
use Rattle.std.specs.Option.{option_copied}
use Rattle.inline_expand.proofs.FoundCallees.{says_at_frame, says_nothing}
use Rattle.inline_expand.proofs.called_methods.says_at_most.Goals as goal

pub returns-in_ok-result_says_at_most-in-Some : goal.returns-in_ok-result_says_at_most-in-Some
returns-in_ok-result_says_at_most-in-Some c =
    says_at_frame c.args.tree.now c.args.caller.now.host c.args.caller.now.frames.now c.args.at c.args.callee.now c.in-Some.behind.now
    (IsTrue c.in_ok-result_says_at_most-in-Some.field-0) (sym c.frame_behind.ensures ∙ ap option_copied c.in-Some.is) c.in_ok-result_says_at_most-in-Some.ensures

pub returns-in-None : goal.returns-in-None
returns-in-None c = (
  λ yes. says_nothing c.args.tree.now c.args.caller.now.host c.args.caller.now.frames.now c.args.at c.args.callee.now
      (sym c.frame_behind.ensures ∙ ap option_copied c.in-None.is),
  λ each. refl,
)
