use Rattle.std.proofs.Common.{IfOk, subst}
use Rattle.class_tree.specs.Headers.{Classes}
use Rattle.inline_expand.specs.Inner.Calls.{DecidesCall}
use Rattle.inline_expand.proofs.called_methods.called_of.Goals as goal

pub returns : goal.returns
returns c =
    subst (λ (all : Classes). IfOk c.called.result (DecidesCall all c.args.from.now c.args.at)) c.requires.methods c.called.ensures
