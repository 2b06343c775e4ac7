use Rattle.std.proofs.Common.{sym, ◌∙◌}
use Rattle.inline_expand.proofs.Initialisations.{is_on_this, on_this_is}
use Rattle.inline_expand.specs.declared.initialised.Object.TheVariants.{This}
use Rattle.inline_expand.proofs.initialised.calls_on_this.Goals as goal

pub returns-then-not-is_initialiser : goal.returns-then-not-is_initialiser
returns-then-not-is_initialiser c = (λ no. absurd (cc no), λ on. absurd (cc (sym c.if-not-is_initialiser.true ∙ c.is_initialiser.ensures ∙ on.own)))

pub returns-in-None : goal.returns-in-None
returns-in-None c = (λ no. absurd (cc no), λ on. absurd (c.in-None.ensures This on.reference on.is))

pub returns-in-Some : goal.returns-in-Some
returns-in-Some c = (
  λ yes. is_on_this c.args.method.now.host c.args.method.now.frames.now c.args.at c.in-Some.call c.in-Some.ensures (sym c.is_initialiser.ensures ∙ c.if-not-is_initialiser.false) (c.is_other_on_this.ensures.0 yes),
  λ on. c.is_other_on_this.ensures.1 (on_this_is c.args.method.now.host c.args.method.now.frames.now c.args.at c.in-Some.call c.in-Some.ensures on),
)
