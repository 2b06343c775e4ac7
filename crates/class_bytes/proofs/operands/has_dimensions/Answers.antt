use Rattle.std.proofs.lemmas.Bool.{false≢true}
use Rattle.class_bytes.proofs.Decides.{at_most}
use Rattle.class_model.specs.Code.{HasDimensions}
use Rattle.class_bytes.proofs.operands.has_dimensions.Goals as goal

pub returns-in-Some : goal.returns-in-Some
returns-in-Some c = at_most (HasDimensions c.args.name.now c.args.least) c.args.least c.in-Some.most (c.in-Some.ensures.some c.args.least)

pub returns-in-None : goal.returns-in-None
returns-in-None c = ((λ e. absurd (false≢true e)), (λ d. absurd (c.in-None.ensures.none c.args.least d)))
