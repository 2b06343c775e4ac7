use Rattle.type_rules.proofs.Grown.Bodies.{body_typed}
use Rattle.type_rules.proofs.Grown.Scopes.{body_grown}
use Rattle.type_rules.proofs.laws.grown_classes_keep_typings.Goals as goal

pub returns : goal.returns
returns c = λ old new frames grown types.
    body_typed old new (body_grown c.alike_classes_have_one_look_up.ensures.methods old new grown) frames types
