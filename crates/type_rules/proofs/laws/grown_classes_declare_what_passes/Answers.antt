use Rattle.type_rules.proofs.Grown.Declarations.{declarations_still}
use Rattle.type_rules.proofs.Grown.Headers.{grown_alike}
use Rattle.type_rules.proofs.laws.grown_classes_declare_what_passes.Goals as goal

pub returns : goal.returns
returns c = λ old new header twin grows grown names asks.
    declarations_still old new grown (λ low high. c.alike_classes_have_one_look_up.ensures.overriding old new low high (grown_alike old new grown)) header twin grows names asks
