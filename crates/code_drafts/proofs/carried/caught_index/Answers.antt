use Rattle.std.proofs.Common.{Option, sym, subst}
use Rattle.std.proofs.lemmas.Result.{IfOk-weaker}
use Rattle.class_tree.specs.Headers.{Name}
use Rattle.code_drafts.proofs.carried.caught_index.Goals as goal
use Rattle.code_drafts.specs.Inner.CarriedWords.{IsCatchIndex}

pub returns-in-Some-clause-index : goal.returns-in-Some-clause-index
returns-in-Some-clause-index c =
    IfOk-weaker c.add_class.result _ _
    (λ index is. subst (λ (class : Option Name). IsCatchIndex c.add_class.new.pool class index) (sym c.in-Some.is) (record { is = λ more. is.is more }))
    c.add_class.ensures.index
