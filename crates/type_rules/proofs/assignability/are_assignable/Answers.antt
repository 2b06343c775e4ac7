use Rattle.std.proofs.Common.{eq-eqb, rules}
use Rattle.std.proofs.lemmas.Bool.{eqb-true}
use Rattle.std.proofs.lemmas.Iterator.{YieldsList-from_slice, YieldsList-from_zip, cases_from_all}
use Rattle.class_model.specs.declared.frame.VType.{VType}
use Rattle.class_tree.specs.Headers.{headers_of}
use Rattle.member_link.specs.Assignability.{IsAssignable}
use Rattle.type_rules.proofs.Pairwise.{are_as_long, are_assignable_pairs, pairs_decide}
use Rattle.type_rules.proofs.assignability.are_assignable.Goals as goal

pub returns-then-from-to : goal.returns-then-from-to
returns-then-from-to c =
    let headers = headers_of c.args.tree.now in
    let answer = cases_from_all c.all.new.self _ _ (λ (p : VType × VType). IsAssignable headers p.0 p.1) (λ (p : VType × VType). ¬ IsAssignable headers p.0 p.1) c.all.ensures.ran (YieldsList-from_zip (YieldsList-from_slice c.args.from.now cc) (YieldsList-from_slice c.args.to.now cc)) (λ x q k. search rules) (λ x q k. search rules) in
    let decides = pairs_decide (IsAssignable headers) c.args.from.now c.args.to.now c.all.result c.if-from-to.true answer in
    let same = are_assignable_pairs headers c.args.from.now c.args.to.now in
    (λ yes. same.0 (decides.0 yes), λ all. decides.1 (same.1 all))

pub returns-else-from-to : goal.returns-else-from-to
returns-else-from-to c =
    (λ yes. absurd (c.if-from-to.false (eqb-true _ _ yes)), λ all. eq-eqb _ _ (are_as_long (headers_of c.args.tree.now) c.args.from.now c.args.to.now all))
