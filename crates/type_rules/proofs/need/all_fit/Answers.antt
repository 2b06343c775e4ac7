use Rattle.std.proofs.Common.{◌↔◌, List, length, map, IsTrue, nat_eq, eq-eqb, subst, rules}
use Rattle.std.proofs.lemmas.Bool.{eqb-true}
use Rattle.std.proofs.lemmas.Iterator.{YieldsList-from_slice, YieldsList-from_zip, cases_from_all}
use Rattle.class_model.specs.declared.frame.VType.{VType}
use Rattle.member_link.specs.Rows.Operands.{AllFit, Fits}
use Rattle.type_rules.proofs.Pairwise.{all_fit_pairs, fit_as_long, pairs_decide}
use Rattle.type_rules.proofs.need.all_fit.Goals as goal
use Rattle.type_rules.specs.Inner.Meanings.{need_meant}
use Rattle.member_link.specs.Scope.{row_scope}
use Rattle.type_rules.specs.declared.need.Need.{Need}

pub returns-then-needs-operands : goal.returns-then-needs-operands
returns-then-needs-operands c =
    let s = row_scope c.args.rules.now in
    let operands = c.topmost-operands.result.now in
    let answer = cases_from_all c.all.new.self _ _ (λ (p : Need × VType). Fits s (need_meant p.0) p.1) (λ (p : Need × VType). ¬ Fits s (need_meant p.0) p.1) c.all.ensures.ran (YieldsList-from_zip (YieldsList-from_slice c.args.needs.now cc) (YieldsList-from_slice operands cc)) (λ x q k. search rules) (λ x q k. search rules) in
    let decides = pairs_decide (λ (need : Need) (type : VType). Fits s (need_meant need) type) c.args.needs.now operands c.all.result c.if-needs-operands.true answer in
    let same = all_fit_pairs s need_meant c.args.needs.now operands in
    subst (λ (types : List VType). IsTrue c.all.result ↔ AllFit s (map need_meant c.args.needs.now) types) c.topmost-operands.ensures
    (λ yes. same.0 (decides.0 yes), λ all. decides.1 (same.1 all))

pub returns-else-needs-operands : goal.returns-else-needs-operands
returns-else-needs-operands c =
    let s = row_scope c.args.rules.now in
    let operands = c.topmost-operands.result.now in
    subst (λ (types : List VType). IsTrue (nat_eq (length c.args.needs.now) (length operands)) ↔ AllFit s (map need_meant c.args.needs.now) types) c.topmost-operands.ensures
    (λ yes. absurd (c.if-needs-operands.false (eqb-true _ _ yes)), λ all. eq-eqb _ _ (fit_as_long s need_meant c.args.needs.now operands all))
