use Rattle.std.proofs.Common.{eq-eqb, rules}
use Rattle.std.proofs.lemmas.Bool.{eqb-true}
use Rattle.std.proofs.lemmas.Iterator.{YieldsList-from_slice, YieldsList-from_zip, cases_from_all}
use Rattle.class_model.specs.Code.{verification_type}
use Rattle.class_model.specs.declared.descriptor.FieldType.{FieldType}
use Rattle.class_model.specs.declared.frame.VType.{VType}
use Rattle.member_link.specs.Rows.Assigning.{IsAssignableIn}
use Rattle.member_link.specs.Rows.Operands.{assignable_to}
use Rattle.type_rules.proofs.Pairwise.{all_fit_pairs, fit_as_long, pairs_decide}
use Rattle.type_rules.proofs.need.are_values_of.Goals as goal
use Rattle.member_link.specs.Scope.{row_scope}

pub returns-then-types-entries : goal.returns-then-types-entries
returns-then-types-entries c =
    let s = row_scope c.args.rules.now in
    let answer = cases_from_all c.all.new.self _ _ (λ (p : FieldType × VType). IsAssignableIn s.headers s.major p.1 (verification_type p.0)) (λ (p : FieldType × VType). ¬ IsAssignableIn s.headers s.major p.1 (verification_type p.0)) c.all.ensures.ran (YieldsList-from_zip (YieldsList-from_slice c.args.types.now cc) (YieldsList-from_slice c.args.entries.now cc)) (λ x q k. search rules) (λ x q k. search rules) in
    let decides = pairs_decide (λ (to : FieldType) (from : VType). IsAssignableIn s.headers s.major from (verification_type to)) c.args.types.now c.args.entries.now c.all.result c.if-types-entries.true answer in
    let same = all_fit_pairs s (λ (type : FieldType). assignable_to (verification_type type)) c.args.types.now c.args.entries.now in
    (λ yes. same.0 (decides.0 yes), λ all. decides.1 (same.1 all))

pub returns-else-types-entries : goal.returns-else-types-entries
returns-else-types-entries c =
    (λ yes. absurd (c.if-types-entries.false (eqb-true _ _ yes)), λ all. eq-eqb _ _ (fit_as_long (row_scope c.args.rules.now) (λ (type : FieldType). assignable_to (verification_type type)) c.args.types.now c.args.entries.now all))
