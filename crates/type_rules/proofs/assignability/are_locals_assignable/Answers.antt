use Rattle.std.proofs.Common.{◌∙◌, sym, eq-eqb}
use Rattle.std.proofs.lemmas.Bool.{eqb-true}
use Rattle.class_tree.specs.Headers.{headers_of}
use Rattle.type_rules.proofs.LocalWalks.{rest_assignable, walked_assignable}
use Rattle.type_rules.proofs.Pairwise.{are_as_long}
use Rattle.type_rules.proofs.assignability.are_locals_assignable.Goals as goal

pub returns-then-len : goal.returns-then-len
returns-then-len c =
    let headers = headers_of c.args.tree.now in
    let same = sym c.len.ensures ∙ (c.if-len.true ∙ c.len-2.ensures) in
    (λ yes. rest_assignable headers c.args.from.now c.args.to.now c.listed.result same c.listed.ensures.tops (c.are_first_assignable.ensures.0 yes), λ all. c.are_first_assignable.ensures.1 (walked_assignable headers c.args.from.now c.args.to.now c.listed.result all))

pub returns-else-len : goal.returns-else-len
returns-else-len c =
    (λ yes. absurd (c.if-len.false (eqb-true _ _ yes)), λ all. eq-eqb _ _ (c.len.ensures ∙ (are_as_long (headers_of c.args.tree.now) c.args.from.now c.args.to.now all ∙ sym c.len-2.ensures)))
