use Rattle.std.proofs.Common.{◌+◌, ℕ, List, sym, subst, ◌∙◌, arith, rules}
use Rattle.member_link.proofs.ReadParameters.{Counted, counted_all, counted_more, counted_none, not_empty}
use Rattle.member_link.proofs.descriptors.parameter_count.Goals as goal

pub loop-rest-init : goal.loop-rest-init
loop-rest-init c =
    let desc = c.args.desc.now in
    subst (λ (rest : List ℕ). Counted desc rest 0) (sym c.after_first-rest.ensures) (counted_none desc)

pub loop-rest-preserved : goal.loop-rest-preserved
loop-rest-preserved c =
    let desc = c.args.desc.now in
    subst (λ (rest : List ℕ). Counted desc rest (c.loop-rest.count + 1)) (sym c.after_type-rest.ensures)
    (counted_more desc c.loop-rest.rest.now c.loop-rest.count (sym c.begins_type.ensures ∙ c.loop-rest-test.true) c.loop-rest.invariant)

pub returns-clause-is : goal.returns-clause-is
returns-clause-is c = counted_all c.args.desc.now c.loop-rest.rest.now c.loop-rest.count (sym c.begins_type.ensures ∙ c.loop-rest-test.false) c.loop-rest.invariant

pub returns-clause-few : goal.returns-clause-few
returns-clause-few c = omega (arith, c.loop-rest.invariant.short)

pub overflow_add-count : goal.overflow_add-count
overflow_add-count c =
    let some = not_empty c.loop-rest.rest.now (sym c.begins_type.ensures ∙ c.loop-rest-test.true) in
    let few = c.loop-rest.invariant.short in
    search rules
