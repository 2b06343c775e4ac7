use Rattle.std.proofs.Common.{◌≡◌, ◌∷◌, false, Some, None, sym, ap, ◌∙◌, arith, rules}
use Rattle.std.proofs.lemmas.Grind.{common_steps}
use Rattle.machine_run.specs.Inner.ComeFirst.{unbegun_above}
use Rattle.machine_run.proofs.ComesFirst.{above_none, found_here, from_place, header_is, not_here}
use Rattle.machine_run.proofs.coming_first.+interfaces.Goals as goal

pub first_above-returns-in-Some-first_from-clause-first :
    goal.first_above-returns-in-Some-first_from-clause-first
first_above-returns-in-Some-first_from-clause-first t c = λ P is.
    let split : c.loop-name.rest.now ≡ c.in-Some.name.now ∷ c.in-Some.more.now = search rules in
    found_here P c.args.memory.now c.args.left c.args.names.now c.loop-name.rest.now c.in-Some.more.now c.in-Some.name.now c.in-Some-first_from.class
    (omega arith) (c.loop-name.invariant P is) split (c.in-Some-first_from.ensures.first P is)

pub first_above-loop-name-preserved : goal.first_above-loop-name-preserved
first_above-loop-name-preserved t c = λ P is.
    let split : c.loop-name.rest.now ≡ c.in-Some.name.now ∷ c.in-Some.more.now = search rules in
    let none : c.first_from.result ≡ None = grind (arith, common_steps) in
    not_here P c.args.memory.now c.args.left c.args.names.now c.loop-name.rest.now c.in-Some.more.now c.in-Some.name.now
    (omega arith) (c.loop-name.invariant P is) split (sym none ∙ c.first_from.ensures.first P is)

pub first_from-returns-in_err-place-clause-first :
    goal.first_from-returns-in_err-place-clause-first
first_from-returns-in_err-place-clause-first t c = λ P is.
    let hierarchy = c.a_tree_is_a_hierarchy.ensures in
    c.from_residual.ensures
    ∙ sym (above_none P c.args.memory.now c.args.left c.args.name.now (header_is c.args.tree.now P is hierarchy c.args.memory.now c.args.name.now ∙ hierarchy.absent c.args.name.now (sym c.in_err-place.ensures)))

pub first_from-returns-then-not-has_unbegun_above-clause-first :
    goal.first_from-returns-then-not-has_unbegun_above-clause-first
first_from-returns-then-not-has_unbegun_above-clause-first t c = λ P is.
    let at = sym c.in_ok-place.ensures in
    let header = sym c.in_ok-header.ensures in
    let none : c.has_unbegun_above.result ≡ false = grind (arith, common_steps) in
    c.unbegun_at.ensures.first P c.args.name.now is at
    ∙ sym (from_place c.args.tree.now P is c.a_tree_is_a_hierarchy.ensures c.args.memory.now c.args.left c.args.name.now c.in_ok-place.place c.in_ok-header.header.now None at header
    (c.has_unbegun_above.ensures P c.in_ok-header.header.now c.args.left is header none))

pub first_from-returns-in-Some-clause-first : goal.first_from-returns-in-Some-clause-first
first_from-returns-in-Some-clause-first t c = λ P is.
    sym (from_place c.args.tree.now P is c.a_tree_is_a_hierarchy.ensures c.args.memory.now c.args.left c.args.name.now c.in_ok-place.place c.in_ok-header.header.now (Some c.in-Some.class) (sym c.in_ok-place.ensures) (sym c.in_ok-header.ensures)
    (sym (c.in-Some.ensures.first P is ∙ ap (unbegun_above P c.args.memory.now c.args.left) c.as_slice.ensures)))

pub first_from-returns-in-None-clause-first : goal.first_from-returns-in-None-clause-first
first_from-returns-in-None-clause-first t c = λ P is.
    c.unbegun_at-in-None.ensures.first P c.args.name.now is (sym c.in_ok-place.ensures)
    ∙ sym (from_place c.args.tree.now P is c.a_tree_is_a_hierarchy.ensures c.args.memory.now c.args.left c.args.name.now c.in_ok-place.place c.in_ok-header.header.now None (sym c.in_ok-place.ensures) (sym c.in_ok-header.ensures)
    (sym (c.in-None.ensures.first P is ∙ ap (unbegun_above P c.args.memory.now c.args.left) c.as_slice.ensures)))
