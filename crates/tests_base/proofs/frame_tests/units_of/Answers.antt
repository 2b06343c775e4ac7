use Rattle.std.proofs.Common.{◌≡◌, ℕ, ◌+◌, List, [], ◌∷◌, ◌++◌, length, take, Some, sym, ap, ◌∙◌, arith, length-append}
use Rattle.std.proofs.lemmas.List.{take_all}
use Rattle.std.specs.List.{slice_get}
use Rattle.class_model.specs.Laws.Lists.{take_item, none_behind}
use Rattle.class_model.specs.declared.frame.VType.{VType}
use Rattle.tests_base.proofs.frame_tests.units_of.Goals as goal

next_copied : (types units more : List VType) (unit copy : VType) → slice_get types (length units) ≡ Some unit → copy ≡ unit → units ≡ take (length units) types → more ≡ units ++ copy ∷ [] → more ≡ take (length more) types
next_copied types units more unit copy is same so_far pushed =
    let longer : length units + 1 ≡ length more = omega (arith, ap length pushed, length-append units (copy ∷ [])) in
    pushed ∙ ap (λ (t : VType). units ++ t ∷ []) same ∙ ap (λ (l : List VType). l ++ unit ∷ []) so_far
    ∙ sym (take_item types (length units) unit is) ∙ ap (λ (n : ℕ). take n types) longer

pub loop-unit-preserved : goal.loop-unit-preserved
loop-unit-preserved c =
    let found : slice_get c.args.locals.now (length c.loop-unit.units) ≡ Some c.in-Some.unit.now = rw c.len.ensures at (sym c.in-Some.ensures) in
    next_copied c.args.locals.now c.loop-unit.units c.push.new.self c.in-Some.unit.now c.in_ok-copy.field-0 found c.in_ok-copy.ensures c.loop-unit.invariant c.in_ok-push.ensures.ok

pub returns : goal.returns
returns c =
    let past = none_behind c.args.locals.now c.len.result (sym c.in_default.ensures) in
    c.loop-unit.invariant ∙ take_all (length c.loop-unit.units) c.args.locals.now (omega (arith, past, c.len.ensures))
