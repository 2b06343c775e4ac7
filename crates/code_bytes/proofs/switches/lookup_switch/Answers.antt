-- The pairs are there or not, and their keys increase or not.
use Rattle.std.proofs.Common.{◌≡◌, map, refl, sym, ap, arith, rules, ◌∙◌}
use Rattle.std.specs.Prelude.{FitsSigned}
use Rattle.std.specs.Int.{w32}
use Rattle.std.proofs.lemmas.Int.{to_z-of_z}
use Rattle.class_model.specs.Instructions.{keys_increase}
use Rattle.std.proofs.lemmas.Result.{err_from_is_err_and}
use Rattle.code_bytes.specs.Inner.Operands.{pair_in}
use Rattle.code_bytes.proofs.SwitchForms.{LookupHead, read_short, lookup_cut, lookup_short, lookup_is}
use Rattle.code_bytes.proofs.switches.lookup_switch.Goals as goal
use Rattle.code_bytes.proofs.switches.lookup_switch.Goals.{After-keys_increase}

head : (c : After-keys_increase) → LookupHead c.args.source.now.at c.args.source.now.bytes.now c.first_operand-start.result c.in_ok-other.other c.in_ok-s4.field-0 c.in-Ok.count c.in_ok-parts.parts.now
head c =
    let number : FitsSigned w32 c.in_ok-s4.field-0 = search rules in
    record {
      start_is = c.first_operand-start.ensures.value;
      other_is = c.in_ok-other.ensures;
      number_is = c.in_ok-s4.ensures;
      natural = simp to_z-of_z at c.in-Ok.ensures.0;
      count_is = simp to_z-of_z at c.in-Ok.ensures.1;
      there = c.in_ok-parts.ensures.0;
      parts_are = c.in_ok-parts.ensures.1;
    }

told : (c : After-keys_increase) → keys_increase (map (pair_in c.args.source.now.at) c.in_ok-parts.parts.now) ≡ c.keys_increase.result
told c = sym (c.keys_increase.ensures ∙ ap keys_increase (c.as_slice.ensures ∙ c.in_ok-pairs.ensures))

pub returns-then-not-keys_increase : goal.returns-then-not-keys_increase
returns-then-not-keys_increase c =
    let before = (goal.at.returns-then-not-keys_increase c).After-keys_increase in
    let test = told before ∙ c.if-not-keys_increase.true in
    rw c.bad_operand-then-not-keys_increase.ensures (lookup_is _ _ _ _ _ _ _ (head before) ∙ rw test refl)

pub returns : goal.returns
returns c =
    let before = (goal.at.returns c).After-keys_increase in
    let test = told before ∙ c.if-not-keys_increase.false in
    rw c.in_ok-pairs.ensures (lookup_is _ _ _ _ _ _ _ (head before) ∙ rw test refl)

pub returns-in_err-other : goal.returns-in_err-other
returns-in_err-other c =
    let err = err_from_is_err_and c.from_residual.result c.from_residual.ensures.1 in
    rw (err.1, err.2) (read_short _ _ _ _ _ (λ short. lookup_cut _ _ (omega (arith, c.first_operand-start.ensures.value))) _ c.in_err-other.ensures)

pub returns-in_err-s4 : goal.returns-in_err-s4
returns-in_err-s4 c =
    let err = err_from_is_err_and c.from_residual-in_err-s4.result c.from_residual-in_err-s4.ensures.1 in
    rw (err.1, err.2) (read_short _ _ _ _ _ (λ short. lookup_cut _ _ (omega (arith, c.first_operand-start.ensures.value))) _ c.in_err-s4.ensures)

pub returns-in_err-parts : goal.returns-in_err-parts
returns-in_err-parts c =
    let number : FitsSigned w32 c.in_ok-s4.field-0 = search rules in
    let err = err_from_is_err_and c.from_residual-in_err-parts.result c.from_residual-in_err-parts.ensures.1 in
    rw (err.1, err.2, c.in_err-parts.ensures.1)
    (lookup_short _ _ _ c.in_ok-s4.field-0 _ c.first_operand-start.ensures.value c.in_ok-s4.ensures (simp to_z-of_z at c.in-Ok.ensures.0) (simp to_z-of_z at c.in-Ok.ensures.1) c.in_err-parts.ensures.0)
