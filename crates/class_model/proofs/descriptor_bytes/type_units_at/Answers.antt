use Rattle.std.proofs.Common.{◌≡◌, ◌∷◌, arith}
use Rattle.class_model.proofs.DescriptorShapes.{wide_at, array_at, element_at, no_array_at, no_element_at}
use Rattle.class_model.proofs.Variants.{if_none}
use Rattle.class_model.proofs.descriptor_bytes.type_units_at.Goals as goal

pub returns-in-68-clause-some : goal.returns-in-68-clause-some
returns-in-68-clause-some c = wide_at _ _ _ c.in-68.is c.in_ok-first.ensures.cases.0

pub returns-in_err-after_array-in-91-clause-none : goal.returns-in_err-after_array-in-91-clause-none
returns-in_err-after_array-in-91-clause-none c =
    let front : c.args.bytes.now ≡ 91 ∷ c.in_ok-first.after.now = cc (c.in_ok-first.ensures.cases.0, c.in-91.is) in
    if_none _ (no_array_at _ _ front c.in_err-after_array-in-91.ensures.none)

pub returns-in_ok-after_array-in-91-clause-some : goal.returns-in_ok-after_array-in-91-clause-some
returns-in_ok-after_array-in-91-clause-some c = let found = c.in_ok-after_array-in-91.ensures.some in array_at _ _ _ found.1

pub returns-in_err-after_element-in_default-clause-none : goal.returns-in_err-after_element-in_default-clause-none
returns-in_err-after_element-in_default-clause-none c = if_none _ (no_element_at _ _ _ c.in_ok-first.ensures.cases.0 (λ e. omega arith) c.in_err-after_element-in_default.ensures.none)

pub returns-in_ok-after_element-in_default-clause-some : goal.returns-in_ok-after_element-in_default-clause-some
returns-in_ok-after_element-in_default-clause-some c = element_at _ _ _ _ c.in_ok-first.ensures.cases.0 (λ e. grind arith) (λ e. grind arith) c.in_ok-after_element-in_default.ensures.some
