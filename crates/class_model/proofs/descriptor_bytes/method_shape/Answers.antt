use Rattle.std.proofs.Common.{◌≡◌, true, false, inl, inr, refl, sym, ◌∙◌}
use Rattle.class_model.proofs.DescriptorShapes.{no_parameters, is_descriptor, ends_well, units_are, void_returns, returns_void}
use Rattle.class_model.proofs.descriptor_bytes.method_shape.Goals as goal
use Rattle.class_model.proofs.descriptor_bytes.method_shape.Goals.{then-is_void, else-is_void}

pub returns-in_err-units-clause-descriptor : goal.returns-in_err-units-clause-descriptor
returns-in_err-units-clause-descriptor c = (
  λ some. let never : false ≡ true = rw c.from_residual-in_err-units.ensures at some in absurd cc,
  λ d. absurd (no_parameters _ _ c.in_ok-after.ensures.some c.in_err-units.ensures.none d),
)

pub returns-then-is_field_descriptor-clause-descriptor : goal.returns-then-is_field_descriptor-clause-descriptor
returns-then-is_field_descriptor-clause-descriptor c =
    let ends = is_descriptor _ _ c.in_ok-after.ensures.some _ _ c.in_ok-units.ensures.some in (
      λ e. elim c.if-is_void.branch [
        | then-is_void w ↦ ends (inl (c.is_no_result-is_void.ensures.0 w.if-is_void.true))
        | else-is_void w ↦ ends (inr (w.is_field_descriptor.ensures.0 (sym w.value-is ∙ c.if-is_field_descriptor.true)))
      ],
      λ d. refl,
    )

pub returns-then-is_field_descriptor-clause-units : goal.returns-then-is_field_descriptor-clause-units
returns-then-is_field_descriptor-clause-units c = units_are _ _ c.in_ok-after.ensures.some _ _ c.in_ok-units.ensures.some

pub returns-then-is_field_descriptor-clause-void : goal.returns-then-is_field_descriptor-clause-void
returns-then-is_field_descriptor-clause-void c = (
  λ void. void_returns _ _ c.in_ok-after.ensures.some _ _ c.in_ok-units.ensures.some (c.is_no_result-is_void.ensures.0 void),
  λ r. c.is_no_result-is_void.ensures.1 (returns_void _ _ c.in_ok-after.ensures.some _ _ c.in_ok-units.ensures.some r),
)

pub returns-else-is_field_descriptor-clause-descriptor : goal.returns-else-is_field_descriptor-clause-descriptor
returns-else-is_field_descriptor-clause-descriptor c = (
  λ e. absurd cc,
  λ d. elim c.if-is_void.branch [
    | then-is_void w ↦ absurd (cc (w.value-is, c.if-is_field_descriptor.false))
    | else-is_void w ↦ elim (ends_well _ _ c.in_ok-after.ensures.some _ _ c.in_ok-units.ensures.some d) [
      | inl void ↦ absurd (cc (c.is_no_result-is_void.ensures.1 void, w.if-is_void.false))
      | inr descriptor ↦ absurd (cc (w.is_field_descriptor.ensures.1 descriptor))
    ]
  ],
)
