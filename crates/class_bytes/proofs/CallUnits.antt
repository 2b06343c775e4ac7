-- The local units of a call, by a descriptor that is a text.
use Rattle.std.proofs.Common.{◌≡◌, ◌↔◌, ℕ, ◌+◌, ◌≤◌, nat_le, List, Option, Some, None, true, IsTrue, refl, sym, ap, subst, ◌∙◌}
use Rattle.std.specs.Prelude.{IfSome}
use Rattle.std.proofs.lemmas.Bool.{leb-true, le-leb}
use Rattle.class_model.specs.Descriptors.{SpellsDescriptor, parameter_units, parameters_of}
use Rattle.class_model.specs.Laws.Descriptors.{bytes_spell}
use Rattle.class_model.specs.Methods.{IsDescriptorOf, this_units, units_at_call}
use Rattle.class_model.specs.PoolChecks.{IsMethodDescriptor}
use Rattle.class_model.specs.declared.descriptor.Descriptor.{Descriptor}
use Rattle.class_model.specs.declared.descriptor_bytes.MethodShape.{MethodShape}
use Rattle.class_bytes.specs.Inner.Shapes.{IsShape}

-- it is a method descriptor
pub is_descriptor : (flags : ℕ) (text : List ℕ) → IsDescriptorOf flags text → IsMethodDescriptor text
is_descriptor flags text is = (is.descriptor, bytes_spell text is.descriptor is.spelled)

-- ---- by its shape

pub units_fit_room : (flags this most : ℕ) (text : Option (List ℕ)) (shape : MethodShape) → IsShape text (Some shape) → this ≡ this_units flags
    → ((text : List ℕ) (d : Descriptor) → SpellsDescriptor text d → parameters_of text ≡ d.params)
    → IsTrue (nat_le (shape.units + this) most) ↔ IfSome text (λ text. units_at_call flags text ≤ most)
units_fit_room flags this most None shape is same spelled = absurd cc
units_fit_room flags this most (Some text) shape is same spelled =
    let units : shape.units ≡ parameter_units is.descriptor.params = is.units is.descriptor (bytes_spell text is.descriptor is.spelled) in
    let all : shape.units + this ≡ units_at_call flags text = ap (λ (n : ℕ). shape.units + n) same ∙ ap (λ (n : ℕ). n + this_units flags) (units ∙ ap parameter_units (sym (spelled text is.descriptor is.spelled))) in
    subst (λ (n : ℕ). IsTrue (nat_le (shape.units + this) most) ↔ (n ≤ most)) all (leb-true (shape.units + this) most, le-leb (shape.units + this) most)

pub no_units_fit : (flags most : ℕ) (text : Option (List ℕ)) → IsShape text None → IfSome text (IsDescriptorOf flags)
    → IsTrue true ↔ IfSome text (λ text. units_at_call flags text ≤ most)
no_units_fit flags most None is of_flags = (λ e. tt, λ h. refl)
no_units_fit flags most (Some text) is of_flags = absurd (is (is_descriptor flags text of_flags))
