-- Names and descriptors of methods, by the shape of the descriptor.
use Rattle.std.proofs.Common.{◌≡◌, ◌↔◌, ℕ, ◌+◌, Bool, true, false, not, List, Option, Some, None, refl, sym, ap, ◌∙◌, arith, cond, leb}
use Rattle.std.specs.Prelude.{bytes_eq, IfSome, IsSome, IsTrue}
use Rattle.std.proofs.lemmas.Bool.{leb-true, le-leb, not-false}
use Rattle.std.proofs.lemmas.Slice.Eq.{bytes_eq-Decides}
use Rattle.class_model.specs.Descriptors.{SpellsDescriptor, parameter_units}
use Rattle.class_model.specs.Laws.Descriptors.{bytes_spell}
use Rattle.class_model.specs.Members.{has, STATIC}
use Rattle.class_model.specs.Methods.{IsDescriptorOf, this_units}
use Rattle.class_model.specs.ModifiedUtf8.{IsText}
use Rattle.class_model.specs.Names.{init, IsMethodName}
use Rattle.class_model.specs.PoolChecks.{IsMethodDescriptor, BytesSpell, ReturnsVoid, InitIsVoid}
use Rattle.class_model.specs.declared.descriptor.Descriptor.{Descriptor}
use Rattle.class_model.specs.declared.descriptor_bytes.MethodShape.{MethodShape}
use Rattle.class_bytes.specs.Inner.Shapes.{HasShape, IsShape}

-- ---- the bytes of a descriptor

-- ---- its shape

pub shape_of : (text : List ℕ) → ((t : List ℕ) (d : Descriptor) → IsText t → BytesSpell t d → SpellsDescriptor t d) → IsText text → (shape : Option MethodShape)
    → (IsSome shape ↔ IsMethodDescriptor text)
    → IfSome shape (λ s. (d : Descriptor) → BytesSpell text d → s.units ≡ parameter_units d.params)
    → IfSome shape (λ s. IsTrue s.is_void ↔ ReturnsVoid text)
    → IsShape (Some text) shape
shape_of text law is_text None is units void = λ d. absurd (let e = is.1 d in cc)
shape_of text law is_text (Some shape) is units void =
    let d = is.0 refl in
    record { descriptor = d.0; spelled = law text d.0 is_text d.1; units = units; void = void }

-- ---- its units

pub no_units : (flags : ℕ) (text : List ℕ) (shape : Option MethodShape) → IsShape (Some text) shape → shape ≡ None → IsTrue false ↔ IsDescriptorOf flags text
no_units flags text None is none = (λ e. absurd cc, λ d. absurd (is (d.descriptor, bytes_spell text d.descriptor d.spelled)))
no_units flags text (Some shape) is none = absurd cc

pub units_fit : (flags : ℕ) (text : List ℕ) (shape : MethodShape) (most : ℕ) → HasShape text shape → most + this_units flags ≡ 255 → IsTrue (leb shape.units most) ↔ IsDescriptorOf flags text
units_fit flags text shape most is all = (
  λ e. record {
    descriptor = is.descriptor;
    spelled = is.spelled;
    units = omega (arith, all, leb-true shape.units most e, is.units is.descriptor (bytes_spell text is.descriptor is.spelled));
  },
  λ d. le-leb shape.units most (omega (arith, all, d.units, is.units d.descriptor (bytes_spell text d.descriptor d.spelled))),
)

-- the most units of the parameters
pub most_static : (flags most : ℕ) → true ≡ has flags STATIC → most ≡ 255 → most + this_units flags ≡ 255
most_static flags most static is = ap (λ (b : Bool). most + cond b 0 1) (sym static) ∙ ap (λ (n : ℕ). n + 0) is

pub most_with_this : (flags most : ℕ) → false ≡ has flags STATIC → most ≡ 254 → most + this_units flags ≡ 255
most_with_this flags most other is = ap (λ (b : Bool). most + cond b 0 1) (sym other) ∙ ap (λ (n : ℕ). n + 1) is

-- ---- names

-- the name of an instance initialiser
pub init_name : (name : List ℕ) (text : Option (List ℕ)) (shape : MethodShape) → name ≡ init → IsShape text (Some shape) → IsTrue shape.is_void ↔ InitIsVoid name text
init_name name None shape e is = absurd cc
init_name name (Some text) shape e is = (λ v _ _. is.void.0 v, λ h. is.void.1 (h e (is.descriptor, bytes_spell text is.descriptor is.spelled)))

pub no_shape : (name : List ℕ) (text : Option (List ℕ)) → IsShape text None → InitIsVoid name text
no_shape name None is = tt
no_shape name (Some text) is = λ e d. absurd (is d)

-- a method's name, and what is asked of it with its descriptor
pub named_init : (name : List ℕ) (text : Option (List ℕ)) (is_void : Bool) → IsMethodName name → IsTrue is_void ↔ InitIsVoid name text → IsTrue is_void ↔ (IsMethodName name × InitIsVoid name text)
named_init name text is_void named void = (λ v. (named, void.0 v), λ h. void.1 h.1)

pub always : {P : Type 0} (b : Bool) → b ≡ true → P → IsTrue b ↔ P
always b e p = (λ _. p, λ _. e)

pub is_init : (name : List ℕ) → false ≡ not (bytes_eq name init) → name ≡ init
is_init name e = (bytes_eq-Decides name init).0 (not-false (bytes_eq name init) (sym e))
