-- Tests that decide what they are asked.
use Rattle.std.proofs.Common.{◌≡◌, ◌<◌, ◌↔◌, inl, inr, nat_le, nat_eq, ℕ, ◌+◌, ◌≤◌, List, length, Option, Some, None, Bool, true, false, not, IsTrue, eq-eqb, refl, sym, ap, subst, ◌∙◌, arith}
use Rattle.std.specs.Prelude.{IfSome}
use Rattle.std.proofs.lemmas.Bool.{false≢true, eqb-true, leb-true, le-leb}
use Rattle.class_model.specs.Code.{CountsArguments, FitsArray, HasDimensions}
use Rattle.class_model.specs.Descriptors.{IsArrayType}
use Rattle.class_model.specs.Laws.Descriptors.{bytes_spell}
use Rattle.class_model.specs.declared.descriptor_bytes.MethodShape.{MethodShape}
use Rattle.class_bytes.specs.Inner.Shapes.{IsShape}

-- what holds exactly up to a number
pub at_most : (P : Type 0) (least most : ℕ) → (P ↔ (least ≤ most)) → IsTrue (nat_le least most) ↔ P
at_most P least most same = ((λ e. same.1 (leb-true least most e)), (λ p. le-leb least most (same.0 p)))

-- ---- the component of an array

-- an array class, with one more bracket
pub array_fits : (b : Bool) (name : List ℕ) → IsArrayType name → (IsTrue b ↔ HasDimensions name 255) → length name < 65535 → IsTrue (not b) ↔ FitsArray name
array_fits true name is dimensions few = (
  λ e. absurd (false≢true e),
  λ fits. elim fits [ inl array ↦ absurd (array.1 (dimensions.0 refl)) | inr class ↦ absurd (class.0 is) ],
)
array_fits false name is dimensions few = (λ e. inl (is, (λ d. false≢true (dimensions.1 d)), omega arith), λ fits. refl)

-- the class that an index names
pub class_fits : (b : Bool) (name bytes : List ℕ) (class : Option (List ℕ)) → Some name ≡ class → bytes ≡ name → (IsTrue b ↔ FitsArray bytes) → IsTrue b ↔ IfSome class FitsArray
class_fits b name bytes class is same fits =
    subst (λ (o : Option (List ℕ)). IsTrue b ↔ IfSome o FitsArray) is (subst (λ (text : List ℕ). IsTrue b ↔ FitsArray text) same fits)

-- ---- a descriptor whose shape is known

pub counts_shape : (text : Option (List ℕ)) (count : ℕ) (shape : MethodShape) → IsShape text (Some shape)
    → IsTrue (nat_eq count (shape.units + 1)) ↔ CountsArguments text count
counts_shape None count shape is = absurd cc
counts_shape (Some text) count shape is = (
  λ e d s. eqb-true count (shape.units + 1) e ∙ ap (λ (n : ℕ). n + 1) (is.units d (bytes_spell text d s)),
  λ all. eq-eqb count (shape.units + 1) (all is.descriptor is.spelled ∙ ap (λ (n : ℕ). n + 1) (sym (is.units is.descriptor (bytes_spell text is.descriptor is.spelled)))),
)

pub counts_no_shape : (text : Option (List ℕ)) (count : ℕ) → IsShape text None → IsTrue true ↔ CountsArguments text count
counts_no_shape None count is = (λ e. tt, λ all. refl)
counts_no_shape (Some text) count is = ((λ e d s. absurd (is (d, bytes_spell text d s))), (λ all. refl))
