-- Names of arrays (JVM Specification SE 8, 4.4.7): a bracket, L and ; are one byte each.
use Rattle.std.proofs.Common.{◌≡◌, ℕ, ◌+◌, ◌≤◌, List, [], ◌∷◌, ◌++◌, length, replicate, zero, suc, refl, ap, sym, ◌∙◌, inl, inr, true, eqb, eq-eqb, arith, length-append}
use Rattle.std.specs.List.{AllByRecursion}
use Rattle.std.proofs.lemmas.Bool.{cases_Bool}
use Rattle.std.proofs.lemmas.Grind.{flat_map-append}
use Rattle.class_model.specs.Code.{FitsArray}
use Rattle.class_model.specs.Descriptors.{IsArrayType, field_type_text, named_text}
use Rattle.class_model.specs.ModifiedUtf8.{IsText, IsModifiedUtf8, IsCodeUnit, unit_bytes}

code_units : (units more : List ℕ) → AllByRecursion IsCodeUnit units → AllByRecursion IsCodeUnit more → AllByRecursion IsCodeUnit (units ++ more)
code_units [] more each others = others
code_units (unit ∷ units) more each others = (each.0, code_units units more each.1 others)

array_bytes : (name : List ℕ) → IsModifiedUtf8 name → IsModifiedUtf8 (91 ∷ name)
array_bytes name utf8 = record { units = 91 ∷ utf8.units; each = (omega arith, utf8.each); spelled = ap (λ (t : List ℕ). 91 ∷ t) utf8.spelled }

class_bytes : (name : List ℕ) → IsModifiedUtf8 name → IsModifiedUtf8 (91 ∷ 76 ∷ (name ++ 59 ∷ []))
class_bytes name utf8 =
    record {
      units = 91 ∷ 76 ∷ (utf8.units ++ 59 ∷ []);
      each = (omega arith, (omega arith, code_units utf8.units (59 ∷ []) utf8.each (omega arith, tt)));
      spelled = ap (λ (t : List ℕ). 91 ∷ 76 ∷ t) (ap (λ (t : List ℕ). t ++ 59 ∷ []) utf8.spelled ∙ sym (flat_map-append unit_bytes utf8.units (59 ∷ [])));
    }

bracket : (name : List ℕ) (first : ℕ) (rest : List ℕ) → IsArrayType name → name ≡ first ∷ rest → eqb first 91 ≡ true
bracket name first rest type is = eq-eqb first 91 (first_of type.dimensions type.some type.spelled) where
  first_of : (dimensions : ℕ) → 1 ≤ dimensions → name ≡ replicate dimensions 91 ++ field_type_text type.element → first ≡ 91
  first_of zero some spelled = absurd (omega arith)
  first_of (suc dimensions) some spelled =
      let e : first ∷ rest ≡ 91 ∷ (replicate dimensions 91 ++ field_type_text type.element) = sym is ∙ spelled in
      cc

-- the array's name is as long as its class or array allows
array_len : (name : List ℕ) → FitsArray name → length (91 ∷ named_text name) ≤ 65535
array_len [] fits = omega arith
array_len (first ∷ rest) (inr fits) =
    elim (cases_Bool (eqb first 91)) [
      | inl is ↦ rw is (omega (arith, fits.1))
      | inr other ↦ rw other (omega (arith, fits.1, length-append (first ∷ rest) (59 ∷ [])))
    ]
array_len (first ∷ rest) (inl fits) =
    rw (bracket (first ∷ rest) first rest fits.0 refl) (omega (arith, fits.2))

pub array_text : (name : List ℕ) → IsText name → FitsArray name → IsText (91 ∷ named_text name)
array_text [] text fits = record { spelling = class_bytes [] text.spelling; len = array_len [] fits }
array_text (first ∷ rest) text fits =
    elim (cases_Bool (eqb first 91)) [
      | inl is ↦ record { spelling = rw is (array_bytes (first ∷ rest) text.spelling); len = array_len (first ∷ rest) fits }
      | inr other ↦ record { spelling = rw other (class_bytes (first ∷ rest) text.spelling); len = array_len (first ∷ rest) fits }
    ]
