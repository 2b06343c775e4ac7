-- Texts of arrays and of their components (JVM Specification SE 8, 4.4.7): a bracket, L and ; are one byte each.
use Rattle.std.proofs.Common.{◌≡◌, ℕ, ◌+◌, ◌/◌, ◌%◌, ◌<◌, ◌≤◌, ◌⊎◌, List, [], ◌∷◌, ◌++◌, length, replicate, zero, suc, refl, ap, sym, ◌∙◌, inl, inr, true, eqb, eq-eqb, arith, length-append}
use Rattle.std.specs.List.{flat_map, AllByRecursion}
use Rattle.std.proofs.lemmas.Bool.{cases_lt, cases_Bool}
use Rattle.std.proofs.lemmas.Bool.Decides.{nat_tests}
use Rattle.std.proofs.lemmas.Grind.{flat_map-append}
use Rattle.class_model.specs.Code.{FitsArray}
use Rattle.class_model.specs.Descriptors.{IsArrayType, field_type_text, named_text}
use Rattle.class_model.specs.ModifiedUtf8.{IsText, IsModifiedUtf8, IsCodeUnit, unit_bytes}
use Rattle.class_tree.specs.Subtype.{IsReferenceComponent, array, class}

-- ---- the bytes of a code unit: itself, or all from 80 on

record HighBytes (unit : ℕ) : Type 0 where
  pub first : ℕ
  pub more : List ℕ
  pub high : 0x80 ≤ first
  pub others : AllByRecursion (λ byte. 0x80 ≤ byte) more
  pub bytes : unit_bytes unit ≡ first ∷ more

one_byte : (unit : ℕ) → 0 < unit → unit < 0x80 → unit_bytes unit ≡ unit ∷ []
one_byte unit low high = grind (arith, nat_tests)

two_bytes : (unit : ℕ) → (unit ≡ 0) ⊎ (0x80 ≤ unit) → unit < 0x800 → unit_bytes unit ≡ (0xC0 + unit / 0x40) ∷ (0x80 + unit % 0x40) ∷ []
two_bytes unit low high = grind (arith, nat_tests)

three_bytes : (unit : ℕ) → 0x800 ≤ unit → unit_bytes unit ≡ (0xE0 + unit / 0x1000) ∷ (0x80 + unit / 0x40 % 0x40) ∷ (0x80 + unit % 0x40) ∷ []
three_bytes unit low = grind (arith, nat_tests)

two_high : (unit : ℕ) → (unit ≡ 0) ⊎ (0x80 ≤ unit) → unit < 0x800 → HighBytes unit
two_high unit low high =
    record { first = 0xC0 + unit / 0x40; more = (0x80 + unit % 0x40) ∷ []; high = omega arith; others = (omega arith, tt); bytes = two_bytes unit low high }

three_high : (unit : ℕ) → 0x800 ≤ unit → HighBytes unit
three_high unit low =
    record { first = 0xE0 + unit / 0x1000; more = (0x80 + unit / 0x40 % 0x40) ∷ (0x80 + unit % 0x40) ∷ []; high = omega arith; others = (omega arith, (omega arith, tt)); bytes = three_bytes unit low }

unit_cases : (unit : ℕ) → (unit_bytes unit ≡ unit ∷ []) ⊎ HighBytes unit
unit_cases unit =
    elim (cases_lt 0 unit) [
      | inr none ↦ inr (two_high unit (inl (omega arith)) (omega arith))
      | inl some ↦ elim (cases_lt unit 0x80) [
        | inl low ↦ inl (one_byte unit some low)
        | inr more ↦ elim (cases_lt unit 0x800) [
          | inl middle ↦ inr (two_high unit (inr more) middle)
          | inr high ↦ inr (three_high unit high)
        ]
      ]
    ]

-- ---- a byte below 80 in front of a text, and one behind it

without_first : (byte : ℕ) (rest units : List ℕ) → byte < 0x80 → AllByRecursion IsCodeUnit units → byte ∷ rest ≡ flat_map unit_bytes units → IsModifiedUtf8 rest
without_first byte rest [] low each spelled = absurd cc
without_first byte rest (unit ∷ units) low each spelled =
    elim (unit_cases unit) [
      | inl one ↦
          let e : byte ∷ rest ≡ unit ∷ flat_map unit_bytes units = rw one at spelled in
          record { units = units; each = each.1; spelled = cc }
      | inr high ↦
          let e : byte ∷ rest ≡ high.first ∷ (high.more ++ flat_map unit_bytes units) = rw high.bytes at spelled in
          let same : byte ≡ high.first = cc in
          absurd (omega (arith, high.high))
    ]

behind_byte : (byte : ℕ) (rest : List ℕ) → byte < 0x80 → IsModifiedUtf8 (byte ∷ rest) → IsModifiedUtf8 rest
behind_byte byte rest low text = without_first byte rest text.units low text.each text.spelled

-- high bytes are not cut by a low one behind them
cut_high : (last : ℕ) → last < 0x80 → (high rest bytes : List ℕ) → AllByRecursion (λ byte. 0x80 ≤ byte) high → bytes ++ last ∷ [] ≡ high ++ rest → (left : List ℕ) × (bytes ≡ high ++ left) × (left ++ last ∷ [] ≡ rest)
cut_high last low [] rest bytes are e = (bytes, refl, e)
cut_high last low (first ∷ high) rest [] are e =
    let same : last ≡ first = cc in
    absurd (omega (arith, are.0))
cut_high last low (first ∷ high) rest (byte ∷ bytes) are e =
    let inner = cut_high last low high rest bytes are.1 (cc) in
    (inner.0, (cc (inner.1)), inner.2)

without_last : (last : ℕ) → last < 0x80 → (units : List ℕ) → AllByRecursion IsCodeUnit units → (bytes : List ℕ) → bytes ++ last ∷ [] ≡ flat_map unit_bytes units → IsModifiedUtf8 bytes
without_last last low units each [] spelled = record { units = []; each = tt; spelled = refl }
without_last last low [] each (byte ∷ bytes) spelled = absurd cc
without_last last low (unit ∷ units) each (byte ∷ bytes) spelled =
    elim (unit_cases unit) [
      | inl one ↦
          let e : byte ∷ (bytes ++ last ∷ []) ≡ unit ∷ flat_map unit_bytes units = rw one at spelled in
          let inner = without_last last low units each.1 bytes (cc) in
          record { units = unit ∷ inner.units; each = (each.0, inner.each); spelled = rw one (cc (inner.spelled)) }
      | inr high ↦
          let e : (byte ∷ bytes) ++ last ∷ [] ≡ (high.first ∷ high.more) ++ flat_map unit_bytes units = rw high.bytes at spelled in
          let cut = cut_high last low (high.first ∷ high.more) (flat_map unit_bytes units) (byte ∷ bytes) (high.high, high.others) e in
          let inner = without_last last low units each.1 cut.0 cut.2 in
          record { units = unit ∷ inner.units; each = (each.0, inner.each); spelled = rw high.bytes (cut.1 ∙ ap (λ (t : List ℕ). (high.first ∷ high.more) ++ t) inner.spelled) }
    ]

-- ---- the component of an array of references

pub component_text : {name component : List ℕ} → IsReferenceComponent name component → IsText name → IsText component
component_text (array component is) text = record { spelling = behind_byte 91 component (omega arith) text.spelling; len = omega (arith, text.len) }
component_text (class component) text =
    let inner : IsModifiedUtf8 (component ++ 59 ∷ []) = behind_byte 76 (component ++ 59 ∷ []) (omega arith) (behind_byte 91 (76 ∷ component ++ 59 ∷ []) (omega arith) text.spelling) in
    record { spelling = without_last 59 (omega arith) inner.units inner.each component inner.spelled; len = omega (arith, text.len, length-append component (59 ∷ [])) }

-- ---- the name of an array

pub primitive_text : (letter : ℕ) → 0 < letter → letter < 0x80 → IsText (91 ∷ letter ∷ [])
primitive_text letter some low =
    record { spelling = record { units = 91 ∷ letter ∷ []; each = (omega arith, (omega arith, tt)); spelled = rw (one_byte letter some low) refl }; len = omega arith }

code_units : (units more : List ℕ) → AllByRecursion IsCodeUnit units → AllByRecursion IsCodeUnit more → AllByRecursion IsCodeUnit (units ++ more)
code_units [] more each others = others
code_units (unit ∷ units) more each others = (each.0, code_units units more each.1 others)

array_bytes : (name : List ℕ) → IsModifiedUtf8 name → IsModifiedUtf8 (91 ∷ name)
array_bytes name utf8 = record { units = 91 ∷ utf8.units; each = (omega arith, utf8.each); spelled = ap (λ (t : List ℕ). 91 ∷ t) utf8.spelled }

class_bytes : (name : List ℕ) → IsModifiedUtf8 name → IsModifiedUtf8 (91 ∷ 76 ∷ (name ++ 59 ∷ []))
class_bytes name utf8 =
    record {
      units = 91 ∷ 76 ∷ (utf8.units ++ 59 ∷ []);
      each = (omega arith, (omega arith, code_units utf8.units (59 ∷ []) utf8.each (omega arith, tt)));
      spelled = ap (λ (t : List ℕ). 91 ∷ 76 ∷ t) (ap (λ (t : List ℕ). t ++ 59 ∷ []) utf8.spelled ∙ sym (flat_map-append unit_bytes utf8.units (59 ∷ [])));
    }

bracket : (name : List ℕ) (first : ℕ) (rest : List ℕ) → IsArrayType name → name ≡ first ∷ rest → eqb first 91 ≡ true
bracket name first rest type is = eq-eqb first 91 (first_of type.dimensions type.some type.spelled) where
  first_of : (dimensions : ℕ) → 1 ≤ dimensions → name ≡ replicate dimensions 91 ++ field_type_text type.element → first ≡ 91
  first_of zero some spelled = absurd (omega arith)
  first_of (suc dimensions) some spelled =
      let e : first ∷ rest ≡ 91 ∷ (replicate dimensions 91 ++ field_type_text type.element) = sym is ∙ spelled in
      cc

-- the array's name is as long as its class or array allows
array_len : (name : List ℕ) → FitsArray name → length (91 ∷ named_text name) ≤ 65535
array_len [] fits = omega arith
array_len (first ∷ rest) (inr fits) =
    elim (cases_Bool (eqb first 91)) [
      | inl is ↦ rw is (omega (arith, fits.1))
      | inr other ↦ rw other (omega (arith, fits.1, length-append (first ∷ rest) (59 ∷ [])))
    ]
array_len (first ∷ rest) (inl fits) =
    rw (bracket (first ∷ rest) first rest fits.0 refl) (omega (arith, fits.2))

pub array_text : (name : List ℕ) → IsText name → FitsArray name → IsText (91 ∷ named_text name)
array_text [] text fits = record { spelling = class_bytes [] text.spelling; len = array_len [] fits }
array_text (first ∷ rest) text fits =
    elim (cases_Bool (eqb first 91)) [
      | inl is ↦ record { spelling = rw is (array_bytes (first ∷ rest) text.spelling); len = array_len (first ∷ rest) fits }
      | inr other ↦ record { spelling = rw other (class_bytes (first ∷ rest) text.spelling); len = array_len (first ∷ rest) fits }
    ]
