-- What is behind the bracket of a text is a text (JVM Specification SE 8, 4.4.7): the bracket is one byte.
use Rattle.std.proofs.Common.{◌≡◌, ◌+◌, ◌/◌, ◌%◌, ◌<◌, ℕ, true, false, Bool, eqb, List, [], ◌∷◌, inl, inr, refl, arith}
use Rattle.std.proofs.lemmas.Bool.{eqb-true}
use Rattle.std.specs.List.{AllByRecursion, flat_map}
use Rattle.class_model.specs.Laws.Texts.{unit_forms}
use Rattle.class_model.specs.ModifiedUtf8.{IsCodeUnit, IsModifiedUtf8, IsText, unit_bytes}
use Rattle.machine_values.specs.Values.{component_text}

without_first : (byte : ℕ) (rest units : List ℕ) → byte < 0x80 → AllByRecursion IsCodeUnit units → byte ∷ rest ≡ flat_map unit_bytes units → IsModifiedUtf8 rest
without_first byte rest [] low each spelled = absurd cc
without_first byte rest (unit ∷ units) low each spelled =
    elim (unit_forms unit) [
      | inl one ↦
          let e : byte ∷ rest ≡ unit ∷ flat_map unit_bytes units = rw one.bytes at spelled in
          record { units = units; each = each.1; spelled = cc }
      | inr (inl two) ↦
          let e : byte ∷ rest ≡ (0xC0 + unit / 0x40) ∷ (0x80 + unit % 0x40) ∷ flat_map unit_bytes units = rw two.bytes at spelled in
          let same : byte ≡ 0xC0 + unit / 0x40 = cc in
          absurd (omega arith)
      | inr (inr three) ↦
          let e : byte ∷ rest ≡ (0xE0 + unit / 0x1000) ∷ (0x80 + unit / 0x40 % 0x40) ∷ (0x80 + unit % 0x40) ∷ flat_map unit_bytes units = rw three.bytes at spelled in
          let same : byte ≡ 0xE0 + unit / 0x1000 = cc in
          absurd (omega arith)
    ]

pub component_is_text : (name : List ℕ) → IsText name → IsText (component_text name)
component_is_text [] text = text
component_is_text (first ∷ rest) text = by (eqb first 91) refl
  where
    by : (is : Bool) → eqb first 91 ≡ is → IsText (component_text (first ∷ rest))
    by true is =
        let bracket : first ≡ 91 = eqb-true first 91 is in
        rw is (record { spelling = without_first first rest text.spelling.units (omega arith) text.spelling.each text.spelling.spelled; len = omega (arith, text.len) })
    by false is = rw is (record { spelling = record { units = []; each = tt; spelled = refl }; len = omega arith })
