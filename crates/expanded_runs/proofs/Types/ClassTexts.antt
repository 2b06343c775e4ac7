-- The name in the text of a class type is a text.
use Rattle.std.proofs.Common.{◌≡◌, ℕ, ◌+◌, ◌/◌, ◌%◌, ◌^◌, ◌<◌, inl, inr, List, [], ◌∷◌, ◌++◌, length, arith, refl, sym, ap, ◌∙◌, length-append}
use Rattle.std.specs.List.{flat_map, AllByRecursion}
use Rattle.class_model.specs.Laws.Texts.{OneByte, TwoBytes, ThreeBytes, unit_forms}
use Rattle.class_model.specs.ModifiedUtf8.{IsCodeUnit, IsModifiedUtf8, IsText, unit_bytes}

none : IsModifiedUtf8 []
none = record { units = []; each = tt; spelled = refl }

-- behind an L
behind_first : (units rest : List ℕ) → AllByRecursion IsCodeUnit units → 76 ∷ rest ≡ flat_map unit_bytes units → IsModifiedUtf8 rest
behind_first [] rest each e = absurd cc
behind_first (unit ∷ units) rest each e =
    elim (unit_forms unit) [
      | inl one ↦ let h : 76 ∷ rest ≡ unit ∷ flat_map unit_bytes units = rw one.bytes at e in record { units = units; each = each.1; spelled = cc }
      | inr (inl two) ↦ let h : 76 ≡ 0xC0 + unit / 0x40 = cc (rw two.bytes at e) in absurd (omega arith)
      | inr (inr three) ↦ let h : 76 ≡ 0xE0 + unit / 0x1000 = cc (rw three.bytes at e) in absurd (omega arith)
    ]

-- before a semicolon at the end
module _ (unit : ℕ) (fits : unit < 2 ^ 16) (rest : List ℕ) (shorter : (bytes : List ℕ) → bytes ++ 59 ∷ [] ≡ rest → IsModifiedUtf8 bytes) where
  more : (front bytes : List ℕ) → unit_bytes unit ≡ front → bytes ++ 59 ∷ [] ≡ rest → IsModifiedUtf8 (front ++ bytes)
  more front bytes is e =
      let m = shorter bytes e in
      record { units = unit ∷ m.units; each = (fits, m.each); spelled = ap (λ (t : List ℕ). t ++ bytes) (sym is) ∙ ap (λ (t : List ℕ). unit_bytes unit ++ t) m.spelled }

  before_one : OneByte unit → (bytes : List ℕ) → bytes ++ 59 ∷ [] ≡ unit_bytes unit ++ rest → IsModifiedUtf8 bytes
  before_one one [] e = none
  before_one one (a ∷ bytes) e =
      let h : a ∷ (bytes ++ 59 ∷ []) ≡ unit ∷ rest = rw one.bytes at e in
      more (a ∷ []) bytes (cc (one.bytes)) (cc)

  before_two : TwoBytes unit → (bytes : List ℕ) → bytes ++ 59 ∷ [] ≡ unit_bytes unit ++ rest → IsModifiedUtf8 bytes
  before_two two [] e = none
  before_two two (a ∷ []) e =
      let h : a ∷ 59 ∷ [] ≡ (0xC0 + unit / 0x40) ∷ (0x80 + unit % 0x40) ∷ rest = rw two.bytes at e in
      let high : 59 ≡ 0x80 + unit % 0x40 = cc in
      absurd (omega arith)
  before_two two (a ∷ b ∷ bytes) e =
      let h : a ∷ b ∷ (bytes ++ 59 ∷ []) ≡ (0xC0 + unit / 0x40) ∷ (0x80 + unit % 0x40) ∷ rest = rw two.bytes at e in
      more (a ∷ b ∷ []) bytes (cc (two.bytes)) (cc)

  before_three : ThreeBytes unit → (bytes : List ℕ) → bytes ++ 59 ∷ [] ≡ unit_bytes unit ++ rest → IsModifiedUtf8 bytes
  before_three three [] e = none
  before_three three (a ∷ []) e =
      let h : a ∷ 59 ∷ [] ≡ (0xE0 + unit / 0x1000) ∷ (0x80 + unit / 0x40 % 0x40) ∷ (0x80 + unit % 0x40) ∷ rest = rw three.bytes at e in
      let high : 59 ≡ 0x80 + unit / 0x40 % 0x40 = cc in
      absurd (omega arith)
  before_three three (a ∷ b ∷ []) e =
      let h : a ∷ b ∷ 59 ∷ [] ≡ (0xE0 + unit / 0x1000) ∷ (0x80 + unit / 0x40 % 0x40) ∷ (0x80 + unit % 0x40) ∷ rest = rw three.bytes at e in
      let high : 59 ≡ 0x80 + unit % 0x40 = cc in
      absurd (omega arith)
  before_three three (a ∷ b ∷ c ∷ bytes) e =
      let h : a ∷ b ∷ c ∷ (bytes ++ 59 ∷ []) ≡ (0xE0 + unit / 0x1000) ∷ (0x80 + unit / 0x40 % 0x40) ∷ (0x80 + unit % 0x40) ∷ rest = rw three.bytes at e in
      more (a ∷ b ∷ c ∷ []) bytes (cc (three.bytes)) (cc)

before_last : (units : List ℕ) → AllByRecursion IsCodeUnit units → (bytes : List ℕ) → bytes ++ 59 ∷ [] ≡ flat_map unit_bytes units → IsModifiedUtf8 bytes
before_last [] each bytes e = absurd (omega (arith, ap length e, length-append bytes (59 ∷ [])))
before_last (unit ∷ units) each bytes e =
    let shorter : (others : List ℕ) → others ++ 59 ∷ [] ≡ flat_map unit_bytes units → IsModifiedUtf8 others = before_last units each.1 in
    elim (unit_forms unit) [
      | inl one ↦ before_one unit each.0 (flat_map unit_bytes units) shorter one bytes e
      | inr (inl two) ↦ before_two unit each.0 (flat_map unit_bytes units) shorter two bytes e
      | inr (inr three) ↦ before_three unit each.0 (flat_map unit_bytes units) shorter three bytes e
    ]

pub name_is_text : (name : List ℕ) → IsText (76 ∷ (name ++ 59 ∷ [])) → IsText name
name_is_text name text =
    let after : IsModifiedUtf8 (name ++ 59 ∷ []) = behind_first text.spelling.units (name ++ 59 ∷ []) text.spelling.each text.spelling.spelled in
    record { spelling = before_last after.units after.each name after.spelled; len = omega (arith, text.len, length-append name (59 ∷ [])) }
