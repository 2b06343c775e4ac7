-- A text cut before or behind an ASCII byte is a text.
use Rattle.std.proofs.Common.{◌≡◌, ℕ, ◌+◌, ◌/◌, ◌%◌, ◌^◌, ◌<◌, inl, inr, List, [], ◌∷◌, ◌++◌, length, arith, ap, length-append}
use Rattle.std.specs.List.{flat_map, AllByRecursion}
use Rattle.class_model.specs.ModifiedUtf8.{IsText, IsModifiedUtf8, IsCodeUnit, unit_bytes}
use Rattle.class_model.specs.Laws.Texts.{OneByte, TwoBytes, ThreeBytes, unit_forms}
use Rattle.class_model.proofs.Units.{utf8_none, utf8_before, utf8_after}

-- before an ASCII byte, where what comes after its first code unit is modified UTF-8 before that
module _ (last unit : ℕ) (low : last < 0x80) (fits : unit < 2 ^ 16) (units more rest : List ℕ) (shorter : (bytes : List ℕ) → bytes ++ last ∷ more ≡ rest → IsModifiedUtf8 bytes) where
  before-one : OneByte unit → (bytes : List ℕ) → bytes ++ last ∷ more ≡ unit_bytes unit ++ rest → IsModifiedUtf8 bytes
  before-one one [] e = utf8_none
  before-one one (a ∷ bytes) e =
      let h : a ∷ (bytes ++ last ∷ more) ≡ unit ∷ rest = rw one.bytes at e in
      utf8_before (a ∷ bytes) bytes (unit, fits, cc (one.bytes)) (shorter bytes (cc))

  before-two : TwoBytes unit → (bytes : List ℕ) → bytes ++ last ∷ more ≡ unit_bytes unit ++ rest → IsModifiedUtf8 bytes
  before-two two [] e = utf8_none
  before-two two (a ∷ []) e =
      let h : a ∷ last ∷ more ≡ (0xC0 + unit / 0x40) ∷ (0x80 + unit % 0x40) ∷ rest = rw two.bytes at e in
      let high : last ≡ 0x80 + unit % 0x40 = cc in
      absurd (omega arith)
  before-two two (a ∷ b ∷ bytes) e =
      let h : a ∷ b ∷ (bytes ++ last ∷ more) ≡ (0xC0 + unit / 0x40) ∷ (0x80 + unit % 0x40) ∷ rest = rw two.bytes at e in
      utf8_before (a ∷ b ∷ bytes) bytes (unit, fits, cc (two.bytes)) (shorter bytes (cc))

  before-three : ThreeBytes unit → (bytes : List ℕ) → bytes ++ last ∷ more ≡ unit_bytes unit ++ rest → IsModifiedUtf8 bytes
  before-three three [] e = utf8_none
  before-three three (a ∷ []) e =
      let h : a ∷ last ∷ more ≡ (0xE0 + unit / 0x1000) ∷ (0x80 + unit / 0x40 % 0x40) ∷ (0x80 + unit % 0x40) ∷ rest = rw three.bytes at e in
      let high : last ≡ 0x80 + unit / 0x40 % 0x40 = cc in
      absurd (omega arith)
  before-three three (a ∷ b ∷ []) e =
      let h : a ∷ b ∷ last ∷ more ≡ (0xE0 + unit / 0x1000) ∷ (0x80 + unit / 0x40 % 0x40) ∷ (0x80 + unit % 0x40) ∷ rest = rw three.bytes at e in
      let high : last ≡ 0x80 + unit % 0x40 = cc in
      absurd (omega arith)
  before-three three (a ∷ b ∷ c ∷ bytes) e =
      let h : a ∷ b ∷ c ∷ (bytes ++ last ∷ more) ≡ (0xE0 + unit / 0x1000) ∷ (0x80 + unit / 0x40 % 0x40) ∷ (0x80 + unit % 0x40) ∷ rest = rw three.bytes at e in
      utf8_before (a ∷ b ∷ c ∷ bytes) bytes (unit, fits, cc (three.bytes)) (shorter bytes (cc))

pub before-ascii : (last : ℕ) → last < 0x80 → (more units : List ℕ) → AllByRecursion IsCodeUnit units → (bytes : List ℕ) → bytes ++ last ∷ more ≡ flat_map unit_bytes units → IsModifiedUtf8 bytes
before-ascii last low more [] each bytes e = absurd (omega (arith, ap length e, length-append bytes (last ∷ more)))
before-ascii last low more (unit ∷ units) each bytes e =
    let shorter : (others : List ℕ) → others ++ last ∷ more ≡ flat_map unit_bytes units → IsModifiedUtf8 others = before-ascii last low more units each.1 in
    elim (unit_forms unit) [
      | inl one ↦ before-one last unit low each.0 units more (flat_map unit_bytes units) shorter one bytes e
      | inr (inl two) ↦ before-two last unit low each.0 units more (flat_map unit_bytes units) shorter two bytes e
      | inr (inr three) ↦ before-three last unit low each.0 units more (flat_map unit_bytes units) shorter three bytes e
    ]

-- the name of a class type
pub name_is_text : (bytes name : List ℕ) → bytes ≡ 76 ∷ (name ++ 59 ∷ []) → IsText bytes → IsText name
name_is_text bytes name e text =
    let after : IsModifiedUtf8 (name ++ 59 ∷ []) = utf8_after bytes (name ++ 59 ∷ []) (76, omega arith, e) text.spelling in
    record { spelling = before-ascii 59 (omega arith) [] after.units after.each name after.spelled; len = omega (arith, text.len, ap length e, length-append name (59 ∷ [])) }
