-- Code units and their bytes, and texts of bytes from 1 to 7F.
use Rattle.std.proofs.Common.{◌≡◌, ◌⊎◌, ◌+◌, ◌/◌, ◌%◌, ◌<◌, ◌≤◌, ℕ, true, ltb, leb, List, [], ◌∷◌, length, inl, inr, refl, ap, arith}
use Rattle.std.specs.List.{AllByRecursion, flat_map, list_all}
use Rattle.std.proofs.lemmas.Bool.{and_parts, cases_lt, ltb-true, leb-true}
use Rattle.std.proofs.lemmas.Bool.Decides.{nat_tests}
use Rattle.class_model.specs.ModifiedUtf8.{IsCodeUnit, IsText, unit_bytes, is_plain, is_plain_text}

-- ---- a code unit's bytes, by how many they are

pub record OneByte (unit : ℕ) : Type 0 where
  pub low : 0 < unit
  pub high : unit < 0x80
  pub bytes : unit_bytes unit ≡ unit ∷ []

pub record TwoBytes (unit : ℕ) : Type 0 where
  pub low : (unit ≡ 0) ⊎ (0x80 ≤ unit)
  pub high : unit < 0x800
  pub bytes : unit_bytes unit ≡ (0xC0 + unit / 0x40) ∷ (0x80 + unit % 0x40) ∷ []

pub record ThreeBytes (unit : ℕ) : Type 0 where
  pub low : 0x800 ≤ unit
  pub bytes :
      unit_bytes unit
      ≡ (0xE0 + unit / 0x1000) ∷ (0x80 + unit / 0x40 % 0x40) ∷ (0x80 + unit % 0x40) ∷ []

pub one_byte : (unit : ℕ) → 0 < unit → unit < 0x80 → OneByte unit
one_byte unit low high = record { low = low; high = high; bytes = grind (arith, nat_tests) }

pub two_bytes : (unit : ℕ) → (unit ≡ 0) ⊎ (0x80 ≤ unit) → unit < 0x800 → TwoBytes unit
two_bytes unit low high = record { low = low; high = high; bytes = grind (arith, nat_tests) }

pub three_bytes : (unit : ℕ) → 0x800 ≤ unit → ThreeBytes unit
three_bytes unit low = record { low = low; bytes = grind (arith, nat_tests) }

-- each code unit has one of the three forms
pub unit_forms : (unit : ℕ) → OneByte unit ⊎ (TwoBytes unit ⊎ ThreeBytes unit)
unit_forms unit =
    elim (cases_lt 0 unit) [
      | inr zero ↦ inr (inl (two_bytes unit (inl (omega arith)) (omega arith)))
      | inl some ↦ elim (cases_lt unit 0x80) [
        | inl low ↦ inl (one_byte unit some low)
        | inr more ↦ elim (cases_lt unit 0x800) [
          | inl middle ↦ inr (inl (two_bytes unit (inr more) middle))
          | inr high ↦ inr (inr (three_bytes unit high))
        ]
      ]
    ]

-- ---- bytes from 1 to 7F

plain_units : (bytes : List ℕ) → list_all is_plain bytes ≡ true → AllByRecursion IsCodeUnit bytes
plain_units [] plain = tt
plain_units (byte ∷ bytes) plain =
    let parts = and_parts (is_plain byte) (list_all is_plain bytes) plain in
    let low : byte < 128 = ltb-true byte 128 (and_parts (ltb 0 byte) (ltb byte 128) parts.0).1 in
    let unit : byte < 65536 = omega arith in
    (unit, plain_units bytes parts.1)

plain_spelled :
    (bytes : List ℕ) → list_all is_plain bytes ≡ true → bytes ≡ flat_map unit_bytes bytes
plain_spelled [] plain = refl
plain_spelled (byte ∷ bytes) plain =
    let parts = and_parts (is_plain byte) (list_all is_plain bytes) plain in
    rw (parts.0) (ap (λ (rest : List ℕ). byte ∷ rest) (plain_spelled bytes parts.1))

pub plain_text : (bytes : List ℕ) → is_plain_text bytes ≡ true → IsText bytes
plain_text bytes plain =
    let parts = and_parts (list_all is_plain bytes) (leb (length bytes) 65535) plain in
    record { spelling = record { units = bytes; each = plain_units bytes parts.0; spelled = plain_spelled bytes parts.0 }; len = leb-true _ _ parts.1 }
