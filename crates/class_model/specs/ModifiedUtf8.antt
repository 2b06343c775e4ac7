-- Modified UTF-8, in which a Utf8 constant spells its text (JVM Specification SE 8, 4.4.7).
use Rattle.std.specs.Prelude.{◌≡◌, ℕ, ◌+◌, ◌/◌, ◌%◌, ◌^◌, ◌<◌, ◌≤◌, List, [], ◌∷◌, length, ◌&&◌, nat_lt, nat_le, Bool, if◌then◌else◌}
use Rattle.std.specs.List.{flat_map, list_all, AllByRecursion}

-- A UTF-16 code unit is a number of sixteen bits; surrogates are spelled as any other.
abbrev pub IsCodeUnit : ℕ → Type 0
IsCodeUnit unit = unit < 2 ^ 16

-- The bytes of one code unit: one for 1 to 7F, two for 0 and for 80 to 7FF, and else three.
abbrev pub unit_bytes : ℕ → List ℕ
unit_bytes unit =
    if nat_lt 0 unit && nat_lt unit 0x80 then unit ∷ []
    else (if nat_lt unit 0x800 then (0xC0 + unit / 0x40) ∷ (0x80 + unit % 0x40) ∷ []
    else (0xE0 + unit / 0x1000) ∷ (0x80 + unit / 0x40 % 0x40) ∷ (0x80 + unit % 0x40) ∷ [])

-- The bytes spell code units, one after the other.
pub record IsModifiedUtf8 (bytes : List ℕ) : Type 0 where
  pub units : List ℕ
  pub each : AllByRecursion IsCodeUnit units
  pub spelled : bytes ≡ flat_map unit_bytes units

-- What a Utf8 constant may hold: its length is spelled by two bytes.
pub record IsText (bytes : List ℕ) : Type 0 where
  pub spelling : IsModifiedUtf8 bytes
  pub len : length bytes ≤ 65535

-- a byte from 1 to 7F, which spells a code unit by itself
abbrev pub is_plain : ℕ → Bool
is_plain byte = nat_lt 0 byte && nat_lt byte 0x80

-- such bytes alone, and no more than a text has
abbrev pub is_plain_text : List ℕ → Bool
is_plain_text bytes = list_all is_plain bytes && nat_le (length bytes) 65535
