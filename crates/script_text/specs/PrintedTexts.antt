-- How texts and numbers are printed.
use Rattle.std.specs.Prelude.{ℕ, Bool, zero, suc, ◌+◌, ◌-◌, ◌/◌, ◌%◌, ◌&&◌, nat_le, nat_lt, ◌==◌, not, List, [], ◌∷◌, ◌++◌, if◌then◌else◌}
use Rattle.std.specs.List.{flat_map}
use Rattle.script_text.specs.Characters.{percent, dash, zero_digit, ten_digit}

-- bytes of a line
abbrev pub Bytes : Type 0
Bytes = List ℕ

-- a hexadecimal digit in lower case
abbrev pub hex_digit : ℕ → ℕ
hex_digit digit = if nat_lt digit 10 then zero_digit + digit else ten_digit + (digit - 10)

-- so many hexadecimal digits, the highest first
abbrev pub hex_text : ℕ → ℕ → Bytes
hex_text zero number = []
hex_text (suc count) number = hex_text count (number / 16) ++ hex_digit (number % 16) ∷ []

-- a byte that stands for itself: a visible ASCII one other than %
abbrev pub is_plain_byte : ℕ → Bool
is_plain_byte byte = nat_le 0x21 byte && (nat_le byte 0x7E && not (byte == percent))

-- every other byte is % and two digits
abbrev pub printed_byte : ℕ → Bytes
printed_byte byte = if is_plain_byte byte then byte ∷ [] else percent ∷ hex_text 2 byte

-- The empty text is printed as a dash, and so the text of a dash is printed as another byte is.
abbrev pub printed_text : Bytes → Bytes
printed_text [] = dash ∷ []
printed_text (byte ∷ []) = if byte == dash then percent ∷ hex_text 2 byte else printed_byte byte
printed_text (first ∷ second ∷ rest) = flat_map printed_byte (first ∷ second ∷ rest)
