-- The characters that scripts and printed lines are made with, as bytes.
use Rattle.std.specs.Prelude.{ℕ}

-- `b'\n'`, at the end of a line
abbrev pub line_feed : ℕ
line_feed = 10

-- `b' '`, between words
abbrev pub space : ℕ
space = 32

-- `b'#'`, before a comment
abbrev pub hash : ℕ
hash = 35

-- `b'%'`, before the digits of a byte that is not printed as itself
abbrev pub percent : ℕ
percent = 37

-- `b'-'`, for the empty text, and before a number below 0
abbrev pub dash : ℕ
dash = 45

-- `b'0'`
abbrev pub zero_digit : ℕ
zero_digit = 48

-- `b'a'`, the hexadecimal digit of ten
abbrev pub ten_digit : ℕ
ten_digit = 97

-- `b'"'`, before a constant
abbrev pub quote : ℕ
quote = 34
