-- The characters that names and descriptors are made with (JVM Specification SE 8, 4.2 and 4.3), as bytes.
use Rattle.std.specs.Prelude.{ℕ}

-- ---- names

-- `b'.'`
abbrev pub dot : ℕ
dot = 46

-- `b'/'`
abbrev pub slash : ℕ
slash = 47

-- `b';'`
abbrev pub semicolon : ℕ
semicolon = 59

-- `b'<'`
abbrev pub less_sign : ℕ
less_sign = 60

-- `b'>'`
abbrev pub greater_sign : ℕ
greater_sign = 62

-- ---- descriptors (tables 4.3-A and 4.3.3)

-- `b'('`
abbrev pub left_parenthesis : ℕ
left_parenthesis = 40

-- `b')'`
abbrev pub right_parenthesis : ℕ
right_parenthesis = 41

-- `b'['`
abbrev pub left_bracket : ℕ
left_bracket = 91

-- `b'B'`
abbrev pub byte_letter : ℕ
byte_letter = 66

-- `b'C'`
abbrev pub char_letter : ℕ
char_letter = 67

-- `b'D'`
abbrev pub double_letter : ℕ
double_letter = 68

-- `b'F'`
abbrev pub float_letter : ℕ
float_letter = 70

-- `b'I'`
abbrev pub int_letter : ℕ
int_letter = 73

-- `b'J'`
abbrev pub long_letter : ℕ
long_letter = 74

-- `b'L'`, before the name of a class
abbrev pub class_letter : ℕ
class_letter = 76

-- `b'S'`
abbrev pub short_letter : ℕ
short_letter = 83

-- `b'V'`, for no result
abbrev pub void_letter : ℕ
void_letter = 86

-- `b'Z'`
abbrev pub boolean_letter : ℕ
boolean_letter = 90
