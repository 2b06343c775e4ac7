-- The printed lines.
use Rattle.std.specs.Prelude.{ℕ, ◌+◌, ◌/◌, ◌%◌, ◌&&◌, nat_le, nat_lt, ◌==◌, not, List, [], ◌∷◌, ◌++◌, codes, decimal, slice_get, Option, Some, None, if◌then◌else◌}
use Rattle.std.specs.List.{flat_map}
use Rattle.class_model.specs.declared.header.Header.{Header}
use Rattle.class_model.specs.declared.header.Member.{Member}
use Rattle.class_rewrite.specs.Reports.{is_rewritten}
use Rattle.class_rewrite.specs.ReasonNames.{reason_name}
use Rattle.class_rewrite.specs.declared.report.Line.{Line}
use Rattle.class_tree.specs.Headers.{Name, Headers}
use Rattle.host_tree.specs.Host.{Bytes}

-- a hexadecimal digit in lower case
abbrev pub hex_digit : ℕ → ℕ
hex_digit digit = if nat_lt digit 10 then 48 + digit else 87 + digit

-- a visible ASCII byte other than % stands for itself, and every other byte is % and two digits
abbrev pub printed_byte : ℕ → List ℕ
printed_byte byte =
    if nat_le 0x21 byte && nat_le byte 0x7E && not (byte == 0x25)
    then byte ∷ []
    else 0x25 ∷ hex_digit (byte / 16) ∷ hex_digit (byte % 16) ∷ []

-- The empty text prints as a dash, and so the text of a dash does not.
abbrev pub printed_text : Bytes → Bytes
printed_text [] = codes "-"
printed_text (byte ∷ []) = if byte == 45 then codes "%2d" else printed_byte byte
printed_text (first ∷ second ∷ rest) = flat_map printed_byte (first ∷ second ∷ rest)

-- a line ends with a line feed
abbrev pub line : Bytes → Bytes
line text = text ++ 10 ∷ []

-- what is printed where a folder was optimised: how many files were written, how many of them are class files, how many methods were rewritten,
-- and how many were kept as they were
unfoldable pub summary_line : ℕ → ℕ → ℕ → ℕ → Bytes
summary_line files classes rewritten kept =
    line
    (codes "done files=" ++ decimal files ++ codes " classes=" ++ decimal classes
    ++ codes " rewritten=" ++ decimal rewritten ++ codes " kept=" ++ decimal kept)

-- what is printed where a folder was verified: how many class files it has, and how many methods these have
unfoldable pub verified_line : ℕ → ℕ → Bytes
verified_line classes methods =
    line (codes "verified " ++ decimal classes ++ codes " " ++ decimal methods)

-- ---- what becomes of methods

-- a method as it is named in a line
abbrev pub member_text : Name → Member → Bytes
member_text class member =
    printed_text class ++ codes " " ++ printed_text member.name ++ codes " "
    ++ printed_text member.desc

-- the numbers of a method that is rewritten
abbrev pub numbers_text : Line → Bytes
numbers_text line =
    if is_rewritten line.reason
    then
    codes " sites=" ++ decimal line.sites ++ codes " news=" ++ decimal line.news
    ++ codes " enters=" ++ decimal line.enters ++ codes " bytes=" ++ decimal line.bytes
    else []

-- a method of a class of the folder, what becomes of it, and why
abbrev pub report_line : Headers → Line → Bytes
report_line headers line = of_class (slice_get headers.folder line.at.class) where
  of_member : Name → Option Member → Bytes
  of_member class None = []
  of_member class (Some member) =
      member_text class member ++ codes " " ++ reason_name line.reason ++ numbers_text line
      ++ 10 ∷ []

  of_class : Option Header → Bytes
  of_class None = []
  of_class (Some header) = of_member header.name (slice_get header.methods line.at.method)

-- a line for each method
abbrev pub report_text : Headers → List Line → Bytes
report_text headers report = flat_map (report_line headers) report
