-- A text is printed in one way, and as no other text is.
use Rattle.std.proofs.Common.{◌≡◌, ◌≢◌, inl, inr, ◌++◌, ◌∷◌, [], ◌==◌, ◌/◌, ◌%◌, ◌<◌, ℕ, Bool, true, false, List, length, ap, sym, refl, subst, ◌∙◌, arith}
use Rattle.std.specs.List.{flat_map, AllByRecursion}
use Rattle.std.proofs.lemmas.Bool.{eqb-true}
use Rattle.std.proofs.lemmas.List.{append-nil}
use Rattle.class_model.specs.Cutting.{IsBytes}
use Rattle.class_model.specs.ModifiedUtf8.{IsText, IsCodeUnit, unit_bytes}
use Rattle.class_model.specs.Laws.Texts.{unit_forms}
use Rattle.script_text.specs.PrintedTexts.{hex_digit, is_plain_byte, printed_byte, printed_text}
use Rattle.script_text.specs.Scripts.{SpellsText}
use Rattle.script_text.specs.Inner.Reading.{PrintsBytes, PrintsText}
use Rattle.script_text.proofs.PrintedBytes.{plain_or_not, plain_form, escaped_form, plain_is_no_percent, digit_once, bytes_once, some_bytes}

-- the empty text, that of a dash, and one that is printed byte by byte
pub data TextForm : List ℕ → Type 0 where
  empty_text : TextForm []
  dash_text : TextForm (45 ∷ [])
  other_text : {bytes : List ℕ} → bytes ≢ [] → bytes ≢ 45 ∷ [] → printed_text bytes ≡ flat_map printed_byte bytes → TextForm bytes

true_is_not_false : true ≡ false → ⊥
true_is_not_false h = cc

dash_no_escape : (text : List ℕ) → text ≡ 45 ∷ [] → text ≡ 37 ∷ 50 ∷ 100 ∷ [] → ⊥
dash_no_escape text e h = first_differs (sym e ∙ h) where
  first_differs : ◌≡◌ {A = List ℕ} (45 ∷ []) (37 ∷ 50 ∷ 100 ∷ []) → ⊥
  first_differs same = cc

one_byte_text : (byte : ℕ) (dash : Bool) → (byte == 45) ≡ dash → TextForm (byte ∷ [])
one_byte_text byte true is = subst (λ (n : ℕ). TextForm (n ∷ [])) (sym (eqb-true byte 45 is)) dash_text
one_byte_text byte false is =
    other_text (λ e. cc) (λ e. true_is_not_false (subst (λ (n : ℕ). (n == 45) ≡ false) (only e) is)) (rw is (sym (append-nil (printed_byte byte)))) where
      only : byte ∷ [] ≡ 45 ∷ [] → byte ≡ 45
      only h = cc

pub text_form : (bytes : List ℕ) → TextForm bytes
text_form [] = empty_text
text_form (byte ∷ []) = one_byte_text byte (byte == 45) refl
text_form (first ∷ second ∷ rest) = other_text (λ e. cc) (λ e. cc) refl

-- ---- from bytes to a text

by_form : (word bytes : List ℕ) → TextForm bytes → word ≢ [] → word ≢ 45 ∷ [] → PrintsBytes word bytes → PrintsText word bytes
by_form word bytes empty_text some other prints = absurd (some prints.printed)
by_form word bytes dash_text some other prints = absurd (other prints.printed)
by_form word bytes (other_text some_bytes no_dash is) some other prints = record { printed = prints.printed ∙ sym is; are_bytes = prints.are_bytes }

pub as_text : (word bytes : List ℕ) → word ≢ [] → word ≢ 45 ∷ [] → PrintsBytes word bytes → PrintsText word bytes
as_text word bytes some other prints = by_form word bytes (text_form bytes) some other prints

no_form : (word bytes : List ℕ) → TextForm bytes → word ≢ 45 ∷ [] → word ≢ 37 ∷ 50 ∷ 100 ∷ [] → ((bytes : List ℕ) → ¬ PrintsBytes word bytes) → ¬ PrintsText word bytes
no_form word bytes empty_text no_dash no_escape never prints = no_dash prints.printed
no_form word bytes dash_text no_dash no_escape never prints = no_escape prints.printed
no_form word bytes (other_text some other is) no_dash no_escape never prints = never bytes (record { printed = prints.printed ∙ is; are_bytes = prints.are_bytes })

pub no_text : (word : List ℕ) → word ≢ 45 ∷ [] → word ≢ 37 ∷ 50 ∷ 100 ∷ [] → ((bytes : List ℕ) → ¬ PrintsBytes word bytes) → (bytes : List ℕ) → ¬ PrintsText word bytes
no_text word no_dash no_escape never bytes prints = no_form word bytes (text_form bytes) no_dash no_escape never prints

nothing_form : (bytes : List ℕ) → TextForm bytes → printed_text bytes ≢ []
nothing_form bytes empty_text e = cc
nothing_form bytes dash_text e = cc
nothing_form [] (other_text some other is) e = some refl
nothing_form (first ∷ rest) (other_text some other is) e = absurd (omega (arith, some_bytes first, ap (λ (t : List ℕ). length t) (sym is ∙ e), Rattle.std.proofs.lemmas.List.length-append (printed_byte first) (flat_map printed_byte rest)))

pub nothing_printed : (bytes : List ℕ) → ¬ PrintsText [] bytes
nothing_printed bytes prints = nothing_form bytes (text_form bytes) (sym prints.printed)

-- ---- each text in one way

no_escaped_dash : (byte : ℕ) (rest : List ℕ) → byte < 256 → printed_byte byte ++ rest ≢ 37 ∷ 50 ∷ 100 ∷ []
no_escaped_dash byte rest small e =
    elim (plain_or_not byte) [
      | inl plain ↦ plain_is_no_percent byte plain (first_percent (ap (λ (t : List ℕ). t ++ rest) (sym (plain_form byte plain)) ∙ e))
      | inr other ↦ escaped other (ap (λ (t : List ℕ). t ++ rest) (sym (escaped_form byte other)) ∙ e)
    ] where
      first_percent : byte ∷ rest ≡ 37 ∷ 50 ∷ 100 ∷ [] → byte ≡ 37
      first_percent h = cc

      escaped : is_plain_byte byte ≡ false → 37 ∷ hex_digit (byte / 16 % 16) ∷ hex_digit (byte % 16) ∷ rest ≡ 37 ∷ 50 ∷ 100 ∷ [] → ⊥
      escaped other h =
          let high = digit_once (byte / 16 % 16) 2 (omega arith) (omega arith) (cc) in
          let low = digit_once (byte % 16) 13 (omega arith) (omega arith) (cc) in
          let is : byte ≡ 45 = omega (arith, high, low, small) in
          true_is_not_false (subst (λ (n : ℕ). is_plain_byte n ≡ false) is other)

dash_alone : (bytes : List ℕ) → IsBytes bytes → flat_map printed_byte bytes ≢ 37 ∷ 50 ∷ 100 ∷ []
dash_alone [] are e = cc
dash_alone (first ∷ rest) are e = no_escaped_dash first (flat_map printed_byte rest) are.0 e

once : (one other : List ℕ) → TextForm one → TextForm other → IsBytes one → IsBytes other → printed_text one ≡ printed_text other → one ≡ other
once one other empty_text empty_text are also e = refl
once one other empty_text dash_text are also e = absurd (dash_no_escape (45 ∷ []) refl e)
once one other empty_text (other_text some no_dash is) are also e = absurd (no_dash (sym (bytes_once (45 ∷ []) other (omega arith, tt) also (e ∙ is))))
once one other dash_text empty_text are also e = absurd (dash_no_escape (45 ∷ []) refl (sym e))
once one other dash_text dash_text are also e = refl
once one other dash_text (other_text some no_dash is) are also e = absurd (dash_alone other also (sym (e ∙ is)))
once one other (other_text some no_dash is) empty_text are also e = absurd (no_dash (bytes_once one (45 ∷ []) are (omega arith, tt) (sym is ∙ e)))
once one other (other_text some no_dash is) dash_text are also e = absurd (dash_alone one are (sym is ∙ e))
once one other (other_text some no_dash is) (other_text some' no_dash' is') are also e = bytes_once one other are also (sym is ∙ (e ∙ is'))

pub printed_once : (one other : List ℕ) → IsBytes one → IsBytes other → printed_text one ≡ printed_text other → one ≡ other
printed_once one other are also e = once one other (text_form one) (text_form other) are also e

-- ---- texts are bytes

bytes-join : (one other : List ℕ) → IsBytes one → IsBytes other → IsBytes (one ++ other)
bytes-join [] other are also = also
bytes-join (first ∷ one) other are also = (are.0, bytes-join one other are.1 also)

unit_is_bytes : (unit : ℕ) → IsCodeUnit unit → IsBytes (unit_bytes unit)
unit_is_bytes unit small = elim (unit_forms unit) [
  | inl one ↦ rw one.bytes (omega (arith, one.high), tt)
  | inr more ↦ elim more [
    | inl two ↦ rw two.bytes (omega (arith, two.high), (omega arith, tt))
    | inr three ↦ rw three.bytes (omega (arith, small), (omega arith, (omega arith, tt)))
  ]
]

units_are_bytes : (units : List ℕ) → AllByRecursion IsCodeUnit units → IsBytes (flat_map unit_bytes units)
units_are_bytes [] each = tt
units_are_bytes (unit ∷ units) each = bytes-join (unit_bytes unit) (flat_map unit_bytes units) (unit_is_bytes unit each.0) (units_are_bytes units each.1)

pub text_is_bytes : (text : List ℕ) → IsText text → IsBytes text
text_is_bytes text is = subst (λ (t : List ℕ). IsBytes t) (sym is.spelling.spelled) (units_are_bytes is.spelling.units is.spelling.each)

pub text_prints : (text word : List ℕ) → SpellsText text word → PrintsText word text
text_prints text word spells = record { printed = spells.printed; are_bytes = text_is_bytes text spells.is_text }

-- bytes that are no text
pub no_such_text : (word bytes : List ℕ) → PrintsText word bytes → ¬ IsText bytes → (text : List ℕ) → ¬ SpellsText text word
no_such_text word bytes prints bad text spells =
    bad (subst (λ (t : List ℕ). IsText t) (printed_once text bytes (text_is_bytes text spells.is_text) prints.are_bytes (sym spells.printed ∙ prints.printed)) spells.is_text)

pub text_once : (one other word : List ℕ) → SpellsText one word → SpellsText other word → one ≡ other
text_once one other word spells also =
    printed_once one other (text_is_bytes one spells.is_text) (text_is_bytes other also.is_text) (sym spells.printed ∙ also.printed)
