-- Names of plain bytes: a test that the checker computes, and what a name that passes is.
use Rattle.std.proofs.Common.{◌≡◌, ◌≢◌, ◌&&◌, ◌==◌, ℕ, not, Bool, true, List, [], ◌∷◌, false, if◌then◌else◌, inl, inr, sym, ◌∙◌}
use Rattle.std.specs.List.{AllByRecursion, list_all, join_with_byte}
use Rattle.std.proofs.lemmas.Bool.{and_parts, not-true, eq-eqb, false≢true, true≢false}
use Rattle.class_model.specs.Descriptors.{IsReferenceName}
use Rattle.class_model.specs.Laws.Texts.{plain_text}
use Rattle.class_model.specs.ModifiedUtf8.{IsModifiedUtf8, is_plain_text}
use Rattle.class_model.specs.Names.{IsNameByte, IsUnqualifiedName, IsClassName, IsNoAngle, IsMethodName}

-- ---- names

differs : (byte other : ℕ) → not (byte == other) ≡ true → byte ≢ other
differs byte other test equal = true≢false (sym (eq-eqb byte other equal) ∙ not-true (byte == other) test)

-- none of . / ; [
abbrev is_name_byte : ℕ → Bool
is_name_byte byte = not (byte == 46) && not (byte == 47) && (not (byte == 59) && not (byte == 91))

name_byte : (byte : ℕ) → is_name_byte byte ≡ true → IsNameByte byte
name_byte byte test =
    let halves = and_parts (not (byte == 46) && not (byte == 47)) (not (byte == 59) && not (byte == 91)) test in
    let low = and_parts (not (byte == 46)) (not (byte == 47)) halves.0 in
    let high = and_parts (not (byte == 59)) (not (byte == 91)) halves.1 in
    record {
      no_dot = differs byte 46 low.0;
      no_slash = differs byte 47 low.1;
      no_semicolon = differs byte 59 high.0;
      no_bracket = differs byte 91 high.1;
    }

-- what holds of each byte that passes a test
each : {P : ℕ → Type 0} (test : ℕ → Bool) → ((byte : ℕ) → test byte ≡ true → P byte) → (bytes : List ℕ) → list_all test bytes ≡ true → AllByRecursion P bytes
each test holds [] passes = tt
each test holds (byte ∷ bytes) passes =
    let parts = and_parts (test byte) (list_all test bytes) passes in
    (holds byte parts.0, each test holds bytes parts.1)

abbrev pub is_unqualified : List ℕ → Bool
is_unqualified [] = false
is_unqualified (byte ∷ bytes) = list_all is_name_byte (byte ∷ bytes)

pub unqualified : (name : List ℕ) → is_unqualified name ≡ true → IsUnqualifiedName name
unqualified [] test = absurd (false≢true test)
unqualified (byte ∷ bytes) test = record { some = λ e. absurd cc; bytes = each is_name_byte name_byte (byte ∷ bytes) test }

-- ---- class names

-- a byte in front of the first of parts
abbrev in_front : ℕ → List (List ℕ) → List (List ℕ)
in_front byte [] = (byte ∷ []) ∷ []
in_front byte (part ∷ parts) = (byte ∷ part) ∷ parts

-- what stands between slashes
abbrev pub parts_of : List ℕ → List (List ℕ)
parts_of [] = [] ∷ []
parts_of (byte ∷ bytes) = if byte == 47 then [] ∷ parts_of bytes else in_front byte (parts_of bytes)

abbrev pub are_parts : List (List ℕ) → Bool
are_parts [] = false
are_parts (part ∷ parts) = list_all is_unqualified (part ∷ parts)

each_part : (parts : List (List ℕ)) → list_all is_unqualified parts ≡ true → AllByRecursion IsUnqualifiedName parts
each_part [] test = tt
each_part (part ∷ parts) test =
    let both = and_parts (is_unqualified part) (list_all is_unqualified parts) test in
    (unqualified part both.0, each_part parts both.1)

-- A class name of plain bytes: at a name that is known each of these computes.
pub record IsPlainClassName (name : List ℕ) : Type 0 where
  pub plain : is_plain_text name ≡ true
  pub parts : are_parts (parts_of name) ≡ true
  pub joined : name ≡ join_with_byte 47 (parts_of name)

joined_parts : (name : List ℕ) (parts : List (List ℕ)) → are_parts parts ≡ true → name ≡ join_with_byte 47 parts → IsClassName name
joined_parts name [] test joined = absurd (false≢true test)
joined_parts name (part ∷ parts) test joined =
    record { parts = part ∷ parts; some = λ e. absurd cc; unqualified = each_part (part ∷ parts) test; joined = joined }

pub class_name : (name : List ℕ) → IsPlainClassName name → IsClassName name
class_name name plain = joined_parts name (parts_of name) plain.parts plain.joined

pub reference_name : (name : List ℕ) → IsPlainClassName name → IsReferenceName name
reference_name name plain = inl (class_name name plain)

pub utf8 : (name : List ℕ) → IsPlainClassName name → IsModifiedUtf8 name
utf8 name plain = (plain_text name plain.plain).spelling

-- ---- names of methods

-- neither < nor >
abbrev pub is_no_angle : ℕ → Bool
is_no_angle byte = not (byte == 60) && not (byte == 62)

no_angle : (byte : ℕ) → is_no_angle byte ≡ true → IsNoAngle byte
no_angle byte test =
    let parts = and_parts (not (byte == 60)) (not (byte == 62)) test in
    record { no_less = differs byte 60 parts.0; no_greater = differs byte 62 parts.1 }

pub method_name : (name : List ℕ) → is_unqualified name ≡ true → list_all is_no_angle name ≡ true → IsMethodName name
method_name name test angles = inr (inr (record { unqualified = unqualified name test; no_angles = each is_no_angle no_angle name angles }))
