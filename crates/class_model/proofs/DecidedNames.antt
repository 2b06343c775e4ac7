-- Texts and names are decided.
use Rattle.std.proofs.Common.{◌≡◌, ◌≢◌, ◌⊎◌, inl, inr, ℕ, suc, zero, ◌+◌, ◌/◌, ◌%◌, ◌^◌, ◌<◌, ◌≤◌, Bool, true, false, List, [], ◌∷◌, ◌++◌, length, refl, sym, ap, subst, arith}
use Rattle.std.proofs.lemmas.Bool.{cases_eq}
use Rattle.class_model.specs.ModifiedUtf8.{IsModifiedUtf8, IsText}
use Rattle.class_model.specs.Laws.Texts.{TwoBytes, ThreeBytes, unit_forms, two_bytes}
use Rattle.class_model.specs.Names.{IsNameByte, IsUnqualifiedName, IsClassName, IsNoAngle, IsPlainMethodName, IsMethodName, BeginsOtherwise, IsFieldName, init, clinit}
use Rattle.class_model.proofs.ClassNames.{Rest, rest_of_name, name_of_rest, first_byte, slash_before, slash_after, byte_before, byte_after, ends_part, no_part_at_end}
use Rattle.class_model.specs.Laws.Decisions.{Decision, mapped, both, either, denied}
use Rattle.class_model.proofs.Decisions.{three, four, at_most, equal_bytes, each}
use Rattle.class_model.proofs.Units.{Spells, spells_one, spells_two, spells_three, Follows, follows_shorter, utf8_none, utf8_before, utf8_after, nothing_follows}

-- ---- the first code unit of bytes

abbrev One : ℕ → Type 0
One a = (1 ≤ a) × (a ≤ 0x7F)

abbrev Continues : ℕ → Type 0
Continues b = (0x80 ≤ b) × (b ≤ 0xBF)

abbrev Two : ℕ → ℕ → Type 0
Two a b = ((a ≡ 0xC0) × (b ≡ 0x80)) ⊎ ((0xC2 ≤ a) × (a ≤ 0xDF) × Continues b)

abbrev Three : ℕ → ℕ → ℕ → Type 0
Three a b c = ((0xE0 ≤ a) × (a ≤ 0xEF)) × Continues b × Continues c × ((0xE1 ≤ a) ⊎ (0xA0 ≤ b))

continues : (b : ℕ) → Decision (Continues b)
continues b = both (at_most 0x80 b) (at_most b 0xBF)

one : (a : ℕ) → Decision (One a)
one a = both (at_most 1 a) (at_most a 0x7F)

two : (a b : ℕ) → Decision (Two a b)
two a b = either (both (cases_eq a 0xC0) (cases_eq b 0x80)) (three (at_most 0xC2 a) (at_most a 0xDF) (continues b))

three_of : (a b c : ℕ) → Decision (Three a b c)
three_of a b c = four (both (at_most 0xE0 a) (at_most a 0xEF)) (continues b) (continues c) (either (at_most 0xE1 a) (at_most 0xA0 b))

follows : (front after : List ℕ) → Spells front → Follows (front ++ after) after
follows front after s = (s.0, s.1, ap (λ (t : List ℕ). t ++ after) (sym s.2))

two_spells : (a b : ℕ) → Two a b → Spells (a ∷ b ∷ [])
two_spells a b (inl h) = (0, omega arith, rw (h.0, h.1) (two_bytes 0 (inl refl) (omega arith)).bytes)
two_spells a b (inr h) = spells_two a b (h.0, h.1) h.2

three_spells : (a b c : ℕ) → Three a b c → Spells (a ∷ b ∷ c ∷ [])
three_spells a b c h = spells_three a b c (h.0.0, h.0.1, h.1.0, h.1.1, h.2.0, h.2.1) h.3

-- the first code unit of bytes is spelled by one, two or three of them
abbrev Shape : List ℕ → List ℕ → Type 0
Shape bytes after =
    ((a : ℕ) × One a × (bytes ≡ a ∷ after))
    ⊎ (((a : ℕ) × (b : ℕ) × Two a b × (bytes ≡ a ∷ b ∷ after))
    ⊎ ((a : ℕ) × (b : ℕ) × (c : ℕ) × Three a b c × (bytes ≡ a ∷ b ∷ c ∷ after)))

two_shape : (unit : ℕ) → TwoBytes unit → Two (0xC0 + unit / 0x40) (0x80 + unit % 0x40)
two_shape unit form = elim form.low [
  | inl none ↦ inl (omega (arith, none), omega (arith, none))
  | inr low ↦ inr (omega (arith, low), omega (arith, form.high), (omega arith, omega arith))
]

three_shape : (unit : ℕ) → unit < 2 ^ 16 → ThreeBytes unit → Three (0xE0 + unit / 0x1000) (0x80 + unit / 0x40 % 0x40) (0x80 + unit % 0x40)
three_shape unit fits form = (
  (omega arith, omega (arith, fits)),
  (omega arith, omega arith),
  (omega arith, omega arith),
  elim (at_most 0x1000 unit) [ inl high ↦ inl (omega (arith, high)) | inr low ↦ inr (omega (arith, low, form.low)) ],
)

shape : (bytes after : List ℕ) → Follows bytes after → Shape bytes after
shape bytes after f = elim (unit_forms f.0) [
  | inl form ↦ inl (f.0, (omega (arith, form.low), omega (arith, form.high)), rw form.bytes at f.2)
  | inr (inl form) ↦ inr (inl (_, _, two_shape f.0 form, rw form.bytes at f.2))
  | inr (inr form) ↦ inr (inr (_, _, _, three_shape f.0 f.1 form, rw form.bytes at f.2))
]

abbrev Front : List ℕ → Type 0
Front bytes = ((after : List ℕ) × Follows bytes after) ⊎ ((after : List ℕ) → Follows bytes after → ⊥)

front : (bytes : List ℕ) → Front bytes
front [] = inr (λ after f. omega (arith, follows_shorter [] after f))
front (a ∷ []) = elim (one a) [
  | inl is ↦ inl ([], follows (a ∷ []) [] (spells_one a is))
  | inr not_one ↦ inr (λ after f. elim (shape _ after f) [
    | inl s ↦ not_one (let e : s.0 ≡ a = cc in subst One e s.1)
    | inr (inl s) ↦ absurd cc
    | inr (inr s) ↦ absurd cc
  ])
]
front (a ∷ b ∷ []) = elim (one a) [
  | inl is ↦ inl (b ∷ [], follows (a ∷ []) (b ∷ []) (spells_one a is))
  | inr not_one ↦ elim (two a b) [
    | inl is ↦ inl ([], follows (a ∷ b ∷ []) [] (two_spells a b is))
    | inr none ↦ inr (λ after f. elim (shape _ after f) [
      | inl s ↦ not_one (let e : s.0 ≡ a = cc in subst One e s.1)
      | inr (inl s) ↦ none (let e : s.0 ≡ a = cc in let d : s.1 ≡ b = cc in rw (e, d) at s.2)
      | inr (inr s) ↦ absurd cc
    ])
  ]
]
front (a ∷ b ∷ c ∷ bytes) = elim (one a) [
  | inl is ↦ inl (b ∷ c ∷ bytes, follows (a ∷ []) (b ∷ c ∷ bytes) (spells_one a is))
  | inr not_one ↦ elim (two a b) [
    | inl is ↦ inl (c ∷ bytes, follows (a ∷ b ∷ []) (c ∷ bytes) (two_spells a b is))
    | inr none ↦ elim (three_of a b c) [
      | inl is ↦ inl (bytes, follows (a ∷ b ∷ c ∷ []) bytes (three_spells a b c is))
      | inr never ↦ inr (λ after f. elim (shape _ after f) [
        | inl s ↦ not_one (let e : s.0 ≡ a = cc in subst One e s.1)
        | inr (inl s) ↦ none (let e : s.0 ≡ a = cc in let d : s.1 ≡ b = cc in rw (e, d) at s.2)
        | inr (inr s) ↦ never (let e : s.0 ≡ a = cc in let d : s.1 ≡ b = cc in let g : s.2 ≡ c = cc in rw (e, d, g) at s.3)
      ])
    ]
  ]
]

-- ---- modified UTF-8

no_unit : (bytes : List ℕ) → ((after : List ℕ) → Follows bytes after → ⊥) → Decision (IsModifiedUtf8 bytes)
no_unit [] none = inl utf8_none
no_unit (a ∷ bytes) none = inr (λ m. absurd (let e = nothing_follows (a ∷ bytes) none m in cc))

utf8_within : (left : ℕ) (bytes : List ℕ) → length bytes ≤ left → Decision (IsModifiedUtf8 bytes)
utf8_within zero [] fits = inl utf8_none
utf8_within zero (a ∷ bytes) fits = absurd (omega (arith, fits))
utf8_within (suc left) bytes fits = elim (front bytes) [
  | inl f ↦ mapped (utf8_before bytes f.0 f.1) (utf8_after bytes f.0 f.1) (utf8_within left f.0 (omega (arith, fits, follows_shorter bytes f.0 f.1)))
  | inr none ↦ no_unit bytes none
]

pub utf8 : (bytes : List ℕ) → Decision (IsModifiedUtf8 bytes)
utf8 bytes = utf8_within (length bytes) bytes (omega arith)

pub text : (bytes : List ℕ) → Decision (IsText bytes)
text bytes = mapped (λ h. record { spelling = h.0; len = h.1 }) (λ t. (t.spelling, t.len)) (both (utf8 bytes) (at_most (length bytes) 65535))

-- ---- names

other_than : (byte other : ℕ) → Decision (byte ≢ other)
other_than byte other = denied (cases_eq byte other)

name_byte : (byte : ℕ) → Decision (IsNameByte byte)
name_byte byte = mapped
    (λ h. record { no_dot = h.0; no_slash = h.1; no_semicolon = h.2; no_bracket = h.3 })
    (λ n. (n.no_dot, n.no_slash, n.no_semicolon, n.no_bracket))
    (four (other_than byte 46) (other_than byte 47) (other_than byte 59) (other_than byte 91))

pub unqualified_name : (name : List ℕ) → Decision (IsUnqualifiedName name)
unqualified_name name = mapped (λ h. record { some = h.0; bytes = h.1 }) (λ n. (n.some, n.bytes)) (both (denied (equal_bytes name [])) (each name_byte name))

no_slash_first : (bytes : List ℕ) → ¬ Rest true (47 ∷ bytes)
no_slash_first bytes rest = elim (first_byte true 47 bytes rest) [ inl part ↦ part.is_named.no_slash refl | inr slash ↦ slash.inside refl ]

at_slash : (starts_part : Bool) (bytes : List ℕ) → Decision (Rest true bytes) → Decision (Rest starts_part (47 ∷ bytes))
at_slash true bytes after = inr (no_slash_first bytes)
at_slash false bytes after = mapped (slash_before bytes) (slash_after bytes) after

at_byte : (starts_part : Bool) (byte : ℕ) (bytes : List ℕ) → byte ≢ 47 → Decision (Rest false bytes) → Decision (Rest starts_part (byte ∷ bytes))
at_byte starts_part byte bytes other after = elim (name_byte byte) [
  | inl named ↦ mapped (byte_before starts_part byte bytes named) (λ r. (byte_after starts_part byte bytes other r).rest) after
  | inr other_byte ↦ inr (λ r. other_byte (byte_after starts_part byte bytes other r).is_named)
]

rest_of_class_name : (starts_part : Bool) (bytes : List ℕ) → Decision (Rest starts_part bytes)
rest_of_class_name true [] = inr no_part_at_end
rest_of_class_name false [] = inl ends_part
rest_of_class_name starts_part (byte ∷ bytes) = elim (cases_eq byte 47) [
  | inl slash ↦ rw slash (at_slash starts_part bytes (rest_of_class_name true bytes))
  | inr other ↦ at_byte starts_part byte bytes other (rest_of_class_name false bytes)
]

pub class_name : (name : List ℕ) → Decision (IsClassName name)
class_name name = mapped (name_of_rest name) (rest_of_name name) (rest_of_class_name true name)

no_angle : (byte : ℕ) → Decision (IsNoAngle byte)
no_angle byte = mapped (λ h. record { no_less = h.0; no_greater = h.1 }) (λ n. (n.no_less, n.no_greater)) (both (other_than byte 60) (other_than byte 62))

plain_method_name : (name : List ℕ) → Decision (IsPlainMethodName name)
plain_method_name name = mapped (λ h. record { unqualified = h.0; no_angles = h.1 }) (λ n. (n.unqualified, n.no_angles)) (both (unqualified_name name) (each no_angle name))

pub method_name : (name : List ℕ) → Decision (IsMethodName name)
method_name name = either (equal_bytes name init) (either (equal_bytes name clinit) (plain_method_name name))

begins_otherwise : (name : List ℕ) → Decision (BeginsOtherwise name)
begins_otherwise [] = inl tt
begins_otherwise (first ∷ rest) = other_than first 60

pub field_name : (name : List ℕ) → Decision (IsFieldName name)
field_name name = mapped (λ h. record { unqualified = h.0; otherwise = h.1 }) (λ n. (n.unqualified, n.otherwise)) (both (unqualified_name name) (begins_otherwise name))
