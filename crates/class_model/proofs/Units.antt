-- Which bytes spell a code unit, and what stands after it.
use Rattle.std.proofs.Common.{◌≡◌, ℕ, ◌+◌, ◌-◌, ◌*◌, ◌/◌, ◌%◌, ◌^◌, ◌<◌, ◌≤◌, ◌⊎◌, inl, inr, List, [], ◌∷◌, ◌++◌, length, arith, refl, sym, ap, subst, ◌∙◌}
use Rattle.std.specs.List.{flat_map, AllByRecursion}
use Rattle.class_model.specs.Laws.Texts.{one_byte, two_bytes, three_bytes, unit_forms}
use Rattle.class_model.specs.ModifiedUtf8.{IsCodeUnit, IsModifiedUtf8, unit_bytes}

-- some code unit has these bytes
abbrev pub Spells : List ℕ → Type 0
Spells bytes = (unit : ℕ) × (unit < 2 ^ 16) × (unit_bytes unit ≡ bytes)

-- a byte that is the code unit itself
pub spells_one : (byte : ℕ) → (1 ≤ byte) × (byte ≤ 0x7F) → Spells (byte ∷ [])
spells_one byte h = (byte, omega arith, (one_byte byte h.0 (omega arith)).bytes)

-- the code unit of two bytes, where the first is not C0
pub spells_two : (first second : ℕ) → (0xC2 ≤ first) × (first ≤ 0xDF) → (0x80 ≤ second) × (second ≤ 0xBF) → Spells (first ∷ second ∷ [])
spells_two first second h k =
    let unit = (first - 0xC0) * 0x40 + (second - 0x80) in
    let e : 0xC0 + unit / 0x40 ≡ first = omega arith in
    let f : 0x80 + unit % 0x40 ≡ second = omega arith in
    let form = two_bytes unit (inr (omega arith)) (omega arith) in
    (unit, omega arith, cc)

-- a second byte of two has the high bits 10
pub two_spelled : (first second : ℕ) → Spells (first ∷ second ∷ []) → (0x80 ≤ second) × (second ≤ 0xBF)
two_spelled first second s =
    elim (unit_forms s.0) [
      | inl one ↦ absurd cc
      | inr (inl two) ↦ let e : 0x80 + s.0 % 0x40 ≡ second = cc in (omega arith, omega arith)
      | inr (inr three) ↦ absurd cc
    ]

-- the code unit of three bytes
pub spells_three : (first second third : ℕ) → (0xE0 ≤ first) × (first ≤ 0xEF) × (0x80 ≤ second) × (second ≤ 0xBF) × (0x80 ≤ third) × (third ≤ 0xBF) → (0xE1 ≤ first) ⊎ (0xA0 ≤ second) → Spells (first ∷ second ∷ third ∷ [])
spells_three first second third h low =
    let unit = (first - 0xE0) * 0x1000 + (second - 0x80) * 0x40 + (third - 0x80) in
    let e : 0xE0 + unit / 0x1000 ≡ first = omega arith in
    let f : 0x80 + unit / 0x40 % 0x40 ≡ second = omega arith in
    let g : 0x80 + unit % 0x40 ≡ third = omega arith in
    let form = three_bytes unit (elim low [ inl high ↦ omega arith | inr high ↦ omega arith ]) in
    (unit, omega arith, cc)

-- a third byte has the high bits 10
pub three_spelled : (first second third : ℕ) → Spells (first ∷ second ∷ third ∷ []) → (0x80 ≤ third) × (third ≤ 0xBF)
three_spelled first second third s =
    elim (unit_forms s.0) [
      | inl one ↦ absurd cc
      | inr (inl two) ↦ absurd cc
      | inr (inr three) ↦ let e : 0x80 + s.0 % 0x40 ≡ third = cc in (omega arith, omega arith)
    ]

-- the bytes of a code unit are no front of those of another, so what stands after it is known
same_rest : (u v : ℕ) (r s : List ℕ) → unit_bytes u ++ r ≡ unit_bytes v ++ s → r ≡ s
same_rest u v r s e =
    elim (unit_forms u) [
      | inl a ↦ elim (unit_forms v) [
        | inl b ↦ let h : u ∷ r ≡ v ∷ s = rw (a.bytes, b.bytes) at e in cc
        | inr (inl b) ↦ let h : u ≡ 0xC0 + v / 0x40 = cc (rw (a.bytes, b.bytes) at e) in absurd (omega arith)
        | inr (inr b) ↦ let h : u ≡ 0xE0 + v / 0x1000 = cc (rw (a.bytes, b.bytes) at e) in absurd (omega arith)
      ]
      | inr (inl a) ↦ elim (unit_forms v) [
        | inl b ↦ let h : 0xC0 + u / 0x40 ≡ v = cc (rw (a.bytes, b.bytes) at e) in absurd (omega arith)
        | inr (inl b) ↦ cc (rw (a.bytes, b.bytes) at e)
        | inr (inr b) ↦ let h : 0xC0 + u / 0x40 ≡ 0xE0 + v / 0x1000 = cc (rw (a.bytes, b.bytes) at e) in absurd (omega arith)
      ]
      | inr (inr a) ↦ elim (unit_forms v) [
        | inl b ↦ let h : 0xE0 + u / 0x1000 ≡ v = cc (rw (a.bytes, b.bytes) at e) in absurd (omega arith)
        | inr (inl b) ↦ let h : 0xE0 + u / 0x1000 ≡ 0xC0 + v / 0x40 = cc (rw (a.bytes, b.bytes) at e) in absurd (omega arith)
        | inr (inr b) ↦ cc (rw (a.bytes, b.bytes) at e)
      ]
    ]

-- a code unit has a byte
shorter : (unit : ℕ) (rest : List ℕ) → length rest < length (unit_bytes unit ++ rest)
shorter unit rest =
    elim (unit_forms unit) [
      | inl a ↦ rw a.bytes (omega arith)
      | inr (inl a) ↦ rw a.bytes (omega arith)
      | inr (inr a) ↦ rw a.bytes (omega arith)
    ]

-- the bytes begin with a code unit, and these come after it
abbrev pub Follows : List ℕ → List ℕ → Type 0
Follows bytes after = (unit : ℕ) × (unit < 2 ^ 16) × (bytes ≡ unit_bytes unit ++ after)

-- so the rest gets shorter
pub follows_shorter : (bytes after : List ℕ) → Follows bytes after → length after < length bytes
follows_shorter bytes after f = rw f.2 (shorter f.0 after)

-- a code unit before modified UTF-8
pub utf8_before : (bytes after : List ℕ) → Follows bytes after → IsModifiedUtf8 after → IsModifiedUtf8 bytes
utf8_before bytes after f m = record { units = f.0 ∷ m.units; each = (f.1, m.each); spelled = f.2 ∙ ap (λ (t : List ℕ). unit_bytes f.0 ++ t) m.spelled }

-- a first code unit, if bytes spell one or more
first_follows : (bytes units : List ℕ) → AllByRecursion IsCodeUnit units → bytes ≡ flat_map unit_bytes units → (bytes ≡ []) ⊎ ((after : List ℕ) × Follows bytes after × IsModifiedUtf8 after)
first_follows bytes [] each e = inl e
first_follows bytes (unit ∷ units) each e = inr (flat_map unit_bytes units, (unit, each.0, e), record { units = units; each = each.1; spelled = refl })

-- modified UTF-8 after its first code unit
pub utf8_after : (bytes after : List ℕ) → Follows bytes after → IsModifiedUtf8 bytes → IsModifiedUtf8 after
utf8_after bytes after f m =
    elim (first_follows bytes m.units m.each m.spelled) [
      | inl none ↦ absurd (omega (arith, follows_shorter bytes after f, ap length none))
      | inr g ↦ subst IsModifiedUtf8 (same_rest g.1.0 f.0 g.0 after (sym g.1.2 ∙ f.2)) g.2
    ]

-- no code unit at all
pub utf8_none : IsModifiedUtf8 []
utf8_none = record { units = []; each = tt; spelled = refl }

-- only no bytes are modified UTF-8 that begins with no code unit
pub nothing_follows : (bytes : List ℕ) → ((after : List ℕ) → Follows bytes after → ⊥) → IsModifiedUtf8 bytes → bytes ≡ []
nothing_follows bytes none m =
    elim (first_follows bytes m.units m.each m.spelled) [
      | inl e ↦ e
      | inr g ↦ absurd (none g.0 g.1)
    ]
