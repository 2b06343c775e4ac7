-- The names in a method descriptor that is a text are texts.
use Rattle.std.proofs.Common.{◌≡◌, ◌==◌, ℕ, ◌<◌, ◌≤◌, Bool, true, false, List, [], ◌∷◌, ◌++◌, length, IfSome, Option, Some, None, inl, inr, refl, sym, ap, subst, ◌∙◌, arith, append_assoc, length-append}
use Rattle.std.specs.List.{flat_map, AllByRecursion}
use Rattle.class_model.specs.Descriptors.{named_text, field_type_text, IsFieldType, result_text, SpellsDescriptor}
use Rattle.class_model.specs.ModifiedUtf8.{IsText, IsModifiedUtf8, unit_bytes}
use Rattle.class_model.specs.Laws.Descriptors.{array_text, class_text}
use Rattle.class_model.specs.PoolChecks.{IsTypeName, BytesSpell}
use Rattle.class_model.specs.declared.descriptor.Descriptor.{Descriptor}
use Rattle.class_model.specs.declared.descriptor.FieldType.{FieldType}
use Rattle.class_model.specs.declared.descriptor.FieldType.TheVariants.{Byte, Char, Short, Bool as boolean, Int, Long, Float, Double, Named}
use Rattle.class_model.proofs.TextParts.{before-ascii, name_is_text}
use Rattle.class_model.proofs.Units.{Follows, spells_one, utf8_after}

-- ---- behind an ASCII byte

follows_ascii : (byte : ℕ) (after : List ℕ) → (1 ≤ byte) × (byte ≤ 0x7F) → Follows (byte ∷ after) after
follows_ascii byte after low = let s = spells_one byte low in (s.0, s.1, sym (ap (λ (t : List ℕ). t ++ after) s.2))

behind_ascii : (byte : ℕ) (after : List ℕ) → (1 ≤ byte) × (byte ≤ 0x7F) → IsModifiedUtf8 (byte ∷ after) → IsModifiedUtf8 after
behind_ascii byte after low m = utf8_after (byte ∷ after) after (follows_ascii byte after low) m

-- behind bytes that are modified UTF-8
behind_units : (units : List ℕ) → AllByRecursion (λ unit. unit < 65536) units → (after : List ℕ) → IsModifiedUtf8 (flat_map unit_bytes units ++ after) → IsModifiedUtf8 after
behind_units [] each after m = m
behind_units (unit ∷ units) each after m =
    let others = flat_map unit_bytes units ++ after in
    behind_units units each.1 after (utf8_after (flat_map unit_bytes (unit ∷ units) ++ after) others (unit, each.0, append_assoc (unit_bytes unit) (flat_map unit_bytes units) after) m)

behind_text : (text after : List ℕ) → IsModifiedUtf8 text → IsModifiedUtf8 (text ++ after) → IsModifiedUtf8 after
behind_text text after t m = behind_units t.units t.each after (subst (λ (front : List ℕ). IsModifiedUtf8 (front ++ after)) t.spelled m)

-- ---- the first byte of a type

pub record Begins (bytes : List ℕ) : Type 0 where
  pub byte : ℕ
  pub low : (1 ≤ byte) × (byte ≤ 0x7F)
  pub more : List ℕ
  pub is : bytes ≡ byte ∷ more

begins_named : (name : List ℕ) → Begins (named_text name)
begins_named [] = record { byte = 76; low = (omega arith, omega arith); more = 59 ∷ []; is = refl }
begins_named (first ∷ rest) = by (first == 91) refl where
  by : (bracket : Bool) → (first == 91) ≡ bracket → Begins (named_text (first ∷ rest))
  by true e = record { byte = 91; low = (omega arith, omega arith); more = rest; is = grind arith }
  by false e = record { byte = 76; low = (omega arith, omega arith); more = first ∷ rest ++ 59 ∷ []; is = rw e refl }

begins : (type : FieldType) → Begins (field_type_text type)
begins Byte = record { byte = 66; low = (omega arith, omega arith); more = []; is = refl }
begins Char = record { byte = 67; low = (omega arith, omega arith); more = []; is = refl }
begins Short = record { byte = 83; low = (omega arith, omega arith); more = []; is = refl }
begins boolean = record { byte = 90; low = (omega arith, omega arith); more = []; is = refl }
begins Int = record { byte = 73; low = (omega arith, omega arith); more = []; is = refl }
begins Long = record { byte = 74; low = (omega arith, omega arith); more = []; is = refl }
begins Float = record { byte = 70; low = (omega arith, omega arith); more = []; is = refl }
begins Double = record { byte = 68; low = (omega arith, omega arith); more = []; is = refl }
begins (Named name) = begins_named name

begins_before : (types : List FieldType) (after : List ℕ) → Begins (flat_map field_type_text types ++ 41 ∷ after)
begins_before [] after = record { byte = 41; low = (omega arith, omega arith); more = after; is = refl }
begins_before (type ∷ types) after =
    let b = begins type in
    record { byte = b.byte; low = b.low; more = b.more ++ (flat_map field_type_text types ++ 41 ∷ after); is = append_assoc (field_type_text type) (flat_map field_type_text types) (41 ∷ after) ∙ ap (λ (t : List ℕ). t ++ (flat_map field_type_text types ++ 41 ∷ after)) b.is }

-- ---- the names

-- the name in the text of a type that is a text
type_of_text : (type : FieldType) → IsTypeName type → IsText (field_type_text type) → IsFieldType type
type_of_text Byte h t = tt
type_of_text Char h t = tt
type_of_text Short h t = tt
type_of_text boolean h t = tt
type_of_text Int h t = tt
type_of_text Long h t = tt
type_of_text Float h t = tt
type_of_text Double h t = tt
type_of_text (Named name) (inl class) t = (name_is_text (named_text name) name (class_text name class) t, inl class)
type_of_text (Named name) (inr array) t = (subst IsText (array_text name array) t, inr array)

types_of_text : (types : List FieldType) (after : List ℕ) → AllByRecursion IsTypeName types → IsModifiedUtf8 (flat_map field_type_text types ++ 41 ∷ after) → length (flat_map field_type_text types) ≤ 65535 → AllByRecursion IsFieldType types × IsModifiedUtf8 after
types_of_text [] after named m len = (tt, behind_ascii 41 after (omega arith, omega arith) m)
types_of_text (type ∷ types) after named m len =
    let text = field_type_text type in
    let others = flat_map field_type_text types ++ 41 ∷ after in
    let b = begins_before types after in
    let apart : IsModifiedUtf8 (text ++ others) = subst IsModifiedUtf8 (append_assoc text (flat_map field_type_text types) (41 ∷ after)) m in
    let whole : IsModifiedUtf8 (text ++ b.byte ∷ b.more) = subst (λ (t : List ℕ). IsModifiedUtf8 (text ++ t)) b.is apart in
    let front : IsModifiedUtf8 text = before-ascii b.byte (omega (arith, b.low.1)) b.more whole.units whole.each text whole.spelled in
    let sum = length-append text (flat_map field_type_text types) in
    let rest = types_of_text types after named.1 (behind_text text others front apart) (omega (arith, len, sum)) in
    ((type_of_text type named.0 (record { spelling = front; len = omega (arith, len, sum) }), rest.0), rest.1)

result_of_text : (result : Option FieldType) → IfSome result IsTypeName → IsModifiedUtf8 (result_text result) → length (result_text result) ≤ 65535 → IfSome result IsFieldType
result_of_text None h m len = tt
result_of_text (Some type) h m len = type_of_text type h (record { spelling = m; len = len })

pub spelled_of_text : (text : List ℕ) (d : Descriptor) → IsText text → BytesSpell text d → SpellsDescriptor text d
spelled_of_text text d t s =
    let params = flat_map field_type_text d.params in
    let behind = params ++ 41 ∷ result_text d.result in
    let inside : IsModifiedUtf8 behind = behind_ascii 40 behind (omega arith, omega arith) (subst IsModifiedUtf8 s.spelled t.spelling) in
    let sum = length-append params (41 ∷ result_text d.result) in
    let whole = ap length s.spelled in
    let types = types_of_text d.params (result_text d.result) s.params inside (omega (arith, t.len, sum, whole)) in
    record {
      is_descriptor = record { params = types.0; units = s.units; result = result_of_text d.result s.result types.1 (omega (arith, t.len, sum, whole)) };
      spelled = s.spelled;
    }
