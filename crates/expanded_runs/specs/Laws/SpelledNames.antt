-- Names of classes and arrays that a Class constant may have: those of arrays, of components and of what is loaded.
use Rattle.std.proofs.Common.{◌≡◌, ◌≢◌, ◌⊎◌, ◌+◌, ◌-◌, ◌/◌, ◌%◌, ◌<◌, ◌≤◌, ◌==◌, inl, inr, ℕ, zero, suc, Bool, true, false, not, List, [], ◌∷◌, ◌++◌, length, take, replicate, codes, Option, Some, None, refl, sym, ap, subst, ◌∙◌, arith}
use Rattle.std.specs.Prelude.{◌&&◌}
use Rattle.std.specs.List.{AllByRecursion, flat_map, join_with_byte, list_all}
use Rattle.std.proofs.lemmas.Bool.{and_parts, eq-eqb, false≢true, not-true, true≢false}
use Rattle.std.proofs.lemmas.List.{length-append, length_push, take_at}
use Rattle.std.proofs.lemmas.Grind.{flat_map-append}
use Rattle.class_model.specs.ArrayTypes.{component_of}
use Rattle.class_model.specs.Characters.{left_bracket, semicolon}
use Rattle.class_model.specs.Code.{FitsArray}
use Rattle.class_model.specs.Descriptors.{IsArrayType, IsElementType, IsReferenceName, field_type_text, named_text}
use Rattle.class_model.specs.Laws.Descriptors.{array_head, array_text, class_text, name_head}
use Rattle.class_model.specs.Laws.Texts.{one_byte, plain_text, unit_forms}
use Rattle.class_model.specs.ModifiedUtf8.{IsCodeUnit, IsModifiedUtf8, IsText, is_plain_text, unit_bytes}
use Rattle.class_model.specs.Names.{IsClassName, IsNameByte, IsUnqualifiedName}
use Rattle.class_model.specs.declared.array_codes.TheConstants.{T_BOOLEAN, T_CHAR, T_FLOAT, T_DOUBLE, T_BYTE, T_SHORT, T_INT, T_LONG}
use Rattle.class_model.specs.declared.descriptor.FieldType.{FieldType}
use Rattle.class_model.specs.declared.descriptor.FieldType.TheVariants as field_types
use Rattle.class_model.specs.declared.frame.Frame.{Frame}
use Rattle.class_model.specs.declared.pool.Const.{Const as Constant}
use Rattle.class_model.specs.declared.pool.Const.TheVariants as consts
use Rattle.class_tree.specs.Headers.{Name}
use Rattle.class_tree.specs.Names.{method_handle, method_type}
use Rattle.class_tree.specs.Subtype.{IsReferenceComponent, array, class}
use Rattle.expanded_runs.specs.Laws.KeptNames.{either_has}
use Rattle.expanded_runs.specs.NamedFrames.{IsKeptName, IsSpelledName, TypesHave}
use Rattle.member_link.specs.Rows.ArrayRows.{primitive_array}
use Rattle.member_link.specs.Rows.LocalRows.{const_row}

same_heads : (a b : ℕ) (ones others : List ℕ) → a ∷ ones ≡ b ∷ others → a ≡ b
same_heads a b ones others e = cc

same_tails : (a b : ℕ) (ones others : List ℕ) → a ∷ ones ≡ b ∷ others → ones ≡ others
same_tails a b ones others e = cc

-- ---- texts

-- a byte below 80 in front of code units is one of them
without_first : (byte : ℕ) (rest units : List ℕ) → byte < 0x80 → AllByRecursion IsCodeUnit units → byte ∷ rest ≡ flat_map unit_bytes units
    → IsModifiedUtf8 rest
without_first byte rest [] low each spelled = absurd cc
without_first byte rest (unit ∷ units) low each spelled =
    elim (unit_forms unit) [
      | inl one ↦
          let e : byte ∷ rest ≡ unit ∷ flat_map unit_bytes units = rw one.bytes at spelled in
          record { units = units; each = each.1; spelled = cc }
      | inr (inl two) ↦
          let e : byte ∷ rest ≡ (0xC0 + unit / 0x40) ∷ (0x80 + unit % 0x40) ∷ flat_map unit_bytes units = rw two.bytes at spelled in
          let same : byte ≡ 0xC0 + unit / 0x40 = cc in
          absurd (omega arith)
      | inr (inr three) ↦
          let e : byte ∷ rest
          ≡ (0xE0 + unit / 0x1000) ∷ (0x80 + unit / 0x40 % 0x40) ∷ (0x80 + unit % 0x40) ∷ flat_map unit_bytes units =
          rw three.bytes at spelled in
          let same : byte ≡ 0xE0 + unit / 0x1000 = cc in
          absurd (omega arith)
    ]

pub behind_byte : (byte : ℕ) (rest : List ℕ) → byte < 0x80 → IsText (byte ∷ rest) → IsText rest
behind_byte byte rest low text = record {
  spelling = without_first byte rest text.spelling.units low text.spelling.each text.spelling.spelled;
  len = omega (arith, text.len);
}

both_units : (units more : List ℕ) → AllByRecursion IsCodeUnit units → AllByRecursion IsCodeUnit more → AllByRecursion IsCodeUnit (units ++ more)
both_units [] more each others = others
both_units (unit ∷ units) more each others = (each.0, both_units units more each.1 others)

bracket_text : (name : List ℕ) → IsModifiedUtf8 name → IsModifiedUtf8 (91 ∷ name)
bracket_text name utf8 = record { units = 91 ∷ utf8.units; each = (omega arith, utf8.each); spelled = ap (λ (t : List ℕ). 91 ∷ t) utf8.spelled }

class_array_text : (name : List ℕ) → IsModifiedUtf8 name → IsModifiedUtf8 (91 ∷ 76 ∷ (name ++ 59 ∷ []))
class_array_text name utf8 = record {
  units = 91 ∷ 76 ∷ (utf8.units ++ 59 ∷ []);
  each = (omega arith, (omega arith, both_units utf8.units (59 ∷ []) utf8.each (omega arith, tt)));
  spelled = ap (λ (t : List ℕ). 91 ∷ 76 ∷ t) (ap (λ (t : List ℕ). t ++ 59 ∷ []) utf8.spelled ∙ sym (flat_map-append unit_bytes utf8.units (59 ∷ [])));
}

-- ---- arrays

few_dimensions : (name : Name) (is : IsArrayType name) → FitsArray name → suc is.dimensions ≤ 255
few_dimensions name is (inr fits) = absurd (fits.0 is)
few_dimensions name is (inl fits) = by (decide is.dimensions 255) where
  decide : (a b : ℕ) → (suc a ≤ b) ⊎ (b ≤ a)
  decide zero zero = inr (omega arith)
  decide zero (suc b) = inl (omega arith)
  decide (suc a) zero = inr (omega arith)
  decide (suc a) (suc b) = of (decide a b) where
    of : (suc a ≤ b) ⊎ (b ≤ a) → (suc (suc a) ≤ suc b) ⊎ (suc b ≤ suc a)
    of (inl less) = inl (omega (arith, less))
    of (inr more) = inr (omega (arith, more))

  by : (suc is.dimensions ≤ 255) ⊎ (255 ≤ is.dimensions) → suc is.dimensions ≤ 255
  by (inl few) = few
  by (inr many) =
      absurd (fits.1 (record { dimensions = is.dimensions; element = is.element; is_element = is.is_element; enough = many; spelled = is.spelled }))

few_bytes : (name : Name) → FitsArray name → length (91 ∷ name) ≤ 65535
few_bytes name (inl fits) = omega (arith, fits.2)
few_bytes name (inr fits) = omega (arith, fits.1)

no_array : (name : Name) → IsClassName name → IsArrayType name → ⊥
no_array name class_name is =
    let head = name_head name class_name in
    let more = array_head name is in
    let same : head.first ∷ head.more ≡ 91 ∷ more.0 = sym head.is ∙ more.1 in
    head.no_bracket cc

class_bytes : (name : Name) → IsClassName name → FitsArray name → length (91 ∷ 76 ∷ (name ++ 59 ∷ [])) ≤ 65535
class_bytes name is (inl fits) = absurd (no_array name is fits.0)
class_bytes name is (inr fits) = let long = length-append name (59 ∷ []) in omega (arith, fits.1, long)

-- the array of a class or of arrays
pub array_spelled : (name : Name) → IsSpelledName name → FitsArray name → IsSpelledName (91 ∷ named_text name)
array_spelled name spelled fits = by spelled.is_name where
  by : IsReferenceName name → IsSpelledName (91 ∷ named_text name)
  by (inl class_name) = record {
    text = subst (λ (t : List ℕ). IsText (91 ∷ t)) (sym (class_text name class_name))
        (record { spelling = class_array_text name spelled.text.spelling; len = class_bytes name class_name fits });
    is_name = inr (record {
      dimensions = 1;
      element = field_types.Named name;
      some = omega arith;
      few = omega arith;
      is_element = class_name;
      spelled = refl;
    });
  }
  by (inr is) = record {
    text = subst (λ (t : List ℕ). IsText (91 ∷ t)) (sym (array_text name is))
        (record { spelling = bracket_text name spelled.text.spelling; len = few_bytes name fits });
    is_name = inr (record {
      dimensions = suc is.dimensions;
      element = is.element;
      some = omega arith;
      few = few_dimensions name is fits;
      is_element = is.is_element;
      spelled = ap (λ (t : List ℕ). 91 ∷ t) (array_text name is ∙ is.spelled);
    });
  }

-- arrays of a primitive type
pub primitive_spelled : (letter : ℕ) (element : FieldType) → 0 < letter → letter < 0x80 → IsElementType element → field_type_text element ≡ letter ∷ []
    → IsSpelledName (91 ∷ letter ∷ [])
primitive_spelled letter element some low is spelled = record {
  text = record {
    spelling = record {
      units = 91 ∷ letter ∷ [];
      each = (omega arith, (omega arith, tt));
      spelled = let one = one_byte letter some low in rw one.bytes refl;
    };
    len = omega arith;
  };
  is_name = inr (record {
    dimensions = 1;
    element = element;
    some = omega arith;
    few = omega arith;
    is_element = is;
    spelled = ap (λ (t : List ℕ). 91 ∷ t) (sym spelled);
  });
}

-- ---- components

-- high bytes are not cut by a low one behind them
cut_high : (last : ℕ) → last < 0x80 → (high rest bytes : List ℕ) → AllByRecursion (λ byte. 0x80 ≤ byte) high → bytes ++ last ∷ [] ≡ high ++ rest
    → (left : List ℕ) × (bytes ≡ high ++ left) × (left ++ last ∷ [] ≡ rest)
cut_high last low [] rest bytes are e = (bytes, refl, e)
cut_high last low (first ∷ high) rest [] are e =
    let same : last ≡ first = cc in
    absurd (omega (arith, are.0))
cut_high last low (first ∷ high) rest (byte ∷ bytes) are e =
    let inner = cut_high last low high rest bytes are.1 (cc) in
    (inner.0, (cc (inner.1)), inner.2)

record HighBytes (unit : ℕ) : Type 0 where
  first : ℕ
  more : List ℕ
  high : 0x80 ≤ first
  others : AllByRecursion (λ byte. 0x80 ≤ byte) more
  bytes : unit_bytes unit ≡ first ∷ more

unit_cases : (unit : ℕ) → (unit_bytes unit ≡ unit ∷ []) ⊎ HighBytes unit
unit_cases unit =
    elim (unit_forms unit) [
      | inl one ↦ inl one.bytes
      | inr (inl two) ↦ inr (record {
        first = 0xC0 + unit / 0x40;
        more = (0x80 + unit % 0x40) ∷ [];
        high = omega arith;
        others = (omega arith, tt);
        bytes = two.bytes;
      })
      | inr (inr three) ↦ inr (record {
        first = 0xE0 + unit / 0x1000;
        more = (0x80 + unit / 0x40 % 0x40) ∷ (0x80 + unit % 0x40) ∷ [];
        high = omega arith;
        others = (omega arith, (omega arith, tt));
        bytes = three.bytes;
      })
    ]

without_last : (last : ℕ) → last < 0x80 → (units : List ℕ) → AllByRecursion IsCodeUnit units → (bytes : List ℕ)
    → bytes ++ last ∷ [] ≡ flat_map unit_bytes units
    → IsModifiedUtf8 bytes
without_last last low units each [] spelled = record { units = []; each = tt; spelled = refl }
without_last last low [] each (byte ∷ bytes) spelled = absurd cc
without_last last low (unit ∷ units) each (byte ∷ bytes) spelled =
    elim (unit_cases unit) [
      | inl one ↦
          let e : byte ∷ (bytes ++ last ∷ []) ≡ unit ∷ flat_map unit_bytes units = rw one at spelled in
          let inner = without_last last low units each.1 bytes (cc) in
          record { units = unit ∷ inner.units; each = (each.0, inner.each); spelled = rw one (cc (inner.spelled)) }
      | inr high ↦
          let e : (byte ∷ bytes) ++ last ∷ [] ≡ (high.first ∷ high.more) ++ flat_map unit_bytes units = rw high.bytes at spelled in
          let cut = cut_high last low (high.first ∷ high.more) (flat_map unit_bytes units) (byte ∷ bytes) (high.high, high.others) e in
          let inner = without_last last low units each.1 cut.0 cut.2 in
          record {
            units = unit ∷ inner.units;
            each = (each.0, inner.each);
            spelled = rw high.bytes (cut.1 ∙ ap (λ (t : List ℕ). (high.first ∷ high.more) ++ t) inner.spelled);
          }
    ]

before_byte : (last : ℕ) (bytes : List ℕ) → last < 0x80 → IsText (bytes ++ last ∷ []) → IsText bytes
before_byte last bytes low text = record {
  spelling = without_last last low text.spelling.units text.spelling.each bytes text.spelling.spelled;
  len = let long = length-append bytes (last ∷ []) in omega (arith, text.len, long);
}

-- what is behind the bracket of an array of arrays
inner_array : (component : Name) (is : IsArrayType (91 ∷ 91 ∷ component)) → IsArrayType (91 ∷ component)
inner_array component is = by is.dimensions is.some is.few is.spelled where
  head_class : (name : Name) (more : List ℕ) → IsClassName name → 91 ∷ more ≡ named_text name → ⊥
  head_class name more class_name e = let same = same_heads 91 76 more (name ++ 59 ∷ []) (e ∙ class_text name class_name) in absurd (omega (arith, same))

  no_bracket : (element : FieldType) (more : List ℕ) → IsElementType element → 91 ∷ more ≡ field_type_text element → ⊥
  no_bracket (field_types.Named name) more is_element e = head_class name more is_element e
  no_bracket field_types.Byte more is_element e = let same = same_heads 91 66 more [] e in absurd (omega (arith, same))
  no_bracket field_types.Char more is_element e = let same = same_heads 91 67 more [] e in absurd (omega (arith, same))
  no_bracket field_types.Double more is_element e = let same = same_heads 91 68 more [] e in absurd (omega (arith, same))
  no_bracket field_types.Float more is_element e = let same = same_heads 91 70 more [] e in absurd (omega (arith, same))
  no_bracket field_types.Int more is_element e = let same = same_heads 91 73 more [] e in absurd (omega (arith, same))
  no_bracket field_types.Long more is_element e = let same = same_heads 91 74 more [] e in absurd (omega (arith, same))
  no_bracket field_types.Short more is_element e = let same = same_heads 91 83 more [] e in absurd (omega (arith, same))
  no_bracket field_types.Bool more is_element e = let same = same_heads 91 90 more [] e in absurd (omega (arith, same))

  by : (d : ℕ) → 1 ≤ d → d ≤ 255 → 91 ∷ 91 ∷ component ≡ replicate d 91 ++ field_type_text is.element → IsArrayType (91 ∷ component)
  by zero some few spelled = absurd (omega (arith, some))
  by (suc zero) some few spelled =
      absurd (no_bracket is.element component is.is_element (same_tails 91 91 (91 ∷ component) (field_type_text is.element) spelled))
  by (suc (suc d)) some few spelled = record {
    dimensions = suc d;
    element = is.element;
    some = omega arith;
    few = omega (arith, few);
    is_element = is.is_element;
    spelled = same_tails 91 91 (91 ∷ component) (91 ∷ (replicate d 91 ++ field_type_text is.element)) spelled;
  }

-- the class of an array of a class
inner_class : (component : Name) (is : IsArrayType (91 ∷ 76 ∷ component ++ 59 ∷ [])) → IsClassName component
inner_class component is = by is.dimensions is.some is.element is.is_element is.spelled where
  last_cut : (one other : List ℕ) → one ++ 59 ∷ [] ≡ other ++ 59 ∷ [] → one ≡ other
  last_cut [] [] e = refl
  last_cut [] (b ∷ other) e = absurd (short other e) where
    short : (other : List ℕ) → 59 ∷ [] ≡ b ∷ (other ++ 59 ∷ []) → ⊥
    short other e = let long = ap length e in let apart = length-append other (59 ∷ []) in absurd (omega (arith, long, apart))
  last_cut (a ∷ one) [] e = absurd (short one e) where
    short : (one : List ℕ) → a ∷ (one ++ 59 ∷ []) ≡ 59 ∷ [] → ⊥
    short one e = let long = ap length e in let apart = length-append one (59 ∷ []) in absurd (omega (arith, long, apart))
  last_cut (a ∷ one) (b ∷ other) e = cc (last_cut one other (cc))

  of_text : (name : Name) → IsClassName name → 76 ∷ (component ++ 59 ∷ []) ≡ named_text name → IsClassName component
  of_text name class_name e =
      let same : 76 ∷ (component ++ 59 ∷ []) ≡ 76 ∷ (name ++ 59 ∷ []) = e ∙ class_text name class_name in
      subst IsClassName (sym (last_cut component name (same_tails 76 76 (component ++ 59 ∷ []) (name ++ 59 ∷ []) same))) class_name

  one : (element : FieldType) → IsElementType element → 76 ∷ (component ++ 59 ∷ []) ≡ field_type_text element → IsClassName component
  one (field_types.Named name) is_element e = of_text name is_element e
  one field_types.Byte is_element e = let same = same_heads 76 66 (component ++ 59 ∷ []) [] e in absurd (omega (arith, same))
  one field_types.Char is_element e = let same = same_heads 76 67 (component ++ 59 ∷ []) [] e in absurd (omega (arith, same))
  one field_types.Double is_element e = let same = same_heads 76 68 (component ++ 59 ∷ []) [] e in absurd (omega (arith, same))
  one field_types.Float is_element e = let same = same_heads 76 70 (component ++ 59 ∷ []) [] e in absurd (omega (arith, same))
  one field_types.Int is_element e = let same = same_heads 76 73 (component ++ 59 ∷ []) [] e in absurd (omega (arith, same))
  one field_types.Long is_element e = let same = same_heads 76 74 (component ++ 59 ∷ []) [] e in absurd (omega (arith, same))
  one field_types.Short is_element e = let same = same_heads 76 83 (component ++ 59 ∷ []) [] e in absurd (omega (arith, same))
  one field_types.Bool is_element e = let same = same_heads 76 90 (component ++ 59 ∷ []) [] e in absurd (omega (arith, same))

  by : (d : ℕ) → 1 ≤ d → (element : FieldType) → IsElementType element
      → 91 ∷ 76 ∷ component ++ 59 ∷ [] ≡ replicate d 91 ++ field_type_text element
      → IsClassName component
  by zero some element is_element spelled = absurd (omega (arith, some))
  by (suc zero) some element is_element spelled =
      one element is_element (same_tails 91 91 (76 ∷ (component ++ 59 ∷ [])) (field_type_text element) spelled)
  by (suc (suc d)) some element is_element spelled =
      let rest = same_tails 91 91 (76 ∷ (component ++ 59 ∷ [])) (91 ∷ (replicate d 91 ++ field_type_text element)) spelled in
      let same = same_heads 76 91 (component ++ 59 ∷ []) (replicate d 91 ++ field_type_text element) rest in
      absurd (omega (arith, same))

-- the component of an array of references
pub component_spelled : {name component : Name} → IsReferenceComponent name component → IsSpelledName name → IsSpelledName component
component_spelled (array component is) spelled = record {
  text = behind_byte 91 component (omega arith) spelled.text;
  is_name = inr (subst IsArrayType (sym is.1) (by is.0 spelled.is_name is.1));
} where
  by : (rest : List ℕ) → IsReferenceName (91 ∷ component) → component ≡ 91 ∷ rest → IsArrayType (91 ∷ rest)
  by rest (inl class_name) same =
      let head = name_head (91 ∷ component) class_name in
      let no : 91 ∷ component ≡ head.first ∷ head.more = head.is in
      absurd (head.no_bracket cc)
  by rest (inr type) same = inner_array rest (subst (λ (c : Name). IsArrayType (91 ∷ c)) same type)
component_spelled (class component) spelled = record {
  text = before_byte 59 component (omega arith) (behind_byte 76 (component ++ 59 ∷ []) (omega arith) (behind_byte 91 (76 ∷ component ++ 59 ∷ []) (omega arith) spelled.text));
  is_name = inl (by spelled.is_name);
} where
  by : IsReferenceName (91 ∷ 76 ∷ component ++ 59 ∷ []) → IsClassName component
  by (inl class_name) =
      let head = name_head (91 ∷ 76 ∷ component ++ 59 ∷ []) class_name in
      let no : 91 ∷ 76 ∷ component ++ 59 ∷ [] ≡ head.first ∷ head.more = head.is in
      absurd (head.no_bracket cc)
  by (inr type) = inner_class component type

-- ---- names that are known

abbrev is_name_byte : ℕ → Bool
is_name_byte byte = not (byte == 46) && not (byte == 47) && (not (byte == 59) && not (byte == 91))

differs : (byte other : ℕ) → not (byte == other) ≡ true → byte ≢ other
differs byte other test equal = true≢false (sym (eq-eqb byte other equal) ∙ not-true (byte == other) test)

name_byte : (byte : ℕ) → is_name_byte byte ≡ true → IsNameByte byte
name_byte byte test =
    let halves = and_parts (not (byte == 46) && not (byte == 47)) (not (byte == 59) && not (byte == 91)) test in
    let low = and_parts (not (byte == 46)) (not (byte == 47)) halves.0 in
    let high = and_parts (not (byte == 59)) (not (byte == 91)) halves.1 in
    record {
      no_dot = differs byte 46 low.0;
      no_slash = differs byte 47 low.1;
      no_semicolon = differs byte 59 high.0;
      no_bracket = differs byte 91 high.1;
    }

name_bytes : (bytes : List ℕ) → list_all is_name_byte bytes ≡ true → AllByRecursion IsNameByte bytes
name_bytes [] passes = tt
name_bytes (byte ∷ bytes) passes =
    let parts = and_parts (is_name_byte byte) (list_all is_name_byte bytes) passes in
    (name_byte byte parts.0, name_bytes bytes parts.1)

abbrev is_unqualified : List ℕ → Bool
is_unqualified [] = false
is_unqualified (byte ∷ bytes) = list_all is_name_byte (byte ∷ bytes)

unqualified : (name : List ℕ) → is_unqualified name ≡ true → IsUnqualifiedName name
unqualified [] test = absurd (false≢true test)
unqualified (byte ∷ bytes) test = record { some = λ e. absurd cc; bytes = name_bytes (byte ∷ bytes) test }

parts_unqualified : (parts : List (List ℕ)) → list_all is_unqualified parts ≡ true → AllByRecursion IsUnqualifiedName parts
parts_unqualified [] test = tt
parts_unqualified (part ∷ parts) test =
    let both = and_parts (is_unqualified part) (list_all is_unqualified parts) test in
    (unqualified part both.0, parts_unqualified parts both.1)

-- a name of plain bytes, by its parts
known_name : (part : List ℕ) (parts : List (List ℕ)) → is_plain_text (join_with_byte 47 (part ∷ parts)) ≡ true
    → list_all is_unqualified (part ∷ parts) ≡ true
    → IsSpelledName (join_with_byte 47 (part ∷ parts))
known_name part parts plain test = record {
  text = plain_text (join_with_byte 47 (part ∷ parts)) plain;
  is_name = inl (record { parts = part ∷ parts; some = λ e. absurd cc; unqualified = parts_unqualified (part ∷ parts) test; joined = refl });
}

string_spelled : IsSpelledName (codes "java/lang/String")
string_spelled = known_name (codes "java") (codes "lang" ∷ codes "String" ∷ []) refl refl

class_class_spelled : IsSpelledName (codes "java/lang/Class")
class_class_spelled = known_name (codes "java") (codes "lang" ∷ codes "Class" ∷ []) refl refl

handle_spelled : IsSpelledName method_handle
handle_spelled = known_name (codes "java") (codes "lang" ∷ codes "invoke" ∷ codes "MethodHandle" ∷ []) refl refl

type_spelled : IsSpelledName method_type
type_spelled = known_name (codes "java") (codes "lang" ∷ codes "invoke" ∷ codes "MethodType" ∷ []) refl refl

-- ---- what rows keep

class_front : (name : Name) → take (length (name ++ semicolon ∷ []) - 1) (name ++ semicolon ∷ []) ≡ name
class_front name =
    take_at name (semicolon ∷ []) (length (name ++ semicolon ∷ []) - 1) (let e = length_push name semicolon in omega (arith, e))

component_is : (name component : Name) → IsReferenceComponent name component → component_of name ≡ component
component_is _ _ (array component is) = subst (λ (c : Name). component_of (left_bracket ∷ c) ≡ c) (sym is.1) refl
component_is _ _ (class component) = class_front component

abbrev HasSpelled : Option Name → Type 0
HasSpelled None = Unit {0}
HasSpelled (Some name) = IsSpelledName name

primitive_has : (code : ℕ) → HasSpelled (primitive_array code)
primitive_has code =
    either_has HasSpelled (code == T_BOOLEAN) _ _ (primitive_spelled 90 field_types.Bool (omega arith) (omega arith) tt refl)
    (either_has HasSpelled (code == T_CHAR) _ _ (primitive_spelled 67 field_types.Char (omega arith) (omega arith) tt refl)
    (either_has HasSpelled (code == T_FLOAT) _ _ (primitive_spelled 70 field_types.Float (omega arith) (omega arith) tt refl)
    (either_has HasSpelled (code == T_DOUBLE) _ _ (primitive_spelled 68 field_types.Double (omega arith) (omega arith) tt refl)
    (either_has HasSpelled (code == T_BYTE) _ _ (primitive_spelled 66 field_types.Byte (omega arith) (omega arith) tt refl)
    (either_has HasSpelled (code == T_SHORT) _ _ (primitive_spelled 83 field_types.Short (omega arith) (omega arith) tt refl)
    (either_has HasSpelled (code == T_INT) _ _ (primitive_spelled 73 field_types.Int (omega arith) (omega arith) tt refl)
    (either_has HasSpelled (code == T_LONG) _ _ (primitive_spelled 74 field_types.Long (omega arith) (omega arith) tt refl) tt)))))))

pub spelled_kept : IsKeptName IsSpelledName
spelled_kept = record {
  component = λ name component of spelled. subst IsSpelledName (sym (component_is name component of)) (component_spelled of spelled);
  primitive = λ code name is. subst HasSpelled is (primitive_has code);
}

-- what is loaded
pub constants_spelled : (f : Frame) (constant : Option Constant) → TypesHave IsSpelledName (const_row f constant).gives
constants_spelled f None = tt
constants_spelled f (Some (consts.Integer n)) = (tt, tt)
constants_spelled f (Some (consts.Float bits)) = (tt, tt)
constants_spelled f (Some (consts.Long n)) = (tt, tt)
constants_spelled f (Some (consts.Double bits)) = (tt, tt)
constants_spelled f (Some (consts.String text)) = (string_spelled, tt)
constants_spelled f (Some (consts.Class name)) = (class_class_spelled, tt)
constants_spelled f (Some (consts.MethodHandle kind reference)) = (handle_spelled, tt)
constants_spelled f (Some (consts.MethodType desc)) = (type_spelled, tt)
constants_spelled f (Some other) = tt
