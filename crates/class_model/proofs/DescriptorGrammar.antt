-- The field type at the front of bytes is one only, and so are the bytes after it.
use Rattle.std.proofs.Common.{◌≡◌, ◌≢◌, ◌==◌, ◌↔◌, IsTrue, eq-eqb, Bool, true, false, ◌||◌, is_some, ℕ, zero, suc, ◌+◌, ◌-◌, ◌<◌, ◌≤◌, List, [], ◌∷◌, ◌++◌, length, get_or, take, drop, replicate, ◌⊎◌, inl, inr, Option, Some, None, IfSome, IfNone, Bor, refl, sym, ap, subst, ◌∙◌, arith, append_assoc, length-append}
use Rattle.std.proofs.lemmas.List.{append-nil, nil_from_length, get_or_at, take_at, length-replicate}
use Rattle.std.proofs.lemmas.Bool.{eqb-true}
use Rattle.std.proofs.lemmas.Bool.Decides.{nat_tests}
use Rattle.std.specs.List.{AllByRecursion, join_with_byte}
use Rattle.class_model.specs.ModifiedUtf8.{IsText}
use Rattle.class_model.specs.Laws.Descriptors.{class_text, array_head, array_text, named}
use Rattle.class_model.specs.Names.{IsNameByte, IsUnqualifiedName, IsClassName}
use Rattle.class_model.specs.Descriptors.{named_text, field_type_text, IsElementType, IsArrayType, IsReferenceName, IsFieldType, SpellsFieldType}
use Rattle.class_model.specs.PoolChecks.{IsTypeName}
use Rattle.class_model.specs.Inner.DescriptorParts.{base_type_of, ClassNameAt, ElementAt, BracketsAt, ArrayAt, FieldTypeAt}
use Rattle.class_model.specs.declared.descriptor.FieldType.{FieldType}
use Rattle.class_model.specs.declared.descriptor.FieldType.TheVariants.{Byte, Char, Short, Bool as Boolean, Int, Long, Float, Double, Named}
use Rattle.class_model.proofs.TextParts.{name_is_text}

-- A class name has no semicolon.
abbrev pub LacksSemicolon : List ℕ → Type 0
LacksSemicolon bytes = AllByRecursion (λ byte. byte ≢ 59) bytes

lacks-append : (xs ys : List ℕ) → LacksSemicolon xs → LacksSemicolon ys → LacksSemicolon (xs ++ ys)
lacks-append [] ys hx hy = hy
lacks-append (x ∷ xs) ys hx hy = (hx.0, lacks-append xs ys hx.1 hy)

part_lacks : (part : List ℕ) → AllByRecursion IsNameByte part → LacksSemicolon part
part_lacks [] h = tt
part_lacks (byte ∷ part) h = (h.0.no_semicolon, part_lacks part h.1)

parts_lack : (parts : List (List ℕ)) → AllByRecursion IsUnqualifiedName parts → LacksSemicolon (join_with_byte 47 parts)
parts_lack [] h = tt
parts_lack (part ∷ []) h = part_lacks part h.0.bytes
parts_lack (part ∷ next ∷ parts) h = lacks-append part _ (part_lacks part h.0.bytes) (λ e. absurd (omega arith), parts_lack (next ∷ parts) h.1)

pub name_lacks : (name : List ℕ) → IsClassName name → LacksSemicolon name
name_lacks name is_name = subst (λ (t : List ℕ). LacksSemicolon t) (sym is_name.joined) (parts_lack is_name.parts is_name.unqualified)

-- one first semicolon
pub one_split : (name other rest last : List ℕ) → LacksSemicolon name → LacksSemicolon other → name ++ 59 ∷ rest ≡ other ++ 59 ∷ last → (name ≡ other) × (rest ≡ last)
one_split [] [] rest last hn ho e = (refl, cc)
one_split [] (b ∷ other) rest last hn ho e = absurd (ho.0 (cc))
one_split (a ∷ name) [] rest last hn ho e = absurd (hn.0 (cc))
one_split (a ∷ name) (b ∷ other) rest last hn ho e =
    let same : a ≡ b = cc in
    let tails = one_split name other rest last hn.1 ho.1 (cc) in
    (cc (tails.0), tails.1)

-- what stands before and after the first semicolon
pub split_first : (bytes : List ℕ) (end : ℕ) → end < length bytes → get_or bytes end 0 ≡ 59 → ((k : ℕ) → k < end → get_or bytes k 0 ≢ 59) → LacksSemicolon (take end bytes) × (bytes ≡ take end bytes ++ 59 ∷ drop (suc end) bytes)
split_first [] end within found before = absurd (omega arith)
split_first (b ∷ bytes) zero within found before = (tt, cc)
split_first (b ∷ bytes) (suc end) within found before =
    let tails = split_first bytes end (omega arith) found (λ k h. before (suc k) (omega arith)) in
    ((before zero (omega arith), tails.0), ap (λ (t : List ℕ). b ∷ t) tails.1)

pub name_before : (bytes : List ℕ) (end : ℕ) → end < length bytes → get_or bytes end 0 ≡ 59 → ((k : ℕ) → k < end → get_or bytes k 0 ≢ 59) → (name rest : List ℕ) → ClassNameAt bytes name rest → IsClassName (take end bytes)
name_before bytes end within found before name rest at =
    let parts = split_first bytes end within found before in
    let same = one_split name (take end bytes) rest (drop (suc end) bytes) (name_lacks name at.is_name) parts.0 (sym at.spelled ∙ parts.1) in
    subst IsClassName same.0 at.is_name

pub no_semicolon : (bytes : List ℕ) → ((k : ℕ) → k < length bytes → get_or bytes k 0 ≢ 59) → (name rest : List ℕ) → ¬ ClassNameAt bytes name rest
no_semicolon bytes none name rest at =
    none (length name) (omega (arith, ap length at.spelled, length-append name (59 ∷ rest))) (rw at.spelled (get_or_at name 59 rest 0 (length name) refl))

-- A field type that is no array is a base type or a class.
pub record IsBase (byte : ℕ) (type : FieldType) : Type 0 where
  pub text : field_type_text type ≡ byte ∷ []
  pub of_byte : base_type_of byte ≡ Some type

pub record IsClass (name : List ℕ) (type : FieldType) : Type 0 where
  pub is_name : IsClassName name
  pub same : type ≡ Named name
  pub text : field_type_text type ≡ 76 ∷ (name ++ 59 ∷ [])

abbrev pub ElementForm : FieldType → Type 0
ElementForm type = ((byte : ℕ) × IsBase byte type) ⊎ ((name : List ℕ) × IsClass name type)

base : (byte : ℕ) (type : FieldType) → field_type_text type ≡ byte ∷ [] → base_type_of byte ≡ Some type → ElementForm type
base byte type text of_byte = inl (byte, record { text = text; of_byte = of_byte })

pub element_form : (type : FieldType) → IsElementType type → ElementForm type
element_form Byte h = base 66 Byte refl refl
element_form Char h = base 67 Char refl refl
element_form Double h = base 68 Double refl refl
element_form Float h = base 70 Float refl refl
element_form Int h = base 73 Int refl refl
element_form Long h = base 74 Long refl refl
element_form Short h = base 83 Short refl refl
element_form Boolean h = base 90 Boolean refl refl
element_form (Named name) h = inr (name, record { is_name = h; same = refl; text = class_text name h })

-- one field type that is no array
pub one_element : (one other : FieldType) (rest last : List ℕ) → IsElementType one → IsElementType other → field_type_text one ++ rest ≡ field_type_text other ++ last → (one ≡ other) × (rest ≡ last)
one_element one other rest last ho hl e =
    elim (element_form one ho) [
      | inl a ↦ elim (element_form other hl) [
        | inl b ↦ let h : a.0 ∷ rest ≡ b.0 ∷ last = rw (a.1.text, b.1.text) at e in
            let byte : a.0 ≡ b.0 = cc in
            (cc (a.1.of_byte, b.1.of_byte), cc)
        | inr b ↦ let h : a.0 ∷ rest ≡ 76 ∷ (b.0 ++ 59 ∷ []) ++ last = rw (a.1.text, b.1.text) at e in
            let byte : a.0 ≡ 76 = cc in
            absurd (cc (rw byte at a.1.of_byte))
      ]
      | inr a ↦ elim (element_form other hl) [
        | inl b ↦ let h : 76 ∷ (a.0 ++ 59 ∷ []) ++ rest ≡ b.0 ∷ last = rw (a.1.text, b.1.text) at e in
            let byte : b.0 ≡ 76 = cc in
            absurd (cc (rw byte at b.1.of_byte))
        | inr b ↦ let h : 76 ∷ (a.0 ++ 59 ∷ []) ++ rest ≡ 76 ∷ (b.0 ++ 59 ∷ []) ++ last = rw (a.1.text, b.1.text) at e in
            let split : a.0 ++ 59 ∷ rest ≡ b.0 ++ 59 ∷ last = cc (append_assoc a.0 (59 ∷ []) rest, append_assoc b.0 (59 ∷ []) last) in
            let found = one_split a.0 b.0 rest last (name_lacks a.0 a.1.is_name) (name_lacks b.0 b.1.is_name) split in
            (a.1.same ∙ ap Named found.0 ∙ sym b.1.same, found.1)
      ]
    ]

-- one bracket more
pub more_brackets : (count : ℕ) (rest after : List ℕ) → rest ≡ 91 ∷ after → replicate count 91 ++ rest ≡ replicate (suc count) 91 ++ after
more_brackets zero rest after e = e
more_brackets (suc count) rest after e = ap (λ (t : List ℕ). 91 ∷ t) (more_brackets count rest after e)

-- one number of brackets before another byte or the end
abbrev pub LacksBracket : List ℕ → Type 0
LacksBracket bytes = (after : List ℕ) → bytes ≢ 91 ∷ after

pub one_count : (n m : ℕ) (a b : List ℕ) → LacksBracket a → LacksBracket b → replicate n 91 ++ a ≡ replicate m 91 ++ b → (n ≡ m) × (a ≡ b)
one_count zero zero a b ha hb e = (refl, e)
one_count zero (suc m) a b ha hb e = absurd (ha (replicate m 91 ++ b) e)
one_count (suc n) zero a b ha hb e = absurd (hb (replicate n 91 ++ a) (sym e))
one_count (suc n) (suc m) a b ha hb e = let tails = one_count n m a b ha hb (cc) in (ap suc tails.0, tails.1)

pub element_lacks : (element : FieldType) (rest : List ℕ) → IsElementType element → LacksBracket (field_type_text element ++ rest)
element_lacks element rest is_element after e =
    elim (element_form element is_element) [
      | inl a ↦ let h : a.0 ∷ rest ≡ 91 ∷ after = rw a.1.text at e in
          let byte : a.0 ≡ 91 = cc in
          absurd (cc (rw byte at a.1.of_byte))
      | inr a ↦ let h : 76 ∷ (a.0 ++ 59 ∷ []) ++ rest ≡ 91 ∷ after = rw a.1.text at e in
          let byte : ◌≡◌ {A = ℕ} 76 91 = cc in
          absurd (omega (arith, byte))
    ]

-- one array type
array_parts : (text bytes rest : List ℕ) (array : IsArrayType text) → bytes ≡ text ++ rest → bytes ≡ replicate array.dimensions 91 ++ (field_type_text array.element ++ rest)
array_parts text bytes rest array e = e ∙ ap (λ (t : List ℕ). t ++ rest) array.spelled ∙ append_assoc (replicate array.dimensions 91) (field_type_text array.element) rest

pub one_array : (bytes one other rest last : List ℕ) → ArrayAt bytes one rest → ArrayAt bytes other last → (one ≡ other) × (rest ≡ last)
one_array bytes one other rest last a b =
    let x = a.is_array in
    let y = b.is_array in
    let parts = one_count x.dimensions y.dimensions _ _ (element_lacks x.element rest x.is_element) (element_lacks y.element last y.is_element) (sym (array_parts one bytes rest x a.spelled) ∙ array_parts other bytes last y b.spelled) in
    let element = one_element x.element y.element rest last x.is_element y.is_element parts.1 in
    (cc (x.spelled, y.spelled, parts.0, element.0), element.1)

-- one field type
abbrev pub FieldForm : FieldType → Type 0
FieldForm type = IsElementType type ⊎ ((text : List ℕ) × IsArrayType text × (type ≡ Named text) × (field_type_text type ≡ text))

pub named_form : (name : List ℕ) → IsReferenceName name → FieldForm (Named name)
named_form name (inl class) = inl class
named_form name (inr array) = inr (name, array, refl, array_text name array)

pub name_form : (type : FieldType) → IsTypeName type → FieldForm type
name_form Byte h = inl tt
name_form Char h = inl tt
name_form Double h = inl tt
name_form Float h = inl tt
name_form Int h = inl tt
name_form Long h = inl tt
name_form Short h = inl tt
name_form Boolean h = inl tt
name_form (Named name) h = named_form name h

pub field_form : (type : FieldType) → IsFieldType type → FieldForm type
field_form type h = name_form type (named type h)

not_both : (element : FieldType) (text rest last : List ℕ) → IsElementType element → IsArrayType text → field_type_text element ++ rest ≡ text ++ last → ⊥
not_both element text rest last is_element array e = let head = array_head text array in element_lacks element rest is_element (head.0 ++ last) (e ∙ ap (λ (t : List ℕ). t ++ last) head.1)

pub one_form : (one other : FieldType) (rest last : List ℕ) → FieldForm one → FieldForm other → field_type_text one ++ rest ≡ field_type_text other ++ last → (one ≡ other) × (rest ≡ last)
one_form one other rest last (inl a) (inl b) e = one_element one other rest last a b e
one_form one other rest last (inl a) (inr b) e = absurd (not_both one b.0 rest last a b.1 (rw b.3 at e))
one_form one other rest last (inr a) (inl b) e = absurd (not_both other a.0 last rest b a.1 (sym (rw a.3 at e)))
one_form one other rest last (inr a) (inr b) e =
    let found = one_array (a.0 ++ rest) a.0 b.0 rest last (record { is_array = a.1; spelled = refl }) (record { is_array = b.1; spelled = rw (a.3, b.3) at e }) in
    (a.2 ∙ ap Named found.0 ∙ sym b.2, found.1)

pub one_at : (bytes : List ℕ) (one other : FieldType) (rest last : List ℕ) → FieldTypeAt bytes one rest → FieldTypeAt bytes other last → (one ≡ other) × (rest ≡ last)
one_at bytes one other rest last a b = one_form one other rest last (field_form one a.is_type) (field_form other b.is_type) (sym a.spelled ∙ b.spelled)

-- what stands at the front
pub base_text : (byte : ℕ) (type : FieldType) → base_type_of byte ≡ Some type → IsElementType type × (field_type_text type ≡ byte ∷ [])
base_text byte type e = grind (arith, nat_tests)

class_spelled : (after name rest : List ℕ) → ClassNameAt after name rest → 76 ∷ after ≡ named_text name ++ rest
class_spelled after name rest at = rw (class_text name at.is_name) (ap (λ (t : List ℕ). 76 ∷ t) (at.spelled ∙ sym (append_assoc name (59 ∷ []) rest)))

pub element_of_class : (bytes after name rest : List ℕ) → bytes ≡ 76 ∷ after → ClassNameAt after name rest → ElementAt bytes rest
element_of_class bytes after name rest e at = record { element = Named name; is_element = at.is_name; spelled = e ∙ class_spelled after name rest at }

pub element_of_base : (bytes after : List ℕ) (first : ℕ) (found : Option FieldType) → bytes ≡ first ∷ after → found ≡ base_type_of first → is_some found ≡ true → ElementAt bytes after
element_of_base bytes after first None e is some = absurd cc
element_of_base bytes after first (Some type) e is some = let h = base_text first type (sym is) in record { element = type; is_element = h.0; spelled = rw h.1 e }

class_of_element : (bytes after rest : List ℕ) → bytes ≡ 76 ∷ after → ElementAt bytes rest → (name : List ℕ) × ClassNameAt after name rest
class_of_element bytes after rest e at =
    elim (element_form at.element at.is_element) [
      | inl a ↦ let h : 76 ∷ after ≡ a.0 ∷ rest = sym e ∙ rw a.1.text at at.spelled in
          let byte : a.0 ≡ 76 = cc in
          absurd (cc (rw byte at a.1.of_byte))
      | inr a ↦ let h : 76 ∷ after ≡ 76 ∷ ((a.0 ++ 59 ∷ []) ++ rest) = sym e ∙ rw a.1.text at at.spelled in
          (a.0, record { is_name = a.1.is_name; spelled = cc (append_assoc a.0 (59 ∷ []) rest) })
    ]

pub no_element : (bytes after : List ℕ) (first : ℕ) → bytes ≡ first ∷ after → first ≢ 76 → is_some (base_type_of first) ≡ false → (rest : List ℕ) → ¬ ElementAt bytes rest
no_element bytes after first e other none rest at =
    elim (element_form at.element at.is_element) [
      | inl a ↦ let h : first ∷ after ≡ a.0 ∷ rest = sym e ∙ rw a.1.text at at.spelled in
          let byte : a.0 ≡ first = cc in
          absurd (cc (a.1.of_byte, none))
      | inr a ↦ let h : first ∷ after ≡ 76 ∷ ((a.0 ++ 59 ∷ []) ++ rest) = sym e ∙ rw a.1.text at at.spelled in other (cc)
    ]

pub no_class : (bytes after : List ℕ) → bytes ≡ 76 ∷ after → ((name rest : List ℕ) → ¬ ClassNameAt after name rest) → (rest : List ℕ) → ¬ ElementAt bytes rest
no_class bytes after e none rest at = let class = class_of_element bytes after rest e at in none class.0 rest class.1

-- arrays
count_is : (bytes rest : List ℕ) (at : BracketsAt bytes rest) → length bytes ≡ at.count + length rest
count_is bytes rest at = omega (arith, ap length at.spelled, length-append (replicate at.count 91) rest, length-replicate {A = ℕ} at.count 91)

pub array_of_element : (bytes element rest : List ℕ) (at : BracketsAt bytes element) → 1 ≤ at.count → at.count ≤ 255 → ElementAt element rest → (text : List ℕ) × ArrayAt bytes text rest
array_of_element bytes element rest at some few found = (
  replicate at.count 91 ++ field_type_text found.element,
  record {
    is_array = record { dimensions = at.count; element = found.element; some = some; few = few; is_element = found.is_element; spelled = refl };
    spelled = at.spelled ∙ ap (λ (t : List ℕ). replicate at.count 91 ++ t) found.spelled ∙ sym (append_assoc (replicate at.count 91) (field_type_text found.element) rest);
  },
)

pub element_of_array : (bytes element text rest : List ℕ) (at : BracketsAt bytes element) → ArrayAt bytes text rest → (1 ≤ at.count) × (at.count ≤ 255) × ElementAt element rest
element_of_array bytes element text rest at array =
    let a = array.is_array in
    let parts = one_count a.dimensions at.count _ element (element_lacks a.element rest a.is_element) at.no_more (sym (array_parts text bytes rest a array.spelled) ∙ at.spelled) in
    (omega (arith, a.some, parts.0), omega (arith, a.few, parts.0), record { element = a.element; is_element = a.is_element; spelled = sym parts.1 })

pub bad_count : (bytes element : List ℕ) → BracketsAt bytes element → (length bytes - length element ≡ 0) ⊎ (255 < length bytes - length element) → (text rest : List ℕ) → ¬ ArrayAt bytes text rest
bad_count bytes element at bad text rest array =
    let count = count_is bytes element at in
    let h = element_of_array bytes element text rest at array in
    elim bad [ inl none ↦ omega (arith, h.0) | inr many ↦ omega (arith, h.1) ]

-- with a good number of brackets, an array is what its element is
pub some_array : (bytes element : List ℕ) → BracketsAt bytes element → length bytes - length element ≢ 0 → length bytes - length element ≤ 255 → (found : Option (Bor (List ℕ))) → IfSome found (λ rest. ElementAt element rest.now) → IfSome found (λ rest. (text : List ℕ) × ArrayAt bytes text rest.now)
some_array bytes element at some few None h = tt
some_array bytes element at some few (Some rest) h = let count = count_is bytes element at in array_of_element bytes element rest.now at (omega (arith, some)) (omega arith) h

pub no_array : (bytes element : List ℕ) → BracketsAt bytes element → (found : Option (Bor (List ℕ))) → IfNone found ((rest : List ℕ) → ¬ ElementAt element rest) → IfNone found ((text rest : List ℕ) → ¬ ArrayAt bytes text rest)
no_array bytes element at None none = λ text rest array. none rest (element_of_array bytes element text rest at array).2
no_array bytes element at (Some rest) none = tt

pub at_whole : (bytes : List ℕ) → IsArrayType bytes → ArrayAt bytes bytes []
at_whole bytes array = record { is_array = array; spelled = sym (append-nil bytes) }

pub whole_array : (bytes text rest : List ℕ) → rest ≡ [] → ArrayAt bytes text rest → IsArrayType bytes
whole_array bytes text rest none at = subst IsArrayType (sym (at.spelled ∙ ap (λ (t : List ℕ). text ++ t) none ∙ append-nil text)) at.is_array

pub decides_array : (bytes text rest : List ℕ) (empty : Bool) → ArrayAt bytes text rest → empty ≡ (length rest == 0) → IsTrue empty ↔ IsArrayType bytes
decides_array bytes text rest empty at is = (
  λ e. whole_array bytes text rest (nil_from_length rest (eqb-true _ _ (sym is ∙ e))) at,
  λ array. is ∙ eq-eqb (length rest) 0 (ap length (one_array bytes text bytes rest [] at (at_whole bytes array)).1),
)

array_is_front : (bytes text rest : List ℕ) → ArrayAt bytes text rest → take (length bytes - length rest) bytes ≡ text
array_is_front bytes text rest at = rw at.spelled (take_at text rest _ (omega (arith, length-append text rest)))

pub only_front : (bytes text rest : List ℕ) → ArrayAt bytes text rest → ¬ IsText (take (length bytes - length rest) bytes) → (other last : List ℕ) → IsText other → ¬ ArrayAt bytes other last
only_front bytes text rest at none other last is_text found = none (subst IsText ((one_array bytes other text last rest found at).0 ∙ sym (array_is_front bytes text rest at)) is_text)

-- field types
pub type_of_array : (bytes text rest : List ℕ) (type : FieldType) → ArrayAt bytes text rest → type ≡ Named (take (length bytes - length rest) bytes) → IsText (take (length bytes - length rest) bytes) → FieldTypeAt bytes type rest
type_of_array bytes text rest type at same is_text =
    let front = array_is_front bytes text rest at in
    subst (λ (t : FieldType). FieldTypeAt bytes t rest) (sym (same ∙ ap Named front)) (record { is_type = (subst IsText front is_text, inr at.is_array); spelled = rw (array_text text at.is_array) at.spelled })

pub type_of_class : (bytes name rest : List ℕ) (type : FieldType) → ClassNameAt bytes name rest → type ≡ Named name → IsText name → FieldTypeAt (76 ∷ bytes) type rest
type_of_class bytes name rest type at same is_text = subst (λ (t : FieldType). FieldTypeAt (76 ∷ bytes) t rest) (sym same) (record { is_type = (is_text, inl at.is_name); spelled = class_spelled bytes name rest at })

pub only_name : (bytes name rest : List ℕ) → ClassNameAt bytes name rest → ¬ IsText name → (other last : List ℕ) → IsText other → ¬ ClassNameAt bytes other last
only_name bytes name rest at none other last is_text found = none (subst IsText (one_split other name last rest (name_lacks other found.is_name) (name_lacks name at.is_name) (sym found.spelled ∙ at.spelled)).0 is_text)

named_text_is : (type : FieldType) (text : List ℕ) → type ≡ Named text → IsFieldType type → IsText text
named_text_is type text same is_type = (subst IsFieldType same is_type).0

pub array_of_type : (bytes after rest : List ℕ) (type : FieldType) → bytes ≡ 91 ∷ after → FieldTypeAt bytes type rest → (text : List ℕ) × IsText text × ArrayAt bytes text rest
array_of_type bytes after rest type e at =
    elim (field_form type at.is_type) [
      | inl a ↦ absurd (element_lacks type rest a after (sym at.spelled ∙ e))
      | inr a ↦ (a.0, named_text_is type a.0 a.2 at.is_type, record { is_array = a.1; spelled = rw a.3 at at.spelled })
    ]

pub class_of_type : (bytes after rest : List ℕ) (type : FieldType) → bytes ≡ 76 ∷ after → FieldTypeAt bytes type rest → (name : List ℕ) × IsText name × ClassNameAt after name rest
class_of_type bytes after rest type e at =
    elim (field_form type at.is_type) [
      | inl a ↦ elim (element_form type a) [
        | inl b ↦ let h : 76 ∷ after ≡ b.0 ∷ rest = sym e ∙ rw b.1.text at at.spelled in
            let byte : b.0 ≡ 76 = cc in
            absurd (cc (rw byte at b.1.of_byte))
        | inr b ↦ let h : 76 ∷ after ≡ 76 ∷ ((b.0 ++ 59 ∷ []) ++ rest) = sym e ∙ rw b.1.text at at.spelled in
            (b.0, named_text_is type b.0 b.1.same at.is_type, record { is_name = b.1.is_name; spelled = cc (append_assoc b.0 (59 ∷ []) rest) })
      ]
      | inr a ↦ let head = array_head a.0 a.1 in
          let h : 76 ∷ after ≡ 91 ∷ (head.0 ++ rest) = sym e ∙ at.spelled ∙ ap (λ (t : List ℕ). t ++ rest) (a.3 ∙ head.1) in
          let byte : ◌≡◌ {A = ℕ} 76 91 = cc in
          absurd (omega (arith, byte))
    ]

-- the whole
pub type_at_whole : (bytes : List ℕ) (type : FieldType) → SpellsFieldType bytes type → FieldTypeAt bytes type []
type_at_whole bytes type spells = record { is_type = spells.is_type; spelled = spells.spelled ∙ sym (append-nil (field_type_text type)) }

pub only_whole : (bytes rest : List ℕ) (found : FieldType) (empty : Bool) → FieldTypeAt bytes found rest → empty ≡ (length rest == 0) → empty ≡ false → (type : FieldType) → ¬ SpellsFieldType bytes type
only_whole bytes rest found empty at is some type spells =
    let none = (one_at bytes found type rest [] at (type_at_whole bytes type spells)).1 in
    absurd (cc (some, is, eq-eqb (length rest) 0 (ap length none)))

-- the first byte of a field type
abbrev pub begins_type : ℕ → Bool
begins_type byte = is_some (base_type_of byte) || byte == 76 || byte == 91

pub record Begins (type : FieldType) : Type 0 where
  pub first : ℕ
  pub more : List ℕ
  pub text : field_type_text type ≡ first ∷ more
  pub begins : begins_type first ≡ true

pub begins : (type : FieldType) → FieldForm type → Begins type
begins type (inl element) =
    elim (element_form type element) [
      | inl a ↦ record { first = a.0; more = []; text = a.1.text; begins = rw a.1.of_byte refl }
      | inr a ↦ record { first = 76; more = a.0 ++ 59 ∷ []; text = a.1.text; begins = refl }
    ]
begins type (inr a) = let head = array_head a.0 a.1 in record { first = 91; more = head.0; text = a.3 ∙ head.1; begins = refl }

pub no_type_at : (byte : ℕ) (after bytes rest : List ℕ) (type : FieldType) → begins_type byte ≡ false → bytes ≡ byte ∷ after → ¬ FieldTypeAt bytes type rest
no_type_at byte after bytes rest type not_first e at =
    let head = begins type (field_form type at.is_type) in
    let h : byte ∷ after ≡ head.first ∷ (head.more ++ rest) = sym e ∙ at.spelled ∙ ap (λ (t : List ℕ). t ++ rest) head.text in
    let same : byte ≡ head.first = cc in
    absurd (cc (not_first, head.begins))

pub shorter : (bytes rest : List ℕ) (type : FieldType) → FieldTypeAt bytes type rest → length rest < length bytes
shorter bytes rest type at =
    let head = begins type (field_form type at.is_type) in
    let h : bytes ≡ head.first ∷ (head.more ++ rest) = at.spelled ∙ ap (λ (t : List ℕ). t ++ rest) head.text in
    omega (arith, ap length h, length-append head.more rest)

type_of_element : (bytes : List ℕ) (type : FieldType) → IsText bytes → IsElementType type → bytes ≡ field_type_text type → IsFieldType type
type_of_element bytes Byte text h e = tt
type_of_element bytes Char text h e = tt
type_of_element bytes Double text h e = tt
type_of_element bytes Float text h e = tt
type_of_element bytes Int text h e = tt
type_of_element bytes Long text h e = tt
type_of_element bytes Short text h e = tt
type_of_element bytes Boolean text h e = tt
type_of_element bytes (Named name) text h e = (name_is_text bytes name (e ∙ class_text name h) text, inl h)
