-- The parameters that are cut from a descriptor's text are those that it spells.
use Rattle.std.proofs.lemmas.Bool.{ne_eqb}
use Rattle.std.proofs.Common.{◌≡◌, ◌≢◌, ◌==◌, inl, inr, Bool, true, false, not, cond, ℕ, zero, suc, ◌+◌, ◌<◌, ◌≤◌, List, [], ◌∷◌, ◌++◌, length, take, drop, take_while, replicate, refl, sym, ap, ◌∙◌, arith, append_assoc, length-append}
use Rattle.std.proofs.lemmas.Bool.Decides.{nat_tests}
use Rattle.std.proofs.lemmas.List.{take_at, drop_at, length-replicate}
use Rattle.std.proofs.lemmas.List.Sums.{take_while-cons}
use Rattle.std.specs.List.{flat_map, AllByRecursion}
use Rattle.class_model.specs.Laws.Descriptors.{class_text, array_head, bytes_spell}
use Rattle.class_model.specs.Names.{IsClassName}
use Rattle.class_model.specs.Descriptors.{named_text, field_type_text, IsElementType, IsArrayType, SpellsDescriptor, result_text, descriptor_text, brackets, element_len, type_len, type_of, types_before, parameters_of}
use Rattle.class_model.specs.PoolChecks.{IsTypeName, BytesSpell}
use Rattle.class_model.specs.declared.descriptor.FieldType.{FieldType}
use Rattle.class_model.specs.declared.descriptor.FieldType.TheVariants.{Byte, Char, Short, Bool as Boolean, Int, Long, Float, Double, Named}
use Rattle.class_model.specs.declared.descriptor.Descriptor.{Descriptor}
use Rattle.class_model.proofs.DescriptorGrammar.{LacksSemicolon, name_lacks, LacksBracket, element_lacks, FieldForm, name_form, begins_type, begins}

-- ---- how long a type is

keeps : (p : ℕ → Bool) (byte : ℕ) (bytes : List ℕ) → p byte ≡ true → take_while p (byte ∷ bytes) ≡ byte ∷ take_while p bytes
keeps p byte bytes e = take_while-cons p byte bytes ∙ ap (λ (b : Bool). cond b (byte ∷ take_while p bytes) []) e

stops : (p : ℕ → Bool) (byte : ℕ) (bytes : List ℕ) → p byte ≡ false → take_while p (byte ∷ bytes) ≡ []
stops p byte bytes e = take_while-cons p byte bytes ∙ ap (λ (b : Bool). cond b (byte ∷ take_while p bytes) []) e

no_semicolon : (byte : ℕ) → byte ≢ 59 → not (byte == 59) ≡ true
no_semicolon byte other = grind (arith, nat_tests)

up_to_semicolon : (name more : List ℕ) → LacksSemicolon name → take_while (λ b. not (b == 59)) ((name ++ 59 ∷ []) ++ more) ≡ name
up_to_semicolon [] more lacks = refl
up_to_semicolon (byte ∷ name) more lacks = keeps (λ b. not (b == 59)) byte ((name ++ 59 ∷ []) ++ more) (no_semicolon byte lacks.0) ∙ ap (λ (t : List ℕ). byte ∷ t) (up_to_semicolon name more lacks.1)

class_len : (name more : List ℕ) → IsClassName name → element_len (named_text name ++ more) ≡ length (named_text name)
class_len name more is_name = rw (class_text name is_name) (omega (arith, ap length (up_to_semicolon name more (name_lacks name is_name)), length-append name (59 ∷ [])))

element_cut : (type : FieldType) (more : List ℕ) → IsElementType type → element_len (field_type_text type ++ more) ≡ length (field_type_text type)
element_cut Byte more h = refl
element_cut Char more h = refl
element_cut Short more h = refl
element_cut Boolean more h = refl
element_cut Int more h = refl
element_cut Long more h = refl
element_cut Float more h = refl
element_cut Double more h = refl
element_cut (Named name) more h = class_len name more h

no_brackets : (rest : List ℕ) → LacksBracket rest → brackets rest ≡ 0
no_brackets [] lacks = refl
no_brackets (byte ∷ rest) lacks = ap length (stops (λ b. b == 91) byte rest (ne_eqb byte 91 (λ e. lacks rest cc)))

brackets_are : (count : ℕ) (rest : List ℕ) → LacksBracket rest → brackets (replicate count 91 ++ rest) ≡ count
brackets_are zero rest lacks = no_brackets rest lacks
brackets_are (suc count) rest lacks = ap length (keeps (λ b. b == 91) 91 (replicate count 91 ++ rest) refl) ∙ ap suc (brackets_are count rest lacks)

len_behind : (count len : ℕ) (rest : List ℕ) → LacksBracket rest → element_len rest ≡ len → type_len (replicate count 91 ++ rest) ≡ count + len
len_behind count len rest lacks e =
    let bytes = replicate count 91 ++ rest in
    let found : brackets bytes ≡ count = brackets_are count rest lacks in
    let behind : drop (brackets bytes) bytes ≡ rest = drop_at (replicate count 91) rest _ (length-replicate count 91 ∙ sym found) in
    omega (arith, found, ap element_len behind, e)

array_len : (text more : List ℕ) → IsArrayType text → type_len (text ++ more) ≡ length text
array_len text more array =
    let element = field_type_text array.element in
    let parts : text ++ more ≡ replicate array.dimensions 91 ++ (element ++ more) = ap (λ (t : List ℕ). t ++ more) array.spelled ∙ append_assoc (replicate array.dimensions 91) element more in
    let len = len_behind array.dimensions (length element) (element ++ more) (element_lacks array.element more array.is_element) (element_cut array.element more array.is_element) in
    omega (arith, ap type_len parts, len, ap length array.spelled, length-append (replicate array.dimensions 91) element, length-replicate {A = ℕ} array.dimensions 91)

type_cut : (type : FieldType) (more : List ℕ) → FieldForm type → type_len (field_type_text type ++ more) ≡ length (field_type_text type)
type_cut type more (inl element) = omega (arith, len_behind 0 (length (field_type_text type)) (field_type_text type ++ more) (element_lacks type more element) (element_cut type more element))
type_cut type more (inr a) = rw a.3 (array_len a.0 more a.1)

-- ---- what type it is

class_back : (name : List ℕ) → IsClassName name → type_of (named_text name) ≡ Named name
class_back name is_name = rw (class_text name is_name) (ap Named (take_at name (59 ∷ []) _ (omega (arith, length-append name (59 ∷ [])))))

array_back : (text : List ℕ) → IsArrayType text → type_of text ≡ Named text
array_back text array = let head = array_head text array in rw head.1 refl

element_back : (type : FieldType) → IsElementType type → type_of (field_type_text type) ≡ type
element_back Byte h = refl
element_back Char h = refl
element_back Short h = refl
element_back Boolean h = refl
element_back Int h = refl
element_back Long h = refl
element_back Float h = refl
element_back Double h = refl
element_back (Named name) h = class_back name h

type_back : (type : FieldType) → FieldForm type → type_of (field_type_text type) ≡ type
type_back type (inl element) = element_back type element
type_back type (inr a) = ap type_of a.3 ∙ array_back a.0 a.1 ∙ sym a.2

-- ---- types one after the other

front_cut : (left first : ℕ) (tail front more : List ℕ) → (first == 41) ≡ false → first ∷ tail ≡ front ++ more → type_len (first ∷ tail) ≡ length front → types_before (suc left) (first ∷ tail) ≡ type_of front ∷ types_before left more
unfolding types_before
front_cut left first tail front more other parts len =
    let bytes = first ∷ tail in
    let taken : take (type_len bytes) bytes ≡ front = ap (take (type_len bytes)) parts ∙ take_at front more _ (sym len) in
    let behind : drop (type_len bytes) bytes ≡ more = ap (drop (type_len bytes)) parts ∙ drop_at front more _ (sym len) in
    rw other (cc (taken, behind))

no_parenthesis : (first : ℕ) → begins_type first ≡ true → (first == 41) ≡ false
no_parenthesis first begins = ne_eqb first 41 (λ e. let never : false ≡ true = rw e at begins in absurd cc)

first_cut : (left : ℕ) (type : FieldType) (more : List ℕ) → FieldForm type → types_before (suc left) (field_type_text type ++ more) ≡ type ∷ types_before left more
first_cut left type more form =
    let head = begins type form in
    let bytes : field_type_text type ++ more ≡ head.first ∷ (head.more ++ more) = ap (λ (t : List ℕ). t ++ more) head.text in
    let other : (head.first == 41) ≡ false = no_parenthesis head.first head.begins in
    let cut = front_cut left head.first (head.more ++ more) (field_type_text type) more other (sym bytes) (ap type_len (sym bytes) ∙ type_cut type more form) in
    ap (types_before (suc left)) bytes ∙ cut ∙ ap (λ (t : FieldType). t ∷ types_before left more) (type_back type form)

types_cut : (left : ℕ) (types : List FieldType) (rest : List ℕ) → AllByRecursion IsTypeName types → length types < left → types_before left (flat_map field_type_text types ++ 41 ∷ rest) ≡ types
unfolding types_before
types_cut zero types rest each lt = absurd (omega (arith, lt))
types_cut (suc left) [] rest each lt = refl
types_cut (suc left) (type ∷ types) rest each lt =
    let more = flat_map field_type_text types ++ 41 ∷ rest in
    let parts : flat_map field_type_text (type ∷ types) ++ 41 ∷ rest ≡ field_type_text type ++ more = append_assoc (field_type_text type) (flat_map field_type_text types) (41 ∷ rest) in
    ap (types_before (suc left)) parts ∙ first_cut left type more (name_form type each.0) ∙ ap (λ (ts : List FieldType). type ∷ ts) (types_cut left types rest each.1 (omega (arith, lt)))

enough : (types : List FieldType) → AllByRecursion IsTypeName types → length types ≤ length (flat_map field_type_text types)
enough [] each = omega arith
enough (type ∷ types) each =
    let head = begins type (name_form type each.0) in
    omega (arith, enough types each.1, ap length head.text, length-append (field_type_text type) (flat_map field_type_text types))

pub parameters_of_bytes : (text : List ℕ) (d : Descriptor) → BytesSpell text d → parameters_of text ≡ d.params
parameters_of_bytes text d s =
    let few = enough d.params s.params in
    let types = flat_map field_type_text d.params in
    ap parameters_of s.spelled ∙ types_cut (length (descriptor_text d)) d.params (result_text d.result) s.params (omega (arith, few, length-append types (41 ∷ result_text d.result)))

pub parameters_are : (text : List ℕ) (d : Descriptor) → SpellsDescriptor text d → parameters_of text ≡ d.params
parameters_are text d s = parameters_of_bytes text d (bytes_spell text d s)
