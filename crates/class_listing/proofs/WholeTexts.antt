-- The texts of the parts are the text of all lines.
use Rattle.std.proofs.Common.{◌≡◌, ℕ, suc, List, [], ◌∷◌, ◌++◌, map, Ok, refl, ap, sym, ◌∙◌, append_assoc}
use Rattle.std.specs.List.{flat_map}
use Rattle.std.proofs.lemmas.List.{append-nil}
use Rattle.std.proofs.lemmas.List.Concat.{flat_map-append}
use Rattle.std.proofs.lemmas.List.Folds.{flat_map-map}
use Rattle.class_model.specs.Instructions.{decoded}
use Rattle.class_model.specs.Pool.{Constants}
use Rattle.class_model.specs.declared.class_file.Attr.{Attr}
use Rattle.class_model.specs.declared.class_file.Attr.TheVariants.{Raw, Code}
use Rattle.class_model.specs.declared.class_file.ClassFile.{ClassFile}
use Rattle.class_model.specs.declared.class_file.CodePart.{CodePart}
use Rattle.class_model.specs.declared.class_file.Field.{Field}
use Rattle.class_model.specs.declared.class_file.Method.{Method}
use Rattle.class_model.specs.declared.instr.Placed.{Placed}
use Rattle.class_listing.specs.Inner.ListingTexts.{attr_text, attrs_text, class_text, entries_text, entry_text, field_text, handler_text, interface_text, method_text, part_text, placed_text, tail_text}
use Rattle.class_listing.specs.Lines.{Line, attr_line, class_line, code_line, end_line, endcode_line, field_line, interface_line, line_text, lines_text, method_line, tail_line}
use Rattle.class_listing.specs.Listings.{attr_lines, attrs_lines, const_lines, entry_lines, field_lines, handler_line, inner_attr_line, listing, method_lines, part_lines, placed_line, placed_lines, tail_lines}

-- ---- lines

together : (one other : List Line) → lines_text (one ++ other) ≡ lines_text one ++ lines_text other
together one other = flat_map-append line_text one other

alone : (line : Line) → lines_text (line ∷ []) ≡ line_text line
alone line = append-nil (line_text line)

-- lines that are made of the items of a list
each : {X : Type 0} (lines : X → List Line) (text : X → List ℕ) → ((x : X) → lines_text (lines x) ≡ text x) → (xs : List X) → lines_text (flat_map lines xs) ≡ flat_map text xs
each lines text same [] = refl
each lines text same (x ∷ xs) =
    together (lines x) (flat_map lines xs)
    ∙ (ap (λ (t : List ℕ). t ++ lines_text (flat_map lines xs)) (same x)
    ∙ ap (λ (t : List ℕ). text x ++ t) (each lines text same xs))

-- one line for each
single : {X : Type 0} (line : X → Line) (xs : List X) → lines_text (map line xs) ≡ flat_map (λ (x : X). line_text (line x)) xs
single line xs = flat_map-map line_text line xs

entries_are : (index : ℕ) (pool : Constants) → lines_text (const_lines index pool) ≡ entries_text index pool
entries_are index [] = refl
entries_are index (entry ∷ pool) =
    together (entry_lines index entry) (const_lines (suc index) pool)
    ∙ ap (λ (t : List ℕ). entry_text index entry ++ t) (entries_are (suc index) pool)

-- ---- attributes

part_is : (part : CodePart) → lines_text (part_lines part) ≡ part_text part
part_is part =
    let instrs = placed_lines part.code (decoded part.code) in
    let handlers = map handler_line part.handlers in
    let attrs = map inner_attr_line part.attrs in
    together (instrs ++ handlers) attrs
    ∙ (ap (λ (t : List ℕ). t ++ lines_text attrs) (together instrs handlers ∙ ap (λ (t : List ℕ). lines_text instrs ++ t) (single handler_line part.handlers))
    ∙ ap (λ (t : List ℕ). lines_text instrs ++ flat_map handler_text part.handlers ++ t) (single inner_attr_line part.attrs))

attr_is : (attr : Attr) → lines_text (attr_lines attr) ≡ attr_text attr
attr_is (Raw name bytes) = alone (attr_line name bytes)
attr_is (Code name part) =
    let first = line_text (code_line name part.max_stack part.max_locals) in
    ap (λ (t : List ℕ). first ++ t)
    (together (part_lines part) (endcode_line ∷ [])
    ∙ (ap (λ (t : List ℕ). t ++ lines_text (endcode_line ∷ [])) (part_is part)
    ∙ ap (λ (t : List ℕ). part_text part ++ t) (alone endcode_line)))
    ∙ sym (append_assoc first (part_text part) (line_text endcode_line))

attrs_are : (attrs : List Attr) → lines_text (attrs_lines attrs) ≡ attrs_text attrs
attrs_are attrs = each attr_lines attr_text attr_is attrs

field_is : (field : Field) → lines_text (field_lines field) ≡ field_text field
field_is field = ap (λ (t : List ℕ). line_text (field_line field.flags field.name field.desc) ++ t) (attrs_are field.attrs)

method_is : (method : Method) → lines_text (method_lines method) ≡ method_text method
method_is method = ap (λ (t : List ℕ). line_text (method_line method.flags method.name method.desc) ++ t) (attrs_are method.attrs)

tail_is : (attrs : List Attr) → lines_text (tail_lines attrs) ≡ tail_text attrs
tail_is [] = refl
tail_is (attr ∷ attrs) = ap (λ (t : List ℕ). line_text tail_line ++ t) (attrs_are (attr ∷ attrs))

-- ---- instructions

pub instrs_are : (code : List ℕ) (instrs : List Placed) → decoded code ≡ Ok instrs → lines_text (placed_lines code (decoded code)) ≡ flat_map (placed_text code) instrs
instrs_are code instrs is = rw is (single (placed_line code) instrs)

-- ---- the whole

-- seven texts in another grouping
grouped : (a b c d e f g : List ℕ) → a ++ (b ++ c ++ d ++ e ++ f ++ g) ≡ a ++ b ++ c ++ d ++ e ++ f ++ g
grouped a b c d e f g = simp append_assoc

pub class_is : (class : ClassFile) → class_text class ≡ listing class
class_is class =
    let head = line_text (class_line class.major class.minor class.flags class.this_class class.super_class) in
    let constants = const_lines 0 class.pool in
    let interfaces = map interface_line class.interfaces in
    let fields = flat_map field_lines class.fields in
    let methods = flat_map method_lines class.methods in
    let tail = tail_lines class.attrs in
    let last = end_line ∷ [] in
    sym (
    ap (λ (t : List ℕ). head ++ t)
    (
    together (constants ++ interfaces ++ fields ++ methods ++ tail) last
    ∙ rw (
      together (constants ++ interfaces ++ fields ++ methods) tail,
      together (constants ++ interfaces ++ fields) methods,
      together (constants ++ interfaces) fields,
      together constants interfaces,
      entries_are 0 class.pool,
      single interface_line class.interfaces,
      each field_lines field_text field_is class.fields,
      each method_lines method_text method_is class.methods,
      tail_is class.attrs,
      alone end_line,
    ) refl
    )
    ∙ grouped head (entries_text 0 class.pool) (flat_map interface_text class.interfaces) (flat_map field_text class.fields) (flat_map method_text class.methods) (tail_text class.attrs) (line_text end_line)
    )
