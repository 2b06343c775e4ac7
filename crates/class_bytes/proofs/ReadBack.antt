-- A class file value whose lists and numbers fit their items is read from its bytes, with its Code as bytes.
use Rattle.std.proofs.Common.{◌≡◌, ℕ, List, [], ◌∷◌, ◌++◌, length, map, Some, Ok, refl, ap, ◌∙◌, append_assoc, arith}
use Rattle.std.specs.List.{flat_map, AllByRecursion}
use Rattle.std.proofs.lemmas.List.{append-nil}
use Rattle.class_model.specs.Checks.{◌>>=◌}
use Rattle.class_model.specs.Code.{handler_at, inner_at, part_at, code_part}
use Rattle.class_model.specs.Cutting.{Rest, Cut, Version, bytes_at, u2_at, u4_at, counted_at, attr_at, field_at, method_at, version_at, class_file_at, uncut, body_at}
use Rattle.class_model.specs.Laws.CutBack.{rest_of, CutsAs, next, then_cut, made_cut, whole_cut, bytes_cut, u2_cut, u4_cut, counted_cut, counted_alike}
use Rattle.class_model.specs.Spelling.{u2, u4, u2s, raw_bytes, inner_bytes, handler_bytes, code_part_bytes, attr_bytes, attrs_bytes, field_bytes, method_bytes, pool_bytes, magic, class_bytes}
use Rattle.class_model.specs.declared.class_file.Attr.{Attr}
use Rattle.class_model.specs.declared.class_file.Attr.TheVariants.{Raw, Code}
use Rattle.class_model.specs.declared.class_file.ClassFile.{ClassFile}
use Rattle.class_model.specs.declared.class_file.CodePart.{CodePart}
use Rattle.class_model.specs.declared.class_file.Field.{Field}
use Rattle.class_model.specs.declared.class_file.Handler.{Handler}
use Rattle.class_model.specs.declared.class_file.InnerAttr.{InnerAttr}
use Rattle.class_model.specs.declared.class_file.Method.{Method}
use Rattle.pool_bytes.specs.Items.{IsU2}
use Rattle.pool_bytes.specs.ReadBack.{IsReadBackIn}
use Rattle.class_bytes.specs.Counts.{FitsContent, FitsInner, FitsPart, FitsAttr, FitsAttrs, FitsField, FitsMethod, FitsCounts}
use Rattle.class_bytes.specs.Numbers.{InnerNumber, HandlerNumbers, PartNumbers, AttrNumbers, FieldNumbers, MethodNumbers, BodyNumbers}

-- each item is both
both_each : {X : Type 0} (P Q : X → Type 0) (xs : List X) → AllByRecursion P xs → AllByRecursion Q xs → AllByRecursion (λ x. P x × Q x) xs
both_each P Q [] p q = tt
both_each P Q (x ∷ xs) p q = ((p.0, q.0), both_each P Q xs p.1 q.1)

-- ---- attributes

-- an attribute as its bytes
abbrev pub raw_attr : Attr → Attr
raw_attr (Raw name bytes) = Raw name bytes
raw_attr (Code name part) = Raw name (code_part_bytes part)

content_cut : (name : ℕ) (bytes : List ℕ) → IsU2 name → FitsContent bytes → CutsAs attr_at (raw_bytes name bytes) (Raw name bytes)
content_cut name bytes number fits =
    then_cut (λ n. u4_at n.1 >>= λ len. bytes_at len.0 len.1 >>= λ content. Ok (Raw n.0 content.0, content.1)) (u2_cut name number)
    (then_cut (λ len. bytes_at len.0 len.1 >>= λ content. Ok (Raw name content.0, content.1)) (u4_cut (length bytes) fits)
    (made_cut (λ content. Raw name content) (bytes_cut bytes)))

attr_cut : (attr : Attr) → FitsAttr attr × AttrNumbers attr → CutsAs attr_at (attr_bytes attr) (raw_attr attr)
attr_cut (Raw name bytes) h = content_cut name bytes h.1 h.0
attr_cut (Code name part) h = content_cut name (code_part_bytes part) h.1.0 h.0.content

attrs_cut : (attrs : List Attr) → FitsAttrs attrs → AllByRecursion AttrNumbers attrs → CutsAs (counted_at attr_at) (attrs_bytes attrs) (map raw_attr attrs)
attrs_cut attrs fits numbers = counted_cut attr_at attr_bytes raw_attr (λ attr. FitsAttr attr × AttrNumbers attr) attr_cut attrs fits.count (both_each FitsAttr AttrNumbers attrs fits.each numbers)

-- ---- members

-- a member of either kind
abbrev member_at : {X : Type 0} → (ℕ → ℕ → ℕ → List Attr → X) → Rest → Cut X
member_at make rest = u2_at rest >>= λ flags. u2_at flags.1 >>= λ name. u2_at name.1 >>= λ desc. counted_at attr_at desc.1 >>= λ attrs. Ok (make flags.0 name.0 desc.0 attrs.0, attrs.1)

member_cut : {X : Type 0} (make : ℕ → ℕ → ℕ → List Attr → X) (flags name desc : ℕ) (attrs : List Attr) → IsU2 flags → IsU2 name → IsU2 desc → FitsAttrs attrs → AllByRecursion AttrNumbers attrs
    → CutsAs (member_at make) (u2 flags ++ (u2 name ++ (u2 desc ++ attrs_bytes attrs))) (make flags name desc (map raw_attr attrs))
member_cut make flags name desc attrs f n d fits numbers =
    then_cut (λ flags. u2_at flags.1 >>= λ name. u2_at name.1 >>= λ desc. counted_at attr_at desc.1 >>= λ attrs. Ok (make flags.0 name.0 desc.0 attrs.0, attrs.1)) (u2_cut flags f)
    (then_cut (λ name. u2_at name.1 >>= λ desc. counted_at attr_at desc.1 >>= λ attrs. Ok (make flags name.0 desc.0 attrs.0, attrs.1)) (u2_cut name n)
    (then_cut (λ desc. counted_at attr_at desc.1 >>= λ attrs. Ok (make flags name desc.0 attrs.0, attrs.1)) (u2_cut desc d)
    (made_cut (λ attrs. make flags name desc attrs) (attrs_cut attrs fits numbers))))

abbrev pub raw_field : Field → Field
raw_field field = record field { attrs = map raw_attr field.attrs }

abbrev pub raw_method : Method → Method
raw_method method = record method { attrs = map raw_attr method.attrs }

field_cut : (field : Field) → FitsField field × FieldNumbers field → CutsAs field_at (field_bytes field) (raw_field field)
field_cut field h = member_cut (λ flags name desc attrs. record { flags = flags; name = name; desc = desc; attrs = attrs }) field.flags field.name field.desc field.attrs h.1.flags h.1.name h.1.desc h.0 h.1.attrs

method_cut : (method : Method) → FitsMethod method × MethodNumbers method → CutsAs method_at (method_bytes method) (raw_method method)
method_cut method h = member_cut (λ flags name desc attrs. record { flags = flags; name = name; desc = desc; attrs = attrs }) method.flags method.name method.desc method.attrs h.1.flags h.1.name h.1.desc h.0 h.1.attrs

-- ---- the parts of a Code attribute

handler_cut : (handler : Handler) → HandlerNumbers handler → CutsAs handler_at (handler_bytes handler) handler
handler_cut handler h =
    then_cut (λ start. u2_at start.1 >>= λ end. u2_at end.1 >>= λ at. u2_at at.1 >>= λ type. Ok (record { start = start.0; end = end.0; at = at.0; catch_type = type.0 }, type.1)) (u2_cut handler.start h.start)
    (then_cut (λ end. u2_at end.1 >>= λ at. u2_at at.1 >>= λ type. Ok (record { start = handler.start; end = end.0; at = at.0; catch_type = type.0 }, type.1)) (u2_cut handler.end h.end)
    (then_cut (λ at. u2_at at.1 >>= λ type. Ok (record { start = handler.start; end = handler.end; at = at.0; catch_type = type.0 }, type.1)) (u2_cut handler.at h.at)
    (made_cut (λ type. record { start = handler.start; end = handler.end; at = handler.at; catch_type = type }) (u2_cut handler.catch_type h.catch_type))))

inner_cut : (attr : InnerAttr) → FitsInner attr × InnerNumber attr → CutsAs inner_at (inner_bytes attr) attr
inner_cut attr h =
    then_cut (λ n. u4_at n.1 >>= λ len. bytes_at len.0 len.1 >>= λ content. Ok (record { name = n.0; bytes = content.0 }, content.1)) (u2_cut attr.name h.1)
    (then_cut (λ len. bytes_at len.0 len.1 >>= λ content. Ok (record { name = attr.name; bytes = content.0 }, content.1)) (u4_cut (length attr.bytes) h.0)
    (made_cut (λ content. record { name = attr.name; bytes = content }) (bytes_cut attr.bytes)))

module _ (part : CodePart) (fits : FitsPart part) (numbers : PartNumbers part) where
  abbrev handlers : List ℕ
  handlers = u2 (length part.handlers) ++ flat_map handler_bytes part.handlers

  abbrev inners : List ℕ
  inners = u2 (length part.attrs) ++ flat_map inner_bytes part.attrs

  handlers_cut : CutsAs (counted_at handler_at) handlers part.handlers
  handlers_cut = counted_alike handler_at handler_bytes HandlerNumbers handler_cut part.handlers fits.handlers numbers.handlers

  inners_cut : CutsAs (counted_at inner_at) inners part.attrs
  inners_cut = counted_alike inner_at inner_bytes (λ attr. FitsInner attr × InnerNumber attr) inner_cut part.attrs fits.attrs.count (both_each FitsInner InnerNumber part.attrs fits.attrs.each numbers.attrs)

  abbrev made : ℕ → ℕ → List ℕ → List Handler → List InnerAttr → CodePart
  made stack locals code handlers attrs = record { max_stack = stack; max_locals = locals; code = code; handlers = handlers; attrs = attrs }

  part_cut : CutsAs part_at (u2 part.max_stack ++ (u2 part.max_locals ++ (u4 (length part.code) ++ (part.code ++ (handlers ++ inners))))) part
  part_cut =
      then_cut (λ stack. u2_at stack.1 >>= λ locals. u4_at locals.1 >>= λ len. bytes_at len.0 len.1 >>= λ code. counted_at handler_at code.1 >>= λ handlers. counted_at inner_at handlers.1 >>= λ attrs. Ok (made stack.0 locals.0 code.0 handlers.0 attrs.0, attrs.1)) (u2_cut part.max_stack numbers.max_stack)
      (then_cut (λ locals. u4_at locals.1 >>= λ len. bytes_at len.0 len.1 >>= λ code. counted_at handler_at code.1 >>= λ handlers. counted_at inner_at handlers.1 >>= λ attrs. Ok (made part.max_stack locals.0 code.0 handlers.0 attrs.0, attrs.1)) (u2_cut part.max_locals numbers.max_locals)
      (then_cut (λ len. bytes_at len.0 len.1 >>= λ code. counted_at handler_at code.1 >>= λ handlers. counted_at inner_at handlers.1 >>= λ attrs. Ok (made part.max_stack part.max_locals code.0 handlers.0 attrs.0, attrs.1)) (u4_cut (length part.code) fits.code)
      (then_cut (λ code. counted_at handler_at code.1 >>= λ handlers. counted_at inner_at handlers.1 >>= λ attrs. Ok (made part.max_stack part.max_locals code.0 handlers.0 attrs.0, attrs.1)) (bytes_cut part.code)
      (then_cut (λ handlers. counted_at inner_at handlers.1 >>= λ attrs. Ok (made part.max_stack part.max_locals part.code handlers.0 attrs.0, attrs.1)) handlers_cut
      (made_cut (made part.max_stack part.max_locals part.code part.handlers) inners_cut)))))

  grouped : code_part_bytes part ≡ u2 part.max_stack ++ (u2 part.max_locals ++ (u4 (length part.code) ++ (part.code ++ (handlers ++ inners))))
  grouped = ap (λ (rest : List ℕ). u2 part.max_stack ++ (u2 part.max_locals ++ (u4 (length part.code) ++ rest))) (append_assoc part.code handlers inners)

  -- the parts are found again in their bytes
  pub part_back : code_part (code_part_bytes part) ≡ Some part
  part_back = ap code_part grouped ∙ whole_cut part_cut

-- ---- the class file

abbrev interfaces_bytes : ClassFile → List ℕ
interfaces_bytes c = u2 (length c.interfaces) ++ u2s c.interfaces

abbrev fields_bytes : ClassFile → List ℕ
fields_bytes c = u2 (length c.fields) ++ flat_map field_bytes c.fields

abbrev methods_bytes : ClassFile → List ℕ
methods_bytes c = u2 (length c.methods) ++ flat_map method_bytes c.methods

abbrev from_interfaces : ClassFile → List ℕ
from_interfaces c = interfaces_bytes c ++ (fields_bytes c ++ (methods_bytes c ++ (attrs_bytes c.attrs ++ [])))

-- what stands behind the pool
abbrev behind_bytes : ClassFile → List ℕ
behind_bytes c = u2 c.flags ++ (u2 c.this_class ++ (u2 c.super_class ++ from_interfaces c))

regrouped : (p f t s i x m a : List ℕ) → ((((((p ++ f) ++ t) ++ s) ++ i) ++ x) ++ m) ++ a ≡ p ++ (f ++ (t ++ (s ++ (i ++ (x ++ (m ++ (a ++ [])))))))
regrouped p f t s i x m a = simp (append_assoc, append-nil)

grouped_class : (c : ClassFile) → class_bytes c ≡ u4 magic ++ (u2 c.minor ++ (u2 c.major ++ (pool_bytes c.pool ++ behind_bytes c)))
grouped_class c =
    ap (λ (rest : List ℕ). u4 magic ++ (u2 c.minor ++ (u2 c.major ++ rest)))
    (regrouped (pool_bytes c.pool) (u2 c.flags) (u2 c.this_class) (u2 c.super_class) (interfaces_bytes c) (fields_bytes c) (methods_bytes c) (attrs_bytes c.attrs))

-- the class file with all attributes as their bytes
abbrev pub all_raw : ClassFile → ClassFile
all_raw c = record c { fields = map raw_field c.fields; methods = map raw_method c.methods; attrs = map raw_attr c.attrs }

abbrev pub version_of : ClassFile → Version
version_of c = record { minor = c.minor; major = c.major }

module _ (c : ClassFile) (fits : FitsCounts c) (numbers : BodyNumbers c) where
  interfaces_cut : CutsAs (counted_at u2_at) (interfaces_bytes c) c.interfaces
  interfaces_cut = counted_alike u2_at u2 IsU2 u2_cut c.interfaces fits.interfaces numbers.interfaces

  fields_cut : CutsAs (counted_at field_at) (fields_bytes c) (map raw_field c.fields)
  fields_cut = counted_cut field_at field_bytes raw_field (λ field. FitsField field × FieldNumbers field) field_cut c.fields fits.fields.count (both_each FitsField FieldNumbers c.fields fits.fields.each numbers.fields)

  methods_cut : CutsAs (counted_at method_at) (methods_bytes c) (map raw_method c.methods)
  methods_cut = counted_cut method_at method_bytes raw_method (λ method. FitsMethod method × MethodNumbers method) method_cut c.methods fits.methods.count (both_each FitsMethod MethodNumbers c.methods fits.methods.each numbers.methods)

  body_back : (at : ℕ) → body_at (version_of c) c.pool (rest_of at (behind_bytes c)) ≡ Ok (all_raw c)
  body_back at =
      next _ ((u2_cut c.flags numbers.flags).cut at (u2 c.this_class ++ (u2 c.super_class ++ from_interfaces c)))
      (next _ ((u2_cut c.this_class numbers.this_class).cut _ (u2 c.super_class ++ from_interfaces c))
      (next _ ((u2_cut c.super_class numbers.super_class).cut _ (from_interfaces c))
      (next _ (interfaces_cut.cut _ (fields_bytes c ++ (methods_bytes c ++ (attrs_bytes c.attrs ++ []))))
      (next _ (fields_cut.cut _ (methods_bytes c ++ (attrs_bytes c.attrs ++ [])))
      (next _ (methods_cut.cut _ (attrs_bytes c.attrs ++ []))
      (next _ ((attrs_cut c.attrs fits.attrs numbers.attrs).cut _ []) refl))))))

  pub class_back : IsReadBackIn c.major c.pool → class_file_at (version_of c) (rest_of 8 (pool_bytes c.pool ++ behind_bytes c)) ≡ Ok (all_raw c)
  class_back pool = next (λ pool. body_at (version_of c) pool.0 pool.1) (pool 8 (behind_bytes c)) (body_back _)

  pub head_back : IsU2 c.minor → IsU2 c.major → version_at (uncut (class_bytes c)) ≡ Ok (version_of c, rest_of 8 (pool_bytes c.pool ++ behind_bytes c))
  head_back minor major =
      ap (λ (bytes : List ℕ). version_at (uncut bytes)) (grouped_class c)
      ∙ next _ ((u4_cut magic (omega arith)).cut 0 (u2 c.minor ++ (u2 c.major ++ (pool_bytes c.pool ++ behind_bytes c))))
      (next _ ((u2_cut c.minor minor).cut 4 (u2 c.major ++ (pool_bytes c.pool ++ behind_bytes c)))
      (next _ ((u2_cut c.major major).cut 6 (pool_bytes c.pool ++ behind_bytes c)) refl))
