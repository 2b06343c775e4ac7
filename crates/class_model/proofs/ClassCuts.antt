-- A class file that is cut from bytes, with the Code of its methods entered, is spelled by them.
use Rattle.std.proofs.Common.{◌≡◌, ◌==◌, ℕ, Bool, true, false, eqb, List, [], ◌∷◌, ◌++◌, length, map, Option, Some, None, Ok, refl, sym, ap, subst, ◌∙◌}
use Rattle.std.specs.List.{flat_map}
use Rattle.std.proofs.lemmas.Bool.{eqb-true}
use Rattle.std.proofs.lemmas.List.{append-nil, nil_from_length, length-map}
use Rattle.class_model.specs.Checks.{fault}
use Rattle.class_model.specs.ClassOf.{entered, entered_attr, entered_method, ClassOf}
use Rattle.class_model.specs.Code.{handler_at, inner_at, part_at, code_part}
use Rattle.class_model.specs.Cutting.{IsBytes, Rest, Version, attr_at, field_at, method_at, version_at, class_file_at, uncut}
use Rattle.class_model.specs.Laws.Cuts.{whole_some, IsBytes-parts, guard_true, bind_ok}
use Rattle.class_model.specs.Members.{is_named}
use Rattle.class_model.specs.Methods.{code}
use Rattle.class_model.specs.Pool.{Constants}
use Rattle.class_model.specs.Spelling.{u2, u4, u2s, raw_bytes, inner_bytes, handler_bytes, code_part_bytes, attr_bytes, attrs_bytes, field_bytes, method_bytes, pool_bytes, magic, class_bytes}
use Rattle.class_model.specs.declared.class_file.Attr.{Attr}
use Rattle.class_model.specs.declared.class_file.Attr.TheVariants.{Raw, Code}
use Rattle.class_model.specs.declared.class_file.ClassFile.{ClassFile}
use Rattle.class_model.specs.declared.class_file.CodePart.{CodePart}
use Rattle.class_model.specs.declared.class_file.Method.{Method}
use Rattle.class_model.specs.declared.fault.FileRule.TheVariants as rules
use Rattle.class_model.proofs.Cuts.{IsSpelledBy, Always, Takes, takes_none, step, made, bytes_spelled, u2_spelled, u4_spelled, counted_spelled}
use Rattle.class_model.proofs.PoolCuts.{pool_spelled}

-- ---- attributes and members

attr_spelled : IsSpelledBy attr_at attr_bytes Always
attr_spelled = record {
  takes = λ rest x fits e.
      let name = step u2_spelled (takes_none rest fits) _ x e in
      let len = step u4_spelled name.takes _ x name.goes_on in
      let content = step (bytes_spelled len.got.0) len.takes _ x len.goes_on in
      let counted = subst (λ (k : ℕ). Takes rest (u2 name.got.0 ++ u4 k ++ content.got.0) content.got.1) (sym content.holds.0) content.takes in
      made attr_bytes Always rest (Raw name.got.0 content.got.0, content.got.1) x counted tt content.goes_on;
}

field_spelled : IsSpelledBy field_at field_bytes Always
field_spelled = record {
  takes = λ rest x fits e.
      let flags = step u2_spelled (takes_none rest fits) _ x e in
      let name = step u2_spelled flags.takes _ x flags.goes_on in
      let desc = step u2_spelled name.takes _ x name.goes_on in
      let attrs = step (counted_spelled attr_spelled) desc.takes _ x desc.goes_on in
      made field_bytes Always rest (record { flags = flags.got.0; name = name.got.0; desc = desc.got.0; attrs = attrs.got.0 }, attrs.got.1) x attrs.takes tt attrs.goes_on;
}

method_spelled : IsSpelledBy method_at method_bytes Always
method_spelled = record {
  takes = λ rest x fits e.
      let flags = step u2_spelled (takes_none rest fits) _ x e in
      let name = step u2_spelled flags.takes _ x flags.goes_on in
      let desc = step u2_spelled name.takes _ x name.goes_on in
      let attrs = step (counted_spelled attr_spelled) desc.takes _ x desc.goes_on in
      made method_bytes Always rest (record { flags = flags.got.0; name = name.got.0; desc = desc.got.0; attrs = attrs.got.0 }, attrs.got.1) x attrs.takes tt attrs.goes_on;
}

-- ---- the content of a Code attribute

handler_spelled : IsSpelledBy handler_at handler_bytes Always
handler_spelled = record {
  takes = λ rest x fits e.
      let from = step u2_spelled (takes_none rest fits) _ x e in
      let end = step u2_spelled from.takes _ x from.goes_on in
      let at = step u2_spelled end.takes _ x end.goes_on in
      let type = step u2_spelled at.takes _ x at.goes_on in
      made handler_bytes Always rest (record { start = from.got.0; end = end.got.0; at = at.got.0; catch_type = type.got.0 }, type.got.1) x type.takes tt type.goes_on;
}

inner_spelled : IsSpelledBy inner_at inner_bytes Always
inner_spelled = record {
  takes = λ rest x fits e.
      let name = step u2_spelled (takes_none rest fits) _ x e in
      let len = step u4_spelled name.takes _ x name.goes_on in
      let content = step (bytes_spelled len.got.0) len.takes _ x len.goes_on in
      let counted = subst (λ (k : ℕ). Takes rest (u2 name.got.0 ++ u4 k ++ content.got.0) content.got.1) (sym content.holds.0) content.takes in
      made inner_bytes Always rest (record { name = name.got.0; bytes = content.got.0 }, content.got.1) x counted tt content.goes_on;
}

part_spelled : IsSpelledBy part_at code_part_bytes Always
part_spelled = record {
  takes = λ rest x fits e.
      let stack = step u2_spelled (takes_none rest fits) _ x e in
      let locals = step u2_spelled stack.takes _ x stack.goes_on in
      let len = step u4_spelled locals.takes _ x locals.goes_on in
      let bytes = step (bytes_spelled len.got.0) len.takes _ x len.goes_on in
      let counted = subst (λ (k : ℕ). Takes rest (u2 stack.got.0 ++ u2 locals.got.0 ++ u4 k ++ bytes.got.0) bytes.got.1) (sym bytes.holds.0) bytes.takes in
      let handlers = step (counted_spelled handler_spelled) counted _ x bytes.goes_on in
      let attrs = step (counted_spelled inner_spelled) handlers.takes _ x handlers.goes_on in
      made code_part_bytes Always rest (record { max_stack = stack.got.0; max_locals = locals.got.0; code = bytes.got.0; handlers = handlers.got.0; attrs = attrs.got.0 }, attrs.got.1) x attrs.takes tt attrs.goes_on;
}

-- a text that was taken to the end
takes_all : (bytes text : List ℕ) (after : Rest) → Takes (uncut bytes) text after → eqb (length after.bytes) 0 ≡ true → bytes ≡ text
takes_all bytes text after takes none = takes.parts ∙ ap (λ (t : List ℕ). text ++ t) (nil_from_length after.bytes (eqb-true _ _ none)) ∙ append-nil text

code_is_spelled : (bytes : List ℕ) (part : CodePart) → IsBytes bytes → code_part bytes ≡ Some part → code_part_bytes part ≡ bytes
code_is_spelled bytes part fits e =
    let w = whole_some (part_at (uncut bytes)) part e in
    let took = part_spelled.takes (uncut bytes) w.0 fits w.1 in
    ap code_part_bytes (sym w.3) ∙ sym (takes_all bytes (code_part_bytes w.0.0) w.0.1 took.0 w.2)

-- ---- code is entered

-- an attribute keeps its bytes, whether or not it is named Code and its parts fill it
found_kept : (pool : Constants) (name : ℕ) (bytes : List ℕ) (named : Bool) (found : Option CodePart) → IsBytes bytes → is_named pool code (Raw name bytes) ≡ named → code_part bytes ≡ found → attr_bytes (entered_attr pool (Raw name bytes)) ≡ attr_bytes (Raw name bytes)
found_kept pool name bytes true (Some part) fits n e = rw (n, e) (ap (raw_bytes name) (code_is_spelled bytes part fits e))
found_kept pool name bytes true None fits n e = rw (n, e) refl
found_kept pool name bytes false found fits n e = rw n refl

attr_kept : (pool : Constants) (attr : Attr) → IsBytes (attr_bytes attr) → attr_bytes (entered_attr pool attr) ≡ attr_bytes attr
attr_kept pool (Raw name bytes) fits = found_kept pool name bytes (is_named pool code (Raw name bytes)) (code_part bytes) (IsBytes-parts (u2 name ++ u4 (length bytes)) bytes fits).1 refl refl
attr_kept pool (Code name part) fits = named_kept (is_named pool code (Code name part)) refl where
  named_kept : (named : Bool) → is_named pool code (Code name part) ≡ named → attr_bytes (entered_attr pool (Code name part)) ≡ attr_bytes (Code name part)
  named_kept true n = rw n refl
  named_kept false n = rw n refl

attrs_kept : (pool : Constants) (attrs : List Attr) → IsBytes (flat_map attr_bytes attrs) → flat_map attr_bytes (map (entered_attr pool) attrs) ≡ flat_map attr_bytes attrs
attrs_kept pool [] fits = refl
attrs_kept pool (attr ∷ attrs) fits =
    let parts = IsBytes-parts (attr_bytes attr) (flat_map attr_bytes attrs) fits in
    rw (attr_kept pool attr parts.0, attrs_kept pool attrs parts.1) refl

method_kept : (pool : Constants) (method : Method) → IsBytes (method_bytes method) → method_bytes (entered_method pool method) ≡ method_bytes method
method_kept pool method fits =
    let head = u2 method.flags ++ u2 method.name ++ u2 method.desc in
    let attrs = IsBytes-parts (head ++ u2 (length method.attrs)) (flat_map attr_bytes method.attrs) fits in
    rw (length-map method.attrs (entered_attr pool), attrs_kept pool method.attrs attrs.1) refl

methods_kept : (pool : Constants) (methods : List Method) → IsBytes (flat_map method_bytes methods) → flat_map method_bytes (map (entered_method pool) methods) ≡ flat_map method_bytes methods
methods_kept pool [] fits = refl
methods_kept pool (method ∷ methods) fits =
    let parts = IsBytes-parts (method_bytes method) (flat_map method_bytes methods) fits in
    ap (λ (t : List ℕ). t ++ flat_map method_bytes (map (entered_method pool) methods)) (method_kept pool method parts.0)
    ∙ ap (λ (t : List ℕ). method_bytes method ++ t) (methods_kept pool methods parts.1)

-- the bytes of a class file before its methods
abbrev before_methods : ClassFile → List ℕ
before_methods c =
    u4 magic ++ u2 c.minor ++ u2 c.major ++ pool_bytes c.pool
    ++ u2 c.flags ++ u2 c.this_class ++ u2 c.super_class
    ++ (u2 (length c.interfaces) ++ u2s c.interfaces)
    ++ (u2 (length c.fields) ++ flat_map field_bytes c.fields)

-- the class file keeps its bytes
entered_kept : (c : ClassFile) → IsBytes (class_bytes c) → class_bytes (entered c) ≡ class_bytes c
entered_kept c fits =
    let front = IsBytes-parts (before_methods c ++ (u2 (length c.methods) ++ flat_map method_bytes c.methods)) (attrs_bytes c.attrs) fits in
    let counted = IsBytes-parts (before_methods c) (u2 (length c.methods) ++ flat_map method_bytes c.methods) front.0 in
    let methods = IsBytes-parts (u2 (length c.methods)) (flat_map method_bytes c.methods) counted.1 in
    ap (λ (k : ℕ). before_methods c ++ (u2 k ++ flat_map method_bytes (map (entered_method c.pool) c.methods)) ++ attrs_bytes c.attrs) (length-map c.methods (entered_method c.pool))
    ∙ ap (λ (t : List ℕ). before_methods c ++ (u2 (length c.methods) ++ t) ++ attrs_bytes c.attrs) (methods_kept c.pool c.methods methods.1)

-- ---- the class file

abbrev version_bytes : Version → List ℕ
version_bytes version = u4 magic ++ u2 version.minor ++ u2 version.major

version_spelled : IsSpelledBy version_at version_bytes Always
version_spelled = record {
  takes = λ rest x fits e.
      let first = step u4_spelled (takes_none rest fits) _ x e in
      let magical = bind_ok _ _ x first.goes_on in
      let g = guard_true (first.got.0 == magic) (fault 0 rules.Magic) first.got.1 magical.0 magical.1 in
      let behind : Takes rest (u4 magic) magical.0 = subst (λ (r : Rest). Takes rest (u4 magic) r) g.1 (subst (λ (k : ℕ). Takes rest (u4 k) first.got.1) (eqb-true _ _ g.0) first.takes) in
      let minor = step u2_spelled behind _ x magical.2 in
      let major = step u2_spelled minor.takes _ x minor.goes_on in
      made version_bytes Always rest (record { minor = minor.got.0; major = major.got.0 }, major.got.1) x major.takes tt major.goes_on;
}

cut_is_spelled : (bytes : List ℕ) (version : Version) (rest : Rest) (class : ClassFile) → Takes (uncut bytes) (version_bytes version) rest → class_file_at version rest ≡ Ok class → bytes ≡ class_bytes class
cut_is_spelled bytes version rest class so_far e =
    let pool = step (pool_spelled version.major) so_far _ class e in
    let flags = step u2_spelled pool.takes _ class pool.goes_on in
    let this = step u2_spelled flags.takes _ class flags.goes_on in
    let super = step u2_spelled this.takes _ class this.goes_on in
    let interfaces = step (counted_spelled u2_spelled) super.takes _ class super.goes_on in
    let fields = step (counted_spelled field_spelled) interfaces.takes _ class interfaces.goes_on in
    let methods = step (counted_spelled method_spelled) fields.takes _ class fields.goes_on in
    let attrs = step (counted_spelled attr_spelled) methods.takes _ class methods.goes_on in
    let end = guard_true (length attrs.got.1.bytes == 0) (fault attrs.got.1.at rules.Extra) _ class attrs.goes_on in
    takes_all bytes _ attrs.got.1 attrs.takes end.0 ∙ ap class_bytes end.1

pub spelled : (bytes : List ℕ) (class : ClassFile) → IsBytes bytes → ClassOf bytes class → bytes ≡ class_bytes class
spelled bytes class fits c =
    let head = version_spelled.takes (uncut bytes) (c.version, c.rest) fits c.head in
    let cut = cut_is_spelled bytes c.version c.rest c.cut head.0 c.is_cut in
    cut ∙ sym (entered_kept c.cut (subst IsBytes cut fits)) ∙ ap class_bytes (sym c.is)

-- a class file that was cut, and where its version ends
pub cut_spelled : (bytes : List ℕ) (version : Version) (rest : Rest) (class : ClassFile) → IsBytes bytes → version_at (uncut bytes) ≡ Ok (version, rest) → class_file_at version rest ≡ Ok class → (bytes ≡ class_bytes class) × (rest.at ≡ 8)
cut_spelled bytes version rest class fits head cut =
    let took = version_spelled.takes (uncut bytes) (version, rest) fits head in
    (cut_is_spelled bytes version rest class took.0 cut, took.0.place)
