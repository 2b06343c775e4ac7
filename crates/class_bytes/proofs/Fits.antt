-- A class file that is cut out of bytes fits its counts, with the Code of its methods entered.
use Rattle.std.proofs.Common.{◌≡◌, ◌≤◌, ◌==◌, ℕ, Bool, true, false, List, [], ◌∷◌, length, map, Option, Some, None, Ok, refl, subst, arith}
use Rattle.std.proofs.lemmas.List.{length-map}
use Rattle.std.specs.List.{AllByRecursion}
use Rattle.class_model.specs.Checks.{fault}
use Rattle.class_model.specs.ClassOf.{entered, entered_attr, entered_method}
use Rattle.class_model.specs.Code.{handler_at, inner_at, part_at, code_part}
use Rattle.class_model.specs.Cutting.{IsBytes, Rest, Version, attr_at, field_at, method_at, uncut, body_at}
use Rattle.class_model.specs.Laws.Cuts.{guard_true, whole_some}
use Rattle.class_model.specs.Laws.Lists.{AllByRecursion-weaker}
use Rattle.class_model.specs.Members.{is_named}
use Rattle.class_model.specs.Methods.{code}
use Rattle.class_model.specs.Pool.{Constants}
use Rattle.class_model.specs.declared.class_file.Attr.{Attr}
use Rattle.class_model.specs.declared.class_file.Attr.TheVariants.{Raw, Code}
use Rattle.class_model.specs.declared.class_file.ClassFile.{ClassFile}
use Rattle.class_model.specs.declared.class_file.CodePart.{CodePart}
use Rattle.class_model.specs.declared.class_file.Field.{Field}
use Rattle.class_model.specs.declared.class_file.Method.{Method}
use Rattle.class_model.specs.declared.fault.FileRule.TheVariants as rules
use Rattle.class_bytes.specs.Counts.{FitsContent, FitsInner, FitsInners, FitsPart, FitsAttr, FitsAttrs, FitsField, FitsMethod, FitsCounts}
use Rattle.class_bytes.proofs.CutBytes.{AreBytes, Keeps, step, made, bytes_kept, u2_kept, u4_kept, IsCounted, counted_kept}
use Rattle.class_bytes.proofs.PartLengths.{part_len, part_fills}

-- what each item is asked is asked of another in its place
each_as : {X Y : Type 0} (P : X → Type 0) (Q : Y → Type 0) (f : X → Y) → ((x : X) → P x → Q (f x)) → (xs : List X) → AllByRecursion P xs → AllByRecursion Q (map f xs)
each_as P Q f to [] all = tt
each_as P Q f to (x ∷ xs) all = (to x all.0, each_as P Q f to xs all.1)

-- ---- parts that are cut

-- an attribute that is not looked into
abbrev IsCutAttr : Attr → Type 0
IsCutAttr (Raw name bytes) = FitsContent bytes × IsBytes bytes
IsCutAttr (Code name part) = ⊥

attr_kept : Keeps attr_at IsCutAttr
attr_kept = record {
  kept = λ rest x left e.
      let name = step u2_kept left _ x e in
      let len = step u4_kept name.left _ x name.goes_on in
      let content = step (bytes_kept len.got.0) len.left _ x len.goes_on in
      made IsCutAttr (Raw name.got.0 content.got.0, content.got.1) x (omega (arith, len.holds, content.holds.0), content.holds.1) content.left content.goes_on;
}

abbrev IsCutField : Field → Type 0
IsCutField field = IsCounted IsCutAttr field.attrs

field_kept : Keeps field_at IsCutField
field_kept = record {
  kept = λ rest x left e.
      let flags = step u2_kept left _ x e in
      let name = step u2_kept flags.left _ x flags.goes_on in
      let desc = step u2_kept name.left _ x name.goes_on in
      let attrs = step (counted_kept attr_kept) desc.left _ x desc.goes_on in
      made IsCutField (record { flags = flags.got.0; name = name.got.0; desc = desc.got.0; attrs = attrs.got.0 }, attrs.got.1) x attrs.holds attrs.left attrs.goes_on;
}

abbrev IsCutMethod : Method → Type 0
IsCutMethod method = IsCounted IsCutAttr method.attrs

method_kept : Keeps method_at IsCutMethod
method_kept = record {
  kept = λ rest x left e.
      let flags = step u2_kept left _ x e in
      let name = step u2_kept flags.left _ x flags.goes_on in
      let desc = step u2_kept name.left _ x name.goes_on in
      let attrs = step (counted_kept attr_kept) desc.left _ x desc.goes_on in
      made IsCutMethod (record { flags = flags.got.0; name = name.got.0; desc = desc.got.0; attrs = attrs.got.0 }, attrs.got.1) x attrs.holds attrs.left attrs.goes_on;
}

-- ---- the content of a Code attribute

handler_kept : Keeps handler_at (λ handler. Unit {0})
handler_kept = record {
  kept = λ rest x left e.
      let from = step u2_kept left _ x e in
      let end = step u2_kept from.left _ x from.goes_on in
      let at = step u2_kept end.left _ x end.goes_on in
      let type = step u2_kept at.left _ x at.goes_on in
      made (λ handler. Unit {0}) (record { start = from.got.0; end = end.got.0; at = at.got.0; catch_type = type.got.0 }, type.got.1) x tt type.left type.goes_on;
}

inner_kept : Keeps inner_at FitsInner
inner_kept = record {
  kept = λ rest x left e.
      let name = step u2_kept left _ x e in
      let len = step u4_kept name.left _ x name.goes_on in
      let content = step (bytes_kept len.got.0) len.left _ x len.goes_on in
      made FitsInner (record { name = name.got.0; bytes = content.got.0 }, content.got.1) x (omega (arith, len.holds, content.holds.0)) content.left content.goes_on;
}

-- the lists in it
record FitsLists (part : CodePart) : Type 0 where
  pub handlers : length part.handlers ≤ 65535
  pub attrs : FitsInners part.attrs

part_kept : Keeps part_at FitsLists
part_kept = record {
  kept = λ rest x left e.
      let stack = step u2_kept left _ x e in
      let locals = step u2_kept stack.left _ x stack.goes_on in
      let len = step u4_kept locals.left _ x locals.goes_on in
      let code = step (bytes_kept len.got.0) len.left _ x len.goes_on in
      let handlers = step (counted_kept handler_kept) code.left _ x code.goes_on in
      let attrs = step (counted_kept inner_kept) handlers.left _ x handlers.goes_on in
      let inners : FitsInners attrs.got.0 = record { count = attrs.holds.count; each = attrs.holds.each } in
      made FitsLists (record { max_stack = stack.got.0; max_locals = locals.got.0; code = code.got.0; handlers = handlers.got.0; attrs = attrs.got.0 }, attrs.got.1) x
      (record { handlers = handlers.holds.count; attrs = inners }) attrs.left attrs.goes_on;
}

code_fits : (bytes : List ℕ) (part : CodePart) → FitsContent bytes → IsBytes bytes → code_part bytes ≡ Some part → FitsPart part
code_fits bytes part fits is e =
    let cut = whole_some (part_at (uncut bytes)) part e in
    let lists = subst FitsLists cut.3 (part_kept.kept (uncut bytes) cut.0 (record { bytes = is }) cut.1).0 in
    let filled = part_fills bytes part e in
    record {
      content = omega (arith, fits, filled, part_len part);
      code = omega (arith, fits, filled);
      handlers = lists.handlers;
      attrs = lists.attrs;
    }

-- ---- attributes

attr_fits : (attr : Attr) → IsCutAttr attr → FitsAttr attr
attr_fits (Raw name bytes) cut = cut.0
attr_fits (Code name part) cut = absurd cut

attrs_fit : (attrs : List Attr) → IsCounted IsCutAttr attrs → FitsAttrs attrs
attrs_fit attrs cut = record { count = cut.count; each = AllByRecursion-weaker IsCutAttr FitsAttr attr_fits attrs cut.each }

found_fits : (pool : Constants) (name : ℕ) (bytes : List ℕ) (named : Bool) (found : Option CodePart) → IsCutAttr (Raw name bytes) → is_named pool code (Raw name bytes) ≡ named → code_part bytes ≡ found → FitsAttr (entered_attr pool (Raw name bytes))
found_fits pool name bytes true (Some part) cut n e = rw (n, e) (code_fits bytes part cut.0 cut.1 e)
found_fits pool name bytes true None cut n e = rw (n, e) cut.0
found_fits pool name bytes false found cut n e = rw n cut.0

entered_fits : (pool : Constants) (attr : Attr) → IsCutAttr attr → FitsAttr (entered_attr pool attr)
entered_fits pool (Raw name bytes) cut = found_fits pool name bytes (is_named pool code (Raw name bytes)) (code_part bytes) cut refl refl
entered_fits pool (Code name part) cut = absurd cut

-- ---- members

field_fits : (field : Field) → IsCutField field → FitsField field
field_fits field cut = attrs_fit field.attrs cut

method_fits : (pool : Constants) (method : Method) → IsCutMethod method → FitsMethod (entered_method pool method)
method_fits pool method cut = record {
  count = rw (length-map method.attrs (entered_attr pool)) cut.count;
  each = each_as IsCutAttr FitsAttr (entered_attr pool) (entered_fits pool) method.attrs cut.each;
}

-- ---- the class file

pub class_fits : (version : Version) (pool : Constants) (rest : Rest) (class : ClassFile) → IsBytes rest.bytes → body_at version pool rest ≡ Ok class → FitsCounts (entered class)
class_fits version pool rest class is e =
    let left : AreBytes rest = record { bytes = is } in
    let flags = step u2_kept left _ class e in
    let this = step u2_kept flags.left _ class flags.goes_on in
    let super = step u2_kept this.left _ class this.goes_on in
    let interfaces = step (counted_kept u2_kept) super.left _ class super.goes_on in
    let fields = step (counted_kept field_kept) interfaces.left _ class interfaces.goes_on in
    let methods = step (counted_kept method_kept) fields.left _ class fields.goes_on in
    let attrs = step (counted_kept attr_kept) methods.left _ class methods.goes_on in
    let end = guard_true (length attrs.got.1.bytes == 0) (fault attrs.got.1.at rules.Extra) _ class attrs.goes_on in
    subst (λ (made : ClassFile). FitsCounts (entered made)) end.1 (record {
      interfaces = interfaces.holds.count;
      fields = record { count = fields.holds.count; each = AllByRecursion-weaker IsCutField FitsField field_fits fields.got.0 fields.holds.each };
      methods = record {
        count = rw (length-map methods.got.0 (entered_method pool)) methods.holds.count;
        each = each_as IsCutMethod FitsMethod (entered_method pool) (method_fits pool) methods.got.0 methods.holds.each;
      };
      attrs = attrs_fit attrs.got.0 attrs.holds;
    })
