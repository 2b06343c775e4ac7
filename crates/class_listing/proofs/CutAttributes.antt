-- Attributes of fields and of the class are cut as bytes, so that none of them has a code.
use Rattle.std.proofs.Common.{◌≡◌, ◌==◌, ℕ, zero, suc, List, [], ◌∷◌, length, Ok, subst, sym}
use Rattle.std.specs.List.{AllByRecursion}
use Rattle.class_model.specs.Checks.{fault}
use Rattle.class_model.specs.ClassOf.{ClassOf}
use Rattle.class_model.specs.Cutting.{Cut, Rest, Version, attr_at, bytes_at, class_file_at, counted_at, field_at, many_at, method_at, pool_at, u2_at, u4_at}
use Rattle.class_model.specs.Laws.Cuts.{bind_ok, guard_true, same_done}
use Rattle.class_model.specs.Pool.{Constants}
use Rattle.class_model.specs.Values.{IsRaw, FieldIsRaw}
use Rattle.class_model.specs.declared.class_file.Attr.{Attr}
use Rattle.class_model.specs.declared.class_file.Attr.TheVariants.{Raw, Code}
use Rattle.class_model.specs.declared.class_file.ClassFile.{ClassFile}
use Rattle.class_model.specs.declared.class_file.Field.{Field}
use Rattle.class_model.specs.declared.class_file.Method.{Method}
use Rattle.class_model.specs.declared.fault.FileRule.TheVariants as rules
use Rattle.code_bytes.specs.Codes.{HasInstrs, HasReadMethods, IsReadMethod}
use Rattle.class_listing.specs.Listings.{FieldCodes, HasCodes, MethodCodes}

-- What a part cuts has a property.
record Cuts {X : Type 0} (part : Rest → Cut X) (Holds : X → Type 0) : Type 0 where
  each : (rest : Rest) (x : X × Rest) → part rest ≡ Ok x → Holds x.0

many_cut : {X : Type 0} {part : Rest → Cut X} {Holds : X → Type 0} → Cuts part Holds → (count : ℕ)
    → Cuts (many_at part count) (AllByRecursion Holds)
unfolding many_at
many_cut {X = X} {Holds = Holds} cuts zero = record {
  each = λ rest x e. subst (λ (y : List X × Rest). AllByRecursion Holds y.0) (same_done ([], rest) x e) tt;
}
many_cut {X = X} {part = part} {Holds = Holds} cuts (suc count) = record {
  each = λ rest x e.
      let first = bind_ok (part rest) _ x e in
      let others = bind_ok (many_at part count first.0.1) _ x first.2 in
      subst (λ (y : List X × Rest). AllByRecursion Holds y.0) (same_done (first.0.0 ∷ others.0.0, others.0.1) x others.2)
      (cuts.each rest first.0 first.1, (many_cut cuts count).each first.0.1 others.0 others.1);
}

counted_cut : {X : Type 0} {part : Rest → Cut X} {Holds : X → Type 0} → Cuts part Holds → Cuts (counted_at part) (AllByRecursion Holds)
counted_cut cuts = record {
  each = λ rest x e.
      let count = bind_ok (u2_at rest) _ x e in
      (many_cut cuts count.0.0).each count.0.1 x count.2;
}

attr_cut : Cuts attr_at IsRaw
attr_cut = record {
  each = λ rest x e.
      let name = bind_ok (u2_at rest) _ x e in
      let len = bind_ok (u4_at name.0.1) _ x name.2 in
      let content = bind_ok (bytes_at len.0.0 len.0.1) _ x len.2 in
      let attr : Attr = Raw name.0.0 content.0.0 in
      subst (λ (y : Attr × Rest). IsRaw y.0) (same_done (attr, content.0.1) x content.2) tt;
}

field_cut : Cuts field_at FieldIsRaw
field_cut = record {
  each = λ rest x e.
      let flags = bind_ok (u2_at rest) _ x e in
      let name = bind_ok (u2_at flags.0.1) _ x flags.2 in
      let desc = bind_ok (u2_at name.0.1) _ x name.2 in
      let attrs = bind_ok (counted_at attr_at desc.0.1) _ x desc.2 in
      let field : Field = record { flags = flags.0.0; name = name.0.0; desc = desc.0.0; attrs = attrs.0.0 } in
      subst (λ (y : Field × Rest). FieldIsRaw y.0) (same_done (field, attrs.0.1) x attrs.2)
      ((counted_cut attr_cut).each desc.0.1 attrs.0 attrs.1);
}

-- ---- the class file

record RawParts (class : ClassFile) : Type 0 where
  fields : AllByRecursion FieldIsRaw class.fields
  attrs : AllByRecursion IsRaw class.attrs

class_cut : (version : Version) (rest : Rest) (class : ClassFile) → class_file_at version rest ≡ Ok class → RawParts class
class_cut version rest class e =
    let pool = bind_ok (pool_at version.major rest) _ class e in
    let flags = bind_ok (u2_at pool.0.1) _ class pool.2 in
    let this = bind_ok (u2_at flags.0.1) _ class flags.2 in
    let super = bind_ok (u2_at this.0.1) _ class this.2 in
    let interfaces = bind_ok (counted_at u2_at super.0.1) _ class super.2 in
    let fields = bind_ok (counted_at field_at interfaces.0.1) _ class interfaces.2 in
    let methods = bind_ok (counted_at method_at fields.0.1) _ class fields.2 in
    let attrs = bind_ok (counted_at attr_at methods.0.1) _ class methods.2 in
    let same = guard_true (length attrs.0.1.bytes == 0) (fault attrs.0.1.at rules.Extra) (record {
      major = version.major;
      minor = version.minor;
      pool = pool.0.0;
      flags = flags.0.0;
      this_class = this.0.0;
      super_class = super.0.0;
      interfaces = interfaces.0.0;
      fields = fields.0.0;
      methods = methods.0.0;
      attrs = attrs.0.0;
    }) class attrs.2 in
    subst RawParts same.1 (record {
      fields = (counted_cut field_cut).each interfaces.0.1 fields.0 fields.1;
      attrs = (counted_cut attr_cut).each methods.0.1 attrs.0 attrs.1;
    })

raw_codes : (attrs : List Attr) → AllByRecursion IsRaw attrs → AllByRecursion HasInstrs attrs
raw_codes [] raw = tt
raw_codes (Raw name bytes ∷ attrs) raw = (tt, raw_codes attrs raw.1)
raw_codes (Code name part ∷ attrs) raw = absurd raw.0

field_codes : (fields : List Field) → AllByRecursion FieldIsRaw fields → AllByRecursion FieldCodes fields
field_codes [] raw = tt
field_codes (field ∷ fields) raw = (raw_codes field.attrs raw.0, field_codes fields raw.1)

method_codes : (pool : Constants) (methods : List Method) → AllByRecursion (IsReadMethod pool) methods → AllByRecursion MethodCodes methods
method_codes pool [] read = tt
method_codes pool (method ∷ methods) read = (read.0.codes, method_codes pool methods read.1)

pub has_codes : (bytes : List ℕ) (class : ClassFile) → ClassOf bytes class → HasReadMethods class → HasCodes class
has_codes bytes class is read =
    let raw = class_cut is.version is.rest is.cut is.is_cut in
    record {
      fields = subst (λ (c : ClassFile). AllByRecursion FieldCodes c.fields) (sym is.is) (field_codes is.cut.fields raw.fields);
      methods = method_codes class.pool class.methods read;
      attrs = subst (λ (c : ClassFile). AllByRecursion HasInstrs c.attrs) (sym is.is) (raw_codes is.cut.attrs raw.attrs);
    }
