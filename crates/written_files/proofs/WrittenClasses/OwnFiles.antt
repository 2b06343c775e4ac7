-- A class file that is cut from its own bytes fits its items: its counts and numbers are small, whether or not all of its contents are bytes.
use Rattle.std.proofs.Common.{◌≡◌, ◌+◌, ◌^◌, ◌<◌, ◌≤◌, ◌==◌, ℕ, Bool, true, false, zero, suc, List, [], ◌∷◌, ◌++◌, length, map, Option, Some, None, Ok, refl, sym, ap, subst, ◌∙◌, arith, append_assoc}
use Rattle.std.specs.List.{AllByRecursion, flat_map}
use Rattle.std.proofs.lemmas.List.{append-nil, length-map}
use Rattle.class_model.specs.Checks.{fault, ◌>>=◌}
use Rattle.class_model.specs.ClassOf.{ClassOf, class_file_checks, entered, entered_attr, entered_method}
use Rattle.class_model.specs.Code.{code_part}
use Rattle.class_model.specs.Cutting.{Rest, Cut, Version, attr_at, body_at, bytes_at, class_file_at, counted_at, field_at, method_at, pool_at, u2_at, u4_at, uncut, version_at}
use Rattle.class_model.specs.Laws.AlikeAttrs.{Alike, MethodAlike}
use Rattle.class_model.specs.Laws.Cuts.{bind_ok, same_done, guard_true}
use Rattle.class_model.specs.Laws.Lists.{AllByRecursion-weaker}
use Rattle.class_model.specs.Members.{is_named}
use Rattle.class_model.specs.Methods.{code}
use Rattle.class_model.specs.Pool.{Constants}
use Rattle.class_model.specs.Spelling.{u2, u4, u2s, raw_bytes, attr_bytes, attrs_bytes, class_bytes, code_part_bytes, field_bytes, magic, method_bytes, pool_bytes}
use Rattle.class_model.specs.declared.class_file.Attr.{Attr}
use Rattle.class_model.specs.declared.class_file.Attr.TheVariants.{Raw, Code}
use Rattle.class_model.specs.declared.class_file.ClassFile.{ClassFile}
use Rattle.class_model.specs.declared.class_file.CodePart.{CodePart}
use Rattle.class_model.specs.declared.class_file.Field.{Field}
use Rattle.class_model.specs.declared.class_file.Method.{Method}
use Rattle.class_model.specs.declared.fault.FileRule.TheVariants as rules
use Rattle.written_files.proofs.WrittenClasses.OwnCodes.{code_fits, code_len}
use Rattle.written_files.proofs.WrittenClasses.OwnParts.{IsCounted, IsOwn, bytes_taken, counted_own, text_taken, u2_any, u2_own, u4_any}
use Rattle.written_files.proofs.WrittenClasses.OwnPools.{PoolHolds, pool_own}
use Rattle.class_bytes.specs.Counts.{FitsAttr, FitsAttrs, FitsField, FitsMethod}
use Rattle.pool_bytes.specs.Items.{IsU2}
use Rattle.class_bytes.specs.Numbers.{AttrNumbers, FieldNumbers, MethodNumbers}
use Rattle.class_model.specs.Values.{FieldIsRaw, IsRaw}

-- ---- attributes

-- what an attribute is seen as: its bytes, or as parts
abbrev IsSeen : ℕ → List ℕ → Attr → Type 0
IsSeen name bytes (Raw n b) = (n ≡ name) × (b ≡ bytes)
IsSeen name bytes (Code n part) = (n ≡ name) × (code_part bytes ≡ Some part)

pub record AttrFits (name : ℕ) (bytes : List ℕ) (attr : Attr) : Type 0 where
  pub fits : FitsAttr attr
  pub numbers : AttrNumbers attr
  pub alike : Alike attr (Raw name bytes)

attr_by : (attr : Attr) (rest : Rest) (n l : ℕ × Rest) (c : List ℕ × Rest) (back : List ℕ)
    → u2_at rest ≡ Ok n
    → u4_at n.1 ≡ Ok l
    → bytes_at l.0 l.1 ≡ Ok c
    → IsSeen n.0 c.0 attr
    → rest.bytes ≡ attr_bytes attr ++ back
    → (c.1.bytes ≡ back) × AttrFits n.0 c.0 attr
attr_by (Raw name bytes) rest n l c back first second third seen stands =
    let a = u2_any name rest n (u4 (length bytes) ++ (bytes ++ back)) first stands in
    let b = u4_any (length bytes) n.1 l (bytes ++ back) second a.behind in
    let long = (bytes_taken l.0 l.1 c third).long in
    let same : length bytes ≡ l.0 = ap (λ (t : List ℕ). length t) seen.1 ∙ long in
    let less = b.less in (
      (text_taken l.0 l.1 c bytes back third b.behind same).1,
      record {
        fits = omega (arith, less, same);
        numbers = subst IsU2 (sym seen.0) a.less;
        alike = record { name = seen.0; bytes = ap (λ (m : ℕ). raw_bytes m bytes) seen.0 ∙ ap (raw_bytes n.0) seen.1; content = ap code_part seen.1 };
      },
    )
attr_by (Code name part) rest n l c back first second third seen stands =
    let text = code_part_bytes part in
    let a = u2_any name rest n (u4 (length text) ++ (text ++ back)) first stands in
    let b = u4_any (length text) n.1 l (text ++ back) second a.behind in
    let long = (bytes_taken l.0 l.1 c third).long in
    let same : length text ≡ l.0 = code_len c.0 part seen.1 ∙ long in
    let cut = text_taken l.0 l.1 c text back third b.behind same in
    let less = b.less in
    let holds = code_fits part (ap code_part (sym cut.0) ∙ seen.1) (omega (arith, less, same)) in (
      cut.1,
      record {
        fits = holds.fits;
        numbers = (subst IsU2 (sym seen.0) a.less, holds.numbers);
        alike = record { name = seen.0; bytes = ap (λ (m : ℕ). raw_bytes m text) seen.0 ∙ ap (raw_bytes n.0) (sym cut.0); content = sym seen.1 };
      },
    )

module _ (seen : Attr → Attr) (sees : (name : ℕ) (bytes : List ℕ) → IsSeen name bytes (seen (Raw name bytes))) where
  pub record AttrHolds (attr : Attr) : Type 0 where
    pub raw : IsRaw attr
    pub fits : FitsAttr (seen attr)
    pub numbers : AttrNumbers (seen attr)
    pub alike : Alike (seen attr) attr

  attr_own : IsOwn attr_at (λ attr. attr_bytes (seen attr)) AttrHolds
  attr_own = record {
    own = λ rest x back e stands.
        let name = bind_ok (u2_at rest) _ x e in
        let len = bind_ok (u4_at name.0.1) _ x name.2 in
        let content = bind_ok (bytes_at len.0.0 len.0.1) _ x len.2 in
        let got : Attr = Raw name.0.0 content.0.0 in
        subst (λ (y : Attr × Rest). rest.bytes ≡ attr_bytes (seen y.0) ++ back → (y.1.bytes ≡ back) × AttrHolds y.0) (same_done (got, content.0.1) x content.2)
        (λ s.
        let by = attr_by (seen got) rest name.0 len.0 content.0 back name.1 len.1 content.1 (sees name.0.0 content.0.0) s in
        (by.0, record { raw = tt; fits = by.1.fits; numbers = by.1.numbers; alike = by.1.alike })) stands;
  }

  -- attributes as they are seen
  spelled_seen : (attrs : List Attr) → flat_map attr_bytes (map seen attrs) ≡ flat_map (λ attr. attr_bytes (seen attr)) attrs
  spelled_seen [] = refl
  spelled_seen (attr ∷ attrs) = ap (λ (t : List ℕ). attr_bytes (seen attr) ++ t) (spelled_seen attrs)

  each_seen : (attrs : List Attr) → AllByRecursion AttrHolds attrs → AllByRecursion FitsAttr (map seen attrs) × AllByRecursion AttrNumbers (map seen attrs)
  each_seen [] all = (tt, tt)
  each_seen (attr ∷ attrs) all = let rest = each_seen attrs all.1 in ((all.0.fits, rest.0), (all.0.numbers, rest.1))

  pub record AttrsHold (attrs : List Attr) : Type 0 where
    pub raw : AllByRecursion IsRaw attrs
    pub alike : AllByRecursion (λ attr. Alike (seen attr) attr) attrs
    pub fits : FitsAttrs (map seen attrs)
    pub numbers : AllByRecursion AttrNumbers (map seen attrs)

  attrs_own : IsOwn (counted_at attr_at) (λ attrs. attrs_bytes (map seen attrs)) AttrsHold
  attrs_own = record {
    own = λ rest x back e stands.
        let many = length-map x.0 seen in
        let respelled : attrs_bytes (map seen x.0) ≡ u2 (length x.0) ++ flat_map (λ attr. attr_bytes (seen attr)) x.0 =
        ap (λ (n : ℕ). u2 n ++ flat_map attr_bytes (map seen x.0)) many ∙ ap (λ (t : List ℕ). u2 (length x.0) ++ t) (spelled_seen x.0) in
        let own = (counted_own attr_own).own rest x back e (stands ∙ ap (λ (t : List ℕ). t ++ back) respelled) in
        let each = each_seen x.0 own.1.each in
        let few = own.1.few in
        (own.0, record { raw = AllByRecursion-weaker AttrHolds IsRaw (λ attr h. h.raw) x.0 own.1.each; alike = AllByRecursion-weaker AttrHolds (λ attr. Alike (seen attr) attr) (λ attr h. h.alike) x.0 own.1.each; fits = record { count = omega (arith, many, few); each = each.0 }; numbers = each.1 });
  }

-- an attribute that is not looked into
sees_itself : (name : ℕ) (bytes : List ℕ) → IsSeen name bytes (Raw name bytes)
sees_itself name bytes = (refl, refl)

map_itself : (attrs : List Attr) → map (λ attr. attr) attrs ≡ attrs
map_itself [] = refl
map_itself (attr ∷ attrs) = ap (λ (rest : List Attr). attr ∷ rest) (map_itself attrs)

pub record RawHold (attrs : List Attr) : Type 0 where
  pub raw : AllByRecursion IsRaw attrs
  pub fits : FitsAttrs attrs
  pub numbers : AllByRecursion AttrNumbers attrs

raw_own : IsOwn (counted_at attr_at) attrs_bytes RawHold
raw_own = record {
  own = λ rest x back e stands.
      let same = map_itself x.0 in
      let own = (attrs_own (λ attr. attr) sees_itself).own rest x back e (stands ∙ ap (λ (attrs : List Attr). attrs_bytes attrs ++ back) (sym same)) in
      (own.0, record { raw = own.1.raw; fits = subst FitsAttrs same own.1.fits; numbers = subst (AllByRecursion AttrNumbers) same own.1.numbers });
}

-- one that is entered where it is named Code
module _ (pool : Constants) where
  entered_sees : (name : ℕ) (bytes : List ℕ) → IsSeen name bytes (entered_attr pool (Raw name bytes))
  entered_sees name bytes = by (is_named pool code (Raw name bytes)) (code_part bytes) refl refl where
    by : (named : Bool) (found : Option CodePart) → is_named pool code (Raw name bytes) ≡ named → code_part bytes ≡ found
        → IsSeen name bytes (entered_attr pool (Raw name bytes))
    by true (Some part) n e = rw (n, e) (refl, e)
    by true None n e = rw (n, e) (refl, refl)
    by false found n e = rw n (refl, refl)

-- ---- members

pub record FieldHolds (field : Field) : Type 0 where
  pub raw : FieldIsRaw field
  pub fits : FitsField field
  pub numbers : FieldNumbers field

field_own : IsOwn field_at field_bytes FieldHolds
field_own = record {
  own = λ rest x back e stands.
      let flags = bind_ok (u2_at rest) _ x e in
      let name = bind_ok (u2_at flags.0.1) _ x flags.2 in
      let desc = bind_ok (u2_at name.0.1) _ x name.2 in
      let attrs = bind_ok (counted_at attr_at desc.0.1) _ x desc.2 in
      let got : Field = record { flags = flags.0.0; name = name.0.0; desc = desc.0.0; attrs = attrs.0.0 } in
      subst (λ (y : Field × Rest). rest.bytes ≡ field_bytes y.0 ++ back → (y.1.bytes ≡ back) × FieldHolds y.0) (same_done (got, attrs.0.1) x attrs.2)
      (λ s.
      let a = u2_any flags.0.0 rest flags.0 (u2 name.0.0 ++ (u2 desc.0.0 ++ (attrs_bytes attrs.0.0 ++ back))) flags.1 s in
      let b = u2_any name.0.0 flags.0.1 name.0 (u2 desc.0.0 ++ (attrs_bytes attrs.0.0 ++ back)) name.1 a.behind in
      let c = u2_any desc.0.0 name.0.1 desc.0 (attrs_bytes attrs.0.0 ++ back) desc.1 b.behind in
      let d = raw_own.own desc.0.1 attrs.0 back attrs.1 c.behind in
      (d.0, record { raw = d.1.raw; fits = d.1.fits; numbers = record { flags = a.less; name = b.less; desc = c.less; attrs = d.1.numbers } })) stands;
}

module _ (pool : Constants) where
  pub record MethodHolds (method : Method) : Type 0 where
    pub raw : AllByRecursion IsRaw method.attrs
    pub alike : MethodAlike (entered_attr pool) method
    pub fits : FitsMethod (entered_method pool method)
    pub numbers : MethodNumbers (entered_method pool method)

  method_own : IsOwn method_at (λ method. method_bytes (entered_method pool method)) MethodHolds
  method_own = record {
    own = λ rest x back e stands.
        let flags = bind_ok (u2_at rest) _ x e in
        let name = bind_ok (u2_at flags.0.1) _ x flags.2 in
        let desc = bind_ok (u2_at name.0.1) _ x name.2 in
        let attrs = bind_ok (counted_at attr_at desc.0.1) _ x desc.2 in
        let got : Method = record { flags = flags.0.0; name = name.0.0; desc = desc.0.0; attrs = attrs.0.0 } in
        subst (λ (y : Method × Rest). rest.bytes ≡ method_bytes (entered_method pool y.0) ++ back → (y.1.bytes ≡ back) × MethodHolds y.0) (same_done (got, attrs.0.1) x attrs.2)
        (λ s.
        let text = attrs_bytes (map (entered_attr pool) attrs.0.0) in
        let a = u2_any flags.0.0 rest flags.0 (u2 name.0.0 ++ (u2 desc.0.0 ++ (text ++ back))) flags.1 s in
        let b = u2_any name.0.0 flags.0.1 name.0 (u2 desc.0.0 ++ (text ++ back)) name.1 a.behind in
        let c = u2_any desc.0.0 name.0.1 desc.0 (text ++ back) desc.1 b.behind in
        let d = (attrs_own (entered_attr pool) (entered_sees pool)).own desc.0.1 attrs.0 back attrs.1 c.behind in
        (d.0, record { raw = d.1.raw; alike = d.1.alike; fits = d.1.fits; numbers = record { flags = a.less; name = b.less; desc = c.less; attrs = d.1.numbers } })) stands;
  }

  spelled_entered : (methods : List Method) → flat_map method_bytes (map (entered_method pool) methods) ≡ flat_map (λ method. method_bytes (entered_method pool method)) methods
  spelled_entered [] = refl
  spelled_entered (method ∷ methods) = ap (λ (t : List ℕ). method_bytes (entered_method pool method) ++ t) (spelled_entered methods)

-- ---- the class file

-- what is cut behind the version
pub record CutHolds (cut : ClassFile) : Type 0 where
  pub minor : IsU2 cut.minor
  pub major : IsU2 cut.major
  pub pool : PoolHolds cut.major cut.pool
  pub flags : IsU2 cut.flags
  pub this_class : IsU2 cut.this_class
  pub super_class : IsU2 cut.super_class
  pub interfaces : IsCounted IsU2 cut.interfaces
  pub fields : IsCounted FieldHolds cut.fields
  pub methods : IsCounted (MethodHolds cut.pool) cut.methods
  pub attrs : RawHold cut.attrs

pub cut_holds : (version : Version) (rest : Rest) (cut : ClassFile) (bytes : List ℕ)
    → version_at (uncut bytes) ≡ Ok (version, rest)
    → class_file_at version rest ≡ Ok cut
    → bytes ≡ class_bytes (entered cut)
    → CutHolds cut × ((version.major ≡ cut.major) × (version.minor ≡ cut.minor))
cut_holds version rest cut bytes head e stands =
    let whole = uncut bytes in
    let first = bind_ok (u4_at whole) _ (version, rest) head in
    let magical = bind_ok _ _ (version, rest) first.2 in
    let g = guard_true (first.0.0 == magic) (fault 0 rules.Magic) first.0.1 magical.0 magical.1 in
    let minor = bind_ok (u2_at magical.0) _ (version, rest) magical.2 in
    let major = bind_ok (u2_at minor.0.1) _ (version, rest) minor.2 in
    let read : Version = record { minor = minor.0.0; major = major.0.0 } in
    let both = same_done (read, major.0.1) (version, rest) major.2 in
    let of_version : read ≡ version = ap (λ (y : Version × Rest). y.0) both in
    let of_rest : major.0.1 ≡ rest = ap (λ (y : Version × Rest). y.1) both in
    let pool = bind_ok (pool_at version.major rest) _ cut e in
    let flags = bind_ok (u2_at pool.0.1) _ cut pool.2 in
    let this = bind_ok (u2_at flags.0.1) _ cut flags.2 in
    let super = bind_ok (u2_at this.0.1) _ cut this.2 in
    let interfaces = bind_ok (counted_at u2_at super.0.1) _ cut super.2 in
    let fields = bind_ok (counted_at field_at interfaces.0.1) _ cut interfaces.2 in
    let methods = bind_ok (counted_at method_at fields.0.1) _ cut fields.2 in
    let attrs = bind_ok (counted_at attr_at methods.0.1) _ cut methods.2 in
    let end = guard_true (length attrs.0.1.bytes == 0) (fault attrs.0.1.at rules.Extra) _ cut attrs.2 in
    subst (λ (c : ClassFile). bytes ≡ class_bytes (entered c) → CutHolds c × ((version.major ≡ c.major) × (version.minor ≡ c.minor))) end.1
    (λ s.
    let of_methods = map (entered_method pool.0.0) methods.0.0 in
    let p = pool_bytes pool.0.0 in
    let i = u2 (length interfaces.0.0) ++ u2s interfaces.0.0 in
    let f = u2 (length fields.0.0) ++ flat_map field_bytes fields.0.0 in
    let m = u2 (length of_methods) ++ flat_map method_bytes of_methods in
    let a = attrs_bytes attrs.0.0 in
    let n1 = u2 flags.0.0 in
    let n2 = u2 this.0.0 in
    let n3 = u2 super.0.0 in
    let body = n1 ++ (n2 ++ (n3 ++ (i ++ (f ++ (m ++ a))))) in
    let head_bytes = u4 magic ++ (u2 version.minor ++ u2 version.major) in
    let grouped : bytes ≡ head_bytes ++ (p ++ body) = s ∙ ap (λ (t : List ℕ). head_bytes ++ t)
    (append_assoc (p ++ n1 ++ n2 ++ n3 ++ i ++ f) m a
    ∙ append_assoc (p ++ n1 ++ n2 ++ n3 ++ i) f (m ++ a)
    ∙ append_assoc (p ++ n1 ++ n2 ++ n3) i (f ++ (m ++ a))
    ∙ append_assoc (p ++ n1 ++ n2) n3 (i ++ (f ++ (m ++ a)))
    ∙ append_assoc (p ++ n1) n2 (n3 ++ (i ++ (f ++ (m ++ a))))
    ∙ append_assoc p n1 (n2 ++ (n3 ++ (i ++ (f ++ (m ++ a)))))) in
    let h1 = u4_any magic whole first.0 (u2 version.minor ++ (u2 version.major ++ (p ++ body))) first.1 grouped in
    let at_minor : magical.0.bytes ≡ u2 version.minor ++ (u2 version.major ++ (p ++ body)) = ap (λ (r : Rest). r.bytes) (sym g.1) ∙ h1.behind in
    let h2 = u2_any version.minor magical.0 minor.0 (u2 version.major ++ (p ++ body)) minor.1 at_minor in
    let h3 = u2_any version.major minor.0.1 major.0 (p ++ body) major.1 h2.behind in
    let at_pool : rest.bytes ≡ p ++ body = ap (λ (r : Rest). r.bytes) (sym of_rest) ∙ h3.behind in
    let h4 = pool_own version.major rest pool.0 body pool.1 at_pool in
    let h5 = u2_any flags.0.0 pool.0.1 flags.0 (n2 ++ (n3 ++ (i ++ (f ++ (m ++ a))))) flags.1 h4.0 in
    let h6 = u2_any this.0.0 flags.0.1 this.0 (n3 ++ (i ++ (f ++ (m ++ a)))) this.1 h5.behind in
    let h7 = u2_any super.0.0 this.0.1 super.0 (i ++ (f ++ (m ++ a))) super.1 h6.behind in
    let h8 = (counted_own u2_own).own super.0.1 interfaces.0 (f ++ (m ++ a)) interfaces.1 h7.behind in
    let h9 = (counted_own field_own).own interfaces.0.1 fields.0 (m ++ a) fields.1 h8.0 in
    let respelled : m ≡ u2 (length methods.0.0) ++ flat_map (λ method. method_bytes (entered_method pool.0.0 method)) methods.0.0 =
    ap (λ (n : ℕ). u2 n ++ flat_map method_bytes of_methods) (length-map methods.0.0 (entered_method pool.0.0))
    ∙ ap (λ (t : List ℕ). u2 (length methods.0.0) ++ t) (spelled_entered pool.0.0 methods.0.0) in
    let h10 = (counted_own (method_own pool.0.0)).own fields.0.1 methods.0 a methods.1 (h9.0 ∙ ap (λ (t : List ℕ). t ++ a) respelled) in
    let h11 = raw_own.own methods.0.1 attrs.0 [] attrs.1 (h10.0 ∙ sym (append-nil a)) in (
      record {
        minor = subst (λ (v : Version). v.minor < 2 ^ 16) of_version h2.less;
        major = subst (λ (v : Version). v.major < 2 ^ 16) of_version h3.less;
        pool = h4.1;
        flags = h5.less;
        this_class = h6.less;
        super_class = h7.less;
        interfaces = h8.1;
        fields = h9.1;
        methods = h10.1;
        attrs = h11.1;
      },
      (refl, refl),
    )) stands
