-- Each class file that is read is a value that fits its items.
use Rattle.std.proofs.Common.{◌≡◌, ◌⊎◌, ◌+◌, ◌^◌, ◌<◌, ◌≤◌, inl, inr, ℕ, Bool, true, false, zero, suc, List, [], ◌∷◌, ◌++◌, length, map, Option, Some, None, Ok, refl, sym, ap, subst, ◌∙◌, arith, append_assoc}
use Rattle.std.specs.List.{AllByRecursion}
use Rattle.std.specs.Prelude.{IsFalse, IsTrue}
use Rattle.std.proofs.lemmas.List.{length-map}
use Rattle.class_model.specs.Checks.{AllHold, asked_if, check}
use Rattle.class_model.specs.ClassOf.{ClassOf, IsReadVersion, class_file_checks, entered, entered_attr, entered_method, methods_checks}
use Rattle.class_model.specs.Code.{code_part}
use Rattle.class_model.specs.Laws.AlikeAttrs.{MethodAlike, class_alike}
use Rattle.class_model.specs.Laws.Checks.{first_holds, others_hold}
use Rattle.class_model.specs.Laws.ClassFiles.{methods_place, parts_hold}
use Rattle.class_model.specs.Laws.Lists.{AllByRecursion-weaker}
use Rattle.class_model.specs.Members.{Signature, attrs_checks, has_named, is_named}
use Rattle.class_model.specs.Methods.{Home, code, code_content, content_checks, home_of, method_attr_checks, method_checks, method_signature}
use Rattle.class_model.specs.Pool.{Constants}
use Rattle.class_model.specs.PoolChecks.{RefersWell, constant_checks, entries_checks}
use Rattle.class_model.specs.Spelling.{attr_bytes, class_bytes, code_part_bytes, constant_bytes, method_bytes}
use Rattle.class_model.specs.Values.{FieldIsRaw, IsParted, IsRaw, MethodIsParted}
use Rattle.class_model.specs.declared.class_file.Attr.{Attr}
use Rattle.class_model.specs.declared.class_file.Attr.TheVariants.{Raw, Code}
use Rattle.class_model.specs.declared.class_file.ClassFile.{ClassFile}
use Rattle.class_model.specs.declared.class_file.CodePart.{CodePart}
use Rattle.class_model.specs.declared.class_file.Field.{Field}
use Rattle.class_model.specs.declared.class_file.Method.{Method}
use Rattle.class_model.specs.declared.fault.FileRule.TheVariants as rules
use Rattle.class_model.specs.declared.pool.Const.{Const}
use Rattle.class_model.specs.declared.pool.Const.TheVariants.{Utf8, Integer, Float, Long, Double, Class, String, Fieldref, Methodref, InterfaceMethodref, NameAndType, MethodHandle, MethodType, InvokeDynamic}
use Rattle.written_files.proofs.WrittenClasses.OwnFiles.{CutHolds, FieldHolds, MethodHolds, cut_holds}
use Rattle.written_files.proofs.WrittenClasses.OwnPools.{EntryCut, FitsCut}
use Rattle.class_bytes.specs.Counts.{FitsField, FitsMethod}
use Rattle.pool_bytes.specs.Items.{EntryFits, FitsItems, IsU2}
use Rattle.class_bytes.specs.Numbers.{FieldNumbers, MethodNumbers}
use Rattle.written_files.specs.WrittenClasses.{IsFitting}

-- ---- constants

small_kind : (major : ℕ) (pool : Constants) (kind reference : ℕ) → RefersWell major pool kind reference → kind < 2 ^ 8
small_kind major pool kind reference well = elim well [
  | inl a ↦ omega (arith, a.1)
  | inr b ↦ elim b [
    | inl a ↦ omega (arith, a.0)
    | inr c ↦ elim c [
      | inl a ↦ omega (arith, a.1)
      | inr d ↦ elim d [ inl a ↦ omega (arith, a.0) | inr a ↦ omega (arith, a.0) ]
    ]
  ]
]

fits_items : (major at : ℕ) (pool : Constants) (constant : Const) → FitsCut constant → AllHold (constant_checks major pool at constant) → FitsItems constant
fits_items major at pool (MethodHandle kind reference) fits h = (small_kind major pool kind reference h.0, fits)
fits_items major at pool (Utf8 text) fits h = fits
fits_items major at pool (Integer number) fits h = fits
fits_items major at pool (Float bits) fits h = fits
fits_items major at pool (Long number) fits h = fits
fits_items major at pool (Double bits) fits h = fits
fits_items major at pool (Class name) fits h = fits
fits_items major at pool (String text) fits h = fits
fits_items major at pool (Fieldref class member) fits h = fits
fits_items major at pool (Methodref class member) fits h = fits
fits_items major at pool (InterfaceMethodref class member) fits h = fits
fits_items major at pool (NameAndType name desc) fits h = fits
fits_items major at pool (MethodType desc) fits h = fits
fits_items major at pool (InvokeDynamic bootstrap member) fits h = fits

pool_fits : (major at : ℕ) (pool entries : Constants) → AllByRecursion EntryCut entries → AllHold (entries_checks major pool at entries) → AllByRecursion EntryFits entries
pool_fits major at pool [] fits h = tt
pool_fits major at pool (None ∷ entries) fits h = (tt, pool_fits major at pool entries fits.1 h)
pool_fits major at pool (Some constant ∷ entries) fits h =
    let first = constant_checks major pool at constant in
    let rest = entries_checks major pool (at + length (constant_bytes constant)) entries in (
      fits_items major at pool constant fits.0 (first_holds first rest h),
      pool_fits major (at + length (constant_bytes constant)) pool entries fits.1 (others_hold first rest h),
    )

-- ---- what is entered

module _ (home : Home) where
  -- an attribute that is named Code has its content cut into parts, since what is asked of it holds
  attr_parted : (method : Method) (before : List Attr) (at : ℕ) (attr : Attr) → IsRaw attr → AllHold (method_attr_checks home method before at attr)
      → IsParted home.pool (entered_attr home.pool attr)
  attr_parted method before at (Code name part) raw h = absurd raw
  attr_parted method before at (Raw name bytes) raw h = by (is_named home.pool code (Raw name bytes)) (code_part bytes) refl refl where
    by : (named : Bool) (found : Option CodePart) → is_named home.pool code (Raw name bytes) ≡ named → code_part bytes ≡ found
        → IsParted home.pool (entered_attr home.pool (Raw name bytes))
    by true (Some part) n e = rw (n, e) n
    by false found n e = rw n n
    by true None n e =
        let asked = subst (λ (b : Bool). AllHold (asked_if b (check at rules.Twice (IsFalse (has_named home.pool code before)) ∷ content_checks home method at (code_part bytes)))) n h.1 in
        absurd (subst (λ (part : Option CodePart). AllHold (content_checks home method at part)) e asked.1).0

  attrs_parted : (method : Method) (before : List Attr) (at : ℕ) (attrs : List Attr) → AllByRecursion IsRaw attrs
      → AllHold (attrs_checks (method_attr_checks home method) before at attrs)
      → AllByRecursion (IsParted home.pool) (map (entered_attr home.pool) attrs)
  attrs_parted method before at [] raw h = tt
  attrs_parted method before at (attr ∷ attrs) raw h =
      let first = method_attr_checks home method before at attr in
      let rest = attrs_checks (method_attr_checks home method) (before ++ attr ∷ []) (at + length (attr_bytes attr)) attrs in (
        attr_parted method before at attr raw.0 (first_holds first rest h),
        attrs_parted method (before ++ attr ∷ []) (at + length (attr_bytes attr)) attrs raw.1 (others_hold first rest h),
      )

  methods_parted : (before : List Signature) (at : ℕ) (methods : List Method) → AllByRecursion (MethodHolds home.pool) methods
      → AllHold (methods_checks home before at methods)
      → AllByRecursion (MethodIsParted home.pool) (map (entered_method home.pool) methods)
  methods_parted before at [] holds h = tt
  methods_parted before at (method ∷ methods) holds h =
      let first = method_checks home before at method in
      let rest = methods_checks home (before ++ method_signature method ∷ []) (at + length (method_bytes method)) methods in (
        attrs_parted method [] (at + 8) method.attrs holds.0.raw (first_holds first rest h).1.1.1.1.1.1.1.1,
        methods_parted (before ++ method_signature method ∷ []) (at + length (method_bytes method)) methods holds.1 (others_hold first rest h),
      )

each_as : {X Y : Type 0} (P : X → Type 0) (Q : Y → Type 0) (f : X → Y) → ((x : X) → P x → Q (f x)) → (xs : List X) → AllByRecursion P xs → AllByRecursion Q (map f xs)
each_as P Q f to [] all = tt
each_as P Q f to (x ∷ xs) all = (to x all.0, each_as P Q f to xs all.1)

-- ---- the whole

pub class_fits : (class : ClassFile) → ClassOf (class_bytes class) class → IsFitting class
class_fits class of = subst IsFitting (sym of.is) (of_cut of.cut of.holds (cut_holds of.version of.rest of.cut (class_bytes class) of.head of.is_cut (ap class_bytes of.is))) where
  of_cut : (cut : ClassFile) → AllHold (class_file_checks cut) → CutHolds cut × ((of.version.major ≡ cut.major) × (of.version.minor ≡ cut.minor)) → IsFitting (entered cut)
  of_cut cut holds both =
      let is = both.0 in
      let parts = parts_hold cut holds in
      record {
        counts = record {
          interfaces = is.interfaces.few;
          fields = record { count = is.fields.few; each = AllByRecursion-weaker FieldHolds FitsField (λ field h. h.fits) cut.fields is.fields.each };
          methods = record {
            count = rw (length-map cut.methods (entered_method cut.pool)) is.methods.few;
            each = each_as (MethodHolds cut.pool) FitsMethod (entered_method cut.pool) (λ method h. h.fits) cut.methods is.methods.each;
          };
          attrs = is.attrs.fits;
        };
        numbers = record {
          major = is.major;
          minor = is.minor;
          pool = is.pool.is_pool;
          constants = pool_fits cut.major 10 cut.pool cut.pool is.pool.fits parts.pool;
          body = record {
            flags = is.flags;
            this_class = is.this_class;
            super_class = is.super_class;
            interfaces = is.interfaces.each;
            fields = AllByRecursion-weaker FieldHolds FieldNumbers (λ field h. h.numbers) cut.fields is.fields.each;
            methods = each_as (MethodHolds cut.pool) MethodNumbers (entered_method cut.pool) (λ method h. h.numbers) cut.methods is.methods.each;
            attrs = is.attrs.numbers;
          };
        };
        value = record {
          version = subst (λ (n : ℕ). IsReadVersion (record { minor = n; major = cut.major })) both.1.1
              (subst (λ (n : ℕ). IsReadVersion (record { minor = of.version.minor; major = n })) both.1.0 of.is_read);
          tags = is.pool.tags;
          fields = AllByRecursion-weaker FieldHolds FieldIsRaw (λ field h. h.raw) cut.fields is.fields.each;
          methods = methods_parted (home_of cut) [] (methods_place cut + 2) cut.methods is.methods.each parts.methods;
          attrs = is.attrs.raw;
          checks = subst AllHold (sym (class_alike (entered_attr cut.pool) cut (AllByRecursion-weaker (MethodHolds cut.pool) (MethodAlike (entered_attr cut.pool)) (λ method h. h.alike) cut.methods is.methods.each))) holds;
        };
      }
