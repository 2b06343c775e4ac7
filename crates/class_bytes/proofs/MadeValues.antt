-- The bytes of a class file value that was made are a class file, and it is theirs.
use Rattle.std.proofs.Common.{◌≡◌, List, [], ◌∷◌, map, Ok, refl, sym, ap, subst, ◌∙◌}
use Rattle.std.specs.List.{AllByRecursion}
use Rattle.class_model.specs.Checks.{AllHold}
use Rattle.class_model.specs.ClassOf.{ClassOf, entered, entered_attr, entered_method}
use Rattle.class_model.specs.Laws.AlikeAttrs.{Alike, AllAlike, MethodAlike, class_alike}
use Rattle.class_model.specs.Pool.{Constants}
use Rattle.class_model.specs.Spelling.{class_bytes}
use Rattle.class_model.specs.Values.{IsRaw, IsParted, FieldIsRaw, MethodIsParted, IsValue}
use Rattle.class_model.specs.declared.class_file.Attr.{Attr}
use Rattle.class_model.specs.declared.class_file.Attr.TheVariants.{Raw, Code}
use Rattle.class_model.specs.declared.class_file.ClassFile.{ClassFile}
use Rattle.class_model.specs.declared.class_file.Field.{Field}
use Rattle.class_model.specs.declared.class_file.Method.{Method}
use Rattle.pool_bytes.specs.Items.{IsU2}
use Rattle.pool_bytes.specs.ReadBack.{IsReadBackIn}
use Rattle.class_bytes.specs.Counts.{FitsAttr, FitsMethod, FitsCounts}
use Rattle.class_bytes.specs.Numbers.{AttrNumbers, MethodNumbers, BodyNumbers}
use Rattle.class_bytes.proofs.ReadBack.{raw_attr, raw_field, raw_method, all_raw, version_of, part_back, class_back, head_back}

-- ---- attributes that are kept as their bytes

raw_alone : (attrs : List Attr) → AllByRecursion IsRaw attrs → map raw_attr attrs ≡ attrs
raw_alone [] raw = refl
raw_alone (Raw name bytes ∷ attrs) raw = ap (λ (rest : List Attr). Raw name bytes ∷ rest) (raw_alone attrs raw.1)
raw_alone (Code name part ∷ attrs) raw = absurd raw.0

raw_fields : (fields : List Field) → AllByRecursion FieldIsRaw fields → map raw_field fields ≡ fields
raw_fields [] raw = refl
raw_fields (field ∷ fields) raw = rw (raw_alone field.attrs raw.0, raw_fields fields raw.1) refl

-- ---- those of methods

attr_alike : (attr : Attr) → FitsAttr attr → AttrNumbers attr → Alike (raw_attr attr) attr
attr_alike (Raw name bytes) fits numbers = record { name = refl; bytes = refl; content = refl }
attr_alike (Code name part) fits numbers = record { name = refl; bytes = refl; content = part_back part fits numbers.1 }

attrs_alike : (attrs : List Attr) → AllByRecursion FitsAttr attrs → AllByRecursion AttrNumbers attrs → AllAlike raw_attr attrs
attrs_alike [] fits numbers = tt
attrs_alike (attr ∷ attrs) fits numbers = (attr_alike attr fits.0 numbers.0, attrs_alike attrs fits.1 numbers.1)

methods_alike : (methods : List Method) → AllByRecursion FitsMethod methods → AllByRecursion MethodNumbers methods → AllByRecursion (MethodAlike raw_attr) methods
methods_alike [] fits numbers = tt
methods_alike (method ∷ methods) fits numbers = (attrs_alike method.attrs fits.0.each numbers.0.attrs, methods_alike methods fits.1 numbers.1)

-- the Code is entered again
attr_back : (pool : Constants) (attr : Attr) → IsParted pool attr → FitsAttr attr → AttrNumbers attr → entered_attr pool (raw_attr attr) ≡ attr
attr_back pool (Raw name bytes) parted fits numbers = rw parted refl
attr_back pool (Code name part) parted fits numbers = rw (parted, part_back part fits numbers.1) refl

attrs_back : (pool : Constants) (attrs : List Attr) → AllByRecursion (IsParted pool) attrs → AllByRecursion FitsAttr attrs → AllByRecursion AttrNumbers attrs → map (entered_attr pool) (map raw_attr attrs) ≡ attrs
attrs_back pool [] parted fits numbers = refl
attrs_back pool (attr ∷ attrs) parted fits numbers = rw (attr_back pool attr parted.0 fits.0 numbers.0, attrs_back pool attrs parted.1 fits.1 numbers.1) refl

methods_back : (pool : Constants) (methods : List Method) → AllByRecursion (MethodIsParted pool) methods → AllByRecursion FitsMethod methods → AllByRecursion MethodNumbers methods → map (entered_method pool) (map raw_method methods) ≡ methods
methods_back pool [] parted fits numbers = refl
methods_back pool (method ∷ methods) parted fits numbers =
    rw (attrs_back pool method.attrs parted.0 fits.0.each numbers.0.attrs, methods_back pool methods parted.1 fits.1 numbers.1) refl

-- ---- the whole

abbrev raw : ClassFile → ClassFile
raw c = record c { methods = map raw_method c.methods }

all_is_raw : (c : ClassFile) → IsValue c → all_raw c ≡ raw c
all_is_raw c is = rw (raw_fields c.fields is.fields, raw_alone c.attrs is.attrs) refl

pub made_class : (c : ClassFile) → FitsCounts c → IsU2 c.minor → IsU2 c.major → IsReadBackIn c.major c.pool → BodyNumbers c → IsValue c → ClassOf (class_bytes c) c
made_class c fits minor major pool numbers is =
    let same = all_is_raw c is in
    let entered_back : entered (raw c) ≡ c = rw (methods_back c.pool c.methods is.methods fits.methods.each numbers.methods) refl in
    record {
      version = version_of c;
      rest = _;
      head = head_back c fits numbers minor major;
      is_read = is.version;
      cut = raw c;
      is_cut = class_back c fits numbers pool ∙ ap (λ (made : ClassFile). Ok made) same;
      holds = subst AllHold (sym (class_alike raw_attr c (methods_alike c.methods fits.methods.each numbers.methods))) is.checks;
      is = sym entered_back;
    }
