-- What members and attributes are asked over a pool is asked alike over one that keeps what its indices name, and at another place.
use Rattle.std.proofs.Common.{◌≡◌, ◌⊎◌, ℕ, ◌+◌, ◌*◌, ◌&&◌, ◌||◌, Bool, true, false, List, [], ◌∷◌, ◌++◌, length, Option, Some, None, IfSome, refl, sym, ap, subst, ◌∙◌}
use Rattle.std.specs.Prelude.{IsSome, IsTrue, IsFalse}
use Rattle.std.specs.List.{list_any, AllByRecursion}
use Rattle.class_model.specs.Checks.{Check, check, Fault, AllHold, asked_if}
use Rattle.class_model.specs.ClassOf.{fields_checks, methods_checks}
use Rattle.class_model.specs.Instructions.{u2_in}
use Rattle.class_model.specs.Laws.Checks.{both_hold, first_holds, others_hold}
use Rattle.class_model.specs.Members.{Signature, has, STATIC, is_text, attr_name, is_named, has_named, same_signature, stands_before, attrs_checks, constant_value, IsConstantOf, IsConstantValue, raw_content, field_attr_checks, field_checks, field_signature}
use Rattle.class_model.specs.Methods.{Home, Bootstrap, code, code_content, content_checks, fits_method, method_attr_checks, method_checks, method_signature, IsHandle, IsArgument, arguments_checks, bootstraps_checks, bootstrap_table_checks, bootstrap_methods, bootstraps, bootstrap_count, class_attr_checks}
use Rattle.class_model.specs.Names.{IsFieldName}
use Rattle.class_model.specs.Pool.{Constants, constant_at}
use Rattle.class_model.specs.PoolChecks.{utf8_at, IsFieldDescriptor}
use Rattle.class_model.specs.Spelling.{attr_bytes, field_bytes, method_bytes}
use Rattle.class_model.specs.declared.class_file.Attr.{Attr}
use Rattle.class_model.specs.declared.class_file.Field.{Field}
use Rattle.class_model.specs.declared.class_file.Method.{Method}
use Rattle.class_model.specs.declared.fault.FileRule.TheVariants as rules
use Rattle.class_model.proofs.KeptCode.{HasNames, asked_too, content_kept}
use Rattle.class_model.proofs.KeptPools.{Keeps, if_kept, fact_kept, utf8_kept, utf8_there}

pub all_more : {X : Type 0} (P : X → Type 0) (xs : List X) (x : X) → AllByRecursion P xs → P x → AllByRecursion P (xs ++ x ∷ [])
all_more P [] x all is = (is, tt)
all_more P (y ∷ xs) x all is = (all.0, all_more P xs x all.1 is)

if_weaker : {X : Type 0} (P Q : X → Type 0) → ((x : X) → P x → Q x) → (o : Option X) → IfSome o P → IfSome o Q
if_weaker P Q to None h = tt
if_weaker P Q to (Some x) h = to x h

module _ {old new : Constants} (keeps : Keeps old new) where
  -- ---- names

  abbrev pub NameKnown : Attr → Type 0
  NameKnown attr = IsSome (utf8_at old (attr_name attr))

  named_same : (name : List ℕ) (attr : Attr) → NameKnown attr → is_named new name attr ≡ is_named old name attr
  named_same name attr known = ap (is_text name) (utf8_kept keeps (attr_name attr) known)

  pub all_named_same : (name : List ℕ) (attrs : List Attr) → AllByRecursion NameKnown attrs → has_named new name attrs ≡ has_named old name attrs
  all_named_same name [] known = refl
  all_named_same name (attr ∷ attrs) known = rw (named_same name attr known.0, all_named_same name attrs known.1) refl

  pub record SignatureKnown (member : Signature) : Type 0 where
    pub name : IsSome (utf8_at old member.name)
    pub desc : IsSome (utf8_at old member.desc)

  same_signature_same : (one other : Signature) → SignatureKnown one → SignatureKnown other → same_signature new one other ≡ same_signature old one other
  same_signature_same one other k l = rw (utf8_kept keeps one.name k.name, utf8_kept keeps other.name l.name, utf8_kept keeps one.desc k.desc, utf8_kept keeps other.desc l.desc) refl

  before_same : (before : List Signature) (member : Signature) → AllByRecursion SignatureKnown before → SignatureKnown member → stands_before new before member ≡ stands_before old before member
  before_same [] member known is = refl
  before_same (one ∷ before) member known is = rw (same_signature_same member one is known.0, before_same before member known.1 is) refl

  -- ---- attributes one after the other

  abbrev Asks : Type 1
  Asks = List Attr → ℕ → Attr → List (Check Fault)

  module _ (asks others : Asks) (known : (before : List Attr) (at : ℕ) (attr : Attr) → AllHold (asks before at attr) → NameKnown attr)
      (step : (before : List Attr) (at other : ℕ) (attr : Attr) → AllByRecursion NameKnown before → AllHold (asks before at attr) → AllHold (others before other attr)) where
    attrs_kept : (before : List Attr) (at other : ℕ) (attrs : List Attr) → AllByRecursion NameKnown before → AllHold (attrs_checks asks before at attrs) → AllHold (attrs_checks others before other attrs)
    attrs_kept before at other [] named h = tt
    attrs_kept before at other (attr ∷ attrs) named h =
        let first = asks before at attr in
        let rest = attrs_checks asks (before ++ attr ∷ []) (at + length (attr_bytes attr)) attrs in
        let own = first_holds first rest h in
        let more = all_more NameKnown before attr named (known before at attr own) in
        both_hold (others before other attr) (attrs_checks others (before ++ attr ∷ []) (other + length (attr_bytes attr)) attrs)
        (step before at other attr named own) (attrs_kept (before ++ attr ∷ []) (at + length (attr_bytes attr)) (other + length (attr_bytes attr)) attrs more (others_hold first rest h))

    attrs_known : (before : List Attr) (at : ℕ) (attrs : List Attr) → AllHold (attrs_checks asks before at attrs) → AllByRecursion NameKnown attrs
    attrs_known before at [] h = tt
    attrs_known before at (attr ∷ attrs) h =
        let first = asks before at attr in
        let rest = attrs_checks asks (before ++ attr ∷ []) (at + length (attr_bytes attr)) attrs in
        (known before at attr (first_holds first rest h), attrs_known (before ++ attr ∷ []) (at + length (attr_bytes attr)) attrs (others_hold first rest h))

  -- ---- fields

  value_kept : (desc : ℕ) (content : List ℕ) → IsSome (utf8_at old desc) → IsConstantValue old (utf8_at old desc) content → IsConstantValue new (utf8_at new desc) content
  value_kept desc content there v = record {
    two_bytes = v.two_bytes;
    constant = if_kept _ (utf8_kept keeps desc there) (if_weaker (λ text. IsConstantOf text (constant_at old (u2_in content 0))) (λ text. IsConstantOf text (constant_at new (u2_in content 0))) (λ text. fact_kept keeps (IsConstantOf text) (u2_in content 0) (λ h. h)) (utf8_at old desc) v.constant);
  }

  module _ (field : Field) (there : IsSome (utf8_at old field.desc)) where
    value_asks : Constants → List Attr → ℕ → Attr → List (Check Fault)
    value_asks pool before at attr =
        check at rules.Twice (IsFalse (has_named pool constant_value before)) ∷ check at rules.Constant (IsConstantValue pool (utf8_at pool field.desc) (raw_content attr)) ∷ []

    field_attr_kept : (before : List Attr) (at other : ℕ) (attr : Attr) → AllByRecursion NameKnown before → AllHold (field_attr_checks old field before at attr) → AllHold (field_attr_checks new field before other attr)
    unfolding value_asks
    field_attr_kept before at other attr named h =
        let test = has field.flags STATIC && is_named old constant_value attr in
        let same = ap (λ (b : Bool). has field.flags STATIC && b) (named_same constant_value attr h.0) in
        let asked = asked_too test (value_asks old before at attr) (value_asks new before other attr) (λ k. (all_named_same constant_value before named ∙ k.0, (value_kept field.desc (raw_content attr) there k.1.0, tt))) h.1 in
        (utf8_there keeps (attr_name attr) h.0, subst (λ (b : Bool). AllHold (asked_if b (value_asks new before other attr))) (sym same) asked)

  pub field_kept : (flags : ℕ) (before : List Signature) (at other : ℕ) (field : Field) → AllByRecursion SignatureKnown before → AllHold (field_checks old flags before at field) → AllHold (field_checks new flags before other field)
  field_kept flags before at other field known h =
      let name = utf8_kept keeps field.name h.1.1.0 in
      let desc = utf8_kept keeps field.desc h.1.1.1.1.0 in
      let own : SignatureKnown (field_signature field) = record { name = h.1.1.0; desc = h.1.1.1.1.0 } in (
        h.0,
        (
          before_same before (field_signature field) known own ∙ h.1.0,
          (
            utf8_there keeps field.name h.1.1.0,
            (
              if_kept IsFieldName name h.1.1.1.0,
              (
                utf8_there keeps field.desc h.1.1.1.1.0,
                (
                  if_kept IsFieldDescriptor desc h.1.1.1.1.1.0,
                  attrs_kept (field_attr_checks old field) (field_attr_checks new field) (λ before at attr k. k.0) (field_attr_kept field h.1.1.1.1.0) [] (at + 8) (other + 8) field.attrs tt h.1.1.1.1.1.1,
                ),
              ),
            ),
          ),
        ),
      )

  pub fields_kept : (flags : ℕ) (before : List Signature) (at other : ℕ) (fields : List Field) → AllByRecursion SignatureKnown before → AllHold (fields_checks old flags before at fields) → AllHold (fields_checks new flags before other fields)
  fields_kept flags before at other [] known h = tt
  fields_kept flags before at other (field ∷ fields) known h =
      let next = before ++ field_signature field ∷ [] in
      let first = field_checks old flags before at field in
      let rest = fields_checks old flags next (at + length (field_bytes field)) fields in
      let own = first_holds first rest h in
      let more = all_more SignatureKnown before (field_signature field) known (record { name = own.1.1.0; desc = own.1.1.1.1.0 }) in
      both_hold (field_checks new flags before other field) (fields_checks new flags next (other + length (field_bytes field)) fields)
      (field_kept flags before at other field known own) (fields_kept flags next (at + length (field_bytes field)) (other + length (field_bytes field)) fields more (others_hold first rest h))

  -- ---- the attributes of the class

  arguments_kept : (at other : ℕ) (indices : List ℕ) → AllHold (arguments_checks old at indices) → AllHold (arguments_checks new other indices)
  arguments_kept at other [] h = tt
  arguments_kept at other (index ∷ indices) h = (fact_kept keeps IsArgument index (λ h. h) h.0, arguments_kept (at + 2) (other + 2) indices h.1)

  bootstraps_kept : (at other : ℕ) (methods : List Bootstrap) → AllHold (bootstraps_checks old at methods) → AllHold (bootstraps_checks new other methods)
  bootstraps_kept at other [] h = tt
  bootstraps_kept at other (b ∷ methods) h =
      let first = arguments_checks old (at + 4) b.arguments in
      let rest = bootstraps_checks old (at + 4 + 2 * length b.arguments) methods in (
        fact_kept keeps IsHandle b.handle (λ h. h) h.0,
        both_hold (arguments_checks new (other + 4) b.arguments) (bootstraps_checks new (other + 4 + 2 * length b.arguments) methods)
            (arguments_kept (at + 4) (other + 4) b.arguments (first_holds first rest h.1)) (bootstraps_kept (at + 4 + 2 * length b.arguments) (other + 4 + 2 * length b.arguments) methods (others_hold first rest h.1)),
      )

  table_kept : (at other : ℕ) (table : Option (List Bootstrap)) → AllHold (bootstrap_table_checks old at table) → AllHold (bootstrap_table_checks new other table)
  table_kept at other None h = absurd h.0
  table_kept at other (Some methods) h = bootstraps_kept (at + 8) (other + 8) methods h

  table_asks : Constants → List Attr → ℕ → Attr → List (Check Fault)
  table_asks pool before at attr = check at rules.Twice (IsFalse (has_named pool bootstrap_methods before)) ∷ bootstrap_table_checks pool at (bootstraps (raw_content attr))

  class_attr_kept : (before : List Attr) (at other : ℕ) (attr : Attr) → AllByRecursion NameKnown before → AllHold (class_attr_checks old before at attr) → AllHold (class_attr_checks new before other attr)
  unfolding table_asks
  class_attr_kept before at other attr named h =
      let asked = asked_too (is_named old bootstrap_methods attr) (table_asks old before at attr) (table_asks new before other attr) (λ k. (all_named_same bootstrap_methods before named ∙ k.0, table_kept at other (bootstraps (raw_content attr)) k.1)) h.1 in
      (utf8_there keeps (attr_name attr) h.0, subst (λ (b : Bool). AllHold (asked_if b (table_asks new before other attr))) (sym (named_same bootstrap_methods attr h.0)) asked)

  pub class_attrs_kept : (at other : ℕ) (attrs : List Attr) → AllHold (attrs_checks (class_attr_checks old) [] at attrs) → AllHold (attrs_checks (class_attr_checks new) [] other attrs)
  class_attrs_kept at other attrs h = attrs_kept (class_attr_checks old) (class_attr_checks new) (λ before at attr k. k.0) class_attr_kept [] at other attrs tt h

  pub class_attrs_known : (at : ℕ) (attrs : List Attr) → AllHold (attrs_checks (class_attr_checks old) [] at attrs) → AllByRecursion NameKnown attrs
  class_attrs_known at attrs h = attrs_known (class_attr_checks old) (class_attr_checks new) (λ before at attr k. k.0) class_attr_kept [] at attrs h

  pub count_same : (attrs : List Attr) → AllByRecursion NameKnown attrs → bootstrap_count new attrs ≡ bootstrap_count old attrs
  count_same [] known = refl
  count_same (attr ∷ attrs) known = rw (named_same bootstrap_methods attr known.0, count_same attrs known.1) refl

-- ---- methods

module _ (home : Home) (new : Constants) (keeps : Keeps home.pool new) where
  abbrev there : Home
  there = record home { pool = new }

  module _ (method : Method) (names : HasNames home.pool method) where
    code_asks : Home → List Attr → ℕ → Attr → List (Check Fault)
    code_asks home before at attr = check at rules.Twice (IsFalse (has_named home.pool code before)) ∷ content_checks home method at (code_content attr)

    method_attr_kept : (before : List Attr) (at other : ℕ) (attr : Attr) → AllByRecursion (NameKnown keeps) before → AllHold (method_attr_checks home method before at attr) → AllHold (method_attr_checks there method before other attr)
    unfolding code_asks
    method_attr_kept before at other attr named h =
        let asked = asked_too (is_named home.pool code attr) (code_asks home before at attr) (code_asks there before other attr) (λ k. (all_named_same keeps code before named ∙ k.0, content_kept home new keeps method names at other (code_content attr) k.1)) h.1 in
        (utf8_there keeps (attr_name attr) h.0, subst (λ (b : Bool). AllHold (asked_if b (code_asks there before other attr))) (sym (named_same keeps code attr h.0)) asked)

  pub method_kept : (before : List Signature) (at other : ℕ) (method : Method) → AllByRecursion (SignatureKnown keeps) before → AllHold (method_checks home before at method) → AllHold (method_checks there before other method)
  method_kept before at other method known h =
      let names : HasNames home.pool method = record { name = h.1.1.1.1.0; desc = h.1.1.1.1.1.1.0 } in
      let own : SignatureKnown keeps (method_signature method) = record { name = names.name; desc = names.desc } in
      let name = utf8_kept keeps method.name names.name in
      let desc = utf8_kept keeps method.desc names.desc in
      let asks = method_attr_checks home method in
      let step = method_attr_kept method names in
      let attrs = h.1.1.1.1.1.1.1.1 in
      let coded = all_named_same keeps code method.attrs (attrs_known keeps asks (method_attr_checks there method) (λ before at attr k. k.0) step [] (at + 8) method.attrs attrs) in
      let flags : fits_method there method ≡ fits_method home method = rw (name, desc, coded) refl in (
        flags ∙ h.0,
        (
          before_same keeps before (method_signature method) known own ∙ h.1.0,
          (
            rw coded h.1.1.0,
            (
              rw coded h.1.1.1.0,
              (
                utf8_there keeps method.name names.name,
                (
                  rw (name, desc) h.1.1.1.1.1.0,
                  (
                    utf8_there keeps method.desc names.desc,
                    (
                      if_kept _ desc h.1.1.1.1.1.1.1.0,
                      attrs_kept keeps asks (method_attr_checks there method) (λ before at attr k. k.0) step [] (at + 8) (other + 8) method.attrs tt attrs,
                    ),
                  ),
                ),
              ),
            ),
          ),
        ),
      )

  pub methods_kept : (before : List Signature) (at other : ℕ) (methods : List Method) → AllByRecursion (SignatureKnown keeps) before → AllHold (methods_checks home before at methods) → AllHold (methods_checks there before other methods)
  methods_kept before at other [] known h = tt
  methods_kept before at other (method ∷ methods) known h =
      let next = before ++ method_signature method ∷ [] in
      let first = method_checks home before at method in
      let rest = methods_checks home next (at + length (method_bytes method)) methods in
      let own = first_holds first rest h in
      let more = all_more (SignatureKnown keeps) before (method_signature method) known (record { name = own.1.1.1.1.0; desc = own.1.1.1.1.1.1.0 }) in
      both_hold (method_checks there before other method) (methods_checks there next (other + length (method_bytes method)) methods)
      (method_kept before at other method known own) (methods_kept next (at + length (method_bytes method)) (other + length (method_bytes method)) methods more (others_hold first rest h))
