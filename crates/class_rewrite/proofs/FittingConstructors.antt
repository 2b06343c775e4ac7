-- The field constructor that is added to a class passes what a class file asks of a method, and fits its items.
use Rattle.std.proofs.Common.{◌≡◌, ◌≤◌, ◌<◌, ◌+◌, ◌^◌, ◌∙◌, bytes_eq, nat_lt, ℕ, Bool, true, false, codes, List, [], ◌∷◌, ◌++◌, flat_map, length, map, Option, Some, None, IsSome, refl, sym, ap, subst, arith, length-append}
use Rattle.std.specs.List.{AllByRecursion}
use Rattle.std.specs.Prelude.{IsFalse}
use Rattle.std.proofs.lemmas.Bool.{false≢true, and_parts}
use Rattle.std.proofs.lemmas.Bool.Decides.{nat_tests}
use Rattle.std.proofs.lemmas.Option.{none-some}
use Rattle.class_bytes.specs.Counts.{FitsAttrs, FitsInners, FitsPart}
use Rattle.class_bytes.specs.Numbers.{AttrNumbers, HandlerNumbers, InnerNumber, PartNumbers}
use Rattle.class_model.specs.Checks.{AllHold, asked_if, check}
use Rattle.class_model.specs.ClassOf.{methods_checks}
use Rattle.class_model.specs.Descriptors.{SpellsDescriptor, kind_of, type_of, units_of}
use Rattle.class_model.specs.Header.{header_of, method_member}
use Rattle.class_model.specs.Laws.Checks.{both_hold, first_holds, others_hold}
use Rattle.class_model.specs.Laws.ClassFiles.{methods_place, parts_hold}
use Rattle.class_model.specs.Members.{INTERFACE, Signature, attrs_checks, has, has_named, is_named, is_text, same_signature, stands_before}
use Rattle.class_model.specs.Methods.{Home, code, code_content, content_checks, home_of, method_attr_checks, method_checks, method_signature}
use Rattle.class_model.specs.Names.{init}
use Rattle.class_model.specs.Pool.{Constants}
use Rattle.class_model.specs.PoolChecks.{text_of, text_or_empty, utf8_at}
use Rattle.class_model.specs.Spelling.{attr_bytes, code_part_bytes, handler_bytes, inner_bytes, method_bytes, u2, u4}
use Rattle.class_model.specs.Values.{IsParted}
use Rattle.class_model.specs.declared.class_file.Attr.{Attr}
use Rattle.class_model.specs.declared.class_file.Attr.TheVariants.{Code}
use Rattle.class_model.specs.declared.class_file.ClassFile.{ClassFile}
use Rattle.class_model.specs.declared.class_file.Handler.{Handler}
use Rattle.class_model.specs.declared.class_file.InnerAttr.{InnerAttr}
use Rattle.class_model.specs.declared.class_file.Method.{Method}
use Rattle.class_model.specs.declared.descriptor.Descriptor.{Descriptor}
use Rattle.class_model.specs.declared.descriptor.Kind.{Kind}
use Rattle.class_model.specs.declared.descriptor.Kind.TheVariants as kinds
use Rattle.class_model.specs.declared.fault.FileRule.TheVariants as rules
use Rattle.class_model.specs.declared.header.Member.{Member}
use Rattle.class_rewrite.proofs.FileLaws.{FileLaws}
use Rattle.class_rewrite.proofs.FittingParts.{some_below}
use Rattle.class_tree.specs.Headers.{Headers, IsClassFile, Name}
use Rattle.class_tree.specs.Layouts.{instance_fields, own_fields}
use Rattle.class_tree.specs.Names.{is_member, object}
use Rattle.making_code.specs.Constants.{grow, needs_text, text_index}
use Rattle.making_code.specs.ConstructorCode.{IsConstructorMethod, depth_of_call, depth_of_stores, greatest_units}
use Rattle.making_code.specs.FieldConstructor.{constructor_items, constructor_method_needs, item_needs as constructor_item_needs, superclass_of, units_of_fields}
use Rattle.making_code.specs.Laws.AddedConstants.{grow_split}
use Rattle.making_code.specs.Laws.GrownPools.{begins_through, grow_begins}
use Rattle.making_code.specs.Laws.MeantConstants.{grown_text, text_later, text_read}
use Rattle.member_link.specs.DeclaredMembers.{declared}
use Rattle.member_link.specs.Scope.{Scope}
use Rattle.row_frames.specs.Laws.MorePools.{text_more}
use Rattle.type_rules.specs.Grown.{IsGrownClass}
use Rattle.written_files.specs.FieldConstructors.{IsConstructorIn}
use Rattle.written_files.specs.WrittenClasses.{AreAddedMethods, IsFitting}

-- ---- no method of its name and descriptor stands before it

module _ (pool more grown : Constants) (begins : grown ≡ pool ++ more) (member : Signature) (desc : List ℕ)
    (name_is : utf8_at grown member.name ≡ Some init) (desc_is : utf8_at grown member.desc ≡ Some desc) where
  text_kept : (index : ℕ) → IsSome (utf8_at pool index) → utf8_at grown index ≡ Some (text_or_empty (utf8_at pool index))
  text_kept index some = by (utf8_at pool index) refl where
    by : (o : Option (List ℕ)) → utf8_at pool index ≡ o → utf8_at grown index ≡ Some (text_or_empty (utf8_at pool index))
    by None e = absurd (false≢true (subst IsSome e some))
    by (Some text) e =
        ap (λ (p : Constants). utf8_at p index) begins ∙ text_more pool more index text e ∙ sym (ap (λ (o : Option (List ℕ)). Some (text_or_empty o)) e)

  other_signature : (home : Home) → home.pool ≡ pool → (before : List Signature) (at : ℕ) (method : Method) → AllHold (method_checks home before at method)
      → is_member init desc (method_member pool method) ≡ false
      → same_signature grown member (method_signature method) ≡ false
  other_signature home same before at method h apart =
      let name = text_kept method.name (subst (λ (p : Constants). IsSome (utf8_at p method.name)) same h.1.1.1.1.0) in
      let type = text_kept method.desc (subst (λ (p : Constants). IsSome (utf8_at p method.desc)) same h.1.1.1.1.1.1.0) in
      rw (name_is, desc_is, name, type) apart

  pub stands_first : (home : Home) → home.pool ≡ pool → (before : List Signature) (at : ℕ) (methods : List Method) → AllHold (methods_checks home before at methods)
      → declared init desc (map (method_member pool) methods) ≡ None
      → stands_before grown (map method_signature methods) member ≡ false
  stands_first home same before at [] h none = refl
  stands_first home same before at (method ∷ methods) h none =
      by (is_member init desc (method_member pool method)) refl (λ rest. stands_first home same next (at + length (method_bytes method)) methods
      (others_hold (method_checks home before at method) (methods_checks home next (at + length (method_bytes method)) methods) h) rest) where
        next : List Signature
        next = before ++ method_signature method ∷ []

        by : (b : Bool) → is_member init desc (method_member pool method) ≡ b
            → (declared init desc (map (method_member pool) methods) ≡ None → stands_before grown (map method_signature methods) member ≡ false)
            → stands_before grown (map method_signature (method ∷ methods)) member ≡ false
        by true e rest = absurd (none-some (method_member pool method) (sym none ∙ rw (e) refl))
        by false e rest =
            let own = other_signature home same before at method
            (first_holds (method_checks home before at method) (methods_checks home next (at + length (method_bytes method)) methods) h) e in
            rw (own) (rest (sym (rw (e) refl) ∙ none))

less_by : (n : ℕ) → nat_lt n 65536 ≡ true → n < 65536
less_by n e = grind (arith, nat_tests)

-- ---- how deep its stack is

two_units : (kind : Kind) → units_of kind ≤ 2
two_units kinds.Long = omega arith
two_units kinds.Double = omega arith
two_units kinds.Int = omega arith
two_units kinds.Float = omega arith
two_units kinds.Ref = omega arith

greatest_two : (fields : List Member) → greatest_units fields ≤ 2
greatest_two [] = omega arith
greatest_two (field ∷ fields) =
    let own = two_units (kind_of (type_of field.desc)) in
    let rest = greatest_two fields in
    omega (arith, own, rest)

stores_low : (fields : List Member) → depth_of_stores fields ≤ 3
stores_low [] = omega arith
stores_low (field ∷ fields) = let most = greatest_two (field ∷ fields) in omega (arith, most)

units_both : (one other : List Member) → units_of_fields (one ++ other) ≡ units_of_fields one + units_of_fields other
units_both [] other = omega arith
units_both (field ∷ one) other = let rest = units_both one other in omega (arith, rest)

call_low : (headers : Headers) (above : Name) → units_of_fields (instance_fields headers above) ≤ 64 → depth_of_call headers (Some above) ≤ 66
call_low headers above few = by (bytes_eq above object) refl where
  by : (b : Bool) → bytes_eq above object ≡ b → depth_of_call headers (Some above) ≤ 66
  by true e = rw (e) (omega arith)
  by false e = rw (e) (omega (arith, few))

module _ (laws : FileLaws) (headers : Headers) (constructor : Name → List ℕ) (file also : ClassFile) (is_file : IsClassFile file)
    (grown : IsGrownClass file also) (before : Constants) (method : Method) (scope : Scope) (of_class : scope.class ≡ also) (of_method : scope.method ≡ method)
    (grows : grow 65535 before (constructor_method_needs headers constructor (header_of file).name) ≡ Some also.pool)
    (is : IsConstructorMethod headers constructor (header_of file).name also.pool method)
    (inside : IsConstructorIn headers constructor file scope)
    (undeclared : declared init (constructor (header_of file).name) (header_of file).methods ≡ None)
    (descriptor : Descriptor) (spells : SpellsDescriptor (constructor (header_of file).name) descriptor)
    (no_interface : IsFalse (has file.flags INTERFACE)) (few : length also.pool ≤ 65535) where
  abbrev desc : List ℕ
  desc = constructor (header_of file).name

  fits_file : IsFitting file
  fits_file = laws.fits file is_file

  -- ---- its texts

  record HasTexts : Type 0 where
    name_is : utf8_at also.pool method.name ≡ Some init
    desc_is : utf8_at also.pool method.desc ≡ Some desc
    code_is : utf8_at also.pool (text_index also.pool (codes "Code")) ≡ Some (codes "Code")

  texts : HasTexts
  texts =
      let last = also.pool in
      let rest = flat_map (constructor_item_needs constructor) (constructor_items headers (header_of file).name) in
      let p1 = grow_split 65535 before (needs_text init ++ needs_text desc ++ needs_text (codes "Code")) rest last grows in
      let p2 = grow_split 65535 before (needs_text init ++ needs_text desc) (needs_text (codes "Code")) p1.0 p1.1 in
      let p3 = grow_split 65535 before (needs_text init) (needs_text desc) p2.0 p2.1 in
      let from_p1 = grow_begins 65535 rest p1.0 last p1.2 in
      let from_p2 = begins_through p2.0 p1.0 last (grow_begins 65535 (needs_text (codes "Code")) p2.0 p1.0 p2.2) from_p1 in
      let from_p3 = begins_through p3.0 p2.0 last (grow_begins 65535 (needs_text desc) p3.0 p2.0 p3.2) from_p2 in
      record {
        name_is = ap (utf8_at last) is.name ∙ text_read laws.compares last init (text_later p3.0 last init from_p3 (grown_text laws.compares 65535 before p3.0 init p3.1));
        desc_is = ap (utf8_at last) is.desc ∙ text_read laws.compares last desc (text_later p2.0 last desc from_p2 (grown_text laws.compares 65535 p3.0 p2.0 desc p3.2));
        code_is = text_read laws.compares last (codes "Code") (text_later p1.0 last (codes "Code") from_p1 (grown_text laws.compares 65535 p2.0 p1.0 (codes "Code") p2.2));
      }

  -- ---- its checks

  is_first : IsFalse (stands_before also.pool (map method_signature file.methods) (method_signature method))
  is_first =
      stands_first file.pool grown.more also.pool grown.pool (method_signature method) desc texts.name_is texts.desc_is (home_of file) refl []
      (methods_place file + 2) file.methods (parts_hold file fits_file.value.checks).methods undeclared

  holds : (at : ℕ) → AllHold (method_checks (home_of also) (map method_signature file.methods) at method)
  holds at =
      subst (λ (m : Method). AllHold (method_checks (home_of also) (map method_signature file.methods) at m)) of_method
      (subst (λ (c : ClassFile). AllHold (method_checks (home_of c) (map method_signature file.methods) at scope.method)) of_class
      (laws.constructor_passes headers constructor file scope (map method_signature file.methods) at inside (record {
        descriptor = descriptor;
        spells = spells;
        no_interface =
            ap (λ (c : ClassFile). has c.flags INTERFACE) of_class ∙ ap (λ (c : ClassFile). has c.flags INTERFACE) grown.rest ∙ no_interface;
        is_first =
            subst (λ (c : ClassFile). IsFalse (stands_before c.pool (map method_signature file.methods) (method_signature scope.method))) (sym of_class)
            (subst (λ (m : Method). IsFalse (stands_before also.pool (map method_signature file.methods) (method_signature m))) (sym of_method) is_first);
      })))

  -- ---- its parts

  abbrev attr : Attr
  attr = Code (text_index also.pool (codes "Code")) is.part

  named : is_named also.pool code attr ≡ true
  named = ap (is_text code) texts.code_is

  short_code : length is.part.code < 65536
  short_code =
      let all = subst (λ (list : List Attr). AllHold (attrs_checks (method_attr_checks (home_of also) method) [] (0 + 8) list)) is.attrs (holds 0).1.1.1.1.1.1.1.1 in
      let own = first_holds (method_attr_checks (home_of also) method [] (0 + 8) attr) (attrs_checks (method_attr_checks (home_of also) method) ([] ++ attr ∷ []) ((0 + 8) + length (attr_bytes attr)) []) all in
      let asked = subst (λ (b : Bool). AllHold (asked_if b (check (0 + 8) rules.Twice (IsFalse (has_named also.pool code [])) ∷ content_checks (home_of also) method (0 + 8) (code_content attr)))) named own.1 in
      let both = and_parts (nat_lt 0 (length is.part.code)) (nat_lt (length is.part.code) 65536) asked.1.0 in
      less_by (length is.part.code) both.1

  part_bytes : length (code_part_bytes is.part) ≡ 12 + length is.part.code
  part_bytes =
      let of_parts : List Handler → List InnerAttr → ℕ = λ handlers attrs.
      length (u2 is.part.max_stack ++ u2 is.part.max_locals ++ (u4 (length is.part.code) ++ is.part.code)
      ++ (u2 (length handlers) ++ flat_map handler_bytes handlers)
      ++ (u2 (length attrs) ++ flat_map inner_bytes attrs)) in
      let text = is.part.code in
      let one = length-append (text ++ (0 ∷ 0 ∷ [])) (0 ∷ 0 ∷ []) in
      let two = length-append text (0 ∷ 0 ∷ []) in
      ap (λ (handlers : List Handler). of_parts handlers is.part.attrs) is.is_part.handlers ∙ ap (of_parts []) is.is_part.attrs
      ∙ omega (arith, one, two)

  part_fits : FitsPart is.part
  part_fits =
      let short = short_code in
      let bytes = part_bytes in
      record {
        content = omega (arith, short, bytes);
        code = omega (arith, short);
        handlers = subst (λ (list : List Handler). length list ≤ 65535) (sym is.is_part.handlers) (omega arith);
        attrs = subst FitsInners (sym is.is_part.attrs) (record { count = omega arith; each = tt });
      }

  few_above : units_of_fields (instance_fields headers inside.above) ≤ 64
  few_above =
      let all : units_of_fields (instance_fields headers (header_of file).name)
      ≡ units_of_fields (instance_fields headers inside.above ++ own_fields headers (header_of file).name) = ap units_of_fields inside.fields in
      let both = units_both (instance_fields headers inside.above) (own_fields headers (header_of file).name) in
      let most = inside.few in
      omega (arith, all, both, most)

  part_small : PartNumbers is.part
  part_small =
      let call : depth_of_call headers (superclass_of headers (header_of file).name) ≤ 66 =
      subst (λ (o : Option Name). depth_of_call headers o ≤ 66) (sym inside.is_above) (call_low headers inside.above few_above) in
      let stores = stores_low (own_fields headers (header_of file).name) in
      let depth = is.is_part.max_stack in
      let locals = is.is_part.max_locals in
      let most = inside.few in
      record {
        max_stack = omega (arith, depth, call, stores);
        max_locals = omega (arith, locals, most);
        handlers = subst (AllByRecursion HandlerNumbers) (sym is.is_part.handlers) tt;
        attrs = subst (AllByRecursion InnerNumber) (sym is.is_part.attrs) tt;
      }

  small_index : (index : ℕ) (text : List ℕ) → utf8_at also.pool index ≡ Some text → index < 2 ^ 16
  small_index index text there =
      let low = some_below also.pool index text_of (subst IsSome (sym there) refl) in omega (arith, low, few)

  pub added_one : AreAddedMethods (home_of also) file.methods (method ∷ [])
  added_one = record {
    fits = (subst FitsAttrs (sym is.attrs) (record { count = omega arith; each = (part_fits, tt) }), tt);
    numbers = (
      record {
        flags = let flags = is.flags in omega (arith, flags);
        name = small_index method.name init texts.name_is;
        desc = small_index method.desc desc texts.desc_is;
        attrs = subst (AllByRecursion AttrNumbers) (sym is.attrs) ((small_index (text_index also.pool (codes "Code")) (codes "Code") texts.code_is, part_small), tt);
      },
      tt,
    );
    parted = (subst (AllByRecursion (IsParted also.pool)) (sym is.attrs) (named, tt), tt);
    pass = λ at. both_hold (method_checks (home_of also) (map method_signature file.methods) at method) [] (holds at) tt;
  }
