-- The fields of a class are those of the classes above it and its own.
use Rattle.std.proofs.Common.{◌≡◌, ◌≢◌, ◌+◌, ◌≤◌, ◌++◌, ℕ, Bool, bytes_eq, cond, List, [], ◌∷◌, length, map, reverse, slice_get, Option, Some, None, refl, sym, ap, subst, ◌∙◌, append-nil, arith}
use Rattle.std.specs.List.{flat_map}
use Rattle.std.proofs.lemmas.Grind.{flat_map-append}
use Rattle.std.proofs.lemmas.Bool.{false_from_ne_true}
use Rattle.std.proofs.lemmas.List.{reverse-append}
use Rattle.std.proofs.lemmas.Slice.Eq.{bytes_eq-Decides}
use Rattle.class_model.specs.declared.header.Header.{Header}
use Rattle.class_model.specs.declared.header.Member.{Member}
use Rattle.class_tree.specs.Headers.{Headers, Name, class_named}
use Rattle.class_tree.specs.Hierarchy.{IsHierarchy}
use Rattle.class_tree.specs.Layouts.{instance_fields, own_fields, superclasses}
use Rattle.class_tree.specs.Laws.Headers.{super_is_there}
use Rattle.class_tree.specs.Names.{object}
use Rattle.class_tree.specs.declared.place.Place.TheVariants.{Folder}
use Rattle.expanded_code.specs.Laws.SuperChains.{superclasses_is, superclasses_of_root}
use Rattle.field_constructors.specs.Inner.FieldWords.{instance_fields_of}
use Rattle.field_constructors.specs.Laws.OwnFields.{folder_fields}
use Rattle.making_code.specs.ConstructorCode.{depth_of_call}
use Rattle.making_code.specs.FieldConstructor.{fields_above, units_of_fields}
use Rattle.constructor_methods.proofs.ConstructLaws.{units_by_descs}
use Rattle.constructor_methods.proofs.FewNeeds.{no_more_fields}
use Rattle.constructor_methods.specs.Inner.ConstructorWords.{IsHeaderOf, descs_above, units_of_desc, units_of_descs}

pub units_both : (front back : List Member) → units_of_fields (front ++ back) ≡ units_of_fields front + units_of_fields back
units_both [] back = omega arith
units_both (field ∷ front) back =
    let rest = units_both front back in
    let one : units_of_desc field.desc + units_of_fields (front ++ back) ≡ units_of_desc field.desc + (units_of_fields front + units_of_fields back) =
    ap (λ (n : ℕ). units_of_desc field.desc + n) rest in
    one ∙ omega arith

module _ (headers : Headers) (hierarchy : IsHierarchy headers) where
  pub fields_split : (name : Name) (header : Header) → class_named headers name ≡ Some header
      → instance_fields headers name ≡ fields_above headers header.super_name ++ own_fields headers name
  fields_split name header is = by header.super_name refl where
    by : (super : Option Name) → header.super_name ≡ super → instance_fields headers name ≡ fields_above headers super ++ own_fields headers name
    by None none =
        ap (λ (names : List Name). flat_map (own_fields headers) (reverse names)) (superclasses_of_root headers hierarchy name header is none)
        ∙ append-nil (own_fields headers name)
    by (Some above) some =
        ap (λ (names : List Name). flat_map (own_fields headers) (reverse names)) (superclasses_is headers hierarchy name header is above some)
        ∙ ap (flat_map (own_fields headers)) (reverse-append (name ∷ []) (superclasses headers above))
        ∙ flat_map-append (own_fields headers) (reverse (superclasses headers above)) (name ∷ [])
        ∙ ap (λ (fields : List Member). flat_map (own_fields headers) (reverse (superclasses headers above)) ++ fields) (append-nil (own_fields headers name))

  pub header_of_class : (number : ℕ) (header : Header) → slice_get headers.folder number ≡ Some header → IsHeaderOf headers header
  header_of_class number header is =
      let stands = hierarchy.of_place (Folder number) header is in
      let own_is = folder_fields headers header.name number header stands.is_place is in
      record {
        own = own_is;
        super_is = (let found = stands.found in rw found refl);
        all =
            fields_split header.name header stands.found
            ∙ ap (λ (fields : List Member). fields_above headers header.super_name ++ fields) own_is;
        there = λ super some. super_is_there headers header super (hierarchy.above header.name header stands.found) some;
      }

  pub few_split : (number : ℕ) (header : Header) → slice_get headers.folder number ≡ Some header
      → units_of_fields (instance_fields headers header.name) ≤ 64
      → units_of_descs (descs_above headers header) + units_of_fields (instance_fields_of header) ≤ 64
  few_split number header is few =
      let found = header_of_class number header is in
      let split = ap units_of_fields found.all in
      let both = units_both (fields_above headers header.super_name) (instance_fields_of header) in
      let above = units_by_descs (fields_above headers header.super_name) in
      omega (arith, few, split, both, above)

  pub own_few : (number : ℕ) (header : Header) → slice_get headers.folder number ≡ Some header
      → units_of_fields (instance_fields headers header.name) ≤ 64
      → length (own_fields headers header.name) ≤ 64
  own_few number header is few =
      let both = few_split number header is few in
      let own = no_more_fields (instance_fields_of header) in
      subst (λ (fields : List Member). length fields ≤ 64) (sym (header_of_class number header is).own) (omega (arith, both, own))

-- the depth of the call of a superclass that is not java/lang/Object
pub depth_above : (headers : Headers) (header : Header) (class : Name) (units : ℕ) → header.super_name ≡ Some class → class ≢ object
    → units ≡ units_of_descs (descs_above headers header)
    → units + 2 ≡ depth_of_call headers header.super_name
depth_above headers header class units is apart same =
    let step : depth_of_call headers header.super_name ≡ 1 + units_of_fields (instance_fields headers class) + 1 =
    ap (depth_of_call headers) is
    ∙ ap (λ (test : Bool). cond test 1 (1 + units_of_fields (instance_fields headers class) + 1))
    (false_from_ne_true (bytes_eq class object) (λ equal. apart ((bytes_eq-Decides class object).0 equal))) in
    let above : units_of_descs (descs_above headers header) ≡ units_of_fields (instance_fields headers class) =
    ap (λ (super : Option Name). units_of_descs (map (λ field. field.desc) (fields_above headers super))) is ∙ sym (units_by_descs (instance_fields headers class)) in
    omega (arith, step, above, same)
