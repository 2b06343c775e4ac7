-- A field constructor needs few constants, of one entry each: at most 9 and 6 for each field of its class.
use Rattle.std.proofs.Common.{◌≡◌, ◌+◌, ◌*◌, ◌++◌, ◌≤◌, ℕ, suc, Bool, true, false, List, [], ◌∷◌, bytes_eq, codes, cond, length, map, Option, Some, None, refl, ap, ◌∙◌, arith}
use Rattle.std.specs.List.{AllByRecursion, flat_map}
use Rattle.std.proofs.lemmas.Grind.{flat_map-append}
use Rattle.std.proofs.lemmas.List.{length-append}
use Rattle.class_model.specs.Descriptors.{kind_of, type_of, units_of}
use Rattle.class_model.specs.Names.{init}
use Rattle.class_model.specs.declared.descriptor.Kind.{Kind}
use Rattle.class_model.specs.declared.descriptor.Kind.TheVariants as kinds
use Rattle.class_model.specs.declared.header.Member.{Member}
use Rattle.class_model.specs.declared.instr.Imm.TheVariants as imms
use Rattle.class_model.specs.declared.instr.Instr.TheVariants.{Const as Push, Load, Return}
use Rattle.class_tree.specs.Headers.{Headers, Name}
use Rattle.class_tree.specs.Layouts.{instance_fields, own_fields}
use Rattle.class_tree.specs.Names.{object}
use Rattle.making_code.specs.Constants.{Need, needs_text}
use Rattle.making_code.specs.FieldConstructor.{CInstr, call_above, calls_constructor, calls_object, constructor_items, constructor_method_needs, fields_above, item_needs, loads_from, puts_field, puts_from, simple, superclass_of, units_of_fields}
use Rattle.constructor_methods.proofs.ConstructLaws.{IsNarrowNeed, few_fit, loads_by_descs, loads_need_none}
use Rattle.materialise.specs.Growing.{IsFull}
use Rattle.constructor_methods.specs.Inner.ConstructorWords.{units_of_desc}
use Rattle.flow_code.specs.declared.reason.Reason.{Reason}
use Rattle.pool_edit.specs.Edits.{Edit, grown}

narrow_both : (front back : List Need) → AllByRecursion IsNarrowNeed front → AllByRecursion IsNarrowNeed back → AllByRecursion IsNarrowNeed (front ++ back)
narrow_both [] back one other = other
narrow_both (need ∷ front) back one other = (one.0, narrow_both front back one.1 other)

module _ (constructor : Name → List ℕ) where
  item_narrow : (item : CInstr) → AllByRecursion IsNarrowNeed (item_needs constructor item)
  item_narrow (simple instr) = tt
  item_narrow calls_object =
      ((λ pool. refl), ((λ pool. refl), ((λ pool. refl), ((λ pool. refl), ((λ pool. refl), ((λ pool. refl), tt))))))
  item_narrow (calls_constructor class) =
      ((λ pool. refl), ((λ pool. refl), ((λ pool. refl), ((λ pool. refl), ((λ pool. refl), ((λ pool. refl), tt))))))
  item_narrow (puts_field class name desc) =
      ((λ pool. refl), ((λ pool. refl), ((λ pool. refl), ((λ pool. refl), ((λ pool. refl), ((λ pool. refl), tt))))))

  items_narrow : (items : List CInstr) → AllByRecursion IsNarrowNeed (flat_map (item_needs constructor) items)
  items_narrow [] = tt
  items_narrow (item ∷ items) =
      narrow_both (item_needs constructor item) (flat_map (item_needs constructor) items) (item_narrow item) (items_narrow items)

  all_narrow : (headers : Headers) (class : Name) → AllByRecursion IsNarrowNeed (constructor_method_needs headers constructor class)
  all_narrow headers class =
      narrow_both (needs_text init ++ needs_text (constructor class) ++ needs_text (codes "Code")) (flat_map (item_needs constructor) (constructor_items headers class))
      ((λ pool. refl), ((λ pool. refl), ((λ pool. refl), tt))) (items_narrow (constructor_items headers class))

  abbrev count : List CInstr → ℕ
  count items = length (flat_map (item_needs constructor) items)

  count_both : (front back : List CInstr) → count (front ++ back) ≡ count front + count back
  count_both front back =
      ap (λ (needs : List Need). length needs) (flat_map-append (item_needs constructor) front back)
      ∙ length-append (flat_map (item_needs constructor) front) (flat_map (item_needs constructor) back)

  count_loads : (unit : ℕ) (fields : List Member) → count (loads_from unit fields) ≡ 0
  count_loads unit fields =
      ap count (loads_by_descs unit fields) ∙ ap (λ (needs : List Need). length needs) (loads_need_none constructor unit (map (λ field. field.desc) fields))

  count_puts : (class : Name) (unit : ℕ) (fields : List Member) → count (puts_from class unit fields) ≡ 6 * length fields
  count_puts class unit [] = omega arith
  count_puts class unit (field ∷ fields) =
      let rest = count_puts class (unit + units_of_desc field.desc) fields in
      omega (arith, rest)

  count_call : (headers : Headers) (super : Option Name) → count (call_above headers super) ≤ 6
  count_call headers None = omega arith
  count_call headers (Some super) = by (bytes_eq super object) where
    by : (test : Bool) → count (cond test (simple (Load kinds.Ref 0) ∷ calls_object ∷ [])
        (((simple (Load kinds.Ref 0) ∷ []) ++ loads_from 1 (instance_fields headers super)) ++ (simple (Push imms.Null) ∷ calls_constructor super ∷ []))) ≤ 6
    by true = omega arith
    by false =
        let both = count_both ((simple (Load kinds.Ref 0) ∷ []) ++ loads_from 1 (instance_fields headers super)) (simple (Push imms.Null) ∷ calls_constructor super ∷ []) in
        let loads : count ((simple (Load kinds.Ref 0) ∷ []) ++ loads_from 1 (instance_fields headers super)) ≡ 0 = count_loads 1 (instance_fields headers super) in
        let call : count (simple (Push imms.Null) ∷ calls_constructor super ∷ []) ≡ 6 = refl in
        omega (arith, both, loads, call)

  count_all : (headers : Headers) (class : Name)
      → length (constructor_method_needs headers constructor class) ≤ 9 + 6 * length (own_fields headers class)
  count_all headers class =
      let call = call_above headers (superclass_of headers class) in
      let puts = puts_from class (1 + units_of_fields (fields_above headers (superclass_of headers class))) (own_fields headers class) in
      let whole = length-append (needs_text init ++ needs_text (constructor class) ++ needs_text (codes "Code")) (flat_map (item_needs constructor) (constructor_items headers class)) in
      let outer = count_both (call ++ puts) (simple (Return None) ∷ []) in
      let inner = count_both call puts in
      let one = count_call headers (superclass_of headers class) in
      let two = count_puts class (1 + units_of_fields (fields_above headers (superclass_of headers class))) (own_fields headers class) in
      let head : length (needs_text init ++ needs_text (constructor class) ++ needs_text (codes "Code")) ≡ 3 = refl in
      let last : count (simple (Return None) ∷ []) ≡ 0 = refl in
      omega (arith, whole, outer, inner, one, two, head, last)

  pub not_full : (headers : Headers) (class : Name) (edit : Edit) (reason : Reason)
      → length (own_fields headers class) ≤ 64
      → length (grown edit) + 1000 ≤ edit.limit
      → ¬ IsFull edit (constructor_method_needs headers constructor class) reason
  not_full headers class edit reason few room full =
      let most = count_all headers class in
      few_fit edit.limit (constructor_method_needs headers constructor class) (grown edit) (all_narrow headers class) (omega (arith, few, room, most)) full.past

-- a field takes a unit at least
units_some : (kind : Kind) → 1 ≤ units_of kind
units_some kinds.Int = omega arith
units_some kinds.Long = omega arith
units_some kinds.Float = omega arith
units_some kinds.Double = omega arith
units_some kinds.Ref = omega arith

pub no_more_fields : (fields : List Member) → length fields ≤ units_of_fields fields
no_more_fields [] = omega arith
no_more_fields (field ∷ fields) =
    let one = units_some (kind_of (type_of field.desc)) in let rest = no_more_fields fields in omega (arith, one, rest)

-- ---- few instructions

loads_many : (unit : ℕ) (fields : List Member) → length (loads_from unit fields) ≡ length fields
loads_many unit [] = refl
loads_many unit (field ∷ fields) = ap (λ (n : ℕ). suc n) (loads_many (unit + units_of_desc field.desc) fields)

puts_many : (class : Name) (unit : ℕ) (fields : List Member) → length (puts_from class unit fields) ≡ 3 * length fields
puts_many class unit [] = omega arith
puts_many class unit (field ∷ fields) =
    let rest = puts_many class (unit + units_of_desc field.desc) fields in omega (arith, rest)

call_many : (headers : Headers) (super : Option Name) → length (call_above headers super) ≤ 3 + length (fields_above headers super)
call_many headers None = omega arith
call_many headers (Some super) = by (bytes_eq super object) where
  by : (test : Bool) → length (cond test (simple (Load kinds.Ref 0) ∷ calls_object ∷ [])
      (((simple (Load kinds.Ref 0) ∷ []) ++ loads_from 1 (instance_fields headers super)) ++ (simple (Push imms.Null) ∷ calls_constructor super ∷ [])))
      ≤ 3 + length (instance_fields headers super)
  by true = omega arith
  by false =
      let both = length-append ((simple (Load kinds.Ref 0) ∷ []) ++ loads_from 1 (instance_fields headers super)) (simple (Push imms.Null) ∷ calls_constructor super ∷ []) in
      let loads = loads_many 1 (instance_fields headers super) in
      omega (arith, both, loads)

pub items_few : (headers : Headers) (class : Name)
    → length (fields_above headers (superclass_of headers class)) ≤ 64
    → length (own_fields headers class) ≤ 64
    → length (constructor_items headers class) ≤ 1000
items_few headers class above own =
    let call = call_above headers (superclass_of headers class) in
    let puts = puts_from class (1 + units_of_fields (fields_above headers (superclass_of headers class))) (own_fields headers class) in
    let outer = length-append (call ++ puts) (simple (Return None) ∷ []) in
    let inner = length-append call puts in
    let one = call_many headers (superclass_of headers class) in
    let two = puts_many class (1 + units_of_fields (fields_above headers (superclass_of headers class))) (own_fields headers class) in
    omega (arith, above, own, outer, inner, one, two)
