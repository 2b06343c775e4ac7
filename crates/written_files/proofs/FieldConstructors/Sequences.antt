-- The loads and stores of a field constructor, and its call of the constructor above, by the fields.
use Rattle.std.proofs.Common.{◌≡◌, ◌++◌, ◌+◌, ◌≤◌, ◌∙◌, ℕ, suc, List, [], ◌∷◌, length, map, slice_get, Some, refl, sym, ap, subst, arith, append-nil, append_assoc, length-append}
use Rattle.std.specs.List.{AllByRecursion, flat_map}
use Rattle.std.proofs.Math.Nat.{le-max_left, le-max_right}
use Rattle.std.proofs.lemmas.Grind.{flat_map-append}
use Rattle.class_model.specs.Code.{verification_type}
use Rattle.class_model.specs.Descriptors.{kind_of, type_of, units_of}
use Rattle.class_model.specs.Frames.{depth, units}
use Rattle.class_model.specs.Pool.{Constants}
use Rattle.class_model.specs.declared.descriptor.FieldType.{FieldType}
use Rattle.class_model.specs.declared.descriptor.FieldType.TheVariants.{Byte, Char, Short, Bool, Int, Long, Float, Double, Named}
use Rattle.class_model.specs.declared.descriptor.Kind.TheVariants as kinds
use Rattle.class_model.specs.declared.frame.VType.{VType}
use Rattle.class_model.specs.declared.frame.VType.TheVariants as types
use Rattle.class_model.specs.declared.header.Member.{Member}
use Rattle.class_tree.specs.Headers.{Name}
use Rattle.making_code.specs.Constants.{index_in, needs_member, of_field}
use Rattle.making_code.specs.ConstructorCode.{greatest_units, indexed_instr}
use Rattle.making_code.specs.FieldConstructor.{loads_from, puts_field, puts_from, units_of_fields}
use Rattle.member_link.specs.Assignability.{from_null, to_same}
use Rattle.member_link.specs.RowScope.{RowScope}
use Rattle.member_link.specs.Rows.MemberRows.{NoUninitThis}
use Rattle.member_link.specs.Rows.Operands.{AllFit, IsOfKind, assignable_to}
use Rattle.written_files.proofs.FieldConstructors.Constants.{Names, refers_by}
use Rattle.written_files.proofs.FieldConstructors.Steps.{Step, Steps, framed, load_step, put_step}

-- ---- the types of fields

-- the types that fields have on the stack
abbrev pub entries : List Member → List VType
entries fields = map verification_type (map (λ field. type_of field.desc) fields)

abbrev pub entry_type : Member → VType
entry_type field = verification_type (type_of field.desc)

units_long : (type : FieldType) → length (units (verification_type type)) ≡ units_of (kind_of type)
units_long Byte = refl
units_long Char = refl
units_long Short = refl
units_long Bool = refl
units_long Int = refl
units_long Long = refl
units_long Float = refl
units_long Double = refl
units_long (Named name) = refl

kind_fits : (type : FieldType) → IsOfKind (kind_of type) (verification_type type)
kind_fits Byte = refl
kind_fits Char = refl
kind_fits Short = refl
kind_fits Bool = refl
kind_fits Int = refl
kind_fits Long = refl
kind_fits Float = refl
kind_fits Double = refl
kind_fits (Named name) = tt

first_unit : (type : FieldType) (more rest : List VType)
    → slice_get ((units (verification_type type) ++ more) ++ rest) 0 ≡ Some (verification_type type)
first_unit Byte more rest = refl
first_unit Char more rest = refl
first_unit Short more rest = refl
first_unit Bool more rest = refl
first_unit Int more rest = refl
first_unit Long more rest = refl
first_unit Float more rest = refl
first_unit Double more rest = refl
first_unit (Named name) more rest = refl

behind : {X : Type 0} (front back rest : List X) (n : ℕ) → slice_get ((front ++ back) ++ rest) (length front + n) ≡ slice_get (back ++ rest) n
behind [] back rest n = let none : 0 + n ≡ n = omega arith in ap (slice_get (back ++ rest)) none
behind (x ∷ front) back rest n =
    let one : suc (length front) + n ≡ suc (length front + n) = omega arith in
    ap (slice_get (x ∷ ((front ++ back) ++ rest))) one ∙ behind front back rest n

-- a field's type stands behind the units of those before it
pub unit_there : (front back : List Member) (field : Member) (rest : List VType)
    → slice_get (flat_map units (entries (front ++ field ∷ back)) ++ rest) (units_of_fields front) ≡ Some (entry_type field)
unit_there [] back field rest = first_unit (type_of field.desc) (flat_map units (entries back)) rest
unit_there (first ∷ front) back field rest =
    let here = units (entry_type first) in
    let more = flat_map units (entries (front ++ field ∷ back)) in
    ap (λ (n : ℕ). slice_get ((here ++ more) ++ rest) (n + units_of_fields front)) (sym (units_long (type_of first.desc)))
    ∙ behind here more rest (units_of_fields front)
    ∙ unit_there front back field rest

-- ---- depths

depth_both : (one other : List VType) → depth (one ++ other) ≡ depth one + depth other
depth_both one other =
    ap (λ (all : List VType). length all) (flat_map-append units one other) ∙ length-append (flat_map units one) (flat_map units other)

pub entries_deep : (fields : List Member) → depth (entries fields) ≡ units_of_fields fields
entries_deep [] = refl
entries_deep (field ∷ fields) =
    length-append (units (entry_type field)) (flat_map units (entries fields))
    ∙ ap (λ (n : ℕ). n + depth (entries fields)) (units_long (type_of field.desc))
    ∙ ap (λ (n : ℕ). units_of (kind_of (type_of field.desc)) + n) (entries_deep fields)

pub fields_both : (one other : List Member) → units_of_fields (one ++ other) ≡ units_of_fields one + units_of_fields other
fields_both [] other = omega arith
fields_both (field ∷ one) other = let rest = fields_both one other in omega (arith, rest)

-- ---- no uninitialised this

no_this_units : (type : FieldType) (rest : List VType) → NoUninitThis rest → NoUninitThis (units (verification_type type) ++ rest)
no_this_units Byte rest none = (λ e. absurd cc, none)
no_this_units Char rest none = (λ e. absurd cc, none)
no_this_units Short rest none = (λ e. absurd cc, none)
no_this_units Bool rest none = (λ e. absurd cc, none)
no_this_units Int rest none = (λ e. absurd cc, none)
no_this_units Long rest none = (λ e. absurd cc, (λ e. absurd cc, none))
no_this_units Float rest none = (λ e. absurd cc, none)
no_this_units Double rest none = (λ e. absurd cc, (λ e. absurd cc, none))
no_this_units (Named name) rest none = (λ e. absurd cc, none)

pub no_this : (fields : List Member) (rest : List VType) → NoUninitThis rest → NoUninitThis (flat_map units (entries fields) ++ rest)
no_this [] rest none = none
no_this (field ∷ fields) rest none =
    subst NoUninitThis (sym (append_assoc (units (entry_type field)) (flat_map units (entries fields)) rest))
    (no_this_units (type_of field.desc) (flat_map units (entries fields) ++ rest) (no_this fields rest none))

-- ---- arguments

module _ (t : RowScope) where
  null_fits : (last : FieldType) → kind_of last ≡ kinds.Ref → AllFit t (assignable_to (verification_type last) ∷ []) (types.Null ∷ [])
  null_fits (Named name) is = (from_null name, tt)
  null_fits Byte is = absurd cc
  null_fits Char is = absurd cc
  null_fits Short is = absurd cc
  null_fits Bool is = absurd cc
  null_fits Int is = absurd cc
  null_fits Long is = absurd cc
  null_fits Float is = absurd cc
  null_fits Double is = absurd cc

  pub arguments_fit : (all : List FieldType) (last : FieldType) → kind_of last ≡ kinds.Ref
      → AllFit t (map (λ param. assignable_to (verification_type param)) (all ++ last ∷ [])) (map verification_type all ++ types.Null ∷ [])
  arguments_fit [] last is = null_fits last is
  arguments_fit (type ∷ all) last is = (to_same (verification_type type), arguments_fit all last is)

  -- ---- fields in local units

  module _ (pool : Constants) (constructor : Name → List ℕ) (fields : List Member) (this last : VType) where
    -- this, the fields, and one more
    abbrev pub held : List VType
    held = this ∷ (flat_map units (entries fields) ++ last ∷ [])

    field_there : (front back : List Member) (field : Member) (unit : ℕ) → fields ≡ front ++ field ∷ back → unit ≡ 1 + units_of_fields front
        → slice_get held unit ≡ Some (entry_type field)
    field_there front back field unit are is =
        let number : unit ≡ suc (units_of_fields front) = omega (arith, is) in
        ap (slice_get held) number
        ∙ ap (λ (all : List Member). slice_get (flat_map units (entries all) ++ last ∷ []) (units_of_fields front)) are
        ∙ unit_there front back field (last ∷ [])

    one_more : (front mid : List Member) (field : Member) → front ++ field ∷ mid ≡ (front ++ field ∷ []) ++ mid
    one_more front mid field = sym (append_assoc front (field ∷ []) mid)

    next_unit : (front : List Member) (field : Member) (unit : ℕ) → unit ≡ 1 + units_of_fields front
        → unit + units_of (kind_of (type_of field.desc)) ≡ 1 + units_of_fields (front ++ field ∷ [])
    next_unit front field unit is = let both = fields_both front (field ∷ []) in omega (arith, is, both)

    pub loads_steps : (front mid back : List Member) (stack : List VType) (unit : ℕ) → fields ≡ front ++ (mid ++ back)
        → unit ≡ 1 + units_of_fields front
        → depth (stack ++ entries mid) ≤ t.max_stack
        → Steps t (map (indexed_instr pool constructor) (loads_from unit mid)) (framed held stack) (framed held (stack ++ entries mid))
    loads_steps front [] back stack unit are is deep = ap (framed held) (sym (append-nil stack))
    loads_steps front (field ∷ mid) back stack unit are is deep =
        let joined : (stack ++ entry_type field ∷ []) ++ entries mid ≡ stack ++ entries (field ∷ mid) =
        append_assoc stack (entry_type field ∷ []) (entries mid) in
        let all_deep : depth ((stack ++ entry_type field ∷ []) ++ entries mid) ≤ t.max_stack =
        subst (λ (all : List VType). depth all ≤ t.max_stack) (sym joined) deep in
        let both = depth_both (stack ++ entry_type field ∷ []) (entries mid) in (
          framed held (stack ++ entry_type field ∷ []),
          load_step t (kind_of (type_of field.desc)) unit held stack (entry_type field) (field_there front (mid ++ back) field unit are is)
              (kind_fits (type_of field.desc)) (omega (arith, all_deep, both)),
          subst (λ (all : List VType). Steps t (map (indexed_instr pool constructor) (loads_from (unit + units_of (kind_of (type_of field.desc))) mid))
              (framed held (stack ++ entry_type field ∷ [])) (framed held all)) joined
              (loads_steps (front ++ field ∷ []) mid back (stack ++ entry_type field ∷ []) (unit + units_of (kind_of (type_of field.desc)))
              (are ∙ one_more front (mid ++ back) field) (next_unit front field unit is) all_deep),
        )

    pair_deep : (name : Name) (type : FieldType) → depth (types.Object name ∷ verification_type type ∷ []) ≡ 1 + units_of (kind_of type)
    pair_deep name Byte = refl
    pair_deep name Char = refl
    pair_deep name Short = refl
    pair_deep name Bool = refl
    pair_deep name Int = refl
    pair_deep name Long = refl
    pair_deep name Float = refl
    pair_deep name Double = refl
    pair_deep name (Named other) = refl

    pub puts_steps : this ≡ types.Object t.own.name
        → (front mid : List Member) (unit : ℕ)
        → fields ≡ front ++ mid
        → unit ≡ 1 + units_of_fields front
        → 1 + greatest_units mid ≤ t.max_stack
        → AllByRecursion (Names constructor pool t.pool) (puts_from t.own.name unit mid)
        → Steps t (map (indexed_instr pool constructor) (puts_from t.own.name unit mid)) (framed held []) (framed held [])
    puts_steps own front [] unit are is deep names = refl
    puts_steps own front (field ∷ mid) unit are is deep names =
        let width = units_of (kind_of (type_of field.desc)) in
        let here = le-max_left width (greatest_units mid) in
        let later = le-max_right width (greatest_units mid) in
        let two = pair_deep t.own.name (type_of field.desc) in
        let both : List VType = this ∷ entry_type field ∷ [] in
        let two_here : depth both ≡ 1 + width = ap (λ (type : VType). depth (type ∷ entry_type field ∷ [])) own ∙ two in
        let one_here : depth (this ∷ []) ≡ 1 = ap (λ (type : VType). depth (type ∷ [])) own in (
          framed held (this ∷ []),
          load_step t kinds.Ref 0 held [] this refl (subst (IsOfKind kinds.Ref) (sym own) tt) (omega (arith, deep, one_here)),
          (
            framed held both,
            load_step t (kind_of (type_of field.desc)) unit held (this ∷ []) (entry_type field) (field_there front mid field unit are is)
                (kind_fits (type_of field.desc)) (omega (arith, two_here, here, deep)),
            (
              framed held [],
              subst (λ (type : VType). Step t (indexed_instr pool constructor (puts_field t.own.name field.name field.desc))
                  (framed held (type ∷ entry_type field ∷ [])) (framed held [])) (sym own)
                  (put_step t (index_in pool (needs_member of_field t.own.name field.name field.desc)) field.name field.desc
                  (refers_by t.pool (index_in pool (needs_member of_field t.own.name field.name field.desc)) of_field t.own.name field.name field.desc names.1.1.0) held),
              puts_steps own (front ++ field ∷ []) mid (unit + width) (are ∙ one_more front mid field) (next_unit front field unit is)
                  (omega (arith, later, deep)) names.1.1.1,
            ),
          ),
        )
