-- A new of a candidate site: the units of its fields are set to zero and null.
use Rattle.std.proofs.Common.{◌≡◌, ◌≢◌, ◌+◌, ℕ, zero, suc, List, [], ◌∷◌, ◌++◌, length, map, pos, replicate, slice_get, take, Option, Some, refl, sym, ap, subst, ◌∙◌, arith}
use Rattle.std.specs.List.{AllByRecursion, flat_map}
use Rattle.std.proofs.lemmas.List.{append-nil, append_assoc, length-append, length-replicate}
use Rattle.std.proofs.lemmas.List.Sums.{sum_by-cons}
use Rattle.class_model.specs.Descriptors.{kind_of, parameter_units, units_of}
use Rattle.class_model.specs.Frames.{units}
use Rattle.class_model.specs.declared.descriptor.FieldType.{FieldType}
use Rattle.class_model.specs.declared.descriptor.Kind.{Kind}
use Rattle.class_model.specs.declared.descriptor.Kind.TheVariants as kinds
use Rattle.class_model.specs.declared.frame.Frame.{Frame}
use Rattle.class_model.specs.declared.frame.VType.{VType}
use Rattle.class_model.specs.declared.frame.VType.TheVariants as types
use Rattle.class_model.specs.declared.instr.Imm.{Imm}
use Rattle.class_model.specs.declared.instr.Imm.TheVariants as imms
use Rattle.class_model.specs.declared.instr.Instr.{Instr}
use Rattle.class_model.specs.declared.instr.Instr.TheVariants.{Const}
use Rattle.class_tree.specs.Headers.{Headers}
use Rattle.flow_code.specs.FlatCode.{FlatCode}
use Rattle.flow_code.specs.WrittenUnits.{field_units, greatest_depth}
use Rattle.flow_code.specs.declared.point.Site.{Site}
use Rattle.making_code.specs.Items.{WItem, item, plain, store}
use Rattle.making_code.specs.StateFrames.{field_types as types_of_fields, site_types_from}
use Rattle.making_code.specs.Units.{field_unit, unit_number}
use Rattle.member_link.specs.Rows.FrameAssignability.{AreAssignable}
use Rattle.member_link.specs.Rows.LocalRows.{stored, type_of_imm}
use Rattle.plan_flow.specs.Written.Templates.{cleared_fields, zero_of}
use Rattle.virtual_state.specs.States.{is_present}
use Rattle.virtual_state.specs.declared.slot.VObject.{VObject}
use Rattle.written_types.proofs.FieldFits.{NotThis, assigned_long}
use Rattle.written_types.proofs.FieldPlaces.{FieldPlace, IsValue, field_unit_is}
use Rattle.written_types.proofs.FieldStores.{StoredParts, UnitParts, parts_room, stored_parts}
use Rattle.written_types.proofs.FieldUnits.{EndsNarrow, bare, fields_long, fields_narrow, narrow_both, site_narrow_of, units_for, units_long}
use Rattle.written_types.proofs.ItemSteps.{const_carries, frame_of, store_carries}
use Rattle.written_types.proofs.SlotFrames.{take_front, units_behind}
use Rattle.written_types.proofs.StoredUnits.{Suits, stored_all}
use Rattle.written_types.proofs.UnitTemplates.{assigned_both, site_units_long}
use Rattle.written_types.specs.Inner.CarriedFrames.{Carries, carries_none}
use Rattle.written_types.specs.Writing.{Writing, scope_in}

-- ---- field units of two states that differ in one site

pub record UnitsBeside (all also middle other : List VType) (place : ℕ) : Type 0 where
  pub left : List VType
  pub right : List VType
  pub is : all ≡ left ++ (middle ++ right)
  pub also_is : also ≡ left ++ (other ++ right)
  pub long : length left ≡ place
  pub narrow : EndsNarrow left

later_alike : (ones others : List VObject) (from : ℕ) (sites : List Site)
    → ((more : ℕ) → is_present ones (from + more) ≡ is_present others (from + more))
    → site_types_from (bare ones) from sites ≡ site_types_from (bare others) from sites
later_alike ones others from [] same = refl
later_alike ones others from (site ∷ sites) same =
    (λ i. types_of_fields (here i) site.fields ++ later_alike ones others (suc from) sites rest i) where
      here : is_present ones from ≡ is_present others from
      here = let zeroth : from + 0 ≡ from = omega arith in subst (λ (n : ℕ). is_present ones n ≡ is_present others n) zeroth (same 0)

      rest : (more : ℕ) → is_present ones (suc from + more) ≡ is_present others (suc from + more)
      rest more =
          let next : from + suc more ≡ suc from + more = omega arith in
          subst (λ (n : ℕ). is_present ones n ≡ is_present others n) next (same (suc more))

sites_beside : (ones others : List VObject) (from : ℕ) (sites : List Site) (number : ℕ) (site : Site)
    → slice_get sites number ≡ Some site
    → ((n : ℕ) → n ≢ from + number → is_present ones n ≡ is_present others n)
    → UnitsBeside (site_types_from (bare ones) from sites) (site_types_from (bare others) from sites)
    (types_of_fields (is_present ones (from + number)) site.fields) (types_of_fields (is_present others (from + number)) site.fields)
    (field_units (take number sites))
sites_beside ones others from [] number site is same = absurd cc
sites_beside ones others from (first ∷ sites) zero site is same =
    let here : from ≡ from + 0 = omega arith in
    let site_is : first ≡ site = cc in
    record {
      left = [];
      right = site_types_from (bare others) (suc from) sites;
      is =
          (λ i. types_of_fields (is_present ones (here i)) (site_is i).fields ++ later_alike ones others (suc from) sites
          (λ more. same (suc from + more) (λ other. omega (arith, other))) i);
      also_is = (λ i. types_of_fields (is_present others (here i)) (site_is i).fields ++ site_types_from (bare others) (suc from) sites);
      long = refl;
      narrow = tt;
    }
sites_beside ones others from (first ∷ sites) (suc number) site is same =
    let next : suc from + number ≡ from + suc number = omega arith in
    let rest = sites_beside ones others (suc from) sites number site is (λ n other. same n (λ is_n. other (omega (arith, is_n)))) in
    let here : is_present ones from ≡ is_present others from = same from (λ other. omega (arith, other)) in
    let first_types = types_of_fields (is_present others from) first.fields in
    record {
      left = first_types ++ rest.left;
      right = rest.right;
      is =
          (λ i. types_of_fields (here i) first.fields
          ++ (rest.is ∙ ap (λ (n : ℕ). rest.left ++ (types_of_fields (is_present ones n) site.fields ++ rest.right)) next) i)
          ∙ sym (append_assoc first_types rest.left (types_of_fields (is_present ones (from + suc number)) site.fields ++ rest.right));
      also_is =
          ap (λ (all : List VType). first_types ++ all)
          (rest.also_is ∙ ap (λ (n : ℕ). rest.left ++ (types_of_fields (is_present others n) site.fields ++ rest.right)) next)
          ∙ sym (append_assoc first_types rest.left (types_of_fields (is_present others (from + suc number)) site.fields ++ rest.right));
      long =
          length-append first_types rest.left
          ∙ (λ i. site_units_long (is_present others from) first.fields i + rest.long i);
      narrow = narrow_both first_types rest.left (site_narrow_of (is_present others from) first.fields) rest.narrow;
    }

pub units_beside : (flat : FlatCode) (ones others : List VObject) (number : ℕ) (site : Site)
    → slice_get flat.sites number ≡ Some site
    → ((n : ℕ) → n ≢ number → is_present ones n ≡ is_present others n)
    → UnitsBeside (units_behind flat ones) (units_behind flat others) (types_of_fields (is_present ones number) site.fields)
    (types_of_fields (is_present others number) site.fields) (field_units (take number flat.sites))
units_beside flat ones others number site is same =
    let zeroth : 0 + number ≡ number = omega arith in
    let here = sites_beside ones others 0 flat.sites number site is (λ n other. same n (λ is_n. other (omega (arith, is_n)))) in
    let objects : List VType = replicate (length flat.sites) types.Top in
    let scratch : List VType = replicate (greatest_depth flat.points) types.Top in
    record {
      left = here.left;
      right = here.right ++ (objects ++ scratch);
      is =
          append_assoc (site_types_from (bare ones) 0 flat.sites) objects scratch
          ∙ ap (λ (all : List VType). all ++ (objects ++ scratch))
          (here.is ∙ ap (λ (n : ℕ). here.left ++ (types_of_fields (is_present ones n) site.fields ++ here.right)) zeroth)
          ∙ append_assoc here.left (types_of_fields (is_present ones number) site.fields ++ here.right) (objects ++ scratch)
          ∙ ap (λ (rest : List VType). here.left ++ rest)
          (append_assoc (types_of_fields (is_present ones number) site.fields) here.right (objects ++ scratch));
      also_is =
          append_assoc (site_types_from (bare others) 0 flat.sites) objects scratch
          ∙ ap (λ (all : List VType). all ++ (objects ++ scratch))
          (here.also_is ∙ ap (λ (n : ℕ). here.left ++ (types_of_fields (is_present others n) site.fields ++ here.right)) zeroth)
          ∙ append_assoc here.left (types_of_fields (is_present others number) site.fields ++ here.right) (objects ++ scratch)
          ∙ ap (λ (rest : List VType). here.left ++ rest)
          (append_assoc (types_of_fields (is_present others number) site.fields) here.right (objects ++ scratch));
      long = here.long;
      narrow = here.narrow;
    }

-- ---- constants

abbrev pub zero_imm : Kind → Imm
zero_imm kinds.Int = imms.Int (pos 0)
zero_imm kinds.Long = imms.Long (pos 0)
zero_imm kinds.Float = imms.Float 0
zero_imm kinds.Double = imms.Double 0
zero_imm kinds.Ref = imms.Null

zero_is : (kind : Kind) → zero_of kind ≡ Const (zero_imm kind)
zero_is kinds.Int = refl
zero_is kinds.Long = refl
zero_is kinds.Float = refl
zero_is kinds.Double = refl
zero_is kinds.Ref = refl

-- ---- lists that may stand for two others

record AssignedSplit (headers : Headers) (ones left right : List VType) : Type 0 where
  low : List VType
  top : List VType
  is : ones ≡ low ++ top
  low_assigned : AreAssignable headers low left
  top_assigned : AreAssignable headers top right

assigned_split : (headers : Headers) (ones left right : List VType) → AreAssignable headers ones (left ++ right) → AssignedSplit headers ones left right
assigned_split headers ones [] right are = record { low = []; top = ones; is = refl; low_assigned = tt; top_assigned = are }
assigned_split headers [] (type ∷ left) right are = absurd are
assigned_split headers (one ∷ ones) (type ∷ left) right are =
    let rest = assigned_split headers ones left right are.1 in
    record {
      low = one ∷ rest.low;
      top = rest.top;
      is = ap (λ (xs : List VType). one ∷ xs) rest.is;
      low_assigned = (are.0, rest.low_assigned);
      top_assigned = rest.top_assigned;
    }

tops_both : (one other : ℕ) → replicate (one + other) types.Top ≡ replicate one types.Top ++ replicate other types.Top
tops_both zero other = let none : 0 + other ≡ other = omega arith in ap (λ (n : ℕ). replicate n types.Top) none
tops_both (suc one) other =
    let next : suc one + other ≡ suc (one + other) = omega arith in
    ap (λ (n : ℕ). replicate n types.Top) next ∙ ap (λ (rest : List VType). types.Top ∷ rest) (tops_both one other)

type_at : (done : List FieldType) (type : FieldType) (rest : List FieldType) → slice_get (done ++ (type ∷ rest)) (length done) ≡ Some type
type_at [] type rest = refl
type_at (first ∷ done) type rest = type_at done type rest

fields_more : (done : List FieldType) (type : FieldType)
    → flat_map units_for done ++ units_for type ≡ flat_map units_for (done ++ (type ∷ []))
fields_more [] type = sym (append-nil (units_for type))
fields_more (first ∷ done) type =
    append_assoc (units_for first) (flat_map units_for done) (units_for type)
    ∙ ap (λ (rest : List VType). units_for first ++ rest) (fields_more done type)

-- ---- field by field

module _ (w : Writing) (By : VType → VType) (site : ℕ) (one : Site) (there : slice_get w.s.flat.sites site ≡ Some one) (own left right : List VType)
    (starts : length own + length left ≡ w.s.flat.locals + field_units (take site w.s.flat.sites)) (own_narrow : EndsNarrow (own ++ left))
    (zero_value : (type : FieldType) → IsValue (scope_in w).headers By type (type_of_imm (zero_imm (kind_of type)))) where
  abbrev headers : Headers
  headers = (scope_in w).headers

  -- some fields are set, and these are left
  pub record Cleared (done todo : List FieldType) (locals : List VType) : Type 0 where
    pub before : List VType
    pub behind : List VType
    pub is : locals ≡ before ++ behind
    pub suits : Suits headers before own (left ++ flat_map units_for done)
    pub assigned : AreAssignable headers behind (replicate (parameter_units todo) types.Top ++ right)
    pub not_this : AllByRecursion NotThis locals

  pub record ClearedAll (number : ℕ) (items : List WItem) (locals stack : List VType) : Type 0 where
    pub behind : List VType
    pub cleared : Cleared one.fields [] behind
    pub carries : Carries w number items (frame_of locals stack) (Some (frame_of behind stack))

  module _ (done : List FieldType) (type : FieldType) (rest : List FieldType) (fields_are : one.fields ≡ done ++ (type ∷ rest)) (locals : List VType)
      (c : Cleared done (type ∷ rest) locals) where
    abbrev unit : ℕ
    unit = unit_number w.s.flat (field_unit site (length done))

    abbrev place : FieldPlace w.s site (length done) type
    place = record { one = one; there = there; is_type = ap (λ (all : List FieldType). slice_get all (length done)) fields_are ∙ type_at done type rest }

    unit_is : length own + length (left ++ flat_map units_for done) ≡ unit
    unit_is =
        let whole = field_unit_is w.s site (length done) type place in
        let taken = ap (λ (all : List FieldType). parameter_units (take (length done) all)) fields_are ∙ ap parameter_units (take_front done (type ∷ rest)) in
        let first = starts in
        let both = length-append left (flat_map units_for done) in
        let long = fields_long done in
        omega (arith, whole, taken, first, both, long)

    split : AssignedSplit headers c.behind (replicate (length (units_for type)) types.Top) (replicate (parameter_units rest) types.Top ++ right)
    split =
        assigned_split headers c.behind (replicate (length (units_for type)) types.Top) (replicate (parameter_units rest) types.Top ++ right)
        (subst (AreAssignable headers c.behind) tops_are c.assigned) where
          tops_are : replicate (parameter_units (type ∷ rest)) types.Top ++ right
              ≡ replicate (length (units_for type)) types.Top ++ (replicate (parameter_units rest) types.Top ++ right)
          tops_are =
              ap (λ (n : ℕ). replicate n types.Top ++ right)
              (sum_by-cons (λ (t : FieldType). units_of (kind_of t)) type rest ∙ ap (λ (n : ℕ). n + parameter_units rest) (sym (units_long type)))
              ∙ ap (λ (all : List VType). all ++ right) (tops_both (length (units_for type)) (parameter_units rest))
              ∙ append_assoc (replicate (length (units_for type)) types.Top) (replicate (parameter_units rest) types.Top) right

    parts : UnitParts headers locals own (left ++ flat_map units_for done) (replicate (parameter_units rest) types.Top ++ right) (length (units_for type))
    parts = record {
      before = c.before;
      middle = split.low;
      behind = split.top;
      is = c.is ∙ ap (λ (all : List VType). c.before ++ all) split.is;
      suits = c.suits;
      middle_long = assigned_long headers split.low _ split.low_assigned ∙ length-replicate (length (units_for type)) types.Top;
      behind_assigned = split.top_assigned;
    }

    abbrev zero_type : VType
    zero_type = type_of_imm (zero_imm (kind_of type))

    put : StoredParts headers (stored unit zero_type locals) own (left ++ flat_map units_for done) (replicate (parameter_units rest) types.Top ++ right) type
        zero_type
    put =
        stored_parts headers By locals own (left ++ flat_map units_for done) (replicate (parameter_units rest) types.Top ++ right) unit type zero_type parts
        (zero_value type)
        (subst EndsNarrow (append_assoc own left (flat_map units_for done))
        (narrow_both (own ++ left) (flat_map units_for done) own_narrow (fields_narrow done))) unit_is

    pub next_cleared : Cleared (done ++ (type ∷ [])) rest (stored unit zero_type locals)
    next_cleared = record {
      before = put.before ++ units zero_type;
      behind = put.behind;
      is = put.is ∙ sym (append_assoc put.before (units zero_type) put.behind);
      suits = record {
        locals = put.suits.locals;
        units_of = put.suits.units_of ++ units zero_type;
        is =
            ap (λ (all : List VType). all ++ units zero_type) put.suits.is
            ∙ append_assoc put.suits.locals put.suits.units_of (units zero_type);
        agree = put.suits.agree;
        assigned =
            subst (AreAssignable headers (put.suits.units_of ++ units zero_type))
            (append_assoc left (flat_map units_for done) (units_for type) ∙ ap (λ (all : List VType). left ++ all) (fields_more done type))
            (assigned_both headers put.suits.units_of (left ++ flat_map units_for done) (units zero_type) (units_for type) put.suits.assigned
            (zero_value type).assigned);
      };
      assigned = put.behind_assigned;
      not_this = stored_all NotThis (λ same. absurd cc) unit zero_type locals (zero_value type).not_this c.not_this;
    }

    pub field_carries : (number : ℕ) (stack : List VType) (others : List WItem) (last : Option Frame)
        → Carries w (suc (suc number)) others (frame_of (stored unit zero_type locals) stack) last
        → Carries w number (item (plain (zero_of (kind_of type))) ∷ item (store (kind_of type) (field_unit site (length done))) ∷ others)
        (frame_of locals stack) last
    field_carries number stack others last behind =
        subst (λ (instr : Instr). Carries w number (item (plain instr) ∷ item (store (kind_of type) (field_unit site (length done))) ∷ others)
        (frame_of locals stack) last) (sym (zero_is (kind_of type)))
        (const_carries w number (frame_of locals stack) (item (store (kind_of type) (field_unit site (length done))) ∷ others) last (zero_imm (kind_of type))
        (store_carries w (suc number) (frame_of locals (stack ++ zero_type ∷ [])) others last (kind_of type) (field_unit site (length done)) stack zero_type
        refl (zero_value type).of_kind
        (parts_room headers locals own (left ++ flat_map units_for done) (replicate (parameter_units rest) types.Top ++ right) unit type parts unit_is)
        behind))

  -- all of them
  pub all_cleared : (todo done : List FieldType) → one.fields ≡ done ++ todo → (number : ℕ) (locals stack : List VType)
      → Cleared done todo locals
      → ClearedAll number (map item (cleared_fields site (length done) todo)) locals stack
  all_cleared [] done fields_are number locals stack c = record {
    behind = locals;
    cleared = subst (λ (fields : List FieldType). Cleared fields [] locals) (sym (fields_are ∙ append-nil done)) c;
    carries = carries_none number (frame_of locals stack);
  }
  all_cleared (type ∷ rest) done fields_are number locals stack c =
      let next = all_cleared rest (done ++ (type ∷ [])) (fields_are ∙ sym (append_assoc done (type ∷ []) rest)) (suc (suc number))
      (stored (unit_number w.s.flat (field_unit site (length done))) (type_of_imm (zero_imm (kind_of type))) locals) stack
      (next_cleared done type rest fields_are locals c) in
      let counted : length (done ++ (type ∷ [])) ≡ suc (length done) = length-append done (type ∷ []) ∙ omega arith in
      record {
        behind = next.behind;
        cleared = next.cleared;
        carries =
            field_carries done type rest fields_are locals c number stack (map item (cleared_fields site (suc (length done)) rest))
            (Some (frame_of next.behind stack))
            (subst (λ (n : ℕ). Carries w (suc (suc number)) (map item (cleared_fields site n rest))
            (frame_of (stored (unit_number w.s.flat (field_unit site (length done))) (type_of_imm (zero_imm (kind_of type))) locals) stack)
            (Some (frame_of next.behind stack))) counted next.carries);
      }
