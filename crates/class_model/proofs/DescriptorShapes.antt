-- What stands at the front of bytes that need not be a text, and its local units.
use Rattle.std.proofs.Common.{◌≡◌, ◌≢◌, ◌==◌, ◌↔◌, IsTrue, eq-eqb, Bool, false, ◌⊎◌, inl, inr, ℕ, ◌+◌, ◌<◌, ◌≤◌, List, [], ◌∷◌, ◌++◌, length, Option, Some, None, refl, sym, ap, ◌∙◌, arith, append_assoc}
use Rattle.std.proofs.lemmas.Bool.{eqb-true}
use Rattle.std.proofs.lemmas.List.{append-nil, nil_from_length}
use Rattle.std.proofs.lemmas.List.Sums.{sum_by-cons, sum_by_push, sum_by-append}
use Rattle.class_model.specs.Descriptors.{field_type_text, kind_of, units_of, parameter_units, result_text}
use Rattle.class_model.specs.Inner.DescriptorParts.{ElementAt, ArrayAt, TypeAt, TypeUnitsAt, TypesAt, UnitsAt}
use Rattle.class_model.specs.Laws.Descriptors.{array_head, array_text}
use Rattle.class_model.specs.PoolChecks.{IsFieldDescriptor, BytesSpell, IsMethodDescriptor, ReturnsVoid}
use Rattle.class_model.specs.declared.descriptor.FieldType.{FieldType}
use Rattle.class_model.specs.declared.descriptor.FieldType.TheVariants.{Byte, Char, Short, Bool as Boolean, Int, Long, Float, Double, Named}
use Rattle.class_model.specs.declared.descriptor.Descriptor.{Descriptor}
use Rattle.class_model.proofs.DescriptorGrammar.{element_lacks}
use Rattle.class_model.proofs.DecidedTypes.{one_type, type_of_element, type_shorter, no_type_front, descriptor_at_whole}
use Rattle.class_model.proofs.DecidedDescriptors.{first_at, others_at, put_first, one_params, Outcome, outcome_form, one_outcome, params_of, made}

-- ---- a type

-- a long or a double
pub wide_at : (bytes after : List ℕ) (first : ℕ) → (first ≡ 68) ⊎ (first ≡ 74) → bytes ≡ first ∷ after → TypeUnitsAt bytes 2 after
wide_at bytes after first (inl double) e = record { type = Double; at = record { is_type = tt; spelled = cc }; sum = refl }
wide_at bytes after first (inr long) e = record { type = Long; at = record { is_type = tt; spelled = cc }; sum = refl }

pub array_at : (bytes text rest : List ℕ) → ArrayAt bytes text rest → TypeUnitsAt bytes 1 rest
array_at bytes text rest at = record { type = Named text; at = record { is_type = inr at.is_array; spelled = rw (array_text text at.is_array) at.spelled }; sum = refl }

narrow : (first : ℕ) (after rest : List ℕ) (type : FieldType) → first ≢ 68 → first ≢ 74 → first ∷ after ≡ field_type_text type ++ rest → 1 ≡ units_of (kind_of type)
narrow first after rest Double no_double no_long e = absurd (no_double cc)
narrow first after rest Long no_double no_long e = absurd (no_long cc)
narrow first after rest Byte no_double no_long e = refl
narrow first after rest Char no_double no_long e = refl
narrow first after rest Short no_double no_long e = refl
narrow first after rest Boolean no_double no_long e = refl
narrow first after rest Int no_double no_long e = refl
narrow first after rest Float no_double no_long e = refl
narrow first after rest (Named name) no_double no_long e = refl

pub element_at : (bytes after rest : List ℕ) (first : ℕ) → bytes ≡ first ∷ after → first ≢ 68 → first ≢ 74 → ElementAt bytes rest → TypeUnitsAt bytes 1 rest
element_at bytes after rest first e no_double no_long at = record {
  type = at.element;
  at = record { is_type = type_of_element at.element at.is_element; spelled = at.spelled };
  sum = narrow first after rest at.element no_double no_long (sym e ∙ at.spelled);
}

-- and there is none
pub none_at_end : (type : FieldType) (rest : List ℕ) → ¬ TypeAt [] type rest
none_at_end type rest at = omega (arith, type_shorter [] rest type at)

pub no_array_at : (bytes after : List ℕ) → bytes ≡ 91 ∷ after → ((text rest : List ℕ) → ¬ ArrayAt bytes text rest) → (type : FieldType) (rest : List ℕ) → ¬ TypeAt bytes type rest
no_array_at bytes after e never = no_type_front bytes (λ rest at. element_lacks at.element rest at.is_element after (sym at.spelled ∙ e)) never

pub no_element_at : (bytes after : List ℕ) (first : ℕ) → bytes ≡ first ∷ after → first ≢ 91 → ((rest : List ℕ) → ¬ ElementAt bytes rest) → (type : FieldType) (rest : List ℕ) → ¬ TypeAt bytes type rest
no_element_at bytes after first e other never = no_type_front bytes never (λ text rest at.
    let head = array_head text at.is_array in
    let h : first ∷ after ≡ 91 ∷ (head.0 ++ rest) = sym e ∙ at.spelled ∙ ap (λ (t : List ℕ). t ++ rest) head.1 in
    other cc)

-- the whole
pub decides_type : (bytes rest : List ℕ) (units : ℕ) (empty : Bool) → TypeUnitsAt bytes units rest → empty ≡ (length rest == 0) → IsTrue empty ↔ IsFieldDescriptor bytes
decides_type bytes rest units empty found is = (
  λ e. let none = nil_from_length rest (eqb-true _ _ (sym is ∙ e)) in
      record { type = found.type; named = found.at.is_type; spelled = found.at.spelled ∙ ap (λ (t : List ℕ). field_type_text found.type ++ t) none ∙ append-nil (field_type_text found.type) },
  λ d. is ∙ eq-eqb (length rest) 0 (ap length (one_type bytes found.type d.type rest [] found.at (descriptor_at_whole bytes d)).1),
)

pub no_descriptor : (bytes : List ℕ) → ((type : FieldType) (rest : List ℕ) → ¬ TypeAt bytes type rest) → IsTrue false ↔ IsFieldDescriptor bytes
no_descriptor bytes never = (λ e. absurd cc, λ d. absurd (never d.type [] (descriptor_at_whole bytes d)))

-- ---- types

-- So many units are read, and types are left: those of the whole behind those that were read.
pub record ReadUnits (bytes : List ℕ) (units : ℕ) (rest : List ℕ) : Type 0 where
  pub read : List FieldType
  pub sum : units ≡ parameter_units read
  pub few : units ≤ 255
  pub whole : (types : List FieldType) (last : List ℕ) → TypesAt rest types last → TypesAt bytes (read ++ types) last
  pub left : (types : List FieldType) (last : List ℕ) → TypesAt bytes types last → (others : List FieldType) × (types ≡ read ++ others) × TypesAt rest others last

pub nothing_read : (bytes : List ℕ) → ReadUnits bytes 0 bytes
nothing_read bytes = record { read = []; sum = refl; few = omega arith; whole = λ types last at. at; left = λ types last at. (types, refl, at) }

pub at_parenthesis : (bytes rest after : List ℕ) (units : ℕ) → ReadUnits bytes units rest → rest ≡ 41 ∷ after → UnitsAt bytes units after
at_parenthesis bytes rest after units so_far e = record {
  types = so_far.read ++ [];
  at = so_far.whole [] after (record { each = tt; spelled = e });
  sum = so_far.sum ∙ ap parameter_units (sym (append-nil so_far.read));
  few = so_far.few;
}

-- where no parenthesis stands, a type does
record MoreTypes (rest : List ℕ) (types : List FieldType) (last : List ℕ) : Type 0 where
  pub first : FieldType
  pub others : List FieldType
  pub same : types ≡ first ∷ others
  pub at : TypesAt rest (first ∷ others) last

more_types : (rest : List ℕ) (types : List FieldType) (last : List ℕ) → ((after : List ℕ) → rest ≢ 41 ∷ after) → TypesAt rest types last → MoreTypes rest types last
more_types rest [] last no_end at = absurd (no_end last at.spelled)
more_types rest (first ∷ others) last no_end at = record { first = first; others = others; same = refl; at = at }

module _ (bytes rest : List ℕ) (units : ℕ) (so_far : ReadUnits bytes units rest) (no_end : (after : List ℕ) → rest ≢ 41 ∷ after) where
  pub no_units : ((type : FieldType) (after : List ℕ) → ¬ TypeAt rest type after) → (all : ℕ) (last : List ℕ) → ¬ UnitsAt bytes all last
  no_units never all last at =
      let behind = so_far.left at.types last at.at in
      let more = more_types rest behind.0 last no_end behind.2 in
      never more.first _ (first_at rest more.first more.others last more.at)

  module _ (after : List ℕ) (more : ℕ) (found : TypeUnitsAt rest more after) where
    -- the types of the whole, with this one behind those that were read
    record Behind (types : List FieldType) (last : List ℕ) : Type 0 where
      pub others : List FieldType
      pub same : types ≡ so_far.read ++ found.type ∷ others
      pub at : TypesAt after others last

    behind_type : (types : List FieldType) (last : List ℕ) → TypesAt bytes types last → Behind types last
    behind_type types last at =
        let behind = so_far.left types last at in
        let next = more_types rest behind.0 last no_end behind.2 in
        let tails = others_at rest next.first next.others last after found.type next.at found.at in
        record { others = next.others; same = behind.1 ∙ ap (λ (t : List FieldType). so_far.read ++ t) (next.same ∙ ap (λ (f : FieldType). f ∷ next.others) tails.0); at = tails.1 }

    pub too_many_units : 255 < units + more → (all : ℕ) (last : List ℕ) → ¬ UnitsAt bytes all last
    too_many_units many all last at =
        let behind = behind_type at.types last at.at in
        let units_of_type : FieldType → ℕ = λ type. units_of (kind_of type) in
        let sum : parameter_units at.types ≡ parameter_units so_far.read + parameter_units (found.type ∷ behind.others) = ap parameter_units behind.same ∙ sum_by-append units_of_type so_far.read (found.type ∷ behind.others) in
        let next = sum_by-cons units_of_type found.type behind.others in
        omega (arith, sum, next, many, at.sum, at.few, so_far.sum, found.sum)

    pub read_type : (next : ℕ) → next ≡ units + more → next ≤ 255 → ReadUnits bytes next after
    read_type next is few = record {
      read = so_far.read ++ found.type ∷ [];
      sum = omega (arith, is, so_far.sum, found.sum, sum_by_push (λ (t : FieldType). units_of (kind_of t)) so_far.read found.type);
      few = few;
      whole = λ types last at. rw append_assoc (so_far.whole (found.type ∷ types) last (put_first rest after found.type types last found.at at));
      left = λ types last at.
          let behind = behind_type types last at in
          (behind.others, behind.same ∙ sym (append_assoc so_far.read (found.type ∷ []) behind.others), behind.at);
    }

-- ---- the whole descriptor

-- bytes end with no result, or with one
abbrev EndsWell : List ℕ → Type 0
EndsWell rest = (rest ≡ 86 ∷ []) ⊎ IsFieldDescriptor rest

outcome_of : (rest : List ℕ) → EndsWell rest → (type : Option FieldType) × Outcome rest type
outcome_of rest (inl void) = (None, record { named = tt; spelled = void })
outcome_of rest (inr d) = (Some d.type, record { named = d.named; spelled = d.spelled })

pub no_parenthesis : (bytes : List ℕ) → ((after : List ℕ) → bytes ≢ 40 ∷ after) → ¬ IsMethodDescriptor bytes
no_parenthesis bytes never d = never _ d.1.spelled

module _ (bytes after : List ℕ) (e : bytes ≡ 40 ∷ after) where
  pub no_parameters : ((units : ℕ) (rest : List ℕ) → ¬ UnitsAt after units rest) → ¬ IsMethodDescriptor bytes
  no_parameters never d = let at = params_of bytes after d.0 e d.1 in never _ _ (record { types = d.0.params; at = at; sum = refl; few = d.1.units })

  module _ (units : ℕ) (rest : List ℕ) (found : UnitsAt after units rest) where
    pub is_descriptor : EndsWell rest → IsMethodDescriptor bytes
    is_descriptor ends = rw e (made after found.types rest found.at (omega (arith, found.sum, found.few), outcome_of rest ends))

    same_parts : (d : Descriptor) → BytesSpell bytes d → (d.params ≡ found.types) × Outcome rest d.result
    same_parts d spelled =
        let same = one_params d.params found.types after _ rest (params_of bytes after d e spelled) found.at in
        (same.0, record { named = spelled.result; spelled = sym same.1 })

    pub ends_well : IsMethodDescriptor bytes → EndsWell rest
    ends_well d = let parts = same_parts d.0 d.1 in outcome_form rest d.0.result parts.1

    pub units_are : (d : Descriptor) → BytesSpell bytes d → units ≡ parameter_units d.params
    units_are d spelled = found.sum ∙ ap parameter_units (sym (same_parts d spelled).0)

    pub void_returns : rest ≡ 86 ∷ [] → ReturnsVoid bytes
    void_returns void =
        let d = is_descriptor (inl void) in
        let parts = same_parts d.0 d.1 in
        record { descriptor = d.0; spelled = d.1; no_result = one_outcome rest d.0.result None parts.1 (record { named = tt; spelled = void }) }

    pub returns_void : ReturnsVoid bytes → rest ≡ 86 ∷ []
    returns_void r = let parts = same_parts r.descriptor r.spelled in parts.1.spelled ∙ ap result_text r.no_result
