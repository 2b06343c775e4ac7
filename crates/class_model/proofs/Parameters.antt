-- The parameters of a descriptor from left to right.
use Rattle.std.proofs.Common.{◌≡◌, ◌≢◌, ℕ, ◌+◌, ◌-◌, ◌<◌, ◌≤◌, List, [], ◌∷◌, ◌++◌, Option, Some, None, refl, sym, ap, subst, ◌∙◌, arith, append_assoc}
use Rattle.std.proofs.lemmas.List.{append-nil}
use Rattle.std.proofs.lemmas.List.Sums.{sum_by-cons, sum_by_push}
use Rattle.std.proofs.lemmas.Grind.{flat_map-append}
use Rattle.std.specs.List.{flat_map, AllByRecursion}
use Rattle.class_model.specs.Descriptors.{field_type_text, IsFieldType, kind_of, units_of, parameter_units, result_text, SpellsFieldType, SpellsDescriptor}
use Rattle.class_model.specs.Inner.DescriptorParts.{FieldTypeAt, ParametersAt, SpellsResult}
use Rattle.class_model.specs.declared.descriptor.FieldType.{FieldType}
use Rattle.class_model.specs.declared.descriptor.Descriptor.{Descriptor}
use Rattle.class_model.proofs.DescriptorGrammar.{one_at, no_type_at, type_at_whole}

-- the bytes spell parameters that take at most so many units
pub record Left (units : ℕ) (bytes : List ℕ) : Type 0 where
  pub types : List FieldType
  pub rest : List ℕ
  pub at : ParametersAt units bytes types rest

moved : (n m : ℕ) (bytes other : List ℕ) → n ≡ m → bytes ≡ other → Left n bytes → Left m other
moved n m bytes other units same left = subst (λ (k : ℕ). Left k other) units (subst (λ (t : List ℕ). Left n t) same left)

-- the first parameter and those after it
record First (units : ℕ) (bytes : List ℕ) : Type 0 where
  pub type : FieldType
  pub after : List ℕ
  pub at : FieldTypeAt bytes type after
  pub fits : units_of (kind_of type) ≤ units
  pub left : Left (units - units_of (kind_of type)) after

first_of : (units : ℕ) (bytes : List ℕ) (types : List FieldType) (rest : List ℕ) → ParametersAt units bytes types rest → ((after : List ℕ) → bytes ≢ 41 ∷ after) → First units bytes
first_of units bytes [] rest at more = absurd (more rest at.spelled)
first_of units bytes (type ∷ types) rest at more =
    let sum : parameter_units (type ∷ types) ≡ units_of (kind_of type) + parameter_units types = sum_by-cons (λ (t : FieldType). units_of (kind_of t)) type types in
    record {
      type = type;
      after = flat_map field_type_text types ++ 41 ∷ rest;
      at = record { is_type = at.each.0; spelled = at.spelled ∙ append_assoc (field_type_text type) (flat_map field_type_text types) (41 ∷ rest) };
      fits = omega (arith, sum, at.units_fit);
      left = record { types = types; rest = rest; at = record { each = at.each.1; units_fit = omega (arith, sum, at.units_fit); spelled = refl } };
    }

-- So much of the bytes is read, and what they spell is left.
pub record Read (bytes : List ℕ) (types : List FieldType) (units : ℕ) (rest : List ℕ) : Type 0 where
  pub each : AllByRecursion IsFieldType types
  pub sum : units ≡ parameter_units types
  pub few : units ≤ 255
  pub spelled : bytes ≡ flat_map field_type_text types ++ rest
  pub left : Left 255 bytes → Left (255 - units) rest

pub read_none : (bytes : List ℕ) → Read bytes [] 0 bytes
read_none bytes = record { each = tt; sum = refl; few = omega arith; spelled = refl; left = λ left. left }

each-push : (types : List FieldType) (type : FieldType) → AllByRecursion IsFieldType types → IsFieldType type → AllByRecursion IsFieldType (types ++ type ∷ [])
each-push [] type each is_type = (is_type, tt)
each-push (first ∷ types) type each is_type = (each.0, each-push types type each.1 is_type)

text-push : (types : List FieldType) (type : FieldType) (rest : List ℕ) → flat_map field_type_text (types ++ type ∷ []) ++ rest ≡ flat_map field_type_text types ++ (field_type_text type ++ rest)
text-push types type rest = rw (flat_map-append field_type_text types (type ∷ []), append-nil (field_type_text type), append_assoc (flat_map field_type_text types) (field_type_text type) rest) refl

module _ (bytes : List ℕ) (types : List FieldType) (units : ℕ) (rest : List ℕ) (read : Read bytes types units rest) (more : (after : List ℕ) → rest ≢ 41 ∷ after) where
  first : Left 255 bytes → First (255 - units) rest
  first left = let now = read.left left in first_of (255 - units) rest now.types now.rest now.at more

  pub no_first : ((type : FieldType) (after : List ℕ) → ¬ FieldTypeAt rest type after) → (others : List FieldType) (last : List ℕ) → ¬ ParametersAt 255 bytes others last
  no_first none others last at = let f = first (record { types = others; rest = last; at = at }) in none f.type f.after f.at

  module _ (type : FieldType) (after : List ℕ) (at : FieldTypeAt rest type after) where
    one_first : (f : First (255 - units) rest) → (f.type ≡ type) × (f.after ≡ after)
    one_first f = one_at rest f.type type f.after after f.at at

    pub too_many : 255 < units + units_of (kind_of type) → (others : List FieldType) (last : List ℕ) → ¬ ParametersAt 255 bytes others last
    too_many many others last all =
        let f = first (record { types = others; rest = last; at = all }) in
        let fits : units_of (kind_of type) ≤ 255 - units = rw (one_first f).0 at f.fits in
        omega (arith, read.few)

    left_after : Left 255 bytes → Left (255 - (units + units_of (kind_of type))) after
    left_after left =
        let f = first left in
        let same = one_first f in
        moved _ _ _ after (omega (arith, ap (λ (t : FieldType). units_of (kind_of t)) same.0)) same.1 f.left

    pub read_more : (next : ℕ) → next ≡ units + units_of (kind_of type) → next ≤ 255 → Read bytes (types ++ type ∷ []) next after
    read_more next is few = record {
      each = each-push types type read.each at.is_type;
      sum = omega (arith, is, read.sum, sum_by_push (λ (t : FieldType). units_of (kind_of t)) types type);
      few = few;
      spelled = read.spelled ∙ ap (λ (t : List ℕ). flat_map field_type_text types ++ t) at.spelled ∙ sym (text-push types type after);
      left = rw is left_after;
    }

pub all_read : (bytes rest after : List ℕ) (types : List FieldType) (units : ℕ) → Read bytes types units rest → rest ≡ 41 ∷ after → ParametersAt 255 bytes types after
all_read bytes rest after types units read e = record { each = read.each; units_fit = omega (arith, read.sum, read.few); spelled = read.spelled ∙ ap (λ (t : List ℕ). flat_map field_type_text types ++ t) e }

-- one list of parameters
at_first : (type : FieldType) (types : List FieldType) (rest : List ℕ) → IsFieldType type → FieldTypeAt (flat_map field_type_text (type ∷ types) ++ 41 ∷ rest) type (flat_map field_type_text types ++ 41 ∷ rest)
at_first type types rest is_type = record { is_type = is_type; spelled = append_assoc (field_type_text type) (flat_map field_type_text types) (41 ∷ rest) }

one_list : (types others : List FieldType) (rest last : List ℕ) → AllByRecursion IsFieldType types → AllByRecursion IsFieldType others → flat_map field_type_text types ++ 41 ∷ rest ≡ flat_map field_type_text others ++ 41 ∷ last → (types ≡ others) × (rest ≡ last)
one_list [] [] rest last each each' e = (refl, cc)
one_list [] (type ∷ others) rest last each each' e = absurd (no_type_at 41 rest _ _ type refl (sym e) (at_first type others last each'.0))
one_list (type ∷ types) [] rest last each each' e = absurd (no_type_at 41 last _ _ type refl e (at_first type types rest each.0))
one_list (type ∷ types) (other ∷ others) rest last each each' e =
    let front = one_at _ type other _ _ (at_first type types rest each.0) (subst (λ (t : List ℕ). FieldTypeAt t other (flat_map field_type_text others ++ 41 ∷ last)) (sym e) (at_first other others last each'.0)) in
    let tails = one_list types others rest last each.1 each'.1 front.1 in
    (cc (front.0, tails.0), tails.1)

pub one_parameters : (units : ℕ) (bytes : List ℕ) (types others : List FieldType) (rest last : List ℕ) → ParametersAt units bytes types rest → ParametersAt units bytes others last → (types ≡ others) × (rest ≡ last)
one_parameters units bytes types others rest last a b = one_list types others rest last a.each b.each (sym a.spelled ∙ b.spelled)

-- one result
pub one_field_type : (bytes : List ℕ) (one other : FieldType) → SpellsFieldType bytes one → SpellsFieldType bytes other → one ≡ other
one_field_type bytes one other a b = (one_at bytes one other [] [] (type_at_whole bytes one a) (type_at_whole bytes other b)).0

none_or_some : (bytes : List ℕ) (type : FieldType) → bytes ≡ 86 ∷ [] → ¬ SpellsFieldType bytes type
none_or_some bytes type e spells = no_type_at 86 [] bytes [] type refl e (type_at_whole bytes type spells)

one_result : (bytes : List ℕ) (one other : Option FieldType) → SpellsResult bytes one → SpellsResult bytes other → one ≡ other
one_result bytes None None a b = refl
one_result bytes None (Some type) a b = absurd (none_or_some bytes type a.spelled (record { is_type = b.is_type; spelled = b.spelled }))
one_result bytes (Some type) None a b = absurd (none_or_some bytes type b.spelled (record { is_type = a.is_type; spelled = a.spelled }))
one_result bytes (Some type) (Some other) a b = ap Some (one_field_type bytes type other (record { is_type = a.is_type; spelled = a.spelled }) (record { is_type = b.is_type; spelled = b.spelled }))

-- a descriptor, by its parts
pub parameters_of : (bytes after : List ℕ) (descriptor : Descriptor) → bytes ≡ 40 ∷ after → SpellsDescriptor bytes descriptor → ParametersAt 255 after descriptor.params (result_text descriptor.result)
parameters_of bytes after descriptor e spells = record { each = spells.is_descriptor.params; units_fit = spells.is_descriptor.units; spelled = cc (e, spells.spelled) }

pub result_of : (bytes after rest : List ℕ) (params : List FieldType) (descriptor : Descriptor) → bytes ≡ 40 ∷ after → ParametersAt 255 after params rest → SpellsDescriptor bytes descriptor → SpellsResult rest descriptor.result
result_of bytes after rest params descriptor e at spells = record { is_type = spells.is_descriptor.result; spelled = (one_parameters 255 after params descriptor.params rest _ at (parameters_of bytes after descriptor e spells)).1 }

pub one_descriptor : (text : List ℕ) (one other : Descriptor) → SpellsDescriptor text one → SpellsDescriptor text other → one ≡ other
one_descriptor text one other a b =
    let after = flat_map field_type_text one.params ++ 41 ∷ result_text one.result in
    let params = one_parameters 255 after one.params other.params _ _ (parameters_of text after one a.spelled a) (parameters_of text after other a.spelled b) in
    let result = one_result (result_text one.result) one.result other.result (record { is_type = a.is_descriptor.result; spelled = refl }) (record { is_type = b.is_descriptor.result; spelled = params.1 }) in
    let same_params : one ≡ record { params = other.params; result = one.result } = ap (λ (p : List FieldType). let d : Descriptor = record { params = p; result = one.result } in d) params.0 in
    same_params ∙ ap (λ (r : Option FieldType). let d : Descriptor = record { params = other.params; result = r } in d) result
