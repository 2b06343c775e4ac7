-- The result of a descriptor, found by the lengths of the texts of its parameters.
use Rattle.std.proofs.Common.{◌≡◌, ◌==◌, ◌+◌, ◌-◌, ◌≤◌, ℕ, zero, suc, Bool, true, false, List, [], ◌∷◌, ◌++◌, length, take, drop, if◌then◌else◌, bytes_eq, codes, Option, Some, None, refl, sym, ap, ◌∙◌, arith, length-append, length-drop}
use Rattle.std.specs.List.{flat_map}
use Rattle.class_model.specs.Descriptors.{field_type_text, kind_of, named_text, parameters_of, type_len, type_of, types_before}
use Rattle.class_model.specs.declared.descriptor.FieldType.{FieldType}
use Rattle.class_model.specs.declared.descriptor.FieldType.TheVariants.{Byte, Char, Short, Bool as Boolean, Int, Long, Float, Double, Named}
use Rattle.class_model.specs.declared.descriptor.Kind.TheVariants.{Ref}
use Rattle.member_link.specs.Signatures.{result_of}
use Rattle.member_link.specs.Laws.Parameters.{drop_more, none_before, not_true, one_before, shorter}
use Rattle.member_link.specs.Signatures.{begins_type}

-- the text of a base type is a letter
pub base_len : (type : FieldType) → (kind_of type ≡ Ref → ⊥) → length (field_type_text type) ≡ 1
base_len Byte other = refl
base_len Char other = refl
base_len Short other = refl
base_len Boolean other = refl
base_len Int other = refl
base_len Long other = refl
base_len Float other = refl
base_len Double other = refl
base_len (Named name) other = absurd (other refl)

-- the text of a class takes two bytes more than its name
pub class_len : (first : ℕ) (rest : List ℕ) → (first == 91) ≡ false → length (named_text (first ∷ rest)) ≡ length (first ∷ rest) + 2
class_len first rest other =
    ap (λ (b : Bool). length (if b then first ∷ rest else 76 ∷ (first ∷ rest ++ 59 ∷ []))) other
    ∙ omega (arith, length-append rest (59 ∷ []))

-- the texts of these parameters are still to be passed
pub record Passed (desc types result : List ℕ) : Type 0 where
  pub left : ℕ
  pub enough : length types ≤ left
  pub same :
      drop (length (flat_map field_type_text (parameters_of desc)) + 2) desc
      ≡ drop (length (flat_map field_type_text (types_before left types))) result

pub none_passed : (desc : List ℕ) → Passed desc (drop 1 desc) (drop 2 desc)
none_passed desc =
    let n = length (flat_map field_type_text (parameters_of desc)) in
    let e : n + 2 ≡ 2 + n = omega arith in
    record {
      left = length desc;
      enough = omega (arith, length-drop {A = ℕ} 1 desc);
      same = ap (λ (k : ℕ). drop k desc) e ∙ sym (drop_more 2 n desc);
    }

module _ (desc : List ℕ) where
  pub one_passed :
      (types result : List ℕ)
      → begins_type types ≡ true
      → Passed desc types result
      → Passed desc (drop (type_len types) types) (drop (length (field_type_text (type_of (take (type_len types) types)))) result)
  one_passed [] result begins at = absurd cc
  one_passed (first ∷ rest) result begins at = by at.left at.enough at.same
    where
      len : ℕ
      len = type_len (first ∷ rest)

      text : List ℕ
      text = field_type_text (type_of (take len (first ∷ rest)))

      by :
          (left : ℕ)
          → length (first ∷ rest) ≤ left
          → drop (length (flat_map field_type_text (parameters_of desc)) + 2) desc
          ≡ drop (length (flat_map field_type_text (types_before left (first ∷ rest)))) result
          → Passed desc (drop len (first ∷ rest)) (drop (length text) result)
      by zero enough same = absurd (omega arith)
      by (suc left) enough same =
          let others = flat_map field_type_text (types_before left (drop len (first ∷ rest))) in
          record {
            left = left;
            enough = (let smaller = shorter (first ∷ rest) begins in omega arith);
            same =
                same
                ∙ ap (λ (ts : List FieldType). drop (length (flat_map field_type_text ts)) result) (one_before left first rest (not_true (first == 41) begins))
                ∙ ap (λ (k : ℕ). drop k result) (length-append text others)
                ∙ sym (drop_more (length text) (length others) result);
          }

  pub all_passed :
      (types result : List ℕ)
      → begins_type types ≡ false
      → Passed desc types result
      → drop (length (flat_map field_type_text (parameters_of desc)) + 2) desc ≡ result
  all_passed types result ends at =
      at.same ∙ ap (λ (ts : List FieldType). drop (length (flat_map field_type_text ts)) result) (none_before at.left types ends)

-- the result is that of a text, by whether it is V
abbrev read_by : Bool → List ℕ → Option FieldType
read_by void text = if void then None else Some (type_of text)

pub read : (desc text : List ℕ) (void : Bool)
    → drop (length (flat_map field_type_text (parameters_of desc)) + 2) desc ≡ text
    → bytes_eq text (codes "V") ≡ void
    → result_of desc ≡ (if void then None else Some (type_of text))
read desc text void cut is =
    ap (λ (t : List ℕ). read_by (bytes_eq t (codes "V")) t) cut ∙ ap (λ (b : Bool). read_by b text) is

-- the bytes behind a name
pub behind_class :
    (name first_rest bytes rest result : List ℕ) (first : ℕ)
    → name ≡ first ∷ first_rest
    → (first == 91) ≡ false
    → rest ≡ drop (length name) bytes
    → result ≡ drop 2 rest
    → result ≡ drop (length (named_text name)) bytes
behind_class name first_rest bytes rest result first is other rest_is result_is =
    result_is
    ∙ ap (drop 2) rest_is
    ∙ drop_more (length name) 2 bytes
    ∙ ap (λ (n : List ℕ). drop (length n + 2) bytes) is
    ∙ ap (λ (k : ℕ). drop k bytes) (sym (class_len first first_rest other))
    ∙ ap (λ (n : List ℕ). drop (length (named_text n)) bytes) (sym is)
