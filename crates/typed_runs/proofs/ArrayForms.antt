-- The form of an array type that the library may name.
use Rattle.std.specs.Prelude.{◌≡◌, ◌==◌, ◌||◌, refl, ℕ, zero, suc, Bool, true, false, List, [], ◌∷◌, Option, Some, None, IfSome, if◌then◌else◌}
use Rattle.std.proofs.Common.{ap, sym, subst}
use Rattle.std.proofs.lemmas.Bool.{false≢true}
use Rattle.class_model.specs.Characters.{class_letter, left_bracket}
use Rattle.class_tree.specs.Headers.{Name}
use Rattle.class_tree.specs.Subtype.{IsArray}
use Rattle.member_link.specs.Machine.Acting.{are_joined, is_element, is_array_within}
use Rattle.member_link.specs.Machine.Shapes.{class_in}
use Rattle.typed_runs.proofs.Basics.{and_first, and_second, same_number}
use Rattle.typed_runs.proofs.NamesThere.{element_is, same_element}
use Rattle.typed_runs.specs.Conforming.{NamesNoArray}

-- an element begins with no bracket
of_bracket : (bytes : List ℕ) → is_element (left_bracket ∷ bytes) ≡ true → ⊥
of_bracket [] is = false≢true is
of_bracket (b ∷ bytes) is = false≢true (and_second _ false is)

element_no_bracket : (first : ℕ) (rest : List ℕ) → is_element (first ∷ rest) ≡ true → (first == left_bracket) ≡ false
element_no_bracket first rest is = by (first == left_bracket) refl where
  by : (b : Bool) → (first == left_bracket) ≡ b → (first == left_bracket) ≡ false
  by false e = e
  by true e = absurd (of_bracket rest (subst (λ n. is_element (n ∷ rest) ≡ true) (same_number first left_bracket e) is))

-- nor does the name of its class
joined_no_array : (name : Name) → are_joined true name ≡ true → ¬ IsArray name
joined_no_array name joined array = false≢true (subst (λ n. are_joined true n ≡ true) array.1 joined)

class_no_array : (text : List ℕ) → is_element text ≡ true → IfSome (class_in text) (λ class. ¬ IsArray class)
class_no_array [] is = tt
class_no_array (letter ∷ []) is = by (letter == class_letter) where
  by : (b : Bool) → IfSome (if b then Some [] else None) (λ class. ¬ IsArray class)
  by false = tt
  by true = λ array. let no : [] ≡ left_bracket ∷ array.0 = array.1 in cc
class_no_array (letter ∷ next ∷ rest) is = by (class_in (letter ∷ next ∷ rest)) refl where
  by : (o : Option Name) → class_in (letter ∷ next ∷ rest) ≡ o → IfSome o (λ class. ¬ IsArray class)
  by None e = tt
  by (Some name) e = joined_no_array name (and_second _ _ (rw e at is))

-- such a type is an array, and its element is none
element_named : (text : List ℕ) → is_element text ≡ true → NamesNoArray (left_bracket ∷ text)
element_named [] e = cc
element_named (letter ∷ others) e =
    subst (λ o. IfSome o (λ class. ¬ IsArray class)) (sym (element_is letter others (element_no_bracket letter others e)))
    (class_no_array (letter ∷ others) e)

array_named : (text : List ℕ) → IsArray text → NamesNoArray text → NamesNoArray (left_bracket ∷ text)
array_named text array named =
    subst (λ x. NamesNoArray (left_bracket ∷ x)) (sym array.1)
    (subst (λ o. IfSome o (λ class. ¬ IsArray class)) (sym (same_element array.0)) (subst NamesNoArray array.1 named))

abbrev pub IsArrayForm : List ℕ → Type 0
IsArrayForm text = IsArray text × NamesNoArray text

pub array_within : (n : ℕ) (text : List ℕ) → is_array_within n text ≡ true → IsArrayForm text
array_within zero text is = cc
array_within (suc left) [] is = cc
array_within (suc left) (first ∷ rest) is =
    subst IsArrayForm (ap (λ x. x ∷ rest) (sym bracket))
    ((rest, refl), by (is_element rest) refl (and_second (first == left_bracket) _ is) (λ inner. array_within left rest inner)) where
      bracket : first ≡ left_bracket
      bracket = same_number first left_bracket (and_first (first == left_bracket) (is_element rest || is_array_within left rest) is)

      by : (b : Bool) → is_element rest ≡ b → (b || is_array_within left rest) ≡ true
          → (is_array_within left rest ≡ true → IsArrayForm rest) → NamesNoArray (left_bracket ∷ rest)
      by true e is each = element_named rest e
      by false e is each = let inner = each is in array_named rest inner.0 inner.1
