-- How many parameters a descriptor's text has, one after the other.
use Rattle.std.proofs.Common.{◌≡◌, ◌==◌, ℕ, zero, suc, ◌+◌, ◌<◌, ◌≤◌, not, take_while, Bool, true, false, List, [], ◌∷◌, length, drop, take, Some, None, refl, sym, ap, subst, arith, if◌then◌else◌, length-drop, zero-add}
use Rattle.std.proofs.lemmas.List.Sums.{take_while-cons}
use Rattle.class_model.specs.Characters.{right_parenthesis, class_letter, left_bracket, semicolon}
use Rattle.class_model.specs.Descriptors.{brackets, element_len, parameters_of, type_len, type_of, types_before}
use Rattle.inline_expand.specs.Inner.ParameterLists.{behind_parameter}

-- the type at the front takes a byte or more
element_is_long : (first : ℕ) (rest : List ℕ) → 1 ≤ element_len (first ∷ rest)
element_is_long first rest = by (first == class_letter) where
  by : (b : Bool) → 1 ≤ (if b then length (take_while (λ b. not (b == semicolon)) rest) + 2 else 1)
  by true = omega arith
  by false = omega arith

bracket_count : (first : ℕ) (rest : List ℕ) → brackets (first ∷ rest) ≡ length (if first == left_bracket then first ∷ take_while (λ b. b == left_bracket) rest else [])
bracket_count first rest = ap length (take_while-cons (λ b. b == left_bracket) first rest)

type_is_long : (first : ℕ) (rest : List ℕ) → 1 ≤ type_len (first ∷ rest)
type_is_long first rest = by (first == left_bracket) (bracket_count first rest) where
  by : (b : Bool) → brackets (first ∷ rest) ≡ length (if b then first ∷ take_while (λ b. b == left_bracket) rest else []) → 1 ≤ type_len (first ∷ rest)
  by true e = let some : 1 ≤ brackets (first ∷ rest) = subst (λ (n : ℕ). 1 ≤ n) (sym e) (omega arith) in omega arith
  by false e =
      let long : 1 ≤ element_len (first ∷ rest) = element_is_long first rest in
      let P : ℕ → Type 0 = λ n. 1 ≤ n + element_len (drop n (first ∷ rest)) in
      subst P (sym e) (simp (zero-add) long)

-- how many there are doesn't depend on the bound, if that is large
module _ (first : ℕ) (rest : List ℕ) where
  behind_is_shorter : (n : ℕ) → length (first ∷ rest) ≤ suc n → length (drop (type_len (first ∷ rest)) (first ∷ rest)) ≤ n
  behind_is_shorter n fits = omega (arith, type_is_long first rest, length-drop (type_len (first ∷ rest)) (first ∷ rest))

bound_is_large : (a b : ℕ) (bytes : List ℕ) → length bytes ≤ a → length bytes ≤ b → types_before a bytes ≡ types_before b bytes
unfolding types_before
bound_is_large zero zero [] fits other = refl
bound_is_large zero (suc b) [] fits other = refl
bound_is_large (suc a) zero [] fits other = refl
bound_is_large (suc a) (suc b) [] fits other = refl
bound_is_large zero b (first ∷ rest) fits other = absurd (omega arith)
bound_is_large (suc a) zero (first ∷ rest) fits other = absurd (omega arith)
bound_is_large (suc a) (suc b) (first ∷ rest) fits other =
    ap (λ types. if first == right_parenthesis then [] else type_of (take (type_len (first ∷ rest)) (first ∷ rest)) ∷ types)
    (bound_is_large a b (drop (type_len (first ∷ rest)) (first ∷ rest)) (behind_is_shorter first rest a fits) (behind_is_shorter first rest b other))

-- ---- one parameter

pub no_parameter : (bytes : List ℕ) → behind_parameter bytes ≡ None → length (types_before (length bytes) bytes) ≡ 0
unfolding types_before
no_parameter [] is = refl
no_parameter (first ∷ rest) is = by (first == right_parenthesis) refl is where
  by : (b : Bool) → first == right_parenthesis ≡ b → (if b then None else Some (drop (type_len (first ∷ rest)) (first ∷ rest))) ≡ None → length (types_before (length (first ∷ rest)) (first ∷ rest)) ≡ 0
  by true e none = rw e refl
  by false e none = absurd cc

pub one_parameter : (bytes behind : List ℕ) → behind_parameter bytes ≡ Some behind
    → (length behind < length bytes) × (length (types_before (length bytes) bytes) ≡ suc (length (types_before (length behind) behind)))
unfolding types_before
one_parameter [] behind is = absurd cc
one_parameter (first ∷ rest) behind is = by (first == right_parenthesis) refl is where
  by : (b : Bool) → first == right_parenthesis ≡ b → (if b then None else Some (drop (type_len (first ∷ rest)) (first ∷ rest))) ≡ Some behind
      → (length behind < length (first ∷ rest)) × (length (types_before (length (first ∷ rest)) (first ∷ rest)) ≡ suc (length (types_before (length behind) behind)))
  by true e some = absurd cc
  by false e some =
      let same : drop (type_len (first ∷ rest)) (first ∷ rest) ≡ behind = cc in
      let short : length (drop (type_len (first ∷ rest)) (first ∷ rest)) ≤ length rest = behind_is_shorter first rest (length rest) (omega arith) in
      subst (λ (after : List ℕ). (length after < length (first ∷ rest)) × (length (types_before (length (first ∷ rest)) (first ∷ rest)) ≡ suc (length (types_before (length after) after))))
      same (
        omega arith,
        rw e (ap (λ n. suc n) (ap length (bound_is_large (length rest) (length (drop (type_len (first ∷ rest)) (first ∷ rest))) (drop (type_len (first ∷ rest)) (first ∷ rest)) short (omega arith)))),
      )

-- ---- all of them

pub begins_counted : (desc rest : List ℕ) → rest ≡ drop 1 desc → length (types_before (length rest) rest) ≡ length (parameters_of desc)
begins_counted desc rest is =
    let P : List ℕ → Type 0 = λ bytes. length (types_before (length bytes) bytes) ≡ length (parameters_of desc) in
    subst P (sym is) (ap length (bound_is_large (length (drop 1 desc)) (length desc) (drop 1 desc) (omega arith) (omega (arith, length-drop 1 desc))))

pub begins_within : (desc rest : List ℕ) → rest ≡ drop 1 desc → length rest ≤ length desc
begins_within desc rest is = omega (arith, ap length is, length-drop 1 desc)
