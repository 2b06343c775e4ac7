-- Types that name classes that are there, and arrays whose elements' classes are: closed under the components of arrays, and under arrays of a class.
use Rattle.std.proofs.Common.{◌≡◌, ◌==◌, ◌-◌, ◌⊎◌, ℕ, suc, Bool, true, false, List, [], ◌∷◌, ◌++◌, length, take, drop, Option, Some, None, IfSome, if◌then◌else◌, refl, sym, ap, subst, ◌∙◌, inl, inr, arith}
use Rattle.std.proofs.lemmas.List.{length_push, take_at}
use Rattle.std.proofs.lemmas.List.Sums.{take_while-cons}
use Rattle.std.proofs.lemmas.Option.{none-some}
use Rattle.class_model.specs.ArrayTypes.{component_of}
use Rattle.class_model.specs.Characters.{class_letter, left_bracket, semicolon}
use Rattle.class_model.specs.Descriptors.{brackets, named_text}
use Rattle.class_model.specs.declared.frame.Frame.{Frame}
use Rattle.class_model.specs.declared.frame.VType.{VType}
use Rattle.class_tree.specs.Headers.{Headers, IsThere, Name, class_named}
use Rattle.class_tree.specs.Laws.Headers.{class_there}
use Rattle.class_tree.specs.Subtype.{IsArray, IsReferenceComponent, array, class}
use Rattle.expanded_runs.proofs.Types.ThroughClass.{IsKnown}
use Rattle.expanded_runs.specs.NamedFrames.{FrameHas, TypeHas, TypesHave}
use Rattle.member_link.specs.References.{IsNamedThere, element_class}

-- ---- types of frames

-- an object's type names a class that is there, or an array whose element's class is, if it has one
abbrev pub IsNamedType : Headers → VType → Type 0
IsNamedType headers type = TypeHas (IsNamedThere headers) type

abbrev pub AreNamedTypes : Headers → List VType → Type 0
AreNamedTypes headers entries = TypesHave (IsNamedThere headers) entries

-- those of a frame
abbrev pub AreNamed : Headers → Frame → Type 0
AreNamed headers frame = FrameHas (IsNamedThere headers) frame

-- ---- names of arrays

abbrev element_in : List ℕ → Option Name
element_in [] = None
element_in (first ∷ rest) = if first == class_letter then Some (take (length rest - 1) rest) else None

abbrev element_with : ℕ → Name → Option Name
element_with count name = if count == 0 then Some name else element_in (drop count name)

bracket_more : (xs : List ℕ) → brackets (left_bracket ∷ xs) ≡ suc (brackets xs)
bracket_more xs = ap length (take_while-cons (λ b. b == left_bracket) left_bracket xs)

bracket_none : (x : ℕ) (xs : List ℕ) → (x == left_bracket) ≡ false → brackets (x ∷ xs) ≡ 0
bracket_none x xs e = ap length (take_while-cons (λ b. b == left_bracket) x xs) ∙ (rw e refl)

some_left : (n : ℕ) → (suc n == 0) ≡ false
some_left n = search arith

element_more : (xs : List ℕ) → element_class (left_bracket ∷ xs) ≡ element_in (drop (brackets xs) xs)
element_more xs = ap (λ n. element_with n (left_bracket ∷ xs)) (bracket_more xs) ∙ (rw (some_left (brackets xs)) refl)

element_none : (x : ℕ) (xs : List ℕ) → (x == left_bracket) ≡ false → element_class (x ∷ xs) ≡ Some (x ∷ xs)
element_none x xs e = ap (λ n. element_with n (x ∷ xs)) (bracket_none x xs e)

-- an array of arrays has the elements of those
element_deeper : (rest : List ℕ) → element_class (left_bracket ∷ left_bracket ∷ rest) ≡ element_class (left_bracket ∷ rest)
element_deeper rest =
    element_more (left_bracket ∷ rest) ∙ (ap (λ n. element_in (drop n (left_bracket ∷ rest))) (bracket_more rest) ∙ sym (element_more rest))

pub class_front : (name : Name) → take (length (name ++ semicolon ∷ []) - 1) (name ++ semicolon ∷ []) ≡ name
class_front name =
    take_at name (semicolon ∷ []) (length (name ++ semicolon ∷ []) - 1) (let e = length_push name semicolon in omega (arith, e))

-- an array of a class has that as its element
element_flat : (name : Name) → element_class (left_bracket ∷ class_letter ∷ (name ++ semicolon ∷ [])) ≡ Some name
element_flat name =
    element_more (class_letter ∷ (name ++ semicolon ∷ []))
    ∙ (ap (λ n. element_in (drop n (class_letter ∷ (name ++ semicolon ∷ [])))) (bracket_none class_letter (name ++ semicolon ∷ []) refl)
    ∙ ap Some (class_front name))

element_array : (name : Name) → element_class (left_bracket ∷ named_text name) ≡ element_class name
element_array [] = refl
element_array (first ∷ rest) = by (first == left_bracket) refl where
  by : (b : Bool) → (first == left_bracket) ≡ b → element_class (left_bracket ∷ named_text (first ∷ rest)) ≡ element_class (first ∷ rest)
  by true e =
      let text : named_text (first ∷ rest) ≡ first ∷ rest = rw e refl in
      let same : first ≡ left_bracket = search arith in
      ap (λ t. element_class (left_bracket ∷ t)) text
      ∙ subst (λ x. element_class (left_bracket ∷ (x ∷ rest)) ≡ element_class (x ∷ rest)) (sym same) (element_deeper rest)
  by false e =
      let text : named_text (first ∷ rest) ≡ class_letter ∷ (first ∷ rest ++ semicolon ∷ []) = rw e refl in
      ap (λ t. element_class (left_bracket ∷ t)) text ∙ element_flat (first ∷ rest) ∙ sym (element_none first rest e)

-- the array of a class or array
pub array_there : (headers : Headers) (name : Name) → IsNamedThere headers name → IsNamedThere headers (left_bracket ∷ named_text name)
array_there headers name there = subst (λ o. IfSome o (IsThere headers)) (sym (element_array name)) there

-- a class that is there is named
pub named_there : (headers : Headers) → ((name : Name) → IsArray name → class_named headers name ≡ None) → (name : Name) → IsThere headers name
    → IsNamedThere headers name
named_there headers no_array [] there = there
named_there headers no_array (first ∷ rest) there = by (first == left_bracket) refl where
  by : (b : Bool) → (first == left_bracket) ≡ b → IsNamedThere headers (first ∷ rest)
  by true e =
      let same : first ≡ left_bracket = search arith in
      let found = class_there headers (first ∷ rest) there in
      absurd (none-some found.0 (sym (no_array (first ∷ rest) (rest, ap (λ (n : ℕ). n ∷ rest) same)) ∙ found.1))
  by false e = subst (λ o. IfSome o (IsThere headers)) (sym (element_none first rest e)) there

-- the component of an array of references
pub component_there : (headers : Headers) → ((name : Name) → IsArray name → class_named headers name ≡ None)
    → (name component : Name) → IsReferenceComponent name component → IsNamedThere headers name → IsNamedThere headers (component_of name)
component_there headers no_array _ _ (array component is) there =
    subst (λ (c : Name). IsNamedThere headers (left_bracket ∷ c) → IsNamedThere headers (component_of (left_bracket ∷ c))) (sym is.1)
    (λ named. subst (λ o. IfSome o (IsThere headers)) (element_deeper is.0) named) there
component_there headers no_array _ _ (class component) there =
    subst (IsNamedThere headers) (sym (class_front component))
    (named_there headers no_array component (subst (λ o. IfSome o (IsThere headers)) (element_flat component) there))

-- what is named is an array, or a class that is there
pub array_or_there : (headers : Headers) (name : Name) → IsNamedThere headers name → IsArray name ⊎ IsThere headers name
array_or_there headers [] named = inr named
array_or_there headers (first ∷ rest) named = by (first == left_bracket) refl where
  by : (b : Bool) → (first == left_bracket) ≡ b → IsArray (first ∷ rest) ⊎ IsThere headers (first ∷ rest)
  by true e = let same : first ≡ left_bracket = search arith in inl (rest, ap (λ (n : ℕ). n ∷ rest) same)
  by false e = inr (subst (λ o. IfSome o (IsThere headers)) (element_none first rest e) named)

-- such a type is known
pub named_known : (headers : Headers) (type : VType) → IsNamedType headers type → IsKnown headers type
named_known headers type named = record {
  named = λ name is. array_or_there headers name (subst (IsNamedType headers) is named);
}
