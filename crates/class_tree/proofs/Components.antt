-- The components of arrays of references.
use Rattle.std.proofs.Common.{◌≡◌, ◌≢◌, ◌<◌, ℕ, true, eqb, List, [], ◌∷◌, ◌++◌, length, take, drop, Option, Some, None, IfSome, IfNone, Bor, sym, ap, subst, ◌∙◌, inl, inr, arith}
use Rattle.std.specs.Cmp.Lexicographic.{pointwise}
use Rattle.std.specs.Option.{MatchOption}
use Rattle.std.proofs.lemmas.Bool.{false≢true, and_parts, eqb-true}
use Rattle.std.proofs.lemmas.List.{length-append}
use Rattle.class_tree.specs.Headers.{Name}
use Rattle.class_tree.specs.Laws.Arrays.{component_forms}
use Rattle.class_tree.specs.Subtype.{IsArray, IsReferenceComponent, array, class}

pub component_is_shorter : {name component : Name} → IsReferenceComponent name component → length component < length name
component_is_shorter (array component is) = omega arith
component_is_shorter (class component) = omega (arith, length-append component (59 ∷ []))

-- ---- cutting the component out

-- a byte that was cut off in front
pub behind_byte : (bytes : List ℕ) (byte : ℕ) (rest : List ℕ) → pointwise eqb (take 1 bytes) (byte ∷ []) ≡ true → rest ≡ drop 1 bytes → bytes ≡ byte ∷ rest
behind_byte [] byte rest same is = absurd (false≢true same)
behind_byte (first ∷ bytes) byte rest same is =
    ap (λ n. n ∷ bytes) (eqb-true first byte (and_parts (eqb first byte) _ same).0) ∙ ap (λ (more : List ℕ). byte ∷ more) (sym is)

pub class_component : (name rest middle : Name) → name ≡ 91 ∷ rest → rest ≡ 76 ∷ middle → (found : Option (Bor (List ℕ))) → MatchOption found ((front : List ℕ) → middle ≢ front ++ 59 ∷ []) (λ class. middle ≡ class.now ++ 59 ∷ []) → IfSome found (λ class. IsReferenceComponent name class.now)
class_component name rest middle outer inner None cut = tt
class_component name rest middle outer inner (Some found) cut =
    subst (λ n. IsReferenceComponent n found.now) (sym (outer ∙ ap (λ (bytes : List ℕ). 91 ∷ bytes) (inner ∙ ap (λ (bytes : List ℕ). 76 ∷ bytes) cut))) (class found.now)

pub no_component : (name rest middle : Name) → name ≡ 91 ∷ rest → ¬ IsArray rest → rest ≡ 76 ∷ middle → (found : Option (Bor (List ℕ))) → MatchOption found ((front : List ℕ) → middle ≢ front ++ 59 ∷ []) (λ class. middle ≡ class.now ++ 59 ∷ []) → IfNone found ((component : Name) → ¬ IsReferenceComponent name component)
no_component name rest middle outer flat inner (Some found) cut = tt
no_component name rest middle outer flat inner None cut = λ component is.
    elim (component_forms is) [
      | inl deep ↦ flat (subst IsArray (ap (drop 1) (sym deep.1 ∙ outer)) deep.0)
      | inr ended ↦ cut component (ap (drop 2) (sym (outer ∙ ap (λ (bytes : List ℕ). 91 ∷ bytes) inner) ∙ ended))
    ]
