-- A member stands in a list where it has a place there.
use Rattle.std.proofs.Common.{◌≡◌, ◌↔◌, ◌+◌, ℕ, Bool, true, false, ◌||◌, cond, is_some, IsTrue, List, [], ◌∷◌, Option, Some, None, option_map, option_and_then, refl, sym, ap, ◌∙◌}
use Rattle.std.specs.List.{list_any}
use Rattle.class_model.specs.Header.{header_of}
use Rattle.class_model.specs.declared.header.Header.{Header}
use Rattle.class_tree.specs.Names.{is_member}
use Rattle.class_tree.specs.Order.{first_place, header_at, member_place}
use Rattle.class_tree.specs.declared.place.Place.{Place}
use Rattle.member_link.specs.References.{Reference}
use Rattle.member_link.specs.Rows.MemberRows.{IsOwnField}
use Rattle.member_link.specs.Scope.{Scope, row_scope}
use Rattle.member_link.specs.Inner.Scope.{current}

one_more : (found : Option ℕ) → is_some (option_map (λ place. place + 1) found) ≡ is_some found
one_more None = refl
one_more (Some place) = refl

one_place : (passes : Bool) (found : Option ℕ) (others : Bool) → is_some found ≡ others → is_some (cond passes (Some 0) (option_map (λ place. place + 1) found)) ≡ passes || others
one_place true found others e = refl
one_place false found others e = one_more found ∙ e

some_place : {X : Type 0} (test : X → Bool) (xs : List X) → is_some (first_place test xs) ≡ list_any test xs
some_place test [] = refl
some_place test (x ∷ xs) = one_place (test x) (first_place test xs) (list_any test xs) (some_place test xs)

pub own_field : (s : Scope) (place : Place) (header : Header) (reference : Reference) (found : Option ℕ) → header_at s.headers place ≡ Some header → header ≡ header_of s.class
    → found ≡ option_and_then (λ (h : Header). member_place reference.name reference.desc h.fields) (header_at s.headers place) → reference.class ≡ current s → (answer : Bool) → answer ≡ is_some found → IsTrue answer ↔ IsOwnField (row_scope s) reference
own_field s place header reference found stands is found_is same answer answer_is =
    let there : header_at s.headers place ≡ Some (header_of s.class) = stands ∙ ap Some is in
    let e : answer ≡ list_any (is_member reference.name reference.desc) (header_of s.class).fields =
    answer_is
    ∙ ap is_some (found_is ∙ ap (λ (o : Option Header). option_and_then (λ (h : Header). member_place reference.name reference.desc h.fields) o) there) ∙ some_place (is_member reference.name reference.desc) (header_of s.class).fields in
    ((λ h. (same, sym e ∙ h)), (λ own. e ∙ own.1))
