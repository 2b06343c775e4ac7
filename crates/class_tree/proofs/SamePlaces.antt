-- Places that are the same, and the places of names.
use Rattle.std.proofs.Common.{◌≡◌, ◌||◌, Bool, true, false, List, [], ◌∷◌, map, bytes_eq, Some, None, option_map, is_some, refl, sym, ap, ◌∙◌}
use Rattle.std.specs.List.{list_any}
use Rattle.std.proofs.lemmas.Option.{none-some, same_Some}
use Rattle.std.proofs.lemmas.Slice.Eq.{bytes_eq-Decides}
use Rattle.class_model.specs.declared.header.Header.{Header}
use Rattle.class_tree.specs.Headers.{Name, Headers, IsThere}
use Rattle.class_tree.specs.Laws.Places.{same_place}
use Rattle.class_tree.specs.Inner.Nodes.{place_at}
use Rattle.class_tree.specs.Order.{header_at, place_of}
use Rattle.class_tree.specs.contracts.place.PlacePartialEq.TheImpl.{ghosts}
use Rattle.class_tree.specs.declared.place.Place.{Place}
use Rattle.class_tree.proofs.Places.{place_of_number, header_of_place, number_of_itself, class_of_place}
use Rattle.class_tree.proofs.Superclasses.{placed, place_of_itself}
use Rattle.class_tree.proofs.TreeClasses.{HoldsSteps}

abbrev pub is_place : Place → Place → Bool
is_place place other = ghosts.eq other place

-- the class at a place is the class of its name
pub place_of_own : (headers : Headers) → HoldsSteps headers → (place : Place) (header : Header) → header_at headers place ≡ Some header → place_of headers header.name ≡ Some place
place_of_own headers tree place header at =
    place_of_number headers header.name
    ∙ ap (option_map (place_at headers)) (number_of_itself headers tree.in_order _ header (header_of_place headers place header at)).is
    ∙ ap Some (place_of_itself headers place (ap is_some at))

pub name_of_place : (headers : Headers) (name : Name) (place : Place) (header : Header) → place_of headers name ≡ Some place → header_at headers place ≡ Some header → header.name ≡ name
name_of_place headers name place header is at =
    let class = class_of_place headers name place is in
    ap (λ (h : Header). h.name) (same_Some header class.0 (sym at ∙ class.1)) ∙ class.2.same

same_test : (one other : Bool) → (one ≡ true → other ≡ true) → (other ≡ true → one ≡ true) → one ≡ other
same_test true other to from = sym (to refl)
same_test false true to from = from refl
same_test false false to from = refl

-- the place of a class is one of the places of names where its name is one of them
pub one_place : (headers : Headers) → HoldsSteps headers → (place : Place) (header : Header) → header_at headers place ≡ Some header → (names : List Name) (places : List Place) → map (place_of headers) names ≡ map Some places → list_any (is_place place) places ≡ list_any (bytes_eq header.name) names
one_place headers tree place header at [] [] same = refl
one_place headers tree place header at [] (first ∷ places) same = absurd cc
one_place headers tree place header at (name ∷ names) [] same = absurd cc
one_place headers tree place header at (name ∷ names) (first ∷ places) same =
    let is : place_of headers name ≡ Some first = cc in
    let here = same_test (is_place place first) (bytes_eq header.name name)
    (λ e. (bytes_eq-Decides header.name name).1 (name_of_place headers name place header (is ∙ ap Some ((same_place first place).0 e)) at))
    (λ e. (same_place first place).1 (same_Some first place (sym is ∙ ap (place_of headers) (sym ((bytes_eq-Decides header.name name).0 e)) ∙ place_of_own headers tree place header at))) in
    ap (λ b. b || list_any (is_place place) places) here ∙ ap (λ b. bytes_eq header.name name || b) (one_place headers tree place header at names places cc)

pub placed_is_there : (headers : Headers) (name : Name) → IsThere headers name → place_of headers name ≡ None → ⊥
placed_is_there headers name there none = let class = placed headers name there in none-some class.place (sym none ∙ class.is)
