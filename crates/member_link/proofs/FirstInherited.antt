-- The first superinterface that declares a method that is neither private nor static.
use Rattle.std.proofs.Common.{◌≡◌, ◌+◌, ◌<◌, ℕ, zero, suc, List, [], ◌∷◌, length, get_or, map, drop, true, false, Option, Some, None, is_some, option_and_then, refl, sym, ap, ◌∙◌, arith}
use Rattle.std.proofs.lemmas.List.{drop_more, length-map}
use Rattle.std.proofs.lemmas.Option.{same_Some}
use Rattle.class_model.specs.declared.header.Header.{Header}
use Rattle.class_tree.specs.Headers.{Name, Headers, class_named}
use Rattle.class_tree.specs.Hierarchy.{IsHierarchy}
use Rattle.class_tree.specs.Order.{header_at, place_of}
use Rattle.class_tree.specs.declared.place.Place.{Place}
use Rattle.member_link.specs.DeclaredMembers.{Declared, declared}
use Rattle.member_link.specs.Defaults.{first_inherited}
use Rattle.member_link.specs.Inner.DefaultsAt.{inherited_by, inherited_of}

-- the first, or else the other
abbrev pub first_of : Option Declared → Option Declared → Option Declared
first_of (Some method) other = Some method
first_of None other = other

first_inherited_here : (headers : Headers) (name desc : List ℕ) (interface : Name) (interfaces : List Name) (header : Header) → class_named headers interface ≡ Some header → header.name ≡ interface → first_inherited headers name desc (interface ∷ interfaces) ≡ first_of (inherited_of name desc header) (first_inherited headers name desc interfaces)
first_inherited_here headers name desc interface interfaces header is own =
    ap (λ found. first_of (inherited_by interface (option_and_then (λ (header : Header). declared name desc header.methods) found)) (first_inherited headers name desc interfaces)) is
    ∙ ap (λ (class : Name). first_of (inherited_by class (declared name desc header.methods)) (first_inherited headers name desc interfaces)) (sym own)

-- there are as many names as places
pub as_many : (headers : Headers) (names : List Name) (places : List Place) → map (place_of headers) names ≡ map Some places → length names ≡ length places
as_many headers names places same = sym (length-map names (place_of headers)) ∙ ap length same ∙ length-map places Some

name_at : (headers : Headers) (names : List Name) (places : List Place) → map (place_of headers) names ≡ map Some places → (at : ℕ) (other : Place) → at < length places → place_of headers (get_or names at []) ≡ Some (get_or places at other)
name_at headers [] [] same at other within = absurd (omega arith)
name_at headers [] (place ∷ places) same at other within = absurd cc
name_at headers (name ∷ names) [] same at other within = absurd cc
name_at headers (name ∷ names) (place ∷ places) same zero other within = cc
name_at headers (name ∷ names) (place ∷ places) same (suc at) other within = name_at headers names places (cc) at other (omega arith)

-- the first is that of the next interface, or else that of those behind it
pub first_of_next : (headers : Headers) → IsHierarchy headers → (name desc : List ℕ) (names : List Name) (places : List Place) → map (place_of headers) names ≡ map Some places → (at : ℕ) (other : Place) → at < length places → (header : Header) → header_at headers (get_or places at other) ≡ Some header → first_inherited headers name desc (drop at names) ≡ first_of (inherited_of name desc header) (first_inherited headers name desc (drop (at + 1) names))
first_of_next headers hierarchy name desc names places same at other within header there =
    let stands = hierarchy.placed (get_or names at []) (get_or places at other) (name_at headers names places same at other within) in
    let is : stands.0 ≡ header = same_Some stands.0 header (sym stands.1.at ∙ there) in
    ap (first_inherited headers name desc) (drop_more names at [] (omega (arith, as_many headers names places same)))
    ∙ first_inherited_here headers name desc (get_or names at []) (drop (at + 1) names) header (stands.1.found ∙ ap Some is) (ap (λ (h : Header). h.name) (sym is) ∙ stands.1.own_name)

pub first_is : (method other : Option Declared) → is_some method ≡ true → first_of method other ≡ method
first_is None other some = absurd cc
first_is (Some method) other some = refl

pub first_is_other : (method other : Option Declared) → is_some method ≡ false → first_of method other ≡ other
first_is_other None other none = refl
first_is_other (Some method) other none = absurd cc
