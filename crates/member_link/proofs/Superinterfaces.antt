-- The superinterfaces of a class, by their names and by their places, and the methods that they declare.
use Rattle.std.proofs.Common.{◌≡◌, ◌⊎◌, ◌↔◌, ◌<◌, Bool, true, false, not, cond, ℕ, List, [], ◌∷◌, length, get_or, map, filter, bytes_eq, Some, IfSome, IsTrue, refl, sym, ap, subst, ◌∙◌, inl, inr}
use Rattle.std.specs.Bool.{Decides}
use Rattle.std.specs.List.{AllByRecursion, list_any}
use Rattle.std.proofs.lemmas.Bool.{false≢true, cases_Bool, or_cases, or_left, or_right}
use Rattle.std.proofs.lemmas.Option.{same_Some}
use Rattle.std.proofs.lemmas.Slice.Eq.{bytes_eq-Decides}
use Rattle.class_model.specs.declared.header.Header.{Header}
use Rattle.class_tree.specs.Headers.{Name, Headers, class_named}
use Rattle.class_tree.specs.Hierarchy.{IsHierarchy}
use Rattle.class_tree.specs.Interfaces.{AreSuperinterfaces, each_once}
use Rattle.class_tree.specs.Laws.Names.{IsOneName, one_name_first, one_of_first, each_of_names}
use Rattle.class_tree.specs.Laws.Places.{same_place}
use Rattle.class_tree.specs.Names.{is_interface}
use Rattle.class_tree.specs.Order.{header_at, place_of}
use Rattle.class_tree.specs.Subtype.{IsBelow}
use Rattle.class_tree.specs.contracts.place.PlacePartialEq.TheImpl.{ghosts}
use Rattle.class_tree.specs.declared.place.Place.{Place}
use Rattle.member_link.specs.Inner.DefaultsAt.{IsSuperinterfaceAt}
use Rattle.member_link.proofs.OneHas.{each_at}

-- ---- names

-- each name once
abbrev pub AreNamesApart : List Name → Type 0
AreNamesApart [] = Unit {0}
AreNamesApart (name ∷ names) = (¬ IsOneName names name) × AreNamesApart names

one_kept : (test : Name → Bool) (names : List Name) (name : Name) → IsOneName (filter test names) name → IsOneName names name × IsTrue (test name)
one_kept test [] name one = absurd (false≢true one)
one_kept test (first ∷ names) name one = elim (cases_Bool (test first)) [
  | inl kept ↦ elim (one_of_first first (filter test names) name (subst (λ b. IsOneName (cond b (first ∷ filter test names) (filter test names)) name) kept one)) [
    | inl here ↦ (one_name_first name first names here, ap test (sym here) ∙ kept)
    | inr there ↦ let more = one_kept test names name there in (or_right _ _ more.0, more.1)
  ]
  | inr left ↦ let more = one_kept test names name (subst (λ b. IsOneName (cond b (first ∷ filter test names) (filter test names)) name) left one) in (or_right _ _ more.0, more.1)
]

apart_kept : (test : Name → Bool) (names : List Name) → AreNamesApart names → AreNamesApart (filter test names)
apart_kept test [] apart = tt
apart_kept test (first ∷ names) apart =
    elim (test first) as (λ b. AreNamesApart (cond b (first ∷ filter test names) (filter test names))) [
      | true ↦ (λ one. apart.0 (one_kept test names first one).0, apart_kept test names apart.1)
      | false ↦ apart_kept test names apart.1
    ]

once_apart : (names : List Name) → AreNamesApart (each_once names)
once_apart [] = tt
once_apart (name ∷ names) = (
  λ one. false≢true (sym (ap not ((bytes_eq-Decides name name).1 refl)) ∙ (one_kept (λ other. not (bytes_eq name other)) (each_once names) name one).1),
  apart_kept (λ other. not (bytes_eq name other)) (each_once names) (once_apart names),
)

-- the superinterfaces are interfaces
named_interface : (headers : Headers) → IsHierarchy headers → (class : Name) (names : List Name) → AreSuperinterfaces headers class names → (name : Name) → IsOneName names name → (header : Header) → class_named headers name ≡ Some header → IsTrue (is_interface header)
named_interface headers hierarchy class names are name one header is =
    let interface = each_of_names (λ name. (header : Header) × (class_named headers name ≡ Some header) × IsTrue (is_interface header)) names (hierarchy.interfaces class names are) name one in
    subst (λ (header : Header). IsTrue (is_interface header)) (same_Some interface.0 header (sym interface.1 ∙ is)) interface.2

-- ---- places

-- the class of a name stands at one of these places
abbrev pub IsPlacedIn : Headers → List Place → Name → Type 0
IsPlacedIn headers [] name = ⊥
IsPlacedIn headers (place ∷ places) name = (place_of headers name ≡ Some place) ⊎ IsPlacedIn headers places name

-- a place is one of these where the class that stands there is placed in them
pub placed_decides : (headers : Headers) (name : Name) (place : Place) → place_of headers name ≡ Some place → (places : List Place) → Decides (list_any (λ other. ghosts.eq other place) places) (IsPlacedIn headers places name)
placed_decides headers name place is [] = (λ one. absurd (false≢true one), λ placed. absurd placed)
placed_decides headers name place is (first ∷ places) =
    let rest = placed_decides headers name place is places in (
      λ one. elim (or_cases _ _ one) [
        | inl here ↦ inl (is ∙ ap Some (sym ((same_place first place).0 here)))
        | inr there ↦ inr (rest.0 there)
      ],
      λ placed. elim placed [
        | inl here ↦ or_left _ _ ((same_place first place).1 (same_Some first place (sym here ∙ is)))
        | inr there ↦ or_right _ _ (rest.1 there)
      ],
    )

-- each place once
abbrev pub ArePlacesApart : Headers → List Place → Type 0
ArePlacesApart headers [] = Unit {0}
ArePlacesApart headers (place ∷ places) = ((name : Name) → place_of headers name ≡ Some place → ¬ IsPlacedIn headers places name) × ArePlacesApart headers places

-- The superinterfaces of a class stand at these places, each at one.
pub record AreSuperinterfacesAt (headers : Headers) (class : Name) (places : List Place) : Type 0 where
  pub each : AllByRecursion (IsSuperinterfaceAt headers class) places
  pub all : (name : Name) (header : Header) → class_named headers name ≡ Some header → IsTrue (is_interface header) → IsBelow headers class name ↔ IsPlacedIn headers places name
  pub apart : ArePlacesApart headers places

-- these are the places of the names of a class's superinterfaces
abbrev pub ArePlacesOfNames : Headers → List Place → Header → Type 0
ArePlacesOfNames headers places header = (names : List Name) × AreSuperinterfaces headers header.name names × (map (place_of headers) names ≡ map Some places)

-- their names, of the class at a place
pub names_of : (headers : Headers) (class : Place) (places : List Place) → IfSome (header_at headers class) (ArePlacesOfNames headers places) → (header : Header) → header_at headers class ≡ Some header → ArePlacesOfNames headers places header
names_of headers class places told header at = subst (λ found. IfSome found (ArePlacesOfNames headers places)) at told

-- two names of one place are one name
pub same_name : (headers : Headers) → IsHierarchy headers → (one other : Name) (place : Place) → place_of headers one ≡ Some place → place_of headers other ≡ Some place → one ≡ other
same_name headers hierarchy one other place is also =
    let class = hierarchy.placed one place is in
    let same = hierarchy.placed other place also in
    sym class.1.own_name ∙ ap (λ (h : Header). h.name) (same_Some class.0 same.0 (sym class.1.at ∙ same.1.at)) ∙ same.1.own_name

module _ (headers : Headers) (hierarchy : IsHierarchy headers) where
  -- a name is one of these where its place is one of theirs
  name_decides : (names : List Name) (places : List Place) → map (place_of headers) names ≡ map Some places → (name : Name) → IsOneName names name ↔ IsPlacedIn headers places name
  name_decides [] [] same name = (λ one. absurd (false≢true one), λ placed. absurd placed)
  name_decides [] (place ∷ places) same name = absurd cc
  name_decides (first ∷ names) [] same name = absurd cc
  name_decides (first ∷ names) (place ∷ places) same name =
      let is : place_of headers first ≡ Some place = cc in
      let rest = name_decides names places (cc) name in (
        λ one. elim (one_of_first first names name one) [
          | inl here ↦ inl (ap (place_of headers) (sym here) ∙ is)
          | inr there ↦ inr (rest.0 there)
        ],
        λ placed. elim placed [
          | inl here ↦ one_name_first name first names (same_name headers hierarchy first name place is here)
          | inr there ↦ or_right _ _ (rest.1 there)
        ],
      )

  each_place : (P : Place → Type 0) (names : List Name) (places : List Place) → map (place_of headers) names ≡ map Some places → ((name : Name) (place : Place) → IsOneName names name → place_of headers name ≡ Some place → P place) → AllByRecursion P places
  each_place P [] [] same holds = tt
  each_place P [] (place ∷ places) same holds = absurd cc
  each_place P (name ∷ names) [] same holds = absurd cc
  each_place P (name ∷ names) (place ∷ places) same holds = (
    holds name place (one_name_first name name names refl) cc,
    each_place P names places (cc) (λ other there one is. holds other there (or_right _ _ one) is),
  )

  places_apart : (names : List Name) (places : List Place) → map (place_of headers) names ≡ map Some places → AreNamesApart names → ArePlacesApart headers places
  places_apart [] [] same apart = tt
  places_apart [] (place ∷ places) same apart = absurd cc
  places_apart (name ∷ names) [] same apart = absurd cc
  places_apart (name ∷ names) (place ∷ places) same apart =
      let is : place_of headers name ≡ Some place = cc in
      let rest : map (place_of headers) names ≡ map Some places = cc in (
        λ other there placed. apart.0 (subst (IsOneName names) (same_name headers hierarchy other name place there is) ((name_decides names places rest other).1 placed)),
        places_apart names places rest apart.1,
      )

  -- the places of its superinterfaces
  pub superinterface_places : (class : Name) (names : List Name) (places : List Place) → AreSuperinterfaces headers class names → map (place_of headers) names ≡ map Some places → AreSuperinterfacesAt headers class places
  superinterface_places class names places are same = record {
    each = each_place (IsSuperinterfaceAt headers class) names places same (λ name place one is.
        let stands = hierarchy.placed name place is in
        let interface : IsTrue (is_interface stands.0) = named_interface headers hierarchy class names are name one stands.0 stands.1.found in
        record {
          header = stands.0;
          at = stands.1.at;
          interface = interface;
          above = subst (IsBelow headers class) (sym stands.1.own_name) ((hierarchy.superinterfaces class name stands.0 names are stands.1.found interface).0 one);
        });
    all = λ name header is kind.
        let above = hierarchy.superinterfaces class name header names are is kind in
        let decides = name_decides names places same name in
        (λ up. decides.0 (above.1 up), λ placed. above.0 (decides.1 placed));
    apart = places_apart names places same (subst AreNamesApart (sym are.once) (once_apart are.walk));
  }

  -- those of the class at a place
  pub superinterfaces_of : (class : Place) (places : List Place) → IfSome (header_at headers class) (ArePlacesOfNames headers places) → (header : Header) → header_at headers class ≡ Some header → AreSuperinterfacesAt headers header.name places
  superinterfaces_of class places told header at =
      let known = names_of headers class places told header at in
      superinterface_places header.name known.0 places known.1 known.2

  -- one of them
  pub superinterface_at : (class : Place) (places : List Place) → IfSome (header_at headers class) (ArePlacesOfNames headers places) → (header : Header) → header_at headers class ≡ Some header → (at : ℕ) (other : Place) → at < length places → IsSuperinterfaceAt headers header.name (get_or places at other)
  superinterface_at class places told header is at other within = each_at (IsSuperinterfaceAt headers header.name) places (superinterfaces_of class places told header is).each at other within
