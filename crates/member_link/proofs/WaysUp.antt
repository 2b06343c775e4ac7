-- Two ways over the classes above a class, and the methods that are met: its superclasses upwards, and its superinterfaces.
use Rattle.std.proofs.Common.{◌≡◌, ◌⊎◌, ◌+◌, ◌<◌, ◌≤◌, ℕ, Bool, true, false, List, length, drop, get_or, Option, Some, None, IsSome, IfSome, IsTrue, IsFalse, refl, sym, ap, subst, ◌∙◌, inl, inr}
use Rattle.std.proofs.lemmas.Bool.{cases_Bool}
use Rattle.std.proofs.lemmas.List.{drop_more, drop_all}
use Rattle.std.proofs.lemmas.Option.{none-some, same_Some}
use Rattle.class_model.specs.declared.header.Header.{Header}
use Rattle.class_tree.specs.Headers.{Name, Headers, class_named}
use Rattle.class_tree.specs.Hierarchy.{IsHierarchy, superclass_of}
use Rattle.class_tree.specs.Laws.Above.{below_more, superclass_kind, class_is_climbed, IsReached, hierarchy_is_sound, hierarchy_is_rooted}
use Rattle.class_tree.specs.Laws.Headers.{no_superclass, superclass_there}
use Rattle.class_tree.specs.Names.{is_interface}
use Rattle.class_tree.specs.Order.{header_at}
use Rattle.class_tree.specs.Subtype.{superclass, IsBelow, directly}
use Rattle.class_tree.specs.declared.place.Place.{Place}
use Rattle.member_link.specs.Access.{IsAtOrBelow}
use Rattle.member_link.specs.DeclaredMembers.{Declared}
use Rattle.member_link.specs.Found.{IsMethodFound}
use Rattle.member_link.specs.Inner.OpenMethods.{IsAbove, IsAboveOfKind, IsSameOf, IsAnyOf, one_passes, none_passes}
use Rattle.member_link.specs.declared.found.Found.{Found}
use Rattle.member_link.proofs.Climbed.{superclass_at}
use Rattle.member_link.proofs.Superinterfaces.{IsPlacedIn, AreSuperinterfacesAt}

-- Superclasses from a place upwards are left, and those before it have passed.
pub record AreClassesLeft (headers : Headers) (low : Name) (Passed : Name → Type 0) (next : Option Place) : Type 0 where
  pub there : IfSome next (λ place. IsSome (header_at headers place))
  pub above : (place : Place) (header : Header) → next ≡ Some place → header_at headers place ≡ Some header → IsBelow headers low header.name × IsFalse (is_interface header)
  pub left : (name : Name) (header : Header) → class_named headers name ≡ Some header → IsFalse (is_interface header) → IsBelow headers low name → Passed name ⊎ IsReached headers next name

-- Superinterfaces at these places are left, and the others have passed.
abbrev pub AreInterfacesLeft : Headers → Name → (Name → Type 0) → List Place → Type 0
AreInterfacesLeft headers low Passed places = (name : Name) (header : Header) → class_named headers name ≡ Some header → IsTrue (is_interface header) → IsBelow headers low name → Passed name ⊎ IsPlacedIn headers places name

module _ (headers : Headers) (hierarchy : IsHierarchy headers) (low : Name) (Passed : Name → Type 0) where
  -- the next superclass, where what is left is above the class at a place
  onwards_from : (place : Place) (header : Header) → header_at headers place ≡ Some header → IsAtOrBelow headers low header.name → ((name : Name) (above : Header) → class_named headers name ≡ Some above → IsFalse (is_interface above) → IsBelow headers low name → Passed name ⊎ IsBelow headers header.name name) → AreClassesLeft headers low Passed (superclass_of headers place)
  onwards_from place header at up left = record { there = superclass_there headers place; above = above; left = from }
    where
      is : class_named headers header.name ≡ Some header
      is = (hierarchy.of_place place header at).found

      below : (name : Name) → header.super_name ≡ Some name → IsBelow headers low name
      below name some =
          let step = superclass header.name name header is some in
          elim up [
            | inl same ↦ subst (λ low. IsBelow headers low name) (sym same) (directly header.name name step)
            | inr more ↦ below_more more (directly header.name name step)
          ]

      above : (other : Place) (class : Header) → superclass_of headers place ≡ Some other → header_at headers other ≡ Some class → IsBelow headers low class.name × IsFalse (is_interface class)
      above other class next other_at = by header.super_name refl
        where
          by : (super : Option Name) → header.super_name ≡ super → IsBelow headers low class.name × IsFalse (is_interface class)
          by None none = absurd (none-some other (sym (no_superclass headers place header at none) ∙ next))
          by (Some name) some =
              let super = superclass_at headers hierarchy place header at name some in
              let same = same_Some super.class class (sym super.stands.at ∙ ap (header_at headers) (same_Some super.high other (sym super.is ∙ next)) ∙ other_at) in (
                subst (λ (h : Header). IsBelow headers low h.name) same (subst (IsBelow headers low) (sym super.stands.own_name) (below name some)),
                superclass_kind headers (hierarchy_is_sound headers hierarchy) header.name header is name some class (super.stands.found ∙ ap Some same),
              )

      from : (name : Name) (class : Header) → class_named headers name ≡ Some class → IsFalse (is_interface class) → IsBelow headers low name → Passed name ⊎ IsReached headers (superclass_of headers place) name
      from name class class_is kind more = elim (left name class class_is kind more) [
        | inl passed ↦ inl passed
        | inr further ↦
            let climbed = class_is_climbed headers (hierarchy_is_sound headers hierarchy) (hierarchy_is_rooted headers hierarchy) further header class is class_is kind in
            let super = superclass_at headers hierarchy place header at climbed.0 climbed.1 in
            inr (subst (λ next. IsReached headers next name) (sym super.is) (super.class, super.stands.at, subst (λ n. IsAtOrBelow headers n name) (sym super.stands.own_name) climbed.2))
      ]

  pub first_class : (place : Place) (header : Header) → header_at headers place ≡ Some header → header.name ≡ low → AreClassesLeft headers low Passed (superclass_of headers place)
  first_class place header at same = onwards_from place header at (inl (sym same)) (λ name above is kind up. inr (subst (λ n. IsBelow headers n name) (sym same) up))

  pub next_class : (place : Place) (header : Header) → header_at headers place ≡ Some header → Passed header.name → AreClassesLeft headers low Passed (Some place) → AreClassesLeft headers low Passed (superclass_of headers place)
  next_class place header at passed classes = onwards_from place header at (inr (classes.above place header refl at).0) (λ name above is kind up.
      elim (classes.left name above is kind up) [
        | inl before ↦ inl before
        | inr (class, class_at, from) ↦ elim (subst (λ (h : Header). IsAtOrBelow headers h.name name) (same_Some class header (sym class_at ∙ at)) from) [
          | inl same ↦ inl (subst Passed same passed)
          | inr further ↦ inr further
        ]
      ])

  pub no_class_left : AreClassesLeft headers low Passed None → (name : Name) (header : Header) → class_named headers name ≡ Some header → IsFalse (is_interface header) → IsBelow headers low name → Passed name
  no_class_left classes name header is kind up = elim (classes.left name header is kind up) [ inl passed ↦ passed | inr from ↦ absurd from ]

  pub first_interfaces : (places : List Place) → AreSuperinterfacesAt headers low places → AreInterfacesLeft headers low Passed places
  first_interfaces places are = λ name header is kind up. inr ((are.all name header is kind).0 up)

  pub next_interfaces : (places : List Place) (i : ℕ) (other : Place) (header : Header) → i < length places → header_at headers (get_or places i other) ≡ Some header → Passed header.name → AreInterfacesLeft headers low Passed (drop i places) → AreInterfacesLeft headers low Passed (drop (i + 1) places)
  next_interfaces places i other header within at passed interfaces = λ name class is kind up.
      elim (interfaces name class is kind up) [
        | inl before ↦ inl before
        | inr placed ↦ elim (subst (λ rest. IsPlacedIn headers rest name) (drop_more places i other within) placed) [
          | inl here ↦
              let stands = hierarchy.placed name (get_or places i other) here in
              inl (subst Passed (ap (λ (h : Header). h.name) (same_Some header stands.0 (sym at ∙ stands.1.at)) ∙ stands.1.own_name) passed)
          | inr there ↦ inr there
        ]
      ]

  pub no_interface_left : (places : List Place) (i : ℕ) → length places ≤ i → AreInterfacesLeft headers low Passed (drop i places) → (name : Name) (header : Header) → class_named headers name ≡ Some header → IsTrue (is_interface header) → IsBelow headers low name → Passed name
  no_interface_left places i end interfaces name header is kind up = elim (interfaces name header is kind up) [
    | inl passed ↦ passed
    | inr placed ↦ absurd (subst (λ rest. IsPlacedIn headers rest name) (drop_all i places end) placed)
  ]

-- ---- the methods that are met

of_none : {headers : Headers} {Counts : Declared → Type 0} {Answer : Found → Bool → Type 0} → IsAnyOf headers Counts Answer false → (high : Declared) → Counts high → (found : Found) × IsMethodFound headers found high × Answer found false
of_none (none_passes none) = none

-- the method of a class does not pass
abbrev pub HasNone : Headers → Declared → (Found → Bool → Type 0) → Name → Type 0
HasNone headers low Answer name = IsAnyOf headers (IsSameOf headers name low.member) Answer false

module _ (headers : Headers) (low : Declared) (Answer : Found → Bool → Type 0) where
  -- that of a class above does
  pub met : (kind : Bool) (header : Header) → class_named headers header.name ≡ Some header → IsBelow headers low.class header.name → is_interface header ≡ kind → IsAnyOf headers (IsSameOf headers header.name low.member) Answer true → IsAnyOf headers (IsAboveOfKind headers kind low) Answer true
  met kind header is below same (one_passes found high found_is own answer) =
      let class = same_Some own.method.header header (sym own.method.found ∙ ap (class_named headers) own.own_class ∙ is) in
      one_passes found high found_is (
        record { method = own.method; below = subst (IsBelow headers low.class) (sym own.own_class) below; same_name = own.same_name; same_desc = own.same_desc },
        ap is_interface class ∙ same,
      ) answer

  -- none of the classes above does
  pub unmet : (kind : Bool) → ((name : Name) (header : Header) → class_named headers name ≡ Some header → is_interface header ≡ kind → IsBelow headers low.class name → HasNone headers low Answer name) → IsAnyOf headers (IsAboveOfKind headers kind low) Answer false
  unmet kind none = none_passes (λ high counts.
      let above = counts.0 in
      of_none (none high.class above.method.header above.method.found counts.1 above.below) high (record { method = above.method; own_class = refl; same_name = above.same_name; same_desc = above.same_desc }))

  -- no superclass does, so that it is for the superinterfaces to say
  pub interfaces_say : (result : Bool) → IsAnyOf headers (IsAboveOfKind headers false low) Answer false → IsAnyOf headers (IsAboveOfKind headers true low) Answer result → IsAnyOf headers (IsAbove headers low) Answer result
  interfaces_say true classes (one_passes found high is counts answer) = one_passes found high is counts.0 answer
  interfaces_say false classes interfaces = none_passes (λ high above. elim (cases_Bool (is_interface above.method.header)) [
    | inl interface ↦ of_none interfaces high (above, interface)
    | inr class ↦ of_none classes high (above, class)
  ])

  pub class_says : IsAnyOf headers (IsAboveOfKind headers false low) Answer true → IsAnyOf headers (IsAbove headers low) Answer true
  class_says (one_passes found high is counts answer) = one_passes found high is counts.0 answer
