-- The defaults that a loop over the superinterfaces has met so far: at most one, and the others are among those that are
-- left.
use Rattle.std.proofs.Common.{◌≡◌, ◌⊎◌, ◌+◌, ◌<◌, ◌≤◌, ℕ, zero, suc, List, [], ◌∷◌, length, get_or, drop, true, false, Option, Some, None, is_some, sym, ap, subst, ◌∙◌, inl, inr}
use Rattle.std.proofs.lemmas.List.{drop_more, drop_all}
use Rattle.std.proofs.lemmas.Option.{same_Some}
use Rattle.class_model.specs.declared.header.Header.{Header}
use Rattle.class_tree.specs.Headers.{Name, Headers}
use Rattle.class_tree.specs.Hierarchy.{IsHierarchy}
use Rattle.class_tree.specs.Order.{header_at, place_of}
use Rattle.class_tree.specs.declared.place.Place.{Place}
use Rattle.member_link.specs.DeclaredMembers.{Declared}
use Rattle.member_link.specs.Defaults.{IsDefault}
use Rattle.member_link.specs.Inner.DefaultsAt.{IsDefaultOf}
use Rattle.member_link.specs.Inner.DefaultsOf.{HasTwoDefaults, AreDefaults}
use Rattle.member_link.specs.Found.{IsMethodFound}
use Rattle.member_link.specs.declared.defaults.DefaultMethods.TheVariants.{One}
use Rattle.member_link.specs.declared.found.Found.{Found}
use Rattle.member_link.proofs.DefaultMethods.{own_method_is}
use Rattle.member_link.proofs.InheritedMethods.{method_placed}
use Rattle.member_link.proofs.Superinterfaces.{IsPlacedIn, ArePlacesApart, AreSuperinterfacesAt, same_name}

-- One default is met, and stands at none of the places that are left.
pub record IsOneSoFar (headers : Headers) (class : Name) (name desc : List ℕ) (left : List Place) (found : Found) : Type 0 where
  pub one : Declared
  pub is : IsMethodFound headers found one
  pub is_default : IsDefault headers class name desc one
  pub passed : ¬ IsPlacedIn headers left one.class
  pub others : (other : Declared) → IsDefault headers class name desc other → (other ≡ one) ⊎ IsPlacedIn headers left other.class

-- What is met: none, or one. The others stand at places that are left.
abbrev pub IsSoFar : Headers → Name → List ℕ → List ℕ → List Place → Option Found → Type 0
IsSoFar headers class name desc left None = (method : Declared) → IsDefault headers class name desc method → IsPlacedIn headers left method.class
IsSoFar headers class name desc left (Some found) = IsOneSoFar headers class name desc left found

-- the places that are left are the next one and those behind it
module _ (headers : Headers) (places : List Place) (at : ℕ) (other : Place) (within : at < length places) where
  here_or_later : (name : Name) → IsPlacedIn headers (drop at places) name → (place_of headers name ≡ Some (get_or places at other)) ⊎ IsPlacedIn headers (drop (at + 1) places) name
  here_or_later name placed = subst (λ (left : List Place). IsPlacedIn headers left name) (drop_more places at other within) placed

  in_left : (name : Name) → (place_of headers name ≡ Some (get_or places at other)) ⊎ IsPlacedIn headers (drop (at + 1) places) name → IsPlacedIn headers (drop at places) name
  in_left name placed = subst (λ (left : List Place). IsPlacedIn headers left name) (sym (drop_more places at other within)) placed

left_apart : (headers : Headers) (places : List Place) → ArePlacesApart headers places → (at : ℕ) → ArePlacesApart headers (drop at places)
left_apart headers places apart zero = apart
left_apart headers [] apart (suc at) = tt
left_apart headers (place ∷ places) apart (suc at) = left_apart headers places apart.1 at

module _ (headers : Headers) (hierarchy : IsHierarchy headers) (class : Name) (name desc : List ℕ) (places : List Place) where
  -- at first all are left
  pub none_so_far : AreSuperinterfacesAt headers class places → IsSoFar headers class name desc places None
  none_so_far are = λ method is. (method_placed headers hierarchy class places are name desc method is.specific.of_superinterface).placed

  -- in the end none is left
  pub all_met : (at : ℕ) → length places ≤ at → (only : Option Found) → IsSoFar headers class name desc (drop at places) only → IsSoFar headers class name desc [] only
  all_met at past only met = subst (λ (left : List Place). IsSoFar headers class name desc left only) (drop_all at places past) met

  pub only_one : (found : Found) → IsSoFar headers class name desc [] (Some found) → AreDefaults headers class name desc (One found)
  only_one found met = (met.one, met.is, record { is_default = met.is_default; only = λ other is. elim (met.others other is) [ inl same ↦ same | inr left ↦ absurd left ] })

  module _ (at : ℕ) (other : Place) (within : at < length places) (header : Header) (there : header_at headers (get_or places at other) ≡ Some header) where
    -- the interface at the next place
    named_here : (interface : Name) → place_of headers interface ≡ Some (get_or places at other) → interface ≡ header.name
    named_here interface is = same_name headers hierarchy interface header.name (get_or places at other) is (hierarchy.of_place (get_or places at other) header there).is_place

    placed_here : (interface : Name) → interface ≡ header.name → place_of headers interface ≡ Some (get_or places at other)
    placed_here interface same = ap (place_of headers) same ∙ (hierarchy.of_place (get_or places at other) header there).is_place

    -- it has no default
    later : IsDefaultOf headers class name desc header.name None → (method : Declared) → IsDefault headers class name desc method → IsPlacedIn headers (drop at places) method.class → IsPlacedIn headers (drop (at + 1) places) method.class
    later not method is left = elim (here_or_later headers places at other within method.class left) [ inl here ↦ absurd (not method is (named_here method.class here)) | inr behind ↦ behind ]

    pub passed_over : IsDefaultOf headers class name desc header.name None → (only : Option Found) → IsSoFar headers class name desc (drop at places) only → IsSoFar headers class name desc (drop (at + 1) places) only
    passed_over not None met = λ method is. later not method is (met method is)
    passed_over not (Some found) met = record {
      one = met.one;
      is = met.is;
      is_default = met.is_default;
      passed = λ left. met.passed (in_left headers places at other within met.one.class (inr left));
      others = λ method is. elim (met.others method is) [ inl same ↦ inl same | inr left ↦ inr (later not method is left) ];
    }

    -- it has the first
    pub first_met : ArePlacesApart headers places → (found : Found) → IsDefaultOf headers class name desc header.name (Some found) → (only : Option Found) → is_some only ≡ false → IsSoFar headers class name desc (drop at places) only → IsSoFar headers class name desc (drop (at + 1) places) (Some found)
    first_met apart found is (Some before) none met = absurd cc
    first_met apart found is None none met =
        let apart_here = subst (ArePlacesApart headers) (drop_more places at other within) (left_apart headers places apart at) in
        record {
          one = is.0;
          is = is.1;
          is_default = is.2;
          passed = apart_here.0 is.0.class (placed_here is.0.class is.3);
          others = λ method default. elim (here_or_later headers places at other within method.class (met method default)) [
            | inl here ↦ inl (same_Some method is.0 (
                sym (own_method_is headers hierarchy class name desc (get_or places at other) header there method default.specific.of_superinterface (named_here method.class here))
                ∙ own_method_is headers hierarchy class name desc (get_or places at other) header there is.0 is.2.specific.of_superinterface is.3))
            | inr behind ↦ inr behind
          ];
        }

    -- it has the second
    pub second_met : (found : Found) → IsDefaultOf headers class name desc header.name (Some found) → (only : Option Found) → is_some only ≡ true → IsSoFar headers class name desc (drop at places) only → HasTwoDefaults headers class name desc
    second_met found is None some met = absurd cc
    second_met found is (Some before) some met = record {
      one = met.one;
      other = is.0;
      is_default = met.is_default;
      is_other = is.2;
      differ = λ same. met.passed (in_left headers places at other within met.one.class (inl (placed_here met.one.class (ap (λ (m : Declared). m.class) same ∙ is.3))));
    }
