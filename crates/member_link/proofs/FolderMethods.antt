-- The methods of the folder among those that are found, and which of them a method overrides.
use Rattle.std.proofs.Common.{◌≡◌, ◌↔◌, ◌+◌, ◌<◌, ℕ, Bool, true, false, not, cond, List, [], ◌∷◌, ◌++◌, length, get_or, slice_get, bytes_eq, Option, Some, None, option_map, IsTrue, refl, sym, ap, subst, ◌∙◌, inl, inr, arith}
use Rattle.std.proofs.lemmas.Bool.{false≢true}
use Rattle.std.proofs.lemmas.Option.{same_Some, slice_get_cases}
use Rattle.class_model.specs.declared.header.Header.{Header}
use Rattle.class_tree.specs.Headers.{Name, Headers, named, class_named}
use Rattle.class_tree.specs.Hierarchy.{IsHierarchy}
use Rattle.class_tree.specs.Order.{first_place, place_of}
use Rattle.class_tree.specs.declared.place.Place.{Place}
use Rattle.class_tree.specs.declared.place.Place.TheVariants.{Folder, Library}
use Rattle.member_link.specs.Declarations.{IsFolderMethod, OverridesNoFinal}
use Rattle.member_link.specs.DeclaredMembers.{Declared, IsMethod}
use Rattle.member_link.specs.Inner.FinalMethods.{IsFolderPlace, IsOverriddenFinal}
use Rattle.member_link.specs.Found.{IsMethodFound}
use Rattle.member_link.specs.Inner.OpenMethods.{IsAbove, IsAnyOf, one_passes, none_passes}
use Rattle.member_link.specs.declared.found.Found.{Found}
use Rattle.member_link.proofs.OpenOverriding.{may_of}
use Rattle.member_link.specs.Laws.FolderClasses.{class_of_folder, folder_index, in_folder}
use Rattle.member_link.specs.Laws.OwnMembers.{own_at}

module _ (headers : Headers) where
  method_of_folder : {method : Declared} → IsFolderMethod headers method → IsMethod headers method
  method_of_folder {method} is = record { header = is.header; found = class_of_folder headers method.class is.header is.found; declares = is.declares }

  module _ (hierarchy : IsHierarchy headers) where
    -- a method that is found is one of the folder where its place is
    pub folder_decides : {found : Found} {method : Declared} → IsMethodFound headers found method → IsFolderPlace found.place ↔ IsFolderMethod headers method
    folder_decides {found} {method} is = (to found.place refl, from)
      where
        is_place : place_of headers method.class ≡ Some found.place
        is_place = ap (place_of headers) (sym is.own_class) ∙ (hierarchy.of_place found.place is.header is.at).is_place

        to : (place : Place) → found.place ≡ place → IsFolderPlace place → IsFolderMethod headers method
        to (Folder place) same folder =
            let class = in_folder headers method.class place (is_place ∙ ap Some same) in
            let own = own_at method.member.name method.member.desc is.header.methods found.member is.first in
            let header : is.header ≡ class.0 = same_Some is.header class.0 (sym (hierarchy.of_place found.place is.header is.at).found ∙ ap (class_named headers) is.own_class ∙ class_of_folder headers method.class class.0 class.1) in
            record {
              header = is.header;
              found = class.1 ∙ ap Some (sym header);
              declares = own.is ∙ ap Some (same_Some own.member method.member (sym own.stands ∙ is.stands));
            }
        to (Library place) same folder = absurd folder

        from : IsFolderMethod headers method → IsFolderPlace found.place
        from folder =
            let place = folder_index headers method.class folder.header folder.found in
            subst IsFolderPlace (same_Some (Folder place.0) found.place (sym place.2 ∙ is_place)) tt

-- a method overrides no final method of the folder, by a test that tells of each
pub none_by : {headers : Headers} {low : Declared} (Answer : Found → Bool → Type 0) (result : Bool) → ((found : Found) (high : Declared) (told : Bool) → IsMethodFound headers found high → Answer found told → IsTrue told ↔ IsOverriddenFinal headers low high) → IsAnyOf headers (IsAbove headers low) Answer result → IsTrue (not result) ↔ OverridesNoFinal headers low
none_by Answer true tells (one_passes found high is above answer) =
    let one = (tells found high true is answer).0 refl in
    (λ none. absurd (false≢true none), λ none. absurd (none high one.of_folder one.is_final one.overrides))
none_by {headers} {low} Answer false tells (none_passes none) = (
  λ yes high folder final over.
      let may = may_of over in
      let met = none high (record { method = method_of_folder headers folder; below = may.below; same_name = sym may.same_name; same_desc = sym may.same_desc }) in
      false≢true ((tells met.0 high false met.1 met.2).1 (record { of_folder = folder; is_final = final; overrides = over })),
  λ all. refl,
)

-- the item at an index
pub item_at : {X : Type 0} (xs : List X) (i : ℕ) → i < length xs → (x : X) × (slice_get xs i ≡ Some x) × (x ≡ get_or xs i x)
item_at xs i within = elim (slice_get_cases xs i).1 [
  | inl (x, inside, is, same) ↦ (x, is, sym same)
  | inr (past, none) ↦ absurd (omega (arith, within, past))
]
