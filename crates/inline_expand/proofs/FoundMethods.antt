-- Methods that are found, and their numbers in the folder.
use Rattle.std.proofs.Common.{◌≡◌, ◌<◌, ℕ, length, slice_get, Option, Some, None, refl, sym, ap, subst, ◌∙◌, inl, inr, arith}
use Rattle.std.proofs.lemmas.List.{length-map}
use Rattle.std.proofs.lemmas.Option.{none-some, same_Some, slice_get_cases}
use Rattle.class_model.specs.Header.{header_of}
use Rattle.class_model.specs.declared.class_file.MethodAt.{MethodAt}
use Rattle.class_model.specs.declared.header.Header.{Header}
use Rattle.class_tree.specs.Headers.{Classes, Headers, class_named, headers_of}
use Rattle.class_tree.specs.Hierarchy.{IsHierarchy}
use Rattle.class_tree.specs.Order.{header_at, member_place, place_of}
use Rattle.class_tree.specs.declared.place.Place.{Place}
use Rattle.class_tree.specs.declared.place.Place.TheVariants.{Folder, Library}
use Rattle.expanded_code.specs.Callees.{StandsAt}
use Rattle.inline_expand.specs.Inner.Found.{folder_method, method_numbers}
use Rattle.member_link.specs.DeclaredMembers.{Declared}
use Rattle.member_link.specs.Found.{AreSame, IsMethodFound}
use Rattle.member_link.specs.declared.found.Found.{Found}

-- the class file of a number in the folder has a header
pub class_at : (classes : Classes) (class : ℕ) → class < length classes.folder → (header : Header) × (slice_get (headers_of classes).folder class ≡ Some header)
class_at classes class within = elim (slice_get_cases (headers_of classes).folder class).1 [
  | inl found ↦ (found.0, found.2)
  | inr past ↦ absurd (omega (arith, within, past.0, length-map classes.folder header_of))
]

pub method_found : (headers : Headers) (found : Found) (own : Option Declared) → AreSame (IsMethodFound headers) (Some found) own → (method : Declared) × IsMethodFound headers found method
method_found headers found (Some method) is = (method, is)
method_found headers found None is = absurd is

-- ---- places

module _ (headers : Headers) (hierarchy : IsHierarchy headers) where
  pub found_place : {found : Found} {method : Declared} → IsMethodFound headers found method → place_of headers method.class ≡ Some found.place
  found_place {found} {method} is = ap (place_of headers) (sym is.own_class) ∙ (hierarchy.of_place found.place is.header is.at).is_place

  -- the class of a method that is found is the one at its place
  pub found_class : {found : Found} {method : Declared} → (is : IsMethodFound headers found method) → class_named headers method.class ≡ Some is.header
  found_class {found} {method} is = ap (class_named headers) (sym is.own_class) ∙ (hierarchy.of_place found.place is.header is.at).found

  -- a method is found at one place
  pub found_once : {found other : Found} {method : Declared} → IsMethodFound headers found method → IsMethodFound headers other method → (found.place ≡ other.place) × (found.member ≡ other.member)
  found_once {found} {other} {method} is also =
      let place : found.place ≡ other.place = same_Some found.place other.place (sym (found_place is) ∙ found_place also) in
      let header : is.header ≡ also.header = same_Some is.header also.header (sym is.at ∙ ap (header_at headers) place ∙ also.at) in
      (place, same_Some found.member other.member (sym is.first ∙ ap (λ (h : Header). member_place method.member.name method.member.desc h.methods) header ∙ also.first))

-- ---- numbers in the folder

module _ (classes : Classes) (hierarchy : IsHierarchy (headers_of classes)) where
  pub numbers_stand : {found : Found} {method : Declared} (callee : MethodAt) → IsMethodFound (headers_of classes) found method → folder_method found ≡ Some callee → StandsAt classes callee method
  numbers_stand {found} {method} callee is numbers = by found.place refl numbers
    where
      by : (place : Place) → found.place ≡ place → method_numbers place found.member ≡ Some callee → StandsAt classes callee method
      by (Folder class) at numbers =
          let same : record { class = class; method = found.member } ≡ callee = same_Some _ callee numbers in
          subst (λ (c : MethodAt). StandsAt classes c method) same (record {
            header = is.header;
            at = ap (header_at (headers_of classes)) (sym at) ∙ is.at;
            own_class = is.own_class;
            stands = is.stands;
            first = is.first;
            same_flags = refl;
          })
      by (Library class) at numbers = absurd (none-some callee numbers)

  pub standing_numbers : {found : Found} {method : Declared} (callee : MethodAt) → IsMethodFound (headers_of classes) found method → StandsAt classes callee method → folder_method found ≡ Some callee
  standing_numbers {found} {method} callee is stands =
      let once = found_once (headers_of classes) hierarchy is stands in
      ap (λ (place : Place). method_numbers place found.member) once.0 ∙ ap (method_numbers (Folder callee.class)) once.1

  pub stands_once : {method : Declared} (one other : MethodAt) → StandsAt classes one method → StandsAt classes other method → one ≡ other
  stands_once one other stands also =
      let once = found_once (headers_of classes) hierarchy stands also in
      same_Some one other (ap (λ (place : Place). method_numbers place one.method) once.0 ∙ ap (method_numbers (Folder other.class)) once.1)
