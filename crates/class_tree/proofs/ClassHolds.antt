-- What the checks of a hierarchy say of each of its classes.
use Rattle.std.proofs.Common.{◌≡◌, ℕ, zero, suc, List, [], ◌∷◌, ◌++◌, slice_get, Some, subst, sym}
use Rattle.std.specs.List.{AllByRecursion}
use Rattle.class_model.specs.Checks.{Check, AllHold, asked_each}
use Rattle.class_model.specs.Laws.Checks.{first_holds, others_hold}
use Rattle.class_model.specs.declared.header.Header.{Header}
use Rattle.class_tree.specs.Headers.{Name, Headers, all_headers, class_named, IsThere}
use Rattle.class_tree.specs.Laws.Above.{IsSound, low_is_there}
use Rattle.class_tree.specs.Laws.Headers.{class_there, own_name}
use Rattle.class_tree.specs.Problems.{Problem}
use Rattle.class_tree.specs.Steps.{supers, FitsKinds, folder_checks, library_checks, hierarchy_checks}
use Rattle.class_tree.specs.Subtype.{IsBelow}
use Rattle.class_tree.proofs.Places.{number_of_class}

-- those that the class names are there, it is not above itself, and they are of the right kinds
pub record ClassHolds (headers : Headers) (header : Header) : Type 0 where
  pub there : AllByRecursion (IsThere headers) (supers header)
  pub circle : ¬ IsBelow headers header.name header.name
  pub kinds : FitsKinds headers header

each_holds : (P : Header → Type 0) (asks : Header → List (Check Problem)) → ((header : Header) → AllHold (asks header) → P header) → (list : List Header) → AllHold (asked_each asks list) → (number : ℕ) (header : Header) → slice_get list number ≡ Some header → P header
each_holds P asks told [] h number header there = absurd cc
each_holds P asks told (first ∷ list) h zero header there = subst P (cc) (told first (first_holds (asks first) (asked_each asks list) h))
each_holds P asks told (first ∷ list) h (suc number) header there = each_holds P asks told list (others_hold (asks first) (asked_each asks list) h) number header there

pub in_either_list : (P : Header → Type 0) (front back : List Header) → ((number : ℕ) (header : Header) → slice_get front number ≡ Some header → P header) → ((number : ℕ) (header : Header) → slice_get back number ≡ Some header → P header) → (number : ℕ) (header : Header) → slice_get (front ++ back) number ≡ Some header → P header
in_either_list P [] back f b number header there = b number header there
in_either_list P (first ∷ front) back f b zero header there = f 0 header there
in_either_list P (first ∷ front) back f b (suc number) header there = in_either_list P front back (λ n. f (suc n)) b number header there

pub class_holds : (headers : Headers) → AllHold (hierarchy_checks headers) → (number : ℕ) (header : Header) → slice_get (all_headers headers) number ≡ Some header → ClassHolds headers header
class_holds headers hold =
    let folder = first_holds (asked_each (folder_checks headers) headers.folder) (asked_each (library_checks headers) headers.library) hold in
    let library = others_hold (asked_each (folder_checks headers) headers.folder) (asked_each (library_checks headers) headers.library) hold in
    in_either_list (ClassHolds headers) headers.folder headers.library
    (each_holds (ClassHolds headers) (folder_checks headers) (λ header h. record { there = h.0; circle = h.1.0; kinds = h.1.1.1.0.0 }) headers.folder folder)
    (each_holds (ClassHolds headers) (library_checks headers) (λ header h. record { there = h.0; circle = h.1.1.0; kinds = h.1.1.1.0 }) headers.library library)

pub named_holds : (headers : Headers) → AllHold (hierarchy_checks headers) → (name : Name) (header : Header) → class_named headers name ≡ Some header → ClassHolds headers header
named_holds headers hold name header there =
    let c = number_of_class headers name header there in
    class_holds headers hold c.0 header c.1.there

pub is_sound : (headers : Headers) → AllHold (hierarchy_checks headers) → IsSound headers
is_sound headers hold = record {
  above = λ name header is. (named_holds headers hold name header is).there;
  kinds = λ name header is. (named_holds headers hold name header is).kinds;
  acyclic = λ name up.
      let class = class_there headers name (low_is_there up) in
      (named_holds headers hold name class.0 class.1).circle (subst (λ n. IsBelow headers n n) (sym (own_name headers name class.0 class.1)) up);
}
