-- Classes of one shape are a hierarchy together.
use Rattle.std.proofs.Common.{◌≡◌, ◌∙◌, ◌<◌, ◌+◌, ◌-◌, ◌++◌, ℕ, zero, suc, Bool, cond, List, [], ◌∷◌, map, length, nat_lt, bytes_eq, Option, Some, None, IfSome, IsTrue, IsFalse, is_some, option_map, option_and_then, refl, sym, ap, subst}
use Rattle.std.specs.List.{AllByRecursion}
use Rattle.std.proofs.lemmas.List.{map-append, length-map}
use Rattle.std.proofs.lemmas.Option.{slice_get-map}
use Rattle.class_model.specs.Laws.Lists.{AllByRecursion-weaker}
use Rattle.class_model.specs.declared.header.Header.{Header}
use Rattle.class_tree.specs.Headers.{Name, Headers, class_named, IsThere}
use Rattle.class_tree.specs.Hierarchy.{StandsAt, IsHierarchy, superclass_of, climb, height}
use Rattle.class_tree.specs.Laws.Alike.{shape_of, shapes, option_twin, class_same, twin, no_twin, there_alike, below_alike, interface_walk_alike, superinterfaces_alike}
use Rattle.class_tree.specs.Laws.Headers.{same_class, own_name}
use Rattle.class_tree.specs.Names.{is_interface}
use Rattle.class_tree.specs.Inner.Nodes.{number_of, place_at}
use Rattle.class_tree.specs.Order.{first_place, header_at, place_of}
use Rattle.class_tree.specs.Steps.{supers, FitsKinds}
use Rattle.class_tree.specs.declared.place.Place.{Place}
use Rattle.class_tree.specs.declared.place.Place.TheVariants.{Folder, Library}
use Rattle.class_tree.proofs.Places.{place_of_number, header_at_place}
use Rattle.class_tree.proofs.Superclasses.{placed}

-- ---- places

first_shape : (name : Name) (list : List Header) → first_place (λ header. bytes_eq name header.name) list ≡ first_place (λ header. bytes_eq name header.name) (map shape_of list)
first_shape name [] = refl
first_shape name (first ∷ list) = ap (λ (found : Option ℕ). cond (bytes_eq name first.name) (Some 0) (option_map (λ place. place + 1) found)) (first_shape name list)

module _ (headers : Headers) where
  number_shape : (name : Name) → number_of headers name ≡ number_of (shapes headers) name
  number_shape name =
      first_shape name (headers.folder ++ headers.library) ∙ ap (first_place (λ header. bytes_eq name header.name)) (map-append shape_of headers.folder headers.library)

  place_at_shape : (number : ℕ) → place_at headers number ≡ place_at (shapes headers) number
  place_at_shape number = ap (λ count. cond (nat_lt number count) (Folder number) (Library (number - count))) (sym (length-map headers.folder shape_of))

  place_shape : (name : Name) → place_of headers name ≡ place_of (shapes headers) name
  place_shape name =
      place_of_number headers name
      ∙ ap (option_map (place_at headers)) (number_shape name)
      ∙ by (number_of (shapes headers) name)
      ∙ sym (place_of_number (shapes headers) name)
    where
      by : (found : Option ℕ) → option_map (place_at headers) found ≡ option_map (place_at (shapes headers)) found
      by None = refl
      by (Some number) = ap Some (place_at_shape number)

  at_shape : (place : Place) → option_map shape_of (header_at headers place) ≡ header_at (shapes headers) place
  at_shape (Folder place) = sym (slice_get-map shape_of headers.folder place)
  at_shape (Library place) = sym (slice_get-map shape_of headers.library place)

  superclass_shape : (place : Place) → superclass_of headers place ≡ superclass_of (shapes headers) place
  superclass_shape place = of_class (header_at headers place) ∙ ap (option_and_then (λ header. option_and_then (place_of (shapes headers)) header.super_name)) (at_shape place)
    where
      of_super : (super : Option Name) → option_and_then (place_of headers) super ≡ option_and_then (place_of (shapes headers)) super
      of_super None = refl
      of_super (Some name) = place_shape name

      of_class : (found : Option Header) → option_and_then (λ header. option_and_then (place_of headers) header.super_name) found ≡ option_and_then (λ header. option_and_then (place_of (shapes headers)) header.super_name) (option_map shape_of found)
      of_class None = refl
      of_class (Some header) = of_super header.super_name

  climb_shape : (fuel : ℕ) (next : Option Place) → climb headers fuel next ≡ climb (shapes headers) fuel next
  unfolding climb
  climb_shape zero next = refl
  climb_shape (suc fuel) None = refl
  climb_shape (suc fuel) (Some place) = ap suc (climb_shape fuel (superclass_of headers place) ∙ ap (climb (shapes headers) fuel) (superclass_shape place))

  height_shape : (next : Option Place) → height headers next ≡ height (shapes headers) next
  height_shape next =
      climb_shape (length (headers.folder ++ headers.library)) next
      ∙ ap (λ fuel. climb (shapes headers) fuel next) (sym (length-map (headers.folder ++ headers.library) shape_of) ∙ ap (λ (list : List Header). length list) (map-append shape_of headers.folder headers.library))

-- ---- kinds

if_shape : (P : Bool → Type 0) (found : Option Header) → IfSome found (λ header. P (is_interface header)) → IfSome (option_map shape_of found) (λ header. P (is_interface header))
if_shape P None is = tt
if_shape P (Some header) is = is

if_whole : (P : Bool → Type 0) (found : Option Header) → IfSome (option_map shape_of found) (λ header. P (is_interface header)) → IfSome found (λ header. P (is_interface header))
if_whole P None is = tt
if_whole P (Some header) is = is

if_weaker : {X : Type 0} {P Q : X → Type 0} → ((x : X) → P x → Q x) → (option : Option X) → IfSome option P → IfSome option Q
if_weaker then None is = tt
if_weaker then (Some x) is = then x is

module _ (one other : Headers) (same : shapes one ≡ shapes other) where
  kind_alike : (P : Bool → Type 0) (name : Name) → IfSome (class_named one name) (λ header. P (is_interface header)) → IfSome (class_named other name) (λ header. P (is_interface header))
  kind_alike P name is =
      if_whole P (class_named other name) (subst (λ found. IfSome found (λ header. P (is_interface header))) (class_same one other same name) (if_shape P (class_named one name) is))

  kinds_alike : (header class : Header) → shape_of header ≡ shape_of class → FitsKinds one header → FitsKinds other class
  kinds_alike header class alike fits = record {
    superclass = subst (λ super. IfSome super (λ name. IfSome (class_named other name) (λ above. IsFalse (is_interface above)))) (ap (λ (h : Header). h.super_name) alike)
        (if_weaker (kind_alike (λ kind. IsFalse kind)) header.super_name fits.superclass);
    interfaces = subst (AllByRecursion (λ name. IfSome (class_named other name) (λ above. IsTrue (is_interface above)))) (ap (λ (h : Header). h.interfaces) alike)
        (AllByRecursion-weaker (λ name. IfSome (class_named one name) (λ above. IsTrue (is_interface above))) (λ name. IfSome (class_named other name) (λ above. IsTrue (is_interface above))) (kind_alike (λ kind. IsTrue kind)) header.interfaces fits.interfaces);
    of_interface = λ kind. sym (ap (λ (h : Header). h.super_name) alike) ∙ fits.of_interface (ap (λ (h : Header). is_interface h) alike ∙ kind);
    root = λ none. sym (ap (λ (h : Header). h.name) alike) ∙ fits.root (ap (λ (h : Header). h.super_name) alike ∙ none);
  }

  pub place_same : (name : Name) → place_of one name ≡ place_of other name
  place_same name = place_shape one name ∙ ap (λ headers. place_of headers name) same ∙ sym (place_shape other name)

  at_same : (place : Place) → option_map shape_of (header_at one place) ≡ option_map shape_of (header_at other place)
  at_same place = at_shape one place ∙ ap (λ headers. header_at headers place) same ∙ sym (at_shape other place)

  height_same : (next : Option Place) → height one next ≡ height other next
  height_same next = height_shape one next ∙ ap (λ headers. height headers next) same ∙ sym (height_shape other next)

  superclass_same : (place : Place) → superclass_of one place ≡ superclass_of other place
  superclass_same place = superclass_shape one place ∙ ap (λ headers. superclass_of headers place) same ∙ sym (superclass_shape other place)

  module _ (hierarchy : IsHierarchy one) where
    abbrev back : shapes other ≡ shapes one
    back = sym same

    -- a class by its name
    by_name : (name : Name) (header : Header) → class_named other name ≡ Some header → (place : Place) × StandsAt other name place header
    by_name name header is =
        let class = placed other name (ap is_some is) in
        let found = same_class other name class.header header class.named is in
        (class.place, record { found = is; is_place = class.is; at = class.at ∙ ap Some found; own_name = own_name other name header is })

    by_place : (place : Place) (header : Header) → header_at other place ≡ Some header → StandsAt other header.name place header
    by_place place header at =
        let class = option_twin (header_at other place) (header_at one place) (sym (at_same place)) header at in
        let stands = hierarchy.of_place place class.0 class.1 in
        let name : class.0.name ≡ header.name = ap (λ (h : Header). h.name) (sym class.2) in
        let is_place : place_of other header.name ≡ Some place = ap (place_of other) (sym name) ∙ sym (place_same class.0.name) ∙ stands.is_place in
        record {
          found = sym (header_at_place other header.name) ∙ ap (option_and_then (header_at other)) is_place ∙ at;
          is_place = is_place;
          at = at;
          own_name = refl;
        }

    by_named_place : (name : Name) (place : Place) → place_of other name ≡ Some place → (header : Header) × StandsAt other name place header
    by_named_place name place is =
        let stands = hierarchy.placed name place (place_same name ∙ is) in
        let class = twin one other same name stands.0 stands.1.found in (
          class.0,
          record {
            found = class.1;
            is_place = is;
            at = sym (ap (option_and_then (header_at other)) is) ∙ header_at_place other name ∙ class.1;
            own_name = own_name other name class.0 class.1;
          },
        )

    abbrev IsInterfaceIn : Headers → Name → Type 0
    IsInterfaceIn headers name = (header : Header) × (class_named headers name ≡ Some header) × IsTrue (is_interface header)

    interface_alike : (name : Name) → IsInterfaceIn one name → IsInterfaceIn other name
    interface_alike name is =
        let class = twin one other same name is.0 is.1 in
        (class.0, class.1, ap (λ (h : Header). is_interface h) (sym class.2) ∙ is.2)

    pub hierarchy_alike : IsHierarchy other
    hierarchy_alike = record {
      of_name = by_name;
      of_place = by_place;
      placed = by_named_place;
      absent = λ name none. no_twin one other same name (hierarchy.absent name (place_same name ∙ none));
      no_array = λ name array. no_twin one other same name (hierarchy.no_array name array);
      above = λ name header is.
          let class = twin other one back name header is in
          subst (AllByRecursion (IsThere other)) (ap (λ (h : Header). supers h) (sym class.2)) (AllByRecursion-weaker (IsThere one) (IsThere other) (there_alike one other same) (supers class.0) (hierarchy.above name class.0 class.1));
      kinds = λ name header is.
          let class = twin other one back name header is in
          kinds_alike class.0 header (sym class.2) (hierarchy.kinds name class.0 class.1);
      acyclic = λ name circle. hierarchy.acyclic name (below_alike other one back circle);
      falls = λ place header at.
          let class = option_twin (header_at other place) (header_at one place) (sym (at_same place)) header at in
          subst (λ n. n < height other (Some place)) (height_same (superclass_of one place) ∙ ap (height other) (superclass_same place))
          (subst (λ n. height one (superclass_of one place) < n) (height_same (Some place)) (hierarchy.falls place class.0 class.1));
      walked = λ name header is.
          let class = twin other one back name header is in
          let walk = hierarchy.walked name class.0 class.1 in
          (walk.0, interface_walk_alike one other same walk.1);
      interfaces = λ class names are.
          AllByRecursion-weaker (IsInterfaceIn one) (IsInterfaceIn other) interface_alike names (hierarchy.interfaces class names (superinterfaces_alike other one back class names are));
      superinterfaces = λ class name header names are is kind.
          let above = twin other one back name header is in
          let told = hierarchy.superinterfaces class name above.0 names (superinterfaces_alike other one back class names are) above.1 (ap (λ (h : Header). is_interface h) (sym above.2) ∙ kind) in
          (λ named. below_alike one other same (told.0 named), λ up. told.1 (below_alike other one back up));
    }
