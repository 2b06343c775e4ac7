-- Look-up and selection in classes that are alike.
use Rattle.std.proofs.Common.{◌≡◌, ◌≢◌, ◌⊎◌, ◌∙◌, ◌&&◌, not, ℕ, List, [], ◌∷◌, Option, Some, None, IsTrue, IsFalse, option_map, option_and_then, refl, sym, ap, subst, inl, inr}
use Rattle.std.proofs.lemmas.Option.{none-some, same_Some}
use Rattle.class_model.specs.Members.{has, PUBLIC, STATIC}
use Rattle.class_model.specs.Names.{init}
use Rattle.class_model.specs.declared.header.Header.{Header}
use Rattle.class_tree.specs.Headers.{Name, Headers, class_named}
use Rattle.class_tree.specs.Laws.Alike.{shape_of, shapes, twin, no_twin, below_alike, superinterfaces_alike}
use Rattle.class_tree.specs.Names.{is_interface}
use Rattle.class_tree.specs.Order.{place_of}
use Rattle.member_link.specs.DeclaredMembers.{Declared, declared_by, declared, IsMethod}
use Rattle.member_link.specs.Defaults.{IsSuperinterfaceMethod, IsDefault, IsOneDefault, first_inherited}
use Rattle.member_link.specs.Inner.DefaultsAt.{inherited_by}
use Rattle.member_link.specs.Fields.{interfaces_and_super, FindsFirst, in_no_class, in_class, above_class, in_other_class, absent_class}
use Rattle.member_link.specs.FoundNames.{named_by, FindsFieldNamed}
use Rattle.member_link.specs.Methods.{CountsFor, FindsInInterfaces, one_default, first_of_all, FindsInClass, nowhere, upwards, in_interfaces, first_named, FindsMethod, initialiser, polymorphic, of_array, of_class}
use Rattle.member_link.specs.Overriding.{MayOverride, Overrides, overrides_open, overrides_in_package, overrides_through}
use Rattle.member_link.specs.References.{Reference}
use Rattle.member_link.specs.Selection.{Choice, ChoosesDefault, the_one, no_default, two_defaults, Chooses, first_upwards, by_default, start_of, IsOrOverrides, CountsForSpecial, Selects, of_private, of_virtual, of_interface, of_initialiser, of_special}
use Rattle.member_link.specs.Upwards.{FirstUpwards, in_itself, in_superclass, in_no_superclass, in_absent_class}
use Rattle.member_link.specs.declared.selection.CallForm.{CallForm}
use Rattle.member_link.specs.declared.selection.CallForm.TheVariants.{Special}
use Rattle.member_link.proofs.AlikeMembers.{Signature, IsPair, member_twin, member_no_twin}
use Rattle.member_link.proofs.FirstInherited.{first_of}
use Rattle.member_link.proofs.OpenOverriding.{may_of}

-- Classes of one shape, which stand at the same places, and of which each two of one name are a pair.
pub record AreTwins (one other : Headers) : Type 0 where
  pub shape : shapes one ≡ shapes other
  pub places : (name : Name) → place_of one name ≡ place_of other name
  pub pairs : (name : Name) (header twin : Header) → class_named one name ≡ Some header → class_named other name ≡ Some twin → IsPair header twin

module _ (one other : Headers) (are : AreTwins one other) where
  -- the class of the same name
  record HasTwin (name : Name) (header : Header) : Type 0 where
    class : Header
    is : class_named other name ≡ Some class
    pair : IsPair header class

  has_twin : (name : Name) (header : Header) → class_named one name ≡ Some header → HasTwin name header
  has_twin name header is =
      let class = twin one other are.shape name header is in
      record { class = class.0; is = class.1; pair = are.pairs name header class.0 is class.1 }

  absent : (name : Name) → class_named one name ≡ None → class_named other name ≡ None
  absent name none = no_twin one other are.shape name none

  super_is : {header class : Header} → IsPair header class → header.super_name ≡ class.super_name
  super_is pair = ap (λ (h : Header). h.super_name) pair.shape

  -- ---- fields

  module _ (name desc : List ℕ) where
    abbrev Finds : List Name → Option Declared → Type 0
    Finds classes found = (twin : Option Declared) × FindsFirst other name desc classes twin × (option_map named_by found ≡ option_map named_by twin)

    of_some : {classes : List Name} (field : Declared) → Finds classes (Some field) → (found : Declared) × FindsFirst other name desc classes (Some found) × (named_by field ≡ named_by found)
    of_some field finds = by finds.0 finds.1 finds.2
      where
        by : {classes : List Name} (found : Option Declared) → FindsFirst other name desc classes found → option_map named_by (Some field) ≡ option_map named_by found → (found : Declared) × FindsFirst other name desc classes (Some found) × (named_by field ≡ named_by found)
        by None first same = absurd (none-some (named_by field) (sym same))
        by (Some found) first same = (found, first, same_Some (named_by field) (named_by found) same)

    of_none : {classes : List Name} → Finds classes None → FindsFirst other name desc classes None
    of_none finds = by finds.0 finds.1 finds.2
      where
        by : {classes : List Name} (found : Option Declared) → FindsFirst other name desc classes found → option_map named_by None ≡ option_map named_by found → FindsFirst other name desc classes None
        by None first same = first
        by (Some found) first same = absurd (none-some (named_by found) same)

    supers_alike : {header class : Header} → IsPair header class → (found : Option Declared) → FindsFirst other name desc (interfaces_and_super header) found → FindsFirst other name desc (interfaces_and_super class) found
    supers_alike pair found first = subst (λ classes. FindsFirst other name desc classes found) (ap (λ (h : Header). interfaces_and_super h) pair.shape) first

    first_alike : {classes : List Name} {found : Option Declared} → FindsFirst one name desc classes found → Finds classes found
    first_alike in_no_class = (None, in_no_class, refl)
    first_alike (in_class class classes header member is declares) =
        let twin = has_twin class header is in
        let also = member_twin (declared name desc header.fields) (declared name desc twin.class.fields) (twin.pair.fields name desc) member declares in
        (Some (declared_by class also.0), in_class class classes twin.class also.0 twin.is also.1, ap (λ (s : Signature). Some (record { class = class; name = s.name; desc = s.desc })) also.2)
    first_alike (above_class class classes header field is lacks above) =
        let twin = has_twin class header is in
        let none = member_no_twin (declared name desc header.fields) (declared name desc twin.class.fields) (twin.pair.fields name desc) lacks in
        let up = of_some field (first_alike above) in
        (Some up.0, above_class class classes twin.class up.0 twin.is none (supers_alike twin.pair (Some up.0) up.1), ap Some up.2)
    first_alike (in_other_class class classes header found is lacks above beside) =
        let twin = has_twin class header is in
        let none = member_no_twin (declared name desc header.fields) (declared name desc twin.class.fields) (twin.pair.fields name desc) lacks in
        let up = of_none (first_alike above) in
        let more = first_alike beside in
        (more.0, in_other_class class classes twin.class more.0 twin.is none (supers_alike twin.pair None up) more.1, more.2)
    first_alike (absent_class class classes found none beside) =
        let more = first_alike beside in
        (more.0, absent_class class classes more.0 (absent class none) more.1, more.2)

    pub field_alike : (class : Name) (answer : Option Reference) → FindsFieldNamed one class name desc answer → FindsFieldNamed other class name desc answer
    field_alike class answer finds = let twin = first_alike finds.finds in record { field = twin.0; finds = twin.1; is = finds.is ∙ twin.2 }

  -- ---- methods

  method_alike : (method : Declared) → method.member.name ≢ init → IsMethod one method → IsMethod other method
  method_alike method differ is =
      let twin = has_twin method.class is.header is.found in
      record { header = twin.class; found = twin.is; declares = sym (twin.pair.methods method.member.name method.member.desc differ) ∙ is.declares }

  may_alike : {low high : Declared} → MayOverride one low high → MayOverride other low high
  may_alike may = record {
    below = below_alike one other are.shape may.below;
    same_name = may.same_name;
    same_desc = may.same_desc;
    low_inherited = may.low_inherited;
    high_inherited = may.high_inherited;
    no_init = may.no_init;
    no_clinit = may.no_clinit;
  }

  pub overrides_alike : {low high : Declared} → Overrides one low high → Overrides other low high
  overrides_alike (overrides_open low high may opens) = overrides_open low high (may_alike may) opens
  overrides_alike (overrides_in_package low high may access same) = overrides_in_package low high (may_alike may) access same
  overrides_alike (overrides_through low middle high may method lower upper) =
      overrides_through low middle high (may_alike may) (method_alike middle (may_of lower).no_init method) (overrides_alike lower) (overrides_alike upper)

  module _ (name desc : List ℕ) (differ : name ≢ init) where
    upwards_alike : (Counts Others : Declared → Type 0) → ((method : Declared) → Counts method → Others method) → ((method : Declared) → Others method → Counts method) → {class : Name} {found : Option Declared} → FirstUpwards one Counts name desc class found → FirstUpwards other Others name desc class found
    upwards_alike Counts Others to from (in_itself class header member is declares counts) =
        let twin = has_twin class header is in
        in_itself class twin.class member twin.is (sym (twin.pair.methods name desc differ) ∙ declares) (to _ counts)
    upwards_alike Counts Others to from (in_superclass class high header found is passed some rest) =
        let twin = has_twin class header is in
        in_superclass class high twin.class found twin.is (λ member declares counts. passed member (twin.pair.methods name desc differ ∙ declares) (from _ counts)) (sym (super_is twin.pair) ∙ some) (upwards_alike Counts Others to from rest)
    upwards_alike Counts Others to from (in_no_superclass class header is passed none) =
        let twin = has_twin class header is in
        in_no_superclass class twin.class twin.is (λ member declares counts. passed member (twin.pair.methods name desc differ ∙ declares) (from _ counts)) (sym (super_is twin.pair) ∙ none)
    upwards_alike Counts Others to from (in_absent_class class none) = in_absent_class class (absent class none)

    superinterface_alike : (class : Name) (method : Declared) → IsSuperinterfaceMethod one class name desc method → IsSuperinterfaceMethod other class name desc method
    superinterface_alike class method is =
        let twin = has_twin method.class is.header is.found in
        record {
          header = twin.class;
          found = twin.is;
          interface = ap (λ (h : Header). is_interface h) (sym twin.pair.shape) ∙ is.interface;
          above = below_alike one other are.shape is.above;
          declares = sym (twin.pair.methods name desc differ) ∙ is.declares;
          inherited = is.inherited;
        }

    -- what an interface declares
    own_alike : (interface : Name) → option_and_then (λ (header : Header). declared name desc header.methods) (class_named one interface) ≡ option_and_then (λ (header : Header). declared name desc header.methods) (class_named other interface)
    own_alike interface = by (class_named one interface) refl
      where
        by : (found : Option Header) → class_named one interface ≡ found → option_and_then (λ (header : Header). declared name desc header.methods) (class_named one interface) ≡ option_and_then (λ (header : Header). declared name desc header.methods) (class_named other interface)
        by None none = ap (option_and_then (λ (header : Header). declared name desc header.methods)) (none ∙ sym (absent interface none))
        by (Some header) is =
            let twin = has_twin interface header is in
            ap (option_and_then (λ (header : Header). declared name desc header.methods)) is ∙ twin.pair.methods name desc differ ∙ sym (ap (option_and_then (λ (header : Header). declared name desc header.methods)) twin.is)

    inherited_alike : (names : List Name) → first_inherited one name desc names ≡ first_inherited other name desc names
    inherited_alike [] = refl
    inherited_alike (interface ∷ names) =
        ap (λ found. first_of (inherited_by interface found) (first_inherited one name desc names)) (own_alike interface)
        ∙ ap (first_of (inherited_by interface (option_and_then (λ (header : Header). declared name desc header.methods) (class_named other interface)))) (inherited_alike names)

pub twins_back : {one other : Headers} → ((header twin : Header) → IsPair header twin → IsPair twin header) → AreTwins one other → AreTwins other one
twins_back back are = record {
  shape = sym are.shape;
  places = λ name. sym (are.places name);
  pairs = λ name header twin is also. back twin header (are.pairs name twin header also is);
}

module _ (one other : Headers) (are : AreTwins one other) (back : AreTwins other one) where
  module _ (name desc : List ℕ) (differ : name ≢ init) where
    default_alike : (class : Name) (method : Declared) → IsDefault one class name desc method → IsDefault other class name desc method
    default_alike class method is = record {
      specific = record {
        of_superinterface = superinterface_alike one other are name desc differ class method is.specific.of_superinterface;
        none_below = λ lower of_lower below. is.specific.none_below lower (superinterface_alike other one back name desc differ class lower of_lower) (below_alike other one back.shape below);
      };
      concrete = is.concrete;
    }

module _ (one other : Headers) (are : AreTwins one other) (back : AreTwins other one) where
  module _ (name desc : List ℕ) (differ : name ≢ init) where
    one_default_alike : (class : Name) (method : Declared) → IsOneDefault one class name desc method → IsOneDefault other class name desc method
    one_default_alike class method is = record {
      is_default = default_alike one other are back name desc differ class method is.is_default;
      only = λ second also. is.only second (default_alike other one back are name desc differ class second also);
    }

    chooses_default_alike : {class : Name} {choice : Choice} → ChoosesDefault one class name desc choice → ChoosesDefault other class name desc choice
    chooses_default_alike {class} (the_one method is) = the_one method (one_default_alike class method is)
    chooses_default_alike {class} (no_default none) = no_default (λ method is. none method (default_alike other one back are name desc differ class method is))
    chooses_default_alike {class} (two_defaults first second is also apart) =
        two_defaults first second (default_alike one other are back name desc differ class first is) (default_alike one other are back name desc differ class second also) apart

    chooses_alike : (Counts Others : Declared → Type 0) → ((method : Declared) → Counts method → Others method) → ((method : Declared) → Others method → Counts method) → {of_method : Declared → Choice} {class : Name} {choice : Choice} → Chooses one Counts of_method class name desc choice → Chooses other Others of_method class name desc choice
    chooses_alike Counts Others to from (first_upwards method up) = first_upwards method (upwards_alike one other are name desc differ Counts Others to from up)
    chooses_alike Counts Others to from (by_default choice none over) = by_default choice (upwards_alike one other are name desc differ Counts Others to from none) (chooses_default_alike over)

    in_interfaces_alike : {class : Name} {found : Option Declared} → FindsInInterfaces one class name desc found → FindsInInterfaces other class name desc found
    in_interfaces_alike {class} (one_default method is) = one_default method (one_default_alike class method is)
    in_interfaces_alike {class} (first_of_all names none are_names) =
        subst (FindsInInterfaces other class name desc) (sym (inherited_alike one other are name desc differ names))
        (first_of_all names (λ method is. none method (record {
          is_default = default_alike other one back are name desc differ class method is.is_default;
          only = λ second also. is.only second (default_alike one other are back name desc differ class second also);
        })) (superinterfaces_alike one other are.shape class names are_names))

    counts_alike : (header class : Header) → shape_of header ≡ shape_of class → (method : Declared) → CountsFor header method → CountsFor class method
    counts_alike header class same method counts = λ kind. subst (λ (n : Name). (method.class ≡ n) ⊎ IsTrue (has method.member.flags PUBLIC && not (has method.member.flags STATIC))) (ap (λ (h : Header). h.name) same) (counts (ap (λ (h : Header). is_interface h) same ∙ kind))

    in_class_alike : {class : Name} {found : Option Declared} → FindsInClass one class name desc found → FindsInClass other class name desc found
    in_class_alike {class} (nowhere none) = nowhere (no_twin one other are.shape class none)
    in_class_alike {class} (upwards header method is up) =
        let found = twin one other are.shape class header is in
        upwards found.0 method found.1 (upwards_alike one other are name desc differ (CountsFor header) (CountsFor found.0) (counts_alike header found.0 found.2) (counts_alike found.0 header (sym found.2)) up)
    in_class_alike {class} (in_interfaces header method is none over) =
        let found = twin one other are.shape class header is in
        in_interfaces found.0 method found.1 (upwards_alike one other are name desc differ (CountsFor header) (CountsFor found.0) (counts_alike header found.0 found.2) (counts_alike found.0 header (sym found.2)) none) (in_interfaces_alike over)

    -- the methods that are found under every descriptor
    every_alike : (class : Name) → option_and_then (λ (header : Header). option_map (declared_by class) (first_named name header.methods)) (class_named one class) ≡ option_and_then (λ (header : Header). option_map (declared_by class) (first_named name header.methods)) (class_named other class)
    every_alike class = by (class_named one class) refl
      where
        by : (found : Option Header) → class_named one class ≡ found → option_and_then (λ (header : Header). option_map (declared_by class) (first_named name header.methods)) (class_named one class) ≡ option_and_then (λ (header : Header). option_map (declared_by class) (first_named name header.methods)) (class_named other class)
        by None none = ap (option_and_then (λ (header : Header). option_map (declared_by class) (first_named name header.methods))) (none ∙ sym (no_twin one other are.shape class none))
        by (Some header) is =
            let found = twin one other are.shape class header is in
            let pair = are.pairs class header found.0 is found.1 in
            ap (option_and_then (λ (header : Header). option_map (declared_by class) (first_named name header.methods))) is ∙ ap (option_map (declared_by class)) (pair.first name differ)
            ∙ sym (ap (option_and_then (λ (header : Header). option_map (declared_by class) (first_named name header.methods))) found.1)

    pub method_found_alike : (class : Name) {found : Option Declared} → FindsMethod one class name desc found → FindsMethod other class name desc found
    method_found_alike class (initialiser is) = absurd (differ is)
    method_found_alike class (polymorphic every) = subst (FindsMethod other class name desc) (sym (every_alike class)) (polymorphic (every.0, every.1, (every.2.0, sym (are.places class) ∙ every.2.1)))
    method_found_alike class (of_array found apart array over) = of_array found apart array (in_class_alike over)
    method_found_alike class (of_class found apart single plain over) = of_class found apart single (λ every. plain (every.0, every.1, (every.2.0, are.places class ∙ every.2.1))) (in_class_alike over)

  -- ---- selection

  is_or_overrides_alike : (resolved method : Declared) → IsOrOverrides one resolved method → IsOrOverrides other resolved method
  is_or_overrides_alike resolved method (inl same) = inl same
  is_or_overrides_alike resolved method (inr over) = inr (overrides_alike one other are over)

  special_alike : (start : Name) (method : Declared) → CountsForSpecial one start method → CountsForSpecial other start method
  special_alike start method counts = record {
    of_instance = counts.of_instance;
    at_interface = λ header is kind.
        let found = twin other one back.shape start header is in
        counts.at_interface found.0 found.1 (ap (λ (h : Header). is_interface h) (sym found.2) ∙ kind);
  }

module _ (one other : Headers) (are : AreTwins one other) (back : AreTwins other one) (receiver : Name) (resolved : Declared) where
  pub special_selected_alike : {form : CallForm} {choice : Choice} → Selects one receiver resolved form choice → form ≡ Special → Selects other receiver resolved form choice
  special_selected_alike (of_private is) special = absurd cc
  special_selected_alike (of_virtual choice free chooses) special = absurd cc
  special_selected_alike (of_interface choice chooses) special = absurd cc
  special_selected_alike (of_initialiser is) special = of_initialiser is
  special_selected_alike (of_special choice differ chooses) special =
      of_special choice differ (chooses_alike one other are back resolved.member.name resolved.member.desc differ (CountsForSpecial one (start_of receiver)) (CountsForSpecial other (start_of receiver)) (special_alike one other are back (start_of receiver)) (special_alike other one back are (start_of receiver)) chooses)

  pub selected_alike : resolved.member.name ≢ init → {form : CallForm} {choice : Choice} → Selects one receiver resolved form choice → Selects other receiver resolved form choice
  selected_alike differ (of_private is) = of_private is
  selected_alike differ (of_virtual choice free chooses) =
      of_virtual choice free (chooses_alike one other are back resolved.member.name resolved.member.desc differ (IsOrOverrides one resolved) (IsOrOverrides other resolved) (is_or_overrides_alike one other are back resolved) (is_or_overrides_alike other one back are resolved) chooses)
  selected_alike differ (of_interface choice chooses) =
      of_interface choice (chooses_alike one other are back resolved.member.name resolved.member.desc differ (λ method. IsFalse (has method.member.flags STATIC)) (λ method. IsFalse (has method.member.flags STATIC)) (λ method is. is) (λ method is. is) chooses)
  selected_alike differ (of_initialiser is) = absurd (differ is)
  selected_alike differ (of_special choice apart chooses) = special_selected_alike (of_special choice apart chooses) refl
