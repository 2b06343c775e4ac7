-- In a hierarchy each look-up of a method ends, and each selection.
use Rattle.std.proofs.Common.{◌≡◌, ◌⊎◌, ℕ, List, codes, Option, Some, None, IsFalse, refl, sym, subst, ◌∙◌, inl, inr}
use Rattle.std.proofs.lemmas.Bool.{cases_Bool}
use Rattle.std.proofs.lemmas.Option.{none-some, same_Some}
use Rattle.class_model.specs.Members.{has, PRIVATE, STATIC}
use Rattle.class_model.specs.Names.{init}
use Rattle.class_model.specs.declared.header.Header.{Header}
use Rattle.class_model.specs.declared.header.Member.{Member}
use Rattle.class_tree.specs.Headers.{Name, Headers, class_named}
use Rattle.class_tree.specs.Hierarchy.{IsHierarchy}
use Rattle.class_tree.specs.Interfaces.{IsInterfaceWalk, of_root, below, each_once}
use Rattle.class_model.specs.Laws.Decisions.{Decision, mapped, both, either, is_false}
use Rattle.class_tree.specs.Laws.Decided.{same_bytes, array_decided}
use Rattle.class_tree.specs.Names.{object, method_handle}
use Rattle.class_tree.specs.Order.{place_of}
use Rattle.class_tree.specs.declared.place.Place.{Place}
use Rattle.class_tree.specs.declared.place.Place.TheVariants.{Folder, Library}
use Rattle.member_link.specs.DeclaredMembers.{Declared, declared_by, declared, own_method}
use Rattle.member_link.specs.Defaults.{first_inherited}
use Rattle.member_link.specs.Methods.{CountsFor, FindsInInterfaces, one_default, first_of_all, FindsInClass, nowhere, upwards, in_interfaces, IsInLibrary, IsPolymorphic, FindsMethod, initialiser, polymorphic, of_array, of_class}
use Rattle.member_link.specs.Selection.{Choice, choice_of, public_choice_of, ChoosesDefault, the_one, no_default, two_defaults, Chooses, first_upwards, by_default, start_of, IsOrOverrides, CountsForSpecial, Selects, of_private, of_virtual, of_interface, of_initialiser, of_special}
use Rattle.member_link.specs.Upwards.{IsPassedOver, FirstUpwards, in_itself, in_superclass, in_no_superclass, in_absent_class}
use Rattle.member_link.specs.declared.selection.CallForm.{CallForm}
use Rattle.member_link.specs.declared.selection.CallForm.TheVariants.{Virtual, Interface, Special}
use Rattle.member_link.proofs.DecidedMethods.{default_chosen, counts_for_look_up, is_or_overrides, counts_for_special}

module _ (headers : Headers) (hierarchy : IsHierarchy headers) where
  -- ---- upwards

  module _ (Counts : Declared → Type 0) (decide : (method : Declared) → Decision (Counts method)) (name desc : List ℕ) where
    -- the class declares a method that counts, or is passed over
    abbrev Own : Name → Header → Type 0
    Own class header = ((member : Member) × (declared name desc header.methods ≡ Some member) × Counts (declared_by class member)) ⊎ IsPassedOver Counts name desc class header

    own : (class : Name) (header : Header) → Own class header
    own class header = by (declared name desc header.methods) refl
      where
        by : (found : Option Member) → declared name desc header.methods ≡ found → Own class header
        by None lacks = inr (λ member declares counts. none-some member (sym lacks ∙ declares))
        by (Some member) declares = elim (decide (declared_by class member)) [
          | inl counts ↦ inl (member, declares, counts)
          | inr not ↦ inr (λ other also counts. not (subst (λ m. Counts (declared_by class m)) (same_Some other member (sym also ∙ declares)) counts))
        ]

    climbs : {class : Name} {walk : List Name} → IsInterfaceWalk headers class walk → (found : Option Declared) × FirstUpwards headers Counts name desc class found
    climbs (of_root class header walk is none inner) = elim (own class header) [
      | inl here ↦ (Some (declared_by class here.0), in_itself class header here.0 is here.1 here.2)
      | inr passed ↦ (None, in_no_superclass class header is passed none)
    ]
    climbs (below class high header walk rest is some inner outer) = elim (own class header) [
      | inl here ↦ (Some (declared_by class here.0), in_itself class header here.0 is here.1 here.2)
      | inr passed ↦ let up = climbs outer in (up.0, in_superclass class high header up.0 is passed some up.1)
    ]

    pub found_upwards : (class : Name) → (found : Option Declared) × FirstUpwards headers Counts name desc class found
    found_upwards class = by (class_named headers class) refl
      where
        by : (found : Option Header) → class_named headers class ≡ found → (found : Option Declared) × FirstUpwards headers Counts name desc class found
        by None absent = (None, in_absent_class class absent)
        by (Some header) is = climbs (hierarchy.walked class header is).1

    -- ---- choices

    pub chosen : (of_method : Declared → Choice) (class : Name) → (choice : Choice) × Chooses headers Counts of_method class name desc choice
    chosen of_method class = let up = found_upwards class in by up.0 up.1
      where
        by : (found : Option Declared) → FirstUpwards headers Counts name desc class found → (choice : Choice) × Chooses headers Counts of_method class name desc choice
        by (Some method) up = (of_method method, first_upwards method up)
        by None none = let over = default_chosen headers hierarchy class name desc in (over.0, by_default over.0 none over.1)

  -- ---- look-up

  module _ (name desc : List ℕ) where
    over_interfaces : (class : Name) (header : Header) → class_named headers class ≡ Some header → {choice : Choice} → ChoosesDefault headers class name desc choice → (found : Option Declared) × FindsInInterfaces headers class name desc found
    over_interfaces class header is (the_one method only) = (Some method, one_default method only)
    over_interfaces class header is (no_default none) =
        let walk = hierarchy.walked class header is in
        let names = each_once walk.0 in
        (first_inherited headers name desc names, first_of_all names (λ method one. none method one.is_default) (record { walk = walk.0; walked = walk.1; once = refl }))
    over_interfaces class header is (two_defaults first second is_first is_second differ) =
        let walk = hierarchy.walked class header is in
        let names = each_once walk.0 in
        (first_inherited headers name desc names, first_of_all names (λ method one. differ (one.only first is_first ∙ sym (one.only second is_second))) (record { walk = walk.0; walked = walk.1; once = refl }))

    in_class : (class : Name) → (found : Option Declared) × FindsInClass headers class name desc found
    in_class class = by (class_named headers class) refl
      where
        up_or_over : (header : Header) → class_named headers class ≡ Some header → (found : Option Declared) → FirstUpwards headers (CountsFor header) name desc class found → (found : Option Declared) × FindsInClass headers class name desc found
        up_or_over header is (Some method) up = (Some method, upwards header method is up)
        up_or_over header is None none =
            let over = over_interfaces class header is (default_chosen headers hierarchy class name desc).1 in
            (over.0, in_interfaces header over.0 is none over.1)

        by : (found : Option Header) → class_named headers class ≡ found → (found : Option Declared) × FindsInClass headers class name desc found
        by None absent = (None, nowhere absent)
        by (Some header) is =
            let up = found_upwards (CountsFor header) (counts_for_look_up headers hierarchy header) name desc class in
            up_or_over header is up.0 up.1

  in_library : (class : Name) → Decision (IsInLibrary headers class)
  in_library class = by (place_of headers class) refl
    where
      by : (found : Option Place) → place_of headers class ≡ found → Decision (IsInLibrary headers class)
      by None none = inr (λ is. none-some (Library is.0) (sym none ∙ is.1))
      by (Some (Library place)) is = inl (place, is)
      by (Some (Folder place)) is = inr (λ library. let same : Folder place ≡ Library library.0 = same_Some (Folder place) (Library library.0) (sym is ∙ library.1) in absurd cc)

  polymorphic_decided : (class : Name) (name : List ℕ) → Decision (IsPolymorphic headers class name)
  polymorphic_decided class name = mapped (λ (h : (class ≡ method_handle) × (((name ≡ codes "invoke") ⊎ (name ≡ codes "invokeExact")) × IsInLibrary headers class)). (h.0, h.1.0, h.1.1)) (λ every. (every.0, (every.1, every.2)))
      (both (same_bytes class method_handle) (both (either (same_bytes name (codes "invoke")) (same_bytes name (codes "invokeExact"))) (in_library class)))

  pub method_found : (class : Name) (name desc : List ℕ) → (found : Option Declared) × FindsMethod headers class name desc found
  method_found class name desc = elim (same_bytes name init) [
    | inl is ↦ (own_method headers class name desc, initialiser is)
    | inr differ ↦ elim (polymorphic_decided class name) [
      | inl every ↦ (_, polymorphic every)
      | inr plain ↦ elim (array_decided class) [
        | inl array ↦ let found = in_class name desc object in (found.0, of_array found.0 differ array found.1)
        | inr single ↦ let found = in_class name desc class in (found.0, of_class found.0 differ single plain found.1)
      ]
    ]
  ]

  -- ---- selection

  pub selected : (receiver : Name) (resolved : Declared) (form : CallForm) → (choice : Choice) × Selects headers receiver resolved form choice
  selected receiver resolved Virtual = elim (cases_Bool (has resolved.member.flags PRIVATE)) [
    | inl private ↦ (choice_of resolved, of_private private)
    | inr free ↦
        let choice = chosen (IsOrOverrides headers resolved) (is_or_overrides headers hierarchy resolved) resolved.member.name resolved.member.desc choice_of (start_of receiver) in
        (choice.0, of_virtual choice.0 free choice.1)
  ]
  selected receiver resolved Interface =
      let choice = chosen (λ method. IsFalse (has method.member.flags STATIC)) (λ method. is_false (has method.member.flags STATIC)) resolved.member.name resolved.member.desc public_choice_of (start_of receiver) in
      (choice.0, of_interface choice.0 choice.1)
  selected receiver resolved Special = elim (same_bytes resolved.member.name init) [
    | inl is ↦ (choice_of resolved, of_initialiser is)
    | inr differ ↦
        let choice = chosen (CountsForSpecial headers (start_of receiver)) (counts_for_special headers hierarchy (start_of receiver)) resolved.member.name resolved.member.desc choice_of (start_of receiver) in
        (choice.0, of_special choice.0 differ choice.1)
  ]
