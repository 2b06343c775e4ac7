-- The members that look-up finds are declared at or above the named class.
use Rattle.std.proofs.Common.{◌≡◌, ◌∙◌, ℕ, Bool, true, false, cond, List, [], ◌∷◌, bytes_eq, Option, Some, None, IsTrue, option_map, option_and_then, refl, sym, ap, subst, inl, inr}
use Rattle.std.proofs.lemmas.Bool.{and_from, and_left, or_right}
use Rattle.std.proofs.lemmas.Option.{none-some, same_Some}
use Rattle.std.proofs.lemmas.Slice.Eq.{bytes_eq-Decides}
use Rattle.class_model.specs.declared.header.Header.{Header}
use Rattle.class_model.specs.declared.header.Member.{Member}
use Rattle.class_tree.specs.Headers.{Name, Headers, class_named}
use Rattle.class_tree.specs.Hierarchy.{IsHierarchy}
use Rattle.class_tree.specs.Laws.Names.{IsOneName, none_of_none, one_name_first, one_of_first, one_of_either, each_of_names}
use Rattle.class_tree.specs.Names.{is_interface, is_member}
use Rattle.class_tree.specs.Subtype.{IsDirectlyBelow, superclass, interface, directly, onwards, IsSubtype, itself, of_arrays}
use Rattle.member_link.specs.Access.{IsAtOrBelow}
use Rattle.member_link.specs.DeclaredMembers.{Declared, declared_by, declared, IsMethod, is_inherited}
use Rattle.member_link.specs.Defaults.{first_inherited}
use Rattle.member_link.specs.Inner.DefaultsAt.{inherited_by}
use Rattle.member_link.specs.Inner.FieldSearch.{super_list}
use Rattle.member_link.specs.Fields.{interfaces_and_super, FindsFirst, in_no_class, in_class, above_class, in_other_class, absent_class, FindsField}
use Rattle.member_link.specs.FoundAbove.{IsFieldAbove, IsMethodAbove}
use Rattle.member_link.specs.Methods.{CountsFor, FindsInInterfaces, one_default, first_of_all, FindsInClass, nowhere, upwards, in_interfaces, first_named, FindsMethod, initialiser, polymorphic, of_array, of_class}
use Rattle.member_link.proofs.ChosenAbove.{met_upwards, declared_again, only_object, at_or_below_is_subtype}
use Rattle.member_link.proofs.FieldWalks.{interfaces_then_super}
use Rattle.member_link.proofs.FirstInherited.{first_of}
use Rattle.member_link.specs.Laws.OwnMembers.{own_of_declared}

-- a member is of its own name and descriptor
is_itself : (member : Member) → is_member member.name member.desc member ≡ true
is_itself member = and_from _ _ ((bytes_eq-Decides member.name member.name).1 refl) ((bytes_eq-Decides member.desc member.desc).1 refl)

-- ---- fields

module _ (headers : Headers) (name desc : List ℕ) where
  record IsFieldMet (class : Name) (field : Declared) : Type 0 where
    header : Header
    found : class_named headers field.class ≡ Some header
    declares : declared name desc header.fields ≡ Some field.member
    above : IsAtOrBelow headers class field.class

  abbrev IsMetIn : List Name → Declared → Type 0
  IsMetIn classes field = (class : Name) × IsOneName classes class × IsFieldMet class field

  super_above : (class high : Name) (header : Header) → class_named headers class ≡ Some header → (super : Option Name) → header.super_name ≡ super → IsOneName (super_list super) high → IsDirectlyBelow headers class high
  super_above class high header is None none one = absurd (none_of_none high one)
  super_above class high header is (Some name) some one = elim (one_of_first name [] high one) [
    | inl here ↦ superclass class high header is (some ∙ ap Some here)
    | inr there ↦ absurd (none_of_none high there)
  ]

  -- what a class names is above it
  named_above : (class high : Name) (header : Header) → class_named headers class ≡ Some header → IsOneName (interfaces_and_super header) high → IsDirectlyBelow headers class high
  named_above class high header is one =
      elim (one_of_either header.interfaces (super_list header.super_name) high (subst (λ names. IsOneName names high) (interfaces_then_super header) one)) [
        | inl front ↦ interface class high header is front
        | inr back ↦ super_above class high header is header.super_name refl back
      ]

  at_or_above : {class middle high : Name} → IsDirectlyBelow headers class middle → IsAtOrBelow headers middle high → IsAtOrBelow headers class high
  at_or_above {class} {middle} {high} step (inl same) = inr (directly class high (subst (IsDirectlyBelow headers class) same step))
  at_or_above {class} {middle} {high} step (inr up) = inr (onwards class middle high step up)

  met_in : {classes : List Name} {found : Option Declared} → FindsFirst headers name desc classes found → (field : Declared) → found ≡ Some field → IsMetIn classes field
  met_in in_no_class field same = absurd (none-some field same)
  met_in (in_class class classes header member is declares) field same = (
    class,
    one_name_first class class classes refl,
    subst (IsFieldMet class) (same_Some (declared_by class member) field same) (record { header = header; found = is; declares = declares; above = inl refl }),
  )
  met_in (above_class class classes header other is lacks above) field same =
      let up = met_in above field same in
      let met = up.2 in (
        class,
        one_name_first class class classes refl,
        record { header = met.header; found = met.found; declares = met.declares; above = at_or_above (named_above class up.0 header is up.1) met.above },
      )
  met_in (in_other_class class classes header found is lacks above beside) field same =
      let more = met_in beside field same in
      (more.0, or_right _ _ more.1, more.2)
  met_in (absent_class class classes found none beside) field same =
      let more = met_in beside field same in
      (more.0, or_right _ _ more.1, more.2)

  pub field_above : IsHierarchy headers → (class : Name) (field : Declared) → FindsField headers class name desc (Some field) → IsFieldAbove headers class name desc field
  field_above hierarchy class field finds =
      let met = met_in finds field refl in
      let in_it = met.2 in
      let here : class ≡ met.0 = elim (one_of_first class [] met.0 met.1) [ inl here ↦ here | inr there ↦ absurd (none_of_none met.0 there) ] in
      record {
        header = in_it.header;
        found = in_it.found;
        declares = in_it.declares;
        above = at_or_below_is_subtype headers hierarchy (subst (λ low. IsAtOrBelow headers low field.class) (sym here) in_it.above);
      }

-- ---- methods

module _ (headers : Headers) (hierarchy : IsHierarchy headers) (name desc : List ℕ) where
  -- a method of the name and descriptor
  record IsMethodMet (class : Name) (method : Declared) : Type 0 where
    declares : IsMethod headers method
    above : IsAtOrBelow headers class method.class
    same_name : method.member.name ≡ name
    same_desc : method.member.desc ≡ desc

  -- one that an interface of these declares
  record IsInheritedIn (names : List Name) (method : Declared) : Type 0 where
    one : IsOneName names method.class
    header : Header
    found : class_named headers method.class ≡ Some header
    declares : declared name desc header.methods ≡ Some method.member

  behind : {first : Name} {names : List Name} {method : Declared} → IsInheritedIn names method → IsInheritedIn (first ∷ names) method
  behind is = record { one = or_right _ _ is.one; header = is.header; found = is.found; declares = is.declares }

  first_is_declared : (names : List Name) (method : Declared) → first_inherited headers name desc names ≡ Some method → IsInheritedIn names method
  first_is_declared [] method is = absurd (none-some method is)
  first_is_declared (first ∷ names) method is = of_class_of (class_named headers first) refl is (λ rest. behind (first_is_declared names method rest))
    where
      inherits : (header : Header) → class_named headers first ≡ Some header → (member : Member) → declared name desc header.methods ≡ Some member → (inherited : Bool) → first_of (cond inherited (Some (declared_by first member)) None) (first_inherited headers name desc names) ≡ Some method → (first_inherited headers name desc names ≡ Some method → IsInheritedIn (first ∷ names) method) → IsInheritedIn (first ∷ names) method
      inherits header found member declares true is rest =
          subst (IsInheritedIn (first ∷ names)) (same_Some (declared_by first member) method is) (record { one = one_name_first first first names refl; header = header; found = found; declares = declares })
      inherits header found member declares false is rest = rest is

      declares_it : (header : Header) → class_named headers first ≡ Some header → (own : Option Member) → declared name desc header.methods ≡ own → first_of (inherited_by first own) (first_inherited headers name desc names) ≡ Some method → (first_inherited headers name desc names ≡ Some method → IsInheritedIn (first ∷ names) method) → IsInheritedIn (first ∷ names) method
      declares_it header found None lacks is rest = rest is
      declares_it header found (Some member) declares is rest = inherits header found member declares (is_inherited member) is rest

      of_class_of : (class : Option Header) → class_named headers first ≡ class → first_inherited headers name desc (first ∷ names) ≡ Some method → (first_inherited headers name desc names ≡ Some method → IsInheritedIn (first ∷ names) method) → IsInheritedIn (first ∷ names) method
      of_class_of None none is rest =
          rest (sym (ap (λ found. first_of (inherited_by first (option_and_then (λ (header : Header). declared name desc header.methods) found)) (first_inherited headers name desc names)) none) ∙ is)
      of_class_of (Some header) found is rest =
          declares_it header found (declared name desc header.methods) refl (sym (ap (λ found. first_of (inherited_by first (option_and_then (λ (header : Header). declared name desc header.methods) found)) (first_inherited headers name desc names)) found) ∙ is) rest

  met_of_declared : (class : Name) (method : Declared) (header : Header) → class_named headers method.class ≡ Some header → declared name desc header.methods ≡ Some method.member → IsAtOrBelow headers class method.class → IsMethodMet class method
  met_of_declared class method header found declares above =
      let own = own_of_declared name desc header.methods method.member declares in
      record {
        declares = record { header = header; found = found; declares = declared_again name desc header.methods method.member declares };
        above = above;
        same_name = own.3;
        same_desc = own.4;
      }

  over_interfaces : {class : Name} {found : Option Declared} → FindsInInterfaces headers class name desc found → (method : Declared) → found ≡ Some method → IsMethodMet class method
  over_interfaces {class} (one_default default is) method same =
      let of = is.is_default.specific.of_superinterface in
      subst (IsMethodMet class) (same_Some default method same) (met_of_declared class default of.header of.found of.declares (inr of.above))
  over_interfaces {class} (first_of_all names none are) method same =
      let first = first_is_declared names method same in
      let interface = each_of_names (λ name. (header : Header) × (class_named headers name ≡ Some header) × IsTrue (is_interface header)) names (hierarchy.interfaces class names are) method.class first.one in
      met_of_declared class method first.header first.found first.declares (inr ((hierarchy.superinterfaces class method.class interface.0 names are interface.1 interface.2).0 first.one))

  met_in_class : {class : Name} {found : Option Declared} → FindsInClass headers class name desc found → (method : Declared) → found ≡ Some method → IsMethodMet class method
  met_in_class (nowhere none) method same = absurd (none-some method same)
  met_in_class {class} (upwards header first is up) method same =
      let met = met_upwards headers (CountsFor header) name desc up first refl in
      subst (IsMethodMet class) (same_Some first method same) (record { declares = met.declares; above = met.above; same_name = met.same_name; same_desc = met.same_desc })
  met_in_class (in_interfaces header found is none over) method same = over_interfaces over method same

  -- the first method of a name is the first of its descriptor
  record IsFirst (methods : List Member) (member : Member) : Type 0 where
    own_name : member.name ≡ name
    declares : declared member.name member.desc methods ≡ Some member

  first_declares : (methods : List Member) (member : Member) → first_named name methods ≡ Some member → IsFirst methods member
  first_declares [] member is = absurd (none-some member is)
  first_declares (first ∷ methods) member is = by (bytes_eq name first.name) refl is (first_declares methods member)
    where
      by : (b : Bool) → bytes_eq name first.name ≡ b → cond b (Some first) (first_named name methods) ≡ Some member → (first_named name methods ≡ Some member → IsFirst methods member) → IsFirst (first ∷ methods) member
      by true same is rest =
          subst (IsFirst (first ∷ methods)) (same_Some first member is) (record {
            own_name = sym ((bytes_eq-Decides name first.name).0 same);
            declares = ap (λ b. cond b (Some first) (declared first.name first.desc methods)) (is_itself first);
          })
      by false differ is rest =
          let more = rest is in
          record {
            own_name = more.own_name;
            declares = ap (λ b. cond b (Some first) (declared member.name member.desc methods)) (and_left (bytes_eq member.name first.name) (bytes_eq member.desc first.desc) (ap (λ n. bytes_eq n first.name) more.own_name ∙ differ)) ∙ more.declares;
          }

  -- a method that is found in the named class itself
  own_is_met : (class : Name) (found : Option Header) → class_named headers class ≡ found → (method : Declared) → option_and_then (λ (header : Header). option_map (declared_by class) (declared name desc header.methods)) found ≡ Some method → IsMethodMet class method
  own_is_met class None none method is = absurd (none-some method is)
  own_is_met class (Some header) found method is = by (declared name desc header.methods) refl is
    where
      by : (own : Option Member) → declared name desc header.methods ≡ own → option_map (declared_by class) own ≡ Some method → IsMethodMet class method
      by None lacks is = absurd (none-some method is)
      by (Some member) declares is = subst (IsMethodMet class) (same_Some (declared_by class member) method is) (met_of_declared class (declared_by class member) header found declares (inl refl))

  record IsEvery (class : Name) (method : Declared) : Type 0 where
    declares : IsMethod headers method
    same_class : class ≡ method.class
    same_name : method.member.name ≡ name

  every_is_met : (class : Name) (found : Option Header) → class_named headers class ≡ found → (method : Declared) → option_and_then (λ (header : Header). option_map (declared_by class) (first_named name header.methods)) found ≡ Some method → IsEvery class method
  every_is_met class None none method is = absurd (none-some method is)
  every_is_met class (Some header) found method is = by (first_named name header.methods) refl is
    where
      by : (own : Option Member) → first_named name header.methods ≡ own → option_map (declared_by class) own ≡ Some method → IsEvery class method
      by None lacks is = absurd (none-some method is)
      by (Some member) first is =
          let declares = first_declares header.methods member first in
          subst (IsEvery class) (same_Some (declared_by class member) method is) (record {
            declares = record { header = header; found = found; declares = declares.declares };
            same_class = refl;
            same_name = declares.own_name;
          })

  above_of : (class : Name) (method : Declared) → IsMethodMet class method → IsMethodAbove headers class name desc method
  above_of class method met = record { declares = met.declares; above = at_or_below_is_subtype headers hierarchy met.above; same_name = met.same_name; same_desc = inl met.same_desc }

  method_is_above : {class : Name} {found : Option Declared} → FindsMethod headers class name desc found → (method : Declared) → found ≡ Some method → IsMethodAbove headers class name desc method
  method_is_above {class} (initialiser is) method same = above_of class method (own_is_met class (class_named headers class) refl method same)
  method_is_above {class} (polymorphic every) method same =
      let met = every_is_met class (class_named headers class) refl method same in
      record { declares = met.declares; above = subst (IsSubtype headers class) met.same_class (itself class); same_name = met.same_name; same_desc = inr every }
  method_is_above {class} (of_array found differ array over) method same =
      let met = met_in_class over method same in
      record { declares = met.declares; above = of_arrays class method.class array (inl (sym (only_object headers hierarchy met.above))); same_name = met.same_name; same_desc = inl met.same_desc }
  method_is_above {class} (of_class found differ single plain over) method same = above_of class method (met_in_class over method same)

  pub method_above : (class : Name) (method : Declared) → FindsMethod headers class name desc (Some method) → IsMethodAbove headers class name desc method
  method_above class method finds = method_is_above finds method refl
