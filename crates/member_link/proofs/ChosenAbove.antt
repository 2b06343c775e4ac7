-- What holds of the method that a selection chooses.
use Rattle.std.proofs.Common.{◌≡◌, ◌⊎◌, ◌==◌, ◌&&◌, not, ℕ, Bool, true, false, cond, List, [], ◌∷◌, Option, Some, IsTrue, IsFalse, refl, sym, ap, subst, ◌∙◌, inl, inr}
use Rattle.std.proofs.lemmas.Bool.{eqb-true}
use Rattle.std.proofs.lemmas.Option.{none-some, same_Some}
use Rattle.class_model.specs.Members.{has, PRIVATE, STATIC, ABSTRACT, PUBLIC}
use Rattle.class_model.specs.declared.header.Member.{Member}
use Rattle.class_tree.specs.Headers.{Name, Headers}
use Rattle.class_tree.specs.Hierarchy.{IsHierarchy}
use Rattle.class_tree.specs.Laws.Above.{class_is_subtype, nothing_above_object, hierarchy_is_sound, hierarchy_is_rooted}
use Rattle.class_tree.specs.Names.{object}
use Rattle.class_tree.specs.Subtype.{IsArray, IsDirectlyBelow, superclass, directly, onwards, IsSubtype, itself, of_arrays}
use Rattle.member_link.specs.Access.{IsAtOrBelow}
use Rattle.member_link.specs.Choices.{IsRunnable}
use Rattle.member_link.specs.DeclaredMembers.{Declared, declared_by, declared, IsMethod, is_inherited}
use Rattle.member_link.specs.Defaults.{IsDefault}
use Rattle.member_link.specs.Selection.{Choice, chosen_method, abstract_choice, several_defaults, choice_not_public, choice_of, public_choice_of, ChoosesDefault, the_one, no_default, two_defaults, Chooses, first_upwards, by_default, start_of, IsOrOverrides, CountsForSpecial, Selects, of_private, of_virtual, of_interface, of_initialiser, of_special}
use Rattle.member_link.specs.Upwards.{FirstUpwards, in_itself, in_superclass, in_no_superclass, in_absent_class}
use Rattle.member_link.specs.declared.selection.CallForm.{CallForm}
use Rattle.member_link.proofs.OpenOverriding.{may_of}
use Rattle.member_link.specs.Laws.OwnMembers.{own_of_declared}

-- ---- choices

abbrev is_method : Choice → Declared → Declared
is_method (chosen_method method) other = method
is_method abstract_choice other = other
is_method several_defaults other = other
is_method choice_not_public other = other

-- a method that is chosen of a method is that one, and is not abstract
pub record IsSameConcrete (method chosen : Declared) : Type 0 where
  pub same : method ≡ chosen
  pub concrete : IsFalse (has chosen.member.flags ABSTRACT)

choice_is : (method chosen : Declared) (is_abstract : Bool) → has method.member.flags ABSTRACT ≡ is_abstract → cond is_abstract abstract_choice (chosen_method method) ≡ chosen_method chosen → IsSameConcrete method chosen
choice_is method chosen true is same = absurd cc
choice_is method chosen false is same =
    let alike : method ≡ chosen = ap (λ choice. is_method choice method) same in
    record { same = alike; concrete = ap (λ (m : Declared). has m.member.flags ABSTRACT) (sym alike) ∙ is }

pub choice_of_is : (method chosen : Declared) → choice_of method ≡ chosen_method chosen → IsSameConcrete method chosen
choice_of_is method chosen same = choice_is method chosen (has method.member.flags ABSTRACT) refl same

public_is : (method chosen : Declared) (is_public : Bool) → cond is_public (choice_of method) choice_not_public ≡ chosen_method chosen → IsSameConcrete method chosen
public_is method chosen false same = absurd cc
public_is method chosen true same = choice_of_is method chosen same

pub public_choice_of_is : (method chosen : Declared) → public_choice_of method ≡ chosen_method chosen → IsSameConcrete method chosen
public_choice_of_is method chosen same = public_is method chosen (has method.member.flags PUBLIC) same

-- neither private nor static
inherited_is_of_instance : (private static : Bool) → (not private && not static) ≡ true → static ≡ false
inherited_is_of_instance false false is = refl
inherited_is_of_instance false true is = absurd cc
inherited_is_of_instance true static is = absurd cc

pub of_instance : (member : Member) → IsTrue (is_inherited member) → IsFalse (has member.flags STATIC)
of_instance member is = inherited_is_of_instance (has member.flags PRIVATE) (has member.flags STATIC) is

-- ---- upwards

-- a method that a class or one above it declares
pub record IsMet (headers : Headers) (Counts : Declared → Type 0) (name desc : List ℕ) (class : Name) (method : Declared) : Type 0 where
  pub above : IsAtOrBelow headers class method.class
  pub declares : IsMethod headers method
  pub same_name : method.member.name ≡ name
  pub same_desc : method.member.desc ≡ desc
  pub counts : Counts method

pub declared_again : (name desc : List ℕ) (members : List Member) (member : Member) → declared name desc members ≡ Some member → declared member.name member.desc members ≡ Some member
declared_again name desc members member is =
    let own = own_of_declared name desc members member is in
    ap (λ n. declared n member.desc members) own.3 ∙ ap (λ d. declared name d members) own.4 ∙ is

module _ (headers : Headers) (Counts : Declared → Type 0) (name desc : List ℕ) where
  pub met_upwards : {class : Name} {found : Option Declared} → FirstUpwards headers Counts name desc class found → (method : Declared) → found ≡ Some method → IsMet headers Counts name desc class method
  met_upwards (in_itself class header member is declares counts) method same =
      let own = own_of_declared name desc header.methods member declares in
      subst (IsMet headers Counts name desc class) (same_Some (declared_by class member) method same) (record {
        above = inl refl;
        declares = record { header = header; found = is; declares = declared_again name desc header.methods member declares };
        same_name = own.3;
        same_desc = own.4;
        counts = counts;
      })
  met_upwards (in_superclass class high header found is passed some rest) method same =
      let met = met_upwards rest method same in
      let step = superclass class high header is some in
      record {
        above = elim met.above [
          | inl here ↦ inr (directly class method.class (subst (IsDirectlyBelow headers class) here step))
          | inr up ↦ inr (onwards class high method.class step up)
        ];
        declares = met.declares;
        same_name = met.same_name;
        same_desc = met.same_desc;
        counts = met.counts;
      }
  met_upwards (in_no_superclass class header is passed none) method same = absurd (none-some method same)
  met_upwards (in_absent_class class absent) method same = absurd (none-some method same)

-- ---- the receiver

-- selection starts at the receiver, or for an array at java/lang/Object
start_by : (first : ℕ) (rest : List ℕ) (is : Bool) → (first == 91) ≡ is → ((first ∷ rest ≡ 91 ∷ rest) × (cond is object (first ∷ rest) ≡ object)) ⊎ (cond is object (first ∷ rest) ≡ first ∷ rest)
start_by first rest true is = inl (ap (λ (b : ℕ). b ∷ rest) (eqb-true first 91 is), refl)
start_by first rest false is = inr refl

pub starts : (receiver : Name) → (IsArray receiver × (start_of receiver ≡ object)) ⊎ (start_of receiver ≡ receiver)
starts [] = inr refl
starts (first ∷ rest) = elim (start_by first rest (first == 91) refl) [ inl array ↦ inl ((rest, array.0), array.1) | inr same ↦ inr same ]

module _ (headers : Headers) (hierarchy : IsHierarchy headers) where
  pub at_or_below_is_subtype : {low high : Name} → IsAtOrBelow headers low high → IsSubtype headers low high
  at_or_below_is_subtype {low} (inl same) = subst (IsSubtype headers low) same (itself low)
  at_or_below_is_subtype (inr up) = class_is_subtype headers (hierarchy_is_sound headers hierarchy) hierarchy.no_array up

  -- what is above java/lang/Object is itself
  pub only_object : {high : Name} → IsAtOrBelow headers object high → object ≡ high
  only_object (inl same) = same
  only_object (inr up) = absurd (nothing_above_object headers (hierarchy_is_sound headers hierarchy) (hierarchy_is_rooted headers hierarchy) up)

  -- what is at or above the start is at or above the receiver
  pub above_receiver : (receiver high : Name) → IsAtOrBelow headers (start_of receiver) high → IsSubtype headers receiver high
  above_receiver receiver high up = elim (starts receiver) [
    | inl array ↦ of_arrays receiver high array.0 (inl (sym (only_object (subst (λ low. IsAtOrBelow headers low high) array.1 up))))
    | inr same ↦ at_or_below_is_subtype (subst (λ low. IsAtOrBelow headers low high) same up)
  ]

  -- ---- the choice

  -- a default
  default_is_runnable : (receiver : Name) (resolved method : Declared) → IsDefault headers (start_of receiver) resolved.member.name resolved.member.desc method → IsRunnable headers receiver resolved method
  default_is_runnable receiver resolved method is =
      let inherited = is.specific.of_superinterface in
      let own = own_of_declared resolved.member.name resolved.member.desc inherited.header.methods method.member inherited.declares in
      record {
        concrete = is.concrete;
        of_instance = of_instance method.member inherited.inherited;
        above = above_receiver receiver method.class (inr inherited.above);
        same_name = own.3;
        same_desc = own.4;
        declares = record {
          header = inherited.header;
          found = inherited.found;
          declares = declared_again resolved.member.name resolved.member.desc inherited.header.methods method.member inherited.declares;
        };
      }

  default_chosen : (receiver : Name) (resolved : Declared) {choice : Choice} → ChoosesDefault headers (start_of receiver) resolved.member.name resolved.member.desc choice → (method : Declared) → choice ≡ chosen_method method → IsRunnable headers receiver resolved method
  default_chosen receiver resolved (the_one method is) chosen same =
      subst (IsRunnable headers receiver resolved) (ap (λ choice. is_method choice method) same) (default_is_runnable receiver resolved method is.is_default)
  default_chosen receiver resolved (no_default none) chosen same = absurd cc
  default_chosen receiver resolved (two_defaults one other is also differ) chosen same = absurd cc

  -- the first upwards that counts, or a default
  chosen_is_runnable : (receiver : Name) (resolved : Declared) (Counts : Declared → Type 0) (of_method : Declared → Choice) → ((method : Declared) → Counts method → IsFalse (has method.member.flags STATIC)) → ((method chosen : Declared) → of_method method ≡ chosen_method chosen → IsSameConcrete method chosen)
      → {choice : Choice} → Chooses headers Counts of_method (start_of receiver) resolved.member.name resolved.member.desc choice → (method : Declared) → choice ≡ chosen_method method → IsRunnable headers receiver resolved method
  chosen_is_runnable receiver resolved Counts of_method instance concrete (first_upwards method up) chosen same =
      let met = met_upwards headers Counts resolved.member.name resolved.member.desc up method refl in
      let is = concrete method chosen same in
      subst (IsRunnable headers receiver resolved) is.same (record {
        concrete = ap (λ (m : Declared). has m.member.flags ABSTRACT) is.same ∙ is.concrete;
        of_instance = instance method met.counts;
        above = above_receiver receiver method.class met.above;
        same_name = met.same_name;
        same_desc = met.same_desc;
        declares = met.declares;
      })
  chosen_is_runnable receiver resolved Counts of_method instance concrete (by_default choice none over) chosen same = default_chosen receiver resolved over chosen same

  module _ (receiver : Name) (resolved : Declared) (declares : IsMethod headers resolved) (instance : IsFalse (has resolved.member.flags STATIC)) (above : IsSubtype headers receiver resolved.class) where
    resolved_is_runnable : (method : Declared) → choice_of resolved ≡ chosen_method method → IsRunnable headers receiver resolved method
    resolved_is_runnable method same =
        let is = choice_of_is resolved method same in
        subst (IsRunnable headers receiver resolved) is.same (record {
          concrete = ap (λ (m : Declared). has m.member.flags ABSTRACT) is.same ∙ is.concrete;
          of_instance = instance;
          above = above;
          same_name = refl;
          same_desc = refl;
          declares = declares;
        })

    overriding_is_of_instance : (method : Declared) → IsOrOverrides headers resolved method → IsFalse (has method.member.flags STATIC)
    overriding_is_of_instance method (inl same) = ap (λ (m : Declared). has m.member.flags STATIC) same ∙ instance
    overriding_is_of_instance method (inr over) = of_instance method.member (may_of over).low_inherited

    pub selected_is_runnable : {form : CallForm} {choice : Choice} → Selects headers receiver resolved form choice → (method : Declared) → choice ≡ chosen_method method → IsRunnable headers receiver resolved method
    selected_is_runnable (of_private is) method same = resolved_is_runnable method same
    selected_is_runnable (of_virtual choice free chooses) method same =
        chosen_is_runnable receiver resolved (IsOrOverrides headers resolved) choice_of overriding_is_of_instance choice_of_is chooses method same
    selected_is_runnable (of_interface choice chooses) method same =
        chosen_is_runnable receiver resolved (λ method. IsFalse (has method.member.flags STATIC)) public_choice_of (λ method is. is) public_choice_of_is chooses method same
    selected_is_runnable (of_initialiser is) method same = resolved_is_runnable method same
    selected_is_runnable (of_special choice differ chooses) method same =
        chosen_is_runnable receiver resolved (CountsForSpecial headers (start_of receiver)) choice_of (λ method counts. counts.of_instance) choice_of_is chooses method same
