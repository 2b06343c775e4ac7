-- Look-up of methods, and access, in classes that have grown.
use Rattle.std.proofs.Common.{◌≡◌, ◌≢◌, ◌⊎◌, ◌↔◌, ◌∙◌, ◌&&◌, ◌||◌, ◌++◌, not, ℕ, Bool, true, false, cond, List, [], ◌∷◌, Option, Some, None, IsTrue, option_map, option_and_then, refl, sym, ap, subst, inl, inr, codes, bytes_eq}
use Rattle.std.specs.List.{AllByRecursion}
use Rattle.std.proofs.lemmas.Bool.{false≢true}
use Rattle.std.proofs.lemmas.Option.{same_Some}
use Rattle.std.proofs.lemmas.Slice.Eq.{bytes_eq-Decides}
use Rattle.class_model.specs.Members.{has, PRIVATE, PROTECTED, PUBLIC, STATIC}
use Rattle.class_model.specs.Names.{init}
use Rattle.class_model.specs.declared.header.Header.{Header}
use Rattle.class_model.specs.declared.header.Member.{Member}
use Rattle.class_tree.specs.Alike.{AreAlike}
use Rattle.class_tree.specs.Headers.{Name, Headers, class_named}
use Rattle.class_tree.specs.Laws.Alike.{below_alike, shapes, twin}
use Rattle.class_tree.specs.Names.{is_member}
use Rattle.member_link.specs.Access.{IsAtOrBelow, IsAccessible, IsClassAccessible, in_package, is_clone_of_array, is_own_private, is_protected, is_public}
use Rattle.member_link.specs.DeclaredMembers.{Declared, declared_by, declared, own_method}
use Rattle.member_link.specs.Machine.Replaced.{without_flags}
use Rattle.member_link.specs.Methods.{FindsMethod, initialiser, polymorphic, of_array, of_class}
use Rattle.member_link.specs.Overriding.{package_of}
use Rattle.type_rules.proofs.Grown.Flags.{protected_stays, public_stays, static_stays, was_private}
use Rattle.type_rules.proofs.Grown.Headers.{Both, no_pair, a_pair, class_pair, grown_alike}
use Rattle.type_rules.specs.Grown.{AreGrownHeaders, IsGrownHeader, IsNewFound, IsNewInitialiser, IsSameFound}

-- ---- the method of a name and descriptor

module _ (name desc : List ℕ) where
  declared_first : (methods added : List Member) (method : Member) → declared name desc methods ≡ Some method → declared name desc (methods ++ added) ≡ Some method
  declared_first [] added method is = absurd cc
  declared_first (first ∷ methods) added method is = by (is_member name desc first) (declared_first methods added method) is where
    by : (b : Bool) → (declared name desc methods ≡ Some method → declared name desc (methods ++ added) ≡ Some method) → cond b (Some first) (declared name desc methods) ≡ Some method → cond b (Some first) (declared name desc (methods ++ added)) ≡ Some method
    by true rest e = e
    by false rest e = rest e

  pub declared_in : (P : Member → Type 0) (added : List Member) (method : Member) → AllByRecursion P added → declared name desc added ≡ Some method → P method
  declared_in P [] method all is = absurd cc
  declared_in P (first ∷ added) method all is = by (is_member name desc first) (declared_in P added method all.1) is where
    by : (b : Bool) → (declared name desc added ≡ Some method → P method) → cond b (Some first) (declared name desc added) ≡ Some method → P method
    by true rest e = subst P (same_Some first method e) all.0
    by false rest e = rest e

  pub declared_either : (P : Member → Type 0) (methods added : List Member) (method : Member) → AllByRecursion P added → declared name desc (methods ++ added) ≡ Some method
      → (declared name desc methods ≡ Some method) ⊎ P method
  declared_either P [] added method all is = inr (declared_in P added method all is)
  declared_either P (first ∷ methods) added method all is = by (is_member name desc first) (declared_either P methods added method all) is where
    by : (b : Bool) → (declared name desc (methods ++ added) ≡ Some method → (declared name desc methods ≡ Some method) ⊎ P method) → cond b (Some first) (declared name desc (methods ++ added)) ≡ Some method
        → (cond b (Some first) (declared name desc methods) ≡ Some method) ⊎ P method
    by true rest e = inl e
    by false rest e = rest e

  -- ---- that a class declares itself

  module _ (class : Name) where
    abbrev own_in : Option Header → Option Declared
    own_in o = option_and_then (λ (header : Header). option_map (declared_by class) (declared name desc header.methods)) o

    unmapped : (o : Option Member) (method : Declared) → option_map (declared_by class) o ≡ Some method → (member : Member) × (o ≡ Some member) × (declared_by class member ≡ method)
    unmapped None method is = absurd cc
    unmapped (Some member) method is = (member, refl, same_Some (declared_by class member) method is)

    own_after : {o p : Option Header} → Both IsGrownHeader o p → (method : Declared) → own_in o ≡ Some method → own_in p ≡ Some method
    own_after no_pair method is = is
    own_after (a_pair old new grown) method is =
        let found = unmapped (declared name desc old.methods) method is in
        let also = ap (declared name desc) grown.alike.methods ∙ declared_first old.methods grown.alike.added found.0 found.1 in
        ap (option_map (declared_by class)) also ∙ ap Some found.2

    record IsOf (o : Option Header) (method : Declared) : Type 0 where
      header : Header
      is : o ≡ Some header
      in_class : method.class ≡ class
      new_one : IsNewInitialiser header method.member

    own_before : {o p : Option Header} → Both IsGrownHeader o p → (method : Declared) → own_in p ≡ Some method → (own_in o ≡ Some method) ⊎ IsOf o method
    own_before no_pair method is = inl is
    own_before (a_pair old new grown) method is =
        let found = unmapped (declared name desc new.methods) method is in
        let also : declared name desc (old.methods ++ grown.alike.added) ≡ Some found.0 = sym (ap (declared name desc) grown.alike.methods) ∙ found.1 in
        by found.0 found.2 (declared_either (IsNewInitialiser old) old.methods grown.alike.added found.0 grown.initialisers also)
      where
        by : (member : Member) → declared_by class member ≡ method → (declared name desc old.methods ≡ Some member) ⊎ IsNewInitialiser old member
            → (own_in (Some old) ≡ Some method) ⊎ IsOf (Some old) method
        by member same (inl declares) = inl (ap (option_map (declared_by class)) declares ∙ ap Some same)
        by member same (inr is_new) = inr (record {
          header = old;
          is = refl;
          in_class = ap (λ (d : Declared). d.class) (sym same);
          new_one = subst (λ (d : Declared). IsNewInitialiser old d.member) same is_new;
        })

-- ---- that a look-up finds

not_invoke : (name : List ℕ) → name ≡ init → (name ≡ codes "invoke") ⊎ (name ≡ codes "invokeExact") → ⊥
not_invoke name is (inl invoke) = false≢true ((bytes_eq-Decides init (codes "invoke")).1 (sym is ∙ invoke))
not_invoke name is (inr exact) = false≢true ((bytes_eq-Decides init (codes "invokeExact")).1 (sym is ∙ exact))

initialiser_found : {headers : Headers} {class : Name} {name desc : List ℕ} {found : Option Declared} → name ≡ init → FindsMethod headers class name desc found → found ≡ own_method headers class name desc
initialiser_found is (initialiser also) = refl
initialiser_found {name} is (polymorphic of) = absurd (not_invoke name is of.1)
initialiser_found is (of_array found differ array in_object) = absurd (differ is)
initialiser_found is (of_class found differ no_array no_poly in_class) = absurd (differ is)

-- methods but for instance initialisers are found alike
pub record LooksUpAlike (old new : Headers) : Type 0 where
  pub methods : (class : Name) (name desc : List ℕ) (found : Option Declared) → name ≢ init → FindsMethod old class name desc found ↔ FindsMethod new class name desc found

-- what the law of alike classes says of methods
abbrev pub FindAlike : Type 0
FindAlike =
    (one other : Headers) (class : Name) (name desc : List ℕ) (found : Option Declared) → AreAlike one other → name ≢ init
    → FindsMethod one class name desc found ↔ FindsMethod other class name desc found

pub looks_up : FindAlike → (old new : Headers) → AreGrownHeaders old new → LooksUpAlike old new
looks_up find old new grown = record { methods = λ class name desc found differ. find old new class name desc found (grown_alike old new grown) differ }

module _ (old new : Headers) (grown : AreGrownHeaders old new) (alike : LooksUpAlike old new) (class : Name) (name desc : List ℕ) (method : Declared) where
  pub method_after : FindsMethod old class name desc (Some method) → FindsMethod new class name desc (Some method)
  method_after finds = by (bytes_eq name init) refl where
    by : (b : Bool) → bytes_eq name init ≡ b → FindsMethod new class name desc (Some method)
    by true e =
        let is : name ≡ init = (bytes_eq-Decides name init).0 e in
        let own = own_after name desc class (class_pair old new grown class) method (sym (initialiser_found is finds)) in
        subst (FindsMethod new class name desc) own (initialiser is)
    by false e = (alike.methods class name desc (Some method) (λ is. false≢true (sym e ∙ (bytes_eq-Decides name init).1 is))).0 finds

  pub method_before : FindsMethod new class name desc (Some method) → FindsMethod old class name desc (Some method) ⊎ IsNewFound old method
  method_before finds = by (bytes_eq name init) refl where
    of_own : name ≡ init → (own_method old class name desc ≡ Some method) ⊎ IsOf name desc class (class_named old class) method → FindsMethod old class name desc (Some method) ⊎ IsNewFound old method
    of_own is (inl own) = inl (subst (FindsMethod old class name desc) own (initialiser is))
    of_own is (inr added) = inr (record { header = added.header; of_class = ap (class_named old) added.in_class ∙ added.is; is_new = added.new_one })

    by : (b : Bool) → bytes_eq name init ≡ b → FindsMethod old class name desc (Some method) ⊎ IsNewFound old method
    by true e =
        let is : name ≡ init = (bytes_eq-Decides name init).0 e in
        of_own is (own_before name desc class (class_pair old new grown class) method (sym (initialiser_found is finds)))
    by false e = inl ((alike.methods class name desc (Some method) (λ is. false≢true (sym e ∙ (bytes_eq-Decides name init).1 is))).1 finds)

-- where one was found, no other is found now
pub method_once : (old new : Headers) (grown : AreGrownHeaders old new) (alike : LooksUpAlike old new) (class : Name) (name desc : List ℕ) (found first : Declared)
    → FindsMethod old class name desc (Some first) → FindsMethod new class name desc (Some found) → FindsMethod old class name desc (Some found)
method_once old new grown alike class name desc found first was finds = by (bytes_eq name init) refl where
  by : (b : Bool) → bytes_eq name init ≡ b → FindsMethod old class name desc (Some found)
  by true e =
      let is : name ≡ init = (bytes_eq-Decides name init).0 e in
      let one = initialiser_found is (method_after old new grown alike class name desc first was) in
      let same : first ≡ found = same_Some first found (one ∙ sym (initialiser_found is finds)) in
      subst (λ (m : Declared). FindsMethod old class name desc (Some m)) same was
  by false e = (alike.methods class name desc (Some found) (λ is. false≢true (sym e ∙ (bytes_eq-Decides name init).1 is))).1 finds

-- ---- access

-- what is above a class, in classes of one shape
module _ (one other : Headers) (same : shapes one ≡ shapes other) where
  pub at_or_below : {low high : Name} → IsAtOrBelow one low high → IsAtOrBelow other low high
  at_or_below (inl is) = inl is
  at_or_below (inr below) = inr (below_alike one other same below)

  pub class_accessible : {from name : Name} → IsClassAccessible one from name → IsClassAccessible other from name
  class_accessible {from} {name} access =
      let twin = twin one other same name access.header access.found in
      record { header = twin.0; found = twin.1; is_open = subst (λ flags. IsTrue (has flags PUBLIC) ⊎ (package_of from ≡ package_of name)) (ap (λ (h : Header). h.flags) twin.2) access.is_open }

  pub member_accessible : {from named : Name} {member : Declared} → IsAccessible one from named member → IsAccessible other from named member
  member_accessible (is_public public) = is_public public
  member_accessible (is_own_private private own) = is_own_private private own
  member_accessible (in_package access same_package) = in_package access same_package
  member_accessible {from} {named} (is_protected protected below receives) =
      is_protected protected (at_or_below below) (λ instance. either (receives instance)) where
        either : IsAtOrBelow one named from ⊎ IsAtOrBelow one from named → IsAtOrBelow other named from ⊎ IsAtOrBelow other from named
        either (inl low) = inl (at_or_below low)
        either (inr high) = inr (at_or_below high)
  member_accessible (is_clone_of_array array clone) = is_clone_of_array array clone

-- ---- a field whose flags are cleared

-- what is neither public nor private is open to its package
package_opens : (protected : Bool) → ((not false && not protected && not false) || protected) ≡ true
package_opens true = refl
package_opens false = refl

-- by the flags of public, private and protected, before and after
opens_package : (public private protected now : Bool) → (now ≡ true → private ≡ true) → ((not public && not protected && not private) || protected) ≡ true
    → ((not public && not protected && not now) || protected) ≡ true
opens_package public true protected true was is = is
opens_package public private protected false was is = by public protected is where
  by : (public protected : Bool) → ((not public && not protected && not private) || protected) ≡ true → ((not public && not protected && not false) || protected) ≡ true
  by true protected is = is
  by false true is = refl
  by false false is = refl
opens_package public false protected true was is = absurd (false≢true (was refl))

module _ (headers : Headers) (from named : Name) (old new : Declared) (same : IsSameFound old new) where
  abbrev cleared : ℕ
  cleared = same.opened.cleared

  flag_same : (mask : ℕ) → has (without_flags old.member.flags cleared) mask ≡ has old.member.flags mask → has new.member.flags mask ≡ has old.member.flags mask
  flag_same mask stays = ap (λ (flags : ℕ). has flags mask) same.opened.flags ∙ stays

  public : has new.member.flags PUBLIC ≡ has old.member.flags PUBLIC
  public = flag_same PUBLIC (public_stays old.member.flags cleared)

  protected : has new.member.flags PROTECTED ≡ has old.member.flags PROTECTED
  protected = flag_same PROTECTED (protected_stays old.member.flags cleared)

  static : has new.member.flags STATIC ≡ has old.member.flags STATIC
  static = flag_same STATIC (static_stays old.member.flags cleared)

  private : has new.member.flags PRIVATE ≡ true → has old.member.flags PRIVATE ≡ true
  private is = was_private old.member.flags cleared (sym (ap (λ (flags : ℕ). has flags PRIVATE) same.opened.flags) ∙ is)

  -- Whoever could use the field still can: one that was private is private, or open to its package.
  pub field_accessible : IsAccessible headers from named old → IsAccessible headers from named new
  field_accessible (is_public is) = is_public (public ∙ is)
  field_accessible (is_own_private is own) = by (has new.member.flags PRIVATE) refl (has new.member.flags PUBLIC) refl where
    by : (b : Bool) → has new.member.flags PRIVATE ≡ b → (c : Bool) → has new.member.flags PUBLIC ≡ c → IsAccessible headers from named new
    by true e c f = is_own_private e (same.class ∙ own)
    by false e true f = is_public f
    by false e false f =
        in_package (rw (e, f) (package_opens (has new.member.flags PROTECTED))) (ap package_of (sym own ∙ sym same.class))
  field_accessible (in_package access same_package) =
      in_package (rw (public, protected) (opens_package (has old.member.flags PUBLIC) (has old.member.flags PRIVATE) (has old.member.flags PROTECTED) (has new.member.flags PRIVATE) private access))
      (same_package ∙ ap package_of (sym same.class))
  field_accessible (is_protected is below receives) =
      is_protected (protected ∙ is) (subst (IsAtOrBelow headers from) (sym same.class) below) (λ instance. receives (sym static ∙ instance))
  field_accessible (is_clone_of_array array clone) = is_clone_of_array array (same.name ∙ clone)
