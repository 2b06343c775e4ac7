-- In a hierarchy each look-up of a field ends.
use Rattle.std.proofs.Common.{◌≡◌, ℕ, List, [], ◌∷◌, ◌++◌, Option, Some, None, IfSome, IsTrue, refl, sym, ap, subst, ◌∙◌}
use Rattle.std.specs.List.{AllByRecursion}
use Rattle.std.specs.Option.{option_or}
use Rattle.std.proofs.lemmas.Option.{same_Some}
use Rattle.class_model.specs.declared.header.Header.{Header}
use Rattle.class_model.specs.declared.header.Member.{Member}
use Rattle.class_tree.specs.Headers.{Name, Headers, class_named}
use Rattle.class_tree.specs.Hierarchy.{IsHierarchy}
use Rattle.class_tree.specs.Interfaces.{IsWalk, done, next, IsInterfaceWalk, of_root, below}
use Rattle.class_tree.specs.Laws.Above.{object_no_superclass, no_interfaces_of_object, hierarchy_is_sound, hierarchy_is_rooted}
use Rattle.class_tree.specs.Names.{object, is_interface}
use Rattle.member_link.specs.DeclaredMembers.{Declared, declared_by, declared}
use Rattle.member_link.specs.Inner.FieldSearch.{super_list}
use Rattle.member_link.specs.Fields.{interfaces_and_super, FindsFirst, in_no_class, in_class, absent_class, FindsField}
use Rattle.member_link.proofs.FieldWalks.{interfaces_then_super, goes_on}

module _ (headers : Headers) (hierarchy : IsHierarchy headers) (name desc : List ℕ) where
  -- the look-up in these classes ends
  abbrev Ends : List Name → Type 0
  Ends classes = (found : Option Declared) × FindsFirst headers name desc classes found

  nowhere : Ends []
  nowhere = (None, in_no_class)

  first_ends : (class : Name) (classes : List Name) → ((header : Header) → class_named headers class ≡ Some header → Ends (interfaces_and_super header)) → Ends classes → Ends (class ∷ classes)
  first_ends class classes above beside = by (class_named headers class) refl
    where
      own : (header : Header) → class_named headers class ≡ Some header → (member : Option Member) → declared name desc header.fields ≡ member → Ends (class ∷ classes)
      own header is (Some member) declares = (Some (declared_by class member), in_class class classes header member is declares)
      own header is None lacks =
          let up = above header is in
          (option_or up.0 beside.0, goes_on headers name desc class header is lacks classes up.0 beside.0 up.1 beside.1)

      by : (found : Option Header) → class_named headers class ≡ found → Ends (class ∷ classes)
      by None absent = (beside.0, absent_class class classes beside.0 absent beside.1)
      by (Some header) is = own header is (declared name desc header.fields) refl

  object_ends : Ends (object ∷ [])
  object_ends = first_ends object [] (λ header is.
      let sound = hierarchy_is_sound headers hierarchy in
      let nothing : interfaces_and_super header ≡ [] =
      interfaces_then_super header
      ∙ ap (λ (names : List Name). names ++ super_list header.super_name) (no_interfaces_of_object headers sound header is)
      ∙ ap super_list (object_no_superclass headers sound (hierarchy_is_rooted headers hierarchy) header is) in
      subst Ends (sym nothing) nowhere) nowhere

  abbrev AreInterfaces : List Name → Type 0
  AreInterfaces names = AllByRecursion (λ name. IfSome (class_named headers name) (λ above. IsTrue (is_interface above))) names

  -- interfaces, and then other classes
  walk_ends : {interfaces walk : List Name} → IsWalk headers interfaces walk → AreInterfaces interfaces → (classes : List Name) → Ends classes → Ends (interfaces ++ classes)
  walk_ends done kinds classes rest = rest
  walk_ends (next interface header interfaces own others is inner outer) kinds classes rest =
      first_ends interface (interfaces ++ classes) (λ other other_is.
      let kinds_of = hierarchy.kinds interface header is in
      let kind = subst (λ found. IfSome found (λ above. IsTrue (is_interface above))) is kinds.0 in
      let supers : interfaces_and_super header ≡ header.interfaces ++ object ∷ [] =
      interfaces_then_super header ∙ ap (λ (super : Option Name). header.interfaces ++ super_list super) (kinds_of.of_interface kind) in
      subst (λ (h : Header). Ends (interfaces_and_super h)) (same_Some header other (sym is ∙ other_is))
      (subst Ends (sym supers) (walk_ends inner kinds_of.interfaces (object ∷ []) object_ends))) (walk_ends outer kinds.1 classes rest)

  class_ends : {class : Name} {walk : List Name} → IsInterfaceWalk headers class walk → Ends (class ∷ [])
  class_ends (of_root class header walk is none inner) =
      first_ends class [] (λ other other_is.
      let supers : interfaces_and_super header ≡ header.interfaces ++ [] =
      interfaces_then_super header ∙ ap (λ (super : Option Name). header.interfaces ++ super_list super) none in
      subst (λ (h : Header). Ends (interfaces_and_super h)) (same_Some header other (sym is ∙ other_is))
      (subst Ends (sym supers) (walk_ends inner (hierarchy.kinds class header is).interfaces [] nowhere))) nowhere
  class_ends (below class high header walk rest is some inner outer) =
      first_ends class [] (λ other other_is.
      let supers : interfaces_and_super header ≡ header.interfaces ++ high ∷ [] =
      interfaces_then_super header ∙ ap (λ (super : Option Name). header.interfaces ++ super_list super) some in
      subst (λ (h : Header). Ends (interfaces_and_super h)) (same_Some header other (sym is ∙ other_is))
      (subst Ends (sym supers) (walk_ends inner (hierarchy.kinds class header is).interfaces (high ∷ []) (class_ends outer)))) nowhere

  pub field_found : (class : Name) → (found : Option Declared) × FindsField headers class name desc found
  field_found class = by (class_named headers class) refl
    where
      by : (found : Option Header) → class_named headers class ≡ found → (found : Option Declared) × FindsField headers class name desc found
      by None absent = (None, absent_class class [] None absent in_no_class)
      by (Some header) is = class_ends (hierarchy.walked class header is).1
