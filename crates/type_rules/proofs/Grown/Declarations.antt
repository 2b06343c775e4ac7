-- What linking asks of the declarations of a class holds where it has grown.
use Rattle.std.proofs.Common.{◌≡◌, ◌≢◌, ◌⊎◌, ◌↔◌, ◌++◌, ◌∙◌, List, [], ◌∷◌, Some, sym, ap, subst, inl, inr}
use Rattle.std.specs.List.{AllByRecursion}
use Rattle.class_model.specs.Checks.{AllHold, Check, asked_each}
use Rattle.class_model.specs.Laws.Checks.{both_hold, first_holds, others_hold}
use Rattle.class_model.specs.Laws.Lists.{AllByRecursion-weaker}
use Rattle.class_model.specs.Names.{init}
use Rattle.class_model.specs.declared.header.Header.{Header}
use Rattle.class_model.specs.declared.header.Member.{Member}
use Rattle.class_tree.specs.Alike.{AreFieldsAlike}
use Rattle.class_tree.specs.Headers.{Name, Headers, IsThere, named}
use Rattle.class_tree.specs.Laws.Alike.{alike_shape, alike_shapes, shapes, there_alike}
use Rattle.class_tree.specs.Problems.{Problem}
use Rattle.class_tree.specs.Steps.{supers}
use Rattle.member_link.specs.Access.{IsClassAccessible}
use Rattle.member_link.specs.Declarations.{IsFolderMethod, OverridesNoFinal, declaration_checks, declared_field_checks, declared_method_checks}
use Rattle.member_link.specs.DeclaredMembers.{Declared, declared, declared_by}
use Rattle.member_link.specs.Overriding.{MayOverride, Overrides, overrides_in_package, overrides_open, overrides_through}
use Rattle.member_link.specs.References.{DescriptorNames, FieldTypeNames}
use Rattle.type_rules.proofs.Grown.Headers.{first_some, grown_alike, named_pair, turned}
use Rattle.type_rules.proofs.Grown.Links.{descriptor_still, field_type_still}
use Rattle.type_rules.proofs.Grown.Methods.{class_accessible, declared_either}
use Rattle.type_rules.specs.Grown.{AreGrownHeaders, IsGrownHeader, IsNewInitialiser}

may_of : {headers : Headers} {low high : Declared} → Overrides headers low high → MayOverride headers low high
may_of (overrides_open low high may opens) = may
may_of (overrides_in_package low high may access same) = may
may_of (overrides_through low middle high may method lower upper) = may

each_append : {X : Type 0} (asks : X → List (Check Problem)) (xs ys : List X) → AllHold (asked_each asks xs) → AllHold (asked_each asks ys) → AllHold (asked_each asks (xs ++ ys))
each_append asks [] ys h k = k
each_append asks (x ∷ xs) ys h k =
    both_hold (asks x) (asked_each asks (xs ++ ys)) (first_holds (asks x) (asked_each asks xs) h) (each_append asks xs ys (others_hold (asks x) (asked_each asks xs) h) k)

-- what the law of alike classes says of overriding
abbrev pub OverridesAlike : Headers → Headers → Type 0
OverridesAlike old new = (low high : Declared) → Overrides old low high ↔ Overrides new low high

module _ (old new : Headers) (grown : AreGrownHeaders old new) (alike : OverridesAlike old new) (header twin : Header) (grows : IsGrownHeader header twin) where
  same : shapes old ≡ shapes new
  same = alike_shapes old new (grown_alike old new grown)

  there : (name : Name) → IsThere old name → IsThere new name
  there name h = there_alike old new same name h

  reached : (name : Name) → IsClassAccessible old header.name name → IsClassAccessible new twin.name name
  reached name h = subst (λ (from : Name). IsClassAccessible new from name) (sym grows.alike.same_name) (class_accessible old new same h)

  -- ---- final methods

  folder_method : (high : Declared) → high.member.name ≢ init → IsFolderMethod new high → IsFolderMethod old high
  folder_method high differ of_folder =
      let pair = first_some (turned (named_pair high.class old.folder new.folder grown.folder)) of_folder.header of_folder.found in
      let methods : declared high.member.name high.member.desc (pair.0.methods ++ pair.2.alike.added) ≡ Some high.member =
      sym (ap (declared high.member.name high.member.desc) pair.2.alike.methods) ∙ of_folder.declares in
      by pair.0 pair.1 (declared_either high.member.name high.member.desc (IsNewInitialiser pair.0) pair.0.methods pair.2.alike.added high.member pair.2.initialisers methods)
    where
      by : (was : Header) → named high.class old.folder ≡ Some was → (declared high.member.name high.member.desc was.methods ≡ Some high.member) ⊎ IsNewInitialiser was high.member
          → IsFolderMethod old high
      by was found (inl declares) = record { header = was; found = found; declares = declares }
      by was found (inr added) = absurd (differ added.is_init)

  no_final : (method : Member) → OverridesNoFinal old (declared_by header.name method) → OverridesNoFinal new (declared_by twin.name method)
  no_final method none = λ high of_folder final over.
      let own : Overrides new (declared_by header.name method) high = subst (λ (n : Name). Overrides new (declared_by n method) high) grows.alike.same_name over in
      none high (folder_method high (may_of own).no_init of_folder) final ((alike (declared_by header.name method) high).1 own)

  -- an initialiser overrides nothing
  init_overrides_none : (method : Member) → method.name ≡ init → OverridesNoFinal new (declared_by twin.name method)
  init_overrides_none method is = λ high of_folder final over.
      let may = may_of over in
      may.no_init (sym may.same_name ∙ is)

  -- ---- members

  fields_still : (olds news : List Member) → AreFieldsAlike olds news → AllHold (asked_each (declared_field_checks old header) olds) → AllHold (asked_each (declared_field_checks new twin) news)
  fields_still [] [] are h = tt
  fields_still [] (field ∷ news) are h = absurd are
  fields_still (field ∷ olds) [] are h = absurd are
  fields_still (field ∷ olds) (other ∷ news) are h =
      let names = field_type_still (IsThere old) (IsThere new) there field.desc h.0 in
      (subst (FieldTypeNames (IsThere new)) (sym are.0.same_desc) names, fields_still olds news are.1 h.1)

  methods_still : (methods : List Member) → AllHold (asked_each (declared_method_checks old header) methods) → AllHold (asked_each (declared_method_checks new twin) methods)
  methods_still [] h = tt
  methods_still (method ∷ methods) h =
      (descriptor_still (IsThere old) (IsThere new) there method.desc h.0, (no_final method h.1.0, methods_still methods h.1.1))

  added_pass : (added : List Member) → AllByRecursion (λ method. method.name ≡ init) added → AllByRecursion (λ method. DescriptorNames (IsThere new) method.desc) added
      → AllHold (asked_each (declared_method_checks new twin) added)
  added_pass [] are names = tt
  added_pass (method ∷ added) are names = (names.0, (init_overrides_none method are.0, added_pass added are.1 names.1))

  pub declarations_still : AllByRecursion (λ method. DescriptorNames (IsThere new) method.desc) grows.alike.added → AllHold (declaration_checks old header) → AllHold (declaration_checks new twin)
  declarations_still names h =
      let fields = asked_each (declared_field_checks old header) header.fields in
      let methods = asked_each (declared_method_checks old header) header.methods in
      let checks = declared_method_checks new twin in
      let above : AllByRecursion (IsClassAccessible new twin.name) (supers twin) =
      subst (AllByRecursion (IsClassAccessible new twin.name)) (ap (λ (c : Header). supers c) (alike_shape header twin grows.alike))
      (AllByRecursion-weaker (IsClassAccessible old header.name) (IsClassAccessible new twin.name) reached (supers header) h.0) in
      let all : AllHold (asked_each checks (header.methods ++ grows.alike.added)) =
      each_append checks header.methods grows.alike.added (methods_still header.methods (others_hold fields methods h.1)) (added_pass grows.alike.added grows.alike.initialisers names) in (
        above,
        both_hold (asked_each (declared_field_checks new twin) twin.fields) (asked_each checks twin.methods)
            (fields_still header.fields twin.fields grows.alike.fields (first_holds fields methods h.1))
            (subst (λ (ms : List Member). AllHold (asked_each checks ms)) (sym grows.alike.methods) all),
      )
