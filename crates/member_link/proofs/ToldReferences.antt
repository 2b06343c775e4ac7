-- What the checks of a reference answer, by what it resolves to.
use Rattle.std.proofs.Common.{◌≡◌, ◌↔◌, ℕ, Bool, false, List, [], ◌∷◌, Option, Some, None, IsTrue, Result, Ok, Err, option_and_then, refl, sym, ap, subst, ◌∙◌, inl, inr}
use Rattle.std.proofs.lemmas.Bool.{false≢true}
use Rattle.class_model.specs.Checks.{Check, AllHold, IsFirstFault}
use Rattle.class_model.specs.Laws.Checks.{Remain, all_remain, passes}
use Rattle.class_model.specs.Pool.{constant_at}
use Rattle.class_model.specs.PoolChecks.{IsFieldConstant, class_at, class_name_of, descriptor_at, utf8_at}
use Rattle.class_model.specs.declared.header.Member.{Member}
use Rattle.class_model.specs.declared.pool.Const.{Const}
use Rattle.class_model.specs.declared.pool.Const.TheVariants.{Class, Fieldref, Methodref, InterfaceMethodref, InvokeDynamic}
use Rattle.class_tree.specs.Answers.{Answers}
use Rattle.class_tree.specs.Headers.{Name, Headers, IsThere}
use Rattle.class_tree.specs.Laws.Links.{answered}
use Rattle.class_tree.specs.Problems.{Problem}
use Rattle.class_tree.specs.declared.fault.LinkFault.{LinkFault}
use Rattle.class_tree.specs.declared.fault.LinkFault.TheVariants.{Unlinked, NoMemory}
use Rattle.class_tree.specs.declared.fault.LinkRule.{LinkRule}
use Rattle.class_tree.specs.declared.fault.LinkRule.TheVariants as rules
use Rattle.member_link.specs.Access.{IsAccessible}
use Rattle.member_link.specs.Declarations.{Site, asked}
use Rattle.member_link.specs.DeclaredMembers.{Declared}
use Rattle.member_link.specs.Fields.{FindsField}
use Rattle.member_link.specs.Methods.{FindsMethod}
use Rattle.member_link.specs.References.{Reference, reference_at, FieldTypeNames, DescriptorNames, IsNamedThere, IsNamedAccessible}
use Rattle.member_link.specs.Inner.Resolutions.{FirstBroken, IfHad, IsReferent, IsCallee, ClassResolves, FieldResolves, MethodResolves, TypesResolve, IsCalleeConstant, ConstantResolves, Resolves}
use Rattle.member_link.specs.Inner.Resolving.{Resolved, resolved_scope}
use Rattle.member_link.specs.Uses.{UseScope, named_class_checks, class_use_checks, member_checks, field_use_checks, method_use_checks, asked_of_reference, fieldref_use_checks, methodref_use_checks, asked_of_text, dynamic_use_checks}
use Rattle.member_link.specs.declared.resolution.Callee.{Callee}
use Rattle.member_link.specs.declared.resolution.Referent.{Referent}
use Rattle.member_link.specs.declared.resolution.Resolution.{Resolution}
use Rattle.member_link.specs.declared.resolution.Resolution.TheVariants as resolutions

-- ---- a rule that is broken

abbrev problem_at : Site → LinkRule → Problem
problem_at site rule = record { class = site.class; member = site.member; rule = rule }

first_broken : (s : UseScope) (reference : Reference) (OthersAreThere : Type 0) (Finds : Option Declared → Type 0) (HasForm : Declared → Type 0) (rule : LinkRule) → FirstBroken (IsNamedThere s.headers reference.class × OthersAreThere) (IsNamedAccessible s.headers s.site.class reference.class) ((member : Declared) × Finds (Some member)) rule → IsFirstFault (member_checks s reference OthersAreThere Finds HasForm) (problem_at s.site rule)
first_broken s reference OthersAreThere Finds HasForm rules.Missing first = inl (first, refl)
first_broken s reference OthersAreThere Finds HasForm rules.NoAccess first = inr (first.0, inl (first.1, refl))
first_broken s reference OthersAreThere Finds HasForm rules.NoMember first = inr (first.0, inr (first.1, inl (first.2, refl)))
first_broken s reference OthersAreThere Finds HasForm rule first = absurd first

refused_at : (checks : List (Check Problem)) (site : Site) (rule : LinkRule) (result : Result (Unit {0}) LinkFault) → IsFirstFault checks (problem_at site rule) → Answers (asked site rule (IsTrue false) ∷ []) result → Answers checks result
refused_at checks site rule (Ok x) first told = absurd (false≢true told.0)
refused_at checks site rule (Err (Unlinked class member broken)) first (inl here) = subst (IsFirstFault checks) (sym here.1) first
refused_at checks site rule (Err (Unlinked class member broken)) first (inr later) = absurd later.1
refused_at checks site rule (Err NoMemory) first told = tt

-- ---- classes

-- of two checks of classes
broken_classes : (site : Site) (AreThere AreOpen : Type 0) (rule : LinkRule) → FirstBroken AreThere AreOpen (Unit {0}) rule → IsFirstFault (asked site rules.Missing AreThere ∷ asked site rules.NoAccess AreOpen ∷ []) (problem_at site rule)
broken_classes site AreThere AreOpen rules.Missing first = inl (first, refl)
broken_classes site AreThere AreOpen rules.NoAccess first = inr (first.0, inl (first.1, refl))
broken_classes site AreThere AreOpen rules.NoMember first = absurd (first.2 tt)
broken_classes site AreThere AreOpen rule first = absurd first

-- of one
broken_there : (site : Site) (AreThere : Type 0) (rule : LinkRule) → FirstBroken AreThere (Unit {0}) (Unit {0}) rule → IsFirstFault (asked site rules.Missing AreThere ∷ []) (problem_at site rule)
broken_there site AreThere rules.Missing first = inl (first, refl)
broken_there site AreThere rules.NoAccess first = absurd (first.1 tt)
broken_there site AreThere rules.NoMember first = absurd (first.2 tt)
broken_there site AreThere rule first = absurd first

module _ (class : Resolved) (method : Member) (index name : ℕ) (is : constant_at class.pool index ≡ Some (Class name)) where
  -- the name of the class
  named_at : (found : Option Name) → utf8_at class.pool name ≡ found → class_at class.pool index ≡ found
  named_at found same = ap (λ (constant : Option Const). option_and_then (utf8_at class.pool) (option_and_then class_name_of constant)) is ∙ same

  resolves_named : (resolution : Resolution) → Resolves class index resolution → IfHad (ClassResolves class.headers class.from) (utf8_at class.pool name) resolution
  resolves_named resolution resolves = subst (λ (constant : Option Const). ConstantResolves class constant resolution) is resolves

  pub told_broken_class : (rule : LinkRule) (result : Result (Unit {0}) LinkFault) → Resolves class index (resolutions.Broken rule) → Answers (asked (resolved_scope class method).site rule (IsTrue false) ∷ []) result → Answers (class_use_checks (resolved_scope class method) index) result
  told_broken_class rule result resolves told = by (utf8_at class.pool name) refl
    where
      scope : UseScope
      scope = resolved_scope class method

      by : (found : Option Name) → utf8_at class.pool name ≡ found → Answers (class_use_checks scope index) result
      by None none = absurd (rw none at (resolves_named (resolutions.Broken rule) resolves))
      by (Some named) found =
          rw (named_at (Some named) found) (refused_at (named_class_checks scope named) scope.site rule result (broken_classes scope.site (IsNamedThere class.headers named) (IsNamedAccessible class.headers class.from named) rule (rw found at (resolves_named (resolutions.Broken rule) resolves))) told)

  settled_class : (named : Name) (resolution : Resolution) → ClassResolves class.headers class.from named resolution → ((rule : LinkRule) → ¬ (resolution ≡ resolutions.Broken rule)) → AllHold (named_class_checks (resolved_scope class method) named)
  settled_class named (resolutions.Broken rule) resolves not_broken = absurd (not_broken rule refl)
  settled_class named (resolutions.Class is_instantiable) resolves not_broken = (resolves.0, (resolves.1, tt))
  settled_class named resolution resolves not_broken = absurd resolves

  -- a class that breaks no rule is as it is asked
  pub told_settled_class : (resolution : Resolution) → Resolves class index resolution → ((rule : LinkRule) → ¬ (resolution ≡ resolutions.Broken rule)) → AllHold (class_use_checks (resolved_scope class method) index)
  told_settled_class resolution resolves not_broken = by (utf8_at class.pool name) refl
    where
      by : (found : Option Name) → utf8_at class.pool name ≡ found → AllHold (class_use_checks (resolved_scope class method) index)
      by None none = rw (named_at None none) tt
      by (Some named) found = rw (named_at (Some named) found) (settled_class named resolution (rw found at (resolves_named resolution resolves)) not_broken)

-- the classes of a dynamic call
module _ (class : Resolved) (method : Member) where
  broken_dynamic : (text : Option (List ℕ)) (rule : LinkRule) (result : Result (Unit {0}) LinkFault) → IfHad (λ text. TypesResolve (DescriptorNames (IsThere class.headers) text) (Unit {0})) text (resolutions.Broken rule) → Answers (asked (resolved_scope class method).site rule (IsTrue false) ∷ []) result
      → Answers (asked_of_text (λ desc. asked (resolved_scope class method).site rules.Missing (DescriptorNames (IsThere class.headers) desc) ∷ []) text) result
  broken_dynamic None rule result resolves told = absurd resolves
  broken_dynamic (Some desc) rule result resolves told =
      refused_at (asked (resolved_scope class method).site rules.Missing (DescriptorNames (IsThere class.headers) desc) ∷ []) (resolved_scope class method).site rule result (broken_there (resolved_scope class method).site (DescriptorNames (IsThere class.headers) desc) rule resolves) told

  pub told_broken_dynamic : (constant : Option Const) (bootstrap member : ℕ) (rule : LinkRule) (result : Result (Unit {0}) LinkFault) → constant ≡ Some (InvokeDynamic bootstrap member) → ConstantResolves class constant (resolutions.Broken rule) → Answers (asked (resolved_scope class method).site rule (IsTrue false) ∷ []) result → Answers (dynamic_use_checks (resolved_scope class method) constant) result
  told_broken_dynamic constant bootstrap member rule result is resolves told =
      subst (λ (constant : Option Const). Answers (dynamic_use_checks (resolved_scope class method) constant) result) (sym is)
      (broken_dynamic (descriptor_at class.pool member) rule result (subst (λ (constant : Option Const). ConstantResolves class constant (resolutions.Broken rule)) is resolves) told)

-- ---- members

told_broken : (s : UseScope) (reference : Reference) (OthersAreThere : Type 0) (Finds : Option Declared → Type 0) (HasForm : Declared → Type 0) (rule : LinkRule) (result : Result (Unit {0}) LinkFault) → FirstBroken (IsNamedThere s.headers reference.class × OthersAreThere) (IsNamedAccessible s.headers s.site.class reference.class) ((member : Declared) × Finds (Some member)) rule → Answers (asked s.site rule (IsTrue false) ∷ []) result → Answers (member_checks s reference OthersAreThere Finds HasForm) result
told_broken s reference OthersAreThere Finds HasForm rule result first told =
    refused_at (member_checks s reference OthersAreThere Finds HasForm) s.site rule result (first_broken s reference OthersAreThere Finds HasForm rule first) told

-- ---- a member that is found

-- two checks by their tests
same_two : {P Q : Type 0} (one other : Problem) (p q : Bool) (result : Result (Unit {0}) LinkFault) → (IsTrue p ↔ P) → (IsTrue q ↔ Q) → Answers (record { fault = one; holds = IsTrue p } ∷ record { fault = other; holds = IsTrue q } ∷ []) result → Answers (record { fault = one; holds = P } ∷ record { fault = other; holds = Q } ∷ []) result
same_two one other p q (Ok x) first second told = (first.0 told.0, (second.0 told.1.0, tt))
same_two one other p q (Err (Unlinked class member rule)) first second (inl here) = inl (λ h. here.0 (first.1 h), here.1)
same_two one other p q (Err (Unlinked class member rule)) first second (inr (holds, inl here)) = inr (first.0 holds, inl (λ h. here.0 (second.1 h), here.1))
same_two one other p q (Err (Unlinked class member rule)) first second (inr (holds, inr later)) = absurd later.1
same_two one other p q (Err NoMemory) first second told = tt

-- what is asked of the form
abbrev form_checks : UseScope → Reference → (Option Declared → Type 0) → (Declared → Type 0) → List (Check Problem)
form_checks s reference Finds HasForm =
    asked s.site rules.WrongForm ((member : Declared) → Finds (Some member) → HasForm member)
    ∷ asked s.site rules.NoAccess ((member : Declared) → Finds (Some member) → IsAccessible s.headers s.site.class reference.class member)
    ∷ []

-- what holds of the one member that is found
of_the_one : {headers : Headers} {from named : Name} {Finds : Option Declared → Type 0} {referent : Referent} (P : Declared → Type 0) (found : IsReferent headers from named Finds referent) (test : Bool) → (IsTrue test ↔ P found.member) → IsTrue test ↔ ((member : Declared) → Finds (Some member) → P member)
of_the_one P found test same = (λ yes member finds. subst P (sym (found.only member finds)) (same.0 yes), λ all. same.1 (all found.member found.finds))

told_found : (s : UseScope) (reference : Reference) (OthersAreThere : Type 0) (Finds : Option Declared → Type 0) (HasForm : Declared → Type 0) (has_form : Bool) (referent : Referent) (result : Result (Unit {0}) LinkFault) → IsNamedThere s.headers reference.class × OthersAreThere → IsNamedAccessible s.headers s.site.class reference.class → IsReferent s.headers s.site.class reference.class Finds referent → ((member : Declared) → referent.flags ≡ member.member.flags → IsTrue has_form ↔ HasForm member) → Answers (asked s.site rules.WrongForm (IsTrue has_form) ∷ asked s.site rules.NoAccess (IsTrue referent.is_accessible) ∷ []) result → Answers (member_checks s reference OthersAreThere Finds HasForm) result
told_found s reference OthersAreThere Finds HasForm has_form referent result are_there is_open found forms told =
    let whole = member_checks s reference OthersAreThere Finds HasForm in
    let left : Remain whole (form_checks s reference Finds HasForm) = passes (passes (passes (all_remain whole) are_there) is_open) (found.member, found.finds) in
    let form = of_the_one HasForm found has_form (forms found.member found.flags) in
    let access = of_the_one (IsAccessible s.headers s.site.class reference.class) found referent.is_accessible found.accessible in
    answered {left = form_checks s reference Finds HasForm} result left (same_two (problem_at s.site rules.WrongForm) (problem_at s.site rules.NoAccess) has_form referent.is_accessible result form access told)

-- ---- fields

module _ (class : Resolved) (method : Member) (HasForm : Declared → Type 0) where
  broken_field : (reference : Option Reference) (rule : LinkRule) (result : Result (Unit {0}) LinkFault) → IfHad (FieldResolves class.headers class.from) reference (resolutions.Broken rule) → Answers (asked (resolved_scope class method).site rule (IsTrue false) ∷ []) result → Answers (asked_of_reference (field_use_checks (resolved_scope class method) HasForm) reference) result
  broken_field None rule result resolves told = absurd resolves
  broken_field (Some reference) rule result resolves told = told_broken (resolved_scope class method) reference (FieldTypeNames (IsThere class.headers) reference.desc) (FindsField class.headers reference.class reference.name reference.desc) HasForm rule result resolves told

  found_field : (reference : Option Reference) (field : Referent) (has_form : Bool) (result : Result (Unit {0}) LinkFault) → IfHad (FieldResolves class.headers class.from) reference (resolutions.Field field) → ((member : Declared) → field.flags ≡ member.member.flags → IsTrue has_form ↔ HasForm member) → Answers (asked (resolved_scope class method).site rules.WrongForm (IsTrue has_form) ∷ asked (resolved_scope class method).site rules.NoAccess (IsTrue field.is_accessible) ∷ []) result → Answers (asked_of_reference (field_use_checks (resolved_scope class method) HasForm) reference) result
  found_field None field has_form result resolves forms told = absurd resolves
  found_field (Some reference) field has_form result resolves forms told = told_found (resolved_scope class method) reference (FieldTypeNames (IsThere class.headers) reference.desc) (FindsField class.headers reference.class reference.name reference.desc) HasForm has_form field result resolves.0 resolves.1 resolves.2 forms told

  pub told_broken_field : (constant : Option Const) (rule : LinkRule) (result : Result (Unit {0}) LinkFault) → IsFieldConstant constant → ConstantResolves class constant (resolutions.Broken rule) → Answers (asked (resolved_scope class method).site rule (IsTrue false) ∷ []) result → Answers (fieldref_use_checks (resolved_scope class method) HasForm constant) result
  told_broken_field (Some (Fieldref named member)) rule result is resolves told = broken_field (reference_at class.pool named member) rule result resolves told
  told_broken_field constant rule result is resolves told = absurd is

  pub told_field : (constant : Option Const) (field : Referent) (has_form : Bool) (result : Result (Unit {0}) LinkFault) → IsFieldConstant constant → ConstantResolves class constant (resolutions.Field field) → ((member : Declared) → field.flags ≡ member.member.flags → IsTrue has_form ↔ HasForm member) → Answers (asked (resolved_scope class method).site rules.WrongForm (IsTrue has_form) ∷ asked (resolved_scope class method).site rules.NoAccess (IsTrue field.is_accessible) ∷ []) result → Answers (fieldref_use_checks (resolved_scope class method) HasForm constant) result
  told_field (Some (Fieldref named member)) field has_form result is resolves forms told = found_field (reference_at class.pool named member) field has_form result resolves forms told
  told_field constant field has_form result is resolves forms told = absurd is

  settled_field : (reference : Option Reference) (resolution : Resolution) → IfHad (FieldResolves class.headers class.from) reference resolution → ((rule : LinkRule) → ¬ (resolution ≡ resolutions.Broken rule)) → ((field : Referent) → ¬ (resolution ≡ resolutions.Field field)) → AllHold (asked_of_reference (field_use_checks (resolved_scope class method) HasForm) reference)
  settled_field None resolution resolves not_broken not_field = tt
  settled_field (Some reference) (resolutions.Broken rule) resolves not_broken not_field = absurd (not_broken rule refl)
  settled_field (Some reference) (resolutions.Field field) resolves not_broken not_field = absurd (not_field field refl)
  settled_field (Some reference) resolution resolves not_broken not_field = absurd resolves

  -- nothing is asked of a reference that could not be had
  pub told_settled_field : (constant : Option Const) (resolution : Resolution) → ConstantResolves class constant resolution → ((rule : LinkRule) → ¬ (resolution ≡ resolutions.Broken rule)) → ((field : Referent) → ¬ (resolution ≡ resolutions.Field field)) → AllHold (fieldref_use_checks (resolved_scope class method) HasForm constant)
  told_settled_field (Some (Fieldref named member)) resolution resolves not_broken not_field = settled_field (reference_at class.pool named member) resolution resolves not_broken not_field
  told_settled_field constant resolution resolves not_broken not_field = tt

-- ---- methods

module _ (class : Resolved) (method : Member) (HasForm : Reference → Declared → Type 0) where
  broken_method : (constant : Option Const) (reference : Option Reference) (rule : LinkRule) (result : Result (Unit {0}) LinkFault) → IfHad (MethodResolves class.headers class.from constant) reference (resolutions.Broken rule) → Answers (asked (resolved_scope class method).site rule (IsTrue false) ∷ []) result → Answers (asked_of_reference (method_use_checks (resolved_scope class method) HasForm) reference) result
  broken_method constant None rule result resolves told = absurd resolves
  broken_method constant (Some reference) rule result resolves told = told_broken (resolved_scope class method) reference (DescriptorNames (IsThere class.headers) reference.desc) (FindsMethod class.headers reference.class reference.name reference.desc) (HasForm reference) rule result resolves told

  found_method : (constant : Option Const) (reference : Option Reference) (found : Referent) (callee : Callee) (has_form : Bool) (result : Result (Unit {0}) LinkFault) → IfHad (MethodResolves class.headers class.from constant) reference (resolutions.Method found callee) → ((reference : Reference) (member : Declared) → IsCallee class.headers constant reference callee → found.flags ≡ member.member.flags → IsTrue has_form ↔ HasForm reference member) → Answers (asked (resolved_scope class method).site rules.WrongForm (IsTrue has_form) ∷ asked (resolved_scope class method).site rules.NoAccess (IsTrue found.is_accessible) ∷ []) result → Answers (asked_of_reference (method_use_checks (resolved_scope class method) HasForm) reference) result
  found_method constant None found callee has_form result resolves forms told = absurd resolves
  found_method constant (Some reference) found callee has_form result resolves forms told = told_found (resolved_scope class method) reference (DescriptorNames (IsThere class.headers) reference.desc) (FindsMethod class.headers reference.class reference.name reference.desc) (HasForm reference) has_form found result resolves.0 resolves.1 resolves.2 (λ member. forms reference member resolves.3) told

  pub told_broken_method : (constant : Option Const) (rule : LinkRule) (result : Result (Unit {0}) LinkFault) → IsCalleeConstant constant → ConstantResolves class constant (resolutions.Broken rule) → Answers (asked (resolved_scope class method).site rule (IsTrue false) ∷ []) result → Answers (methodref_use_checks (resolved_scope class method) HasForm constant) result
  told_broken_method (Some (Methodref named member)) rule result is resolves told = broken_method (Some (Methodref named member)) (reference_at class.pool named member) rule result resolves told
  told_broken_method (Some (InterfaceMethodref named member)) rule result is resolves told = broken_method (Some (InterfaceMethodref named member)) (reference_at class.pool named member) rule result resolves told
  told_broken_method constant rule result is resolves told = absurd is

  pub told_method : (constant : Option Const) (found : Referent) (callee : Callee) (has_form : Bool) (result : Result (Unit {0}) LinkFault) → IsCalleeConstant constant → ConstantResolves class constant (resolutions.Method found callee) → ((reference : Reference) (member : Declared) → IsCallee class.headers constant reference callee → found.flags ≡ member.member.flags → IsTrue has_form ↔ HasForm reference member) → Answers (asked (resolved_scope class method).site rules.WrongForm (IsTrue has_form) ∷ asked (resolved_scope class method).site rules.NoAccess (IsTrue found.is_accessible) ∷ []) result → Answers (methodref_use_checks (resolved_scope class method) HasForm constant) result
  told_method (Some (Methodref named member)) found callee has_form result is resolves forms told = found_method (Some (Methodref named member)) (reference_at class.pool named member) found callee has_form result resolves forms told
  told_method (Some (InterfaceMethodref named member)) found callee has_form result is resolves forms told = found_method (Some (InterfaceMethodref named member)) (reference_at class.pool named member) found callee has_form result resolves forms told
  told_method constant found callee has_form result is resolves forms told = absurd is

  settled_method : (constant : Option Const) (reference : Option Reference) (resolution : Resolution) → IfHad (MethodResolves class.headers class.from constant) reference resolution → ((rule : LinkRule) → ¬ (resolution ≡ resolutions.Broken rule)) → ((found : Referent) (callee : Callee) → ¬ (resolution ≡ resolutions.Method found callee)) → AllHold (asked_of_reference (method_use_checks (resolved_scope class method) HasForm) reference)
  settled_method constant None resolution resolves not_broken not_method = tt
  settled_method constant (Some reference) (resolutions.Broken rule) resolves not_broken not_method = absurd (not_broken rule refl)
  settled_method constant (Some reference) (resolutions.Method found callee) resolves not_broken not_method = absurd (not_method found callee refl)
  settled_method constant (Some reference) resolution resolves not_broken not_method = absurd resolves

  -- nothing is asked of a reference that could not be had
  pub told_settled_method : (constant : Option Const) (resolution : Resolution) → ConstantResolves class constant resolution → ((rule : LinkRule) → ¬ (resolution ≡ resolutions.Broken rule)) → ((found : Referent) (callee : Callee) → ¬ (resolution ≡ resolutions.Method found callee)) → AllHold (methodref_use_checks (resolved_scope class method) HasForm constant)
  told_settled_method (Some (Methodref named member)) resolution resolves not_broken not_method = settled_method (Some (Methodref named member)) (reference_at class.pool named member) resolution resolves not_broken not_method
  told_settled_method (Some (InterfaceMethodref named member)) resolution resolves not_broken not_method = settled_method (Some (InterfaceMethodref named member)) (reference_at class.pool named member) resolution resolves not_broken not_method
  told_settled_method constant resolution resolves not_broken not_method = tt
