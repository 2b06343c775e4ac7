-- A folder that fails has no typing, and fails in one place.
use Rattle.std.proofs.Common.{◌≡◌, inl, inr, ℕ, List, [], ◌∷◌, Option, Some, None, sym, ap, ◌∙◌}
use Rattle.class_model.specs.Header.{header_of}
use Rattle.class_model.specs.declared.class_file.ClassFile.{ClassFile}
use Rattle.class_model.specs.declared.class_file.Method.{Method}
use Rattle.class_model.specs.declared.frame.Frame.{Frame}
use Rattle.class_model.specs.declared.header.Header.{Header}
use Rattle.class_model.specs.declared.header.Member.{Member}
use Rattle.class_tree.specs.Headers.{Name, Headers}
use Rattle.flow_code.specs.TypedFrames.{FolderFrames}
use Rattle.member_link.specs.Scope.{Scope, scope_of}
use Rattle.type_rules.specs.Typed.{IsFirstFailure, Typed}
use Rattle.type_rules.specs.Verified.{TypesMethod, AreTypedMethods, AreTypedClasses}
use Rattle.type_rules.specs.declared.fault.TypeRule.{TypeRule}
use Rattle.verify_folder.specs.Verifying.{Failure, MethodFails, MethodsFail, ClassesFail}

-- what is known of methods that fail
pub record MethodLaws : Type 0 where
  pub none : (s : Scope) (frames : List Frame) (offset : ℕ) (rule : TypeRule) → IsFirstFailure s offset rule → ¬ Typed s frames
  pub one : (s : Scope) (offset other : ℕ) (rule other_rule : TypeRule) → IsFirstFailure s offset rule → IsFirstFailure s other other_rule → (offset ≡ other) × (rule ≡ other_rule)

-- ---- a method

method_fails_none : (laws : MethodLaws) (scope : Option Scope) (header : Header) (member : Member) (frames : Option (List Frame)) (failure : Failure) → MethodFails scope header member failure → ¬ TypesMethod scope frames
method_fails_none laws None header member frames failure fails types = fails
method_fails_none laws (Some s) header member None failure fails types = types
method_fails_none laws (Some s) header member (Some frames) failure fails types = laws.none s frames failure.offset failure.rule fails.2 types

same_failure : (one other : Failure) → one.class ≡ other.class → one.method ≡ other.method → one.offset ≡ other.offset → one.rule ≡ other.rule → one ≡ other
same_failure one other class method offset rule =
    ap (λ (c : Name). record one { class = c }) class
    ∙ ap (λ (m : Member). record one { class = other.class; method = m }) method
    ∙ ap (λ (at : ℕ). record other { offset = at; rule = one.rule }) offset
    ∙ ap (λ (r : TypeRule). record other { rule = r }) rule

method_fails_once : (laws : MethodLaws) (scope : Option Scope) (header : Header) (member : Member) (one other : Failure) → MethodFails scope header member one → MethodFails scope header member other → one ≡ other
method_fails_once laws None header member one other h i = absurd h
method_fails_once laws (Some s) header member one other h i =
    let same = laws.one s one.offset other.offset one.rule other.rule h.2 i.2 in
    same_failure one other (h.0 ∙ sym i.0) (h.1 ∙ sym i.1) same.0 same.1

-- ---- the methods of a class

methods_fail_none : (laws : MethodLaws) (headers : Headers) (class : ClassFile) (methods : List Method) (members : List Member) (typed : List (Option (List Frame))) (failure : Failure) → MethodsFail headers class methods members failure → ¬ AreTypedMethods headers class methods typed
methods_fail_none laws headers class [] members typed failure fails types = fails
methods_fail_none laws headers class (method ∷ methods) [] typed failure fails types = fails
methods_fail_none laws headers class (method ∷ methods) (member ∷ members) [] failure fails types = types
methods_fail_none laws headers class (method ∷ methods) (member ∷ members) (frames ∷ typed) failure (inl here) types =
    method_fails_none laws (scope_of headers class method) (header_of class) member frames failure here types.0
methods_fail_none laws headers class (method ∷ methods) (member ∷ members) (frames ∷ typed) failure (inr later) types =
    methods_fail_none laws headers class methods members typed failure later.1 types.1

methods_fail_once : (laws : MethodLaws) (headers : Headers) (class : ClassFile) (methods : List Method) (members : List Member) (one other : Failure) → MethodsFail headers class methods members one → MethodsFail headers class methods members other → one ≡ other
methods_fail_once laws headers class [] members one other h i = absurd h
methods_fail_once laws headers class (method ∷ methods) [] one other h i = absurd h
methods_fail_once laws headers class (method ∷ methods) (member ∷ members) one other (inl here) (inl there) =
    method_fails_once laws (scope_of headers class method) (header_of class) member one other here there
methods_fail_once laws headers class (method ∷ methods) (member ∷ members) one other (inl here) (inr later) =
    absurd (method_fails_none laws (scope_of headers class method) (header_of class) member later.0.0 one here later.0.1)
methods_fail_once laws headers class (method ∷ methods) (member ∷ members) one other (inr later) (inl there) =
    absurd (method_fails_none laws (scope_of headers class method) (header_of class) member later.0.0 other there later.0.1)
methods_fail_once laws headers class (method ∷ methods) (member ∷ members) one other (inr later) (inr second) =
    methods_fail_once laws headers class methods members one other later.1 second.1

-- ---- the classes of a folder

pub classes_fail_none : (laws : MethodLaws) (headers : Headers) (classes : List ClassFile) (typed : FolderFrames) (failure : Failure) → ClassesFail headers classes failure → ¬ AreTypedClasses headers classes typed
classes_fail_none laws headers [] typed failure fails types = fails
classes_fail_none laws headers (class ∷ classes) [] failure fails types = types
classes_fail_none laws headers (class ∷ classes) (own ∷ typed) failure (inl here) types =
    methods_fail_none laws headers class class.methods (header_of class).methods own failure here types.0
classes_fail_none laws headers (class ∷ classes) (own ∷ typed) failure (inr later) types = classes_fail_none laws headers classes typed failure later.1 types.1

pub classes_fail_once : (laws : MethodLaws) (headers : Headers) (classes : List ClassFile) (one other : Failure) → ClassesFail headers classes one → ClassesFail headers classes other → one ≡ other
classes_fail_once laws headers [] one other h i = absurd h
classes_fail_once laws headers (class ∷ classes) one other (inl here) (inl there) = methods_fail_once laws headers class class.methods (header_of class).methods one other here there
classes_fail_once laws headers (class ∷ classes) one other (inl here) (inr later) =
    absurd (methods_fail_none laws headers class class.methods (header_of class).methods later.0.0 one here later.0.1)
classes_fail_once laws headers (class ∷ classes) one other (inr later) (inl there) =
    absurd (methods_fail_none laws headers class class.methods (header_of class).methods later.0.0 other there later.0.1)
classes_fail_once laws headers (class ∷ classes) one other (inr later) (inr second) = classes_fail_once laws headers classes one other later.1 second.1
