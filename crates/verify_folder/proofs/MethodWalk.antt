-- The methods of a class, verified one after another.
use Rattle.std.proofs.Common.{◌≡◌, ◌+◌, ◌<◌, ◌≤◌, inl, inr, ℕ, List, [], ◌∷◌, ◌++◌, length, drop, get_or, slice_get, true, false, Result, Err, Option, Some, None, option_map, option_and_then, refl, sym, ap, subst, ◌∙◌, append_assoc}
use Rattle.std.proofs.lemmas.List.{append-nil, drop_all}
use Rattle.std.proofs.lemmas.Option.{same_Some, slice_get-get_or, slice_get-map}
use Rattle.std.specs.Option.{is_some}
use Rattle.class_model.specs.Header.{header_of}
use Rattle.class_model.specs.Laws.Lists.{drop_item}
use Rattle.class_model.specs.MethodCode.{code_of}
use Rattle.class_model.specs.declared.class_file.ClassFile.{ClassFile}
use Rattle.class_model.specs.declared.class_file.CodePart.{CodePart}
use Rattle.class_model.specs.declared.class_file.Method.{Method}
use Rattle.class_model.specs.declared.class_file.MethodAt.{MethodAt}
use Rattle.class_model.specs.declared.frame.Frame.{Frame}
use Rattle.class_model.specs.declared.header.Member.{Member}
use Rattle.class_tree.specs.Headers.{Classes, Headers, headers_of}
use Rattle.member_link.specs.Scope.{Scope, scope_at, scope_of}
use Rattle.type_rules.specs.Verified.{TypesMethod, AreTypedMethods}
use Rattle.type_rules.specs.declared.fault.VerifyFault.{VerifyFault}
use Rattle.type_rules.specs.declared.fault.VerifyFault.TheVariants as faults
use Rattle.verify_folder.specs.Verifying.{Failure, MethodFails, MethodsFail, MethodVerifies, VerifiesAs}
use Rattle.verify_folder.specs.Inner.Verifying.{ClassIsTyped, ClassVerifies}

-- ---- where a method stands

-- a method with code has the class that it stands in
class_of_scope : (headers : Headers) (class : ClassFile) (method : Method) (part : Option CodePart) (s : Scope) → option_map (λ part. record { headers = headers; class = class; method = method; part = part }) part ≡ Some s → s.class ≡ class
class_of_scope headers class method None s e = absurd cc
class_of_scope headers class method (Some part) s e = sym (ap (λ (scope : Scope). scope.class) (same_Some (record { headers = headers; class = class; method = method; part = part }) s e))

pub class_is : (headers : Headers) (class : ClassFile) (method : Method) (s : Scope) → scope_of headers class method ≡ Some s → s.class ≡ class
class_is headers class method s e = class_of_scope headers class method (code_of method.attrs) s e

-- each method is a member of the header
pub is_member : (class : ClassFile) (number : ℕ) (method : Method) → slice_get class.methods number ≡ Some method → (member : Member) × (slice_get (header_of class).methods number ≡ Some member)
is_member class number method found = (_, slice_get-map _ class.methods number ∙ ap (option_map _) found)

in_methods : (headers : Headers) (class : ClassFile) (number : ℕ) (method : Option Method) (s : Scope) → slice_get class.methods number ≡ method → option_and_then (scope_of headers class) method ≡ Some s → slice_get (header_of s.class).methods number ≡ None → ⊥
in_methods headers class number None s found e none = absurd cc
in_methods headers class number (Some method) s found e none =
    let member = is_member class number method found in
    let there : slice_get (header_of s.class).methods number ≡ Some member.0 = ap (λ (c : ClassFile). slice_get (header_of c).methods number) (class_is headers class method s e) ∙ member.1 in
    cc (there, none)

in_folder : (headers : Headers) (class : Option ClassFile) (number : ℕ) (s : Scope) → option_and_then (λ class. option_and_then (scope_of headers class) (slice_get class.methods number)) class ≡ Some s → slice_get (header_of s.class).methods number ≡ None → ⊥
in_folder headers None number s e none = absurd cc
in_folder headers (Some class) number s e none = in_methods headers class number (slice_get class.methods number) s refl e none

-- a method at its numbers is a member of its class's header
pub has_member : (classes : Classes) (at : MethodAt) (s : Scope) → scope_at classes at ≡ Some s → slice_get (header_of s.class).methods at.method ≡ None → ⊥
has_member classes at s e none = in_folder (headers_of classes) (slice_get classes.folder at.class) at.method s e none

-- ---- one method after another

pub record SoFar (headers : Headers) (class : ClassFile) (number : ℕ) (typed : List (Option (List Frame))) : Type 0 where
  pub typed_rest : (rest : List (Option (List Frame))) → AreTypedMethods headers class (drop number class.methods) rest → AreTypedMethods headers class class.methods (typed ++ rest)
  pub fails_rest : (failure : Failure) → MethodsFail headers class (drop number class.methods) (drop number (header_of class).methods) failure → MethodsFail headers class class.methods (header_of class).methods failure

pub none_so_far : (headers : Headers) (class : ClassFile) → SoFar headers class 0 []
none_so_far headers class = record { typed_rest = λ rest h. h; fails_rest = λ failure h. h }

module _ (headers : Headers) (class : ClassFile) (number : ℕ) (typed : List (Option (List Frame))) (method : Method) (found : slice_get class.methods number ≡ Some method) (so_far : SoFar headers class number typed) where
  left : drop number class.methods ≡ method ∷ drop (number + 1) class.methods
  left = drop_item class.methods number method found

  pub one_more : (frames : Option (List Frame)) → TypesMethod (scope_of headers class method) frames → SoFar headers class (number + 1) (typed ++ frames ∷ [])
  one_more frames types =
      let member = is_member class number method found in
      record {
        typed_rest = λ rest h.
            subst (λ all. AreTypedMethods headers class class.methods all) (sym (append_assoc typed (frames ∷ []) rest))
            (so_far.typed_rest (frames ∷ rest) (subst (λ methods. AreTypedMethods headers class methods (frames ∷ rest)) (sym left) (types, h)));
        fails_rest = λ failure h.
            so_far.fails_rest failure (subst (λ methods. MethodsFail headers class methods (drop number (header_of class).methods) failure) (sym left)
            (subst (λ members. MethodsFail headers class (method ∷ drop (number + 1) class.methods) members failure) (sym (drop_item (header_of class).methods number member.0 member.1)) (inr ((frames, types), h))));
      }

  pub stops : (member : Member) (failure : Failure) → slice_get (header_of class).methods number ≡ Some member → MethodFails (scope_of headers class method) (header_of class) member failure → MethodsFail headers class class.methods (header_of class).methods failure
  stops member failure is fails =
      so_far.fails_rest failure (subst (λ methods. MethodsFail headers class methods (drop number (header_of class).methods) failure) (sym left)
      (subst (λ members. MethodsFail headers class (method ∷ drop (number + 1) class.methods) members failure) (sym (drop_item (header_of class).methods number member is)) (inl fails)))

pub all_typed : (headers : Headers) (class : ClassFile) (number : ℕ) (typed : List (Option (List Frame))) → length class.methods ≤ number → SoFar headers class number typed → AreTypedMethods headers class class.methods typed
all_typed headers class number typed past so_far =
    subst (λ all. AreTypedMethods headers class class.methods all) (append-nil typed) (so_far.typed_rest [] (subst (λ methods. AreTypedMethods headers class methods []) (sym (drop_all number class.methods past)) tt))

-- the same where the frames are not kept
pub record IsTypedSoFar (headers : Headers) (class : ClassFile) (number : ℕ) : Type 0 where
  pub typed : List (Option (List Frame))
  pub so_far : SoFar headers class number typed

pub none_typed : (headers : Headers) (class : ClassFile) → IsTypedSoFar headers class 0
none_typed headers class = record { typed = []; so_far = none_so_far headers class }

pub one_typed : (headers : Headers) (class : ClassFile) (number : ℕ) (method : Method) → slice_get class.methods number ≡ Some method → IsTypedSoFar headers class number → (frames : Option (List Frame)) → TypesMethod (scope_of headers class method) frames
    → IsTypedSoFar headers class (number + 1)
one_typed headers class number method found is frames types = record { typed = is.typed ++ frames ∷ []; so_far = one_more headers class number is.typed method found is.so_far frames types }

-- ---- what a method answers

pub item_at : {X : Type 0} (xs items : List X) (n : ℕ) (x d : X) → items ≡ xs → n < length items → x ≡ get_or items n d → slice_get xs n ≡ Some x
item_at xs items n x d same within is = subst (λ ys. slice_get ys n ≡ Some x) same (slice_get-get_or items n d within ∙ ap Some (sym is))

scope_found : (classes : Classes) (place number : ℕ) (class : ClassFile) (method : Method) → slice_get classes.folder place ≡ Some class → slice_get class.methods number ≡ Some method
    → scope_at classes (record { class = place; method = number }) ≡ scope_of (headers_of classes) class method
scope_found classes place number class method stands found =
    ap (λ (o : Option ClassFile). option_and_then (λ (c : ClassFile). option_and_then (scope_of (headers_of classes) c) (slice_get c.methods number)) o) stands
    ∙ ap (λ (o : Option Method). option_and_then (scope_of (headers_of classes) class) o) found

abbrev with_part : Headers → ClassFile → Method → Option CodePart → Option Scope
with_part headers class method part = option_map (λ p. record { headers = headers; class = class; method = method; part = p }) part

some_scope : (headers : Headers) (class : ClassFile) (method : Method) (part : Option CodePart) → is_some part ≡ true → (s : Scope) × (with_part headers class method part ≡ Some s)
some_scope headers class method None e = absurd cc
some_scope headers class method (Some part) e = (record { headers = headers; class = class; method = method; part = part }, refl)

no_scope : (headers : Headers) (class : ClassFile) (method : Method) (part : Option CodePart) → is_some part ≡ false → with_part headers class method part ≡ None
no_scope headers class method None e = refl
no_scope headers class method (Some part) e = absurd cc

-- a method without code has no frames
pub no_frames : (headers : Headers) (class : ClassFile) (method : Method) → is_some (code_of method.attrs) ≡ false → TypesMethod (scope_of headers class method) None
no_frames headers class method none = subst (λ (o : Option Scope). TypesMethod o None) (sym (no_scope headers class method (code_of method.attrs) none)) tt

module _ (classes : Classes) (place number : ℕ) (class : ClassFile) (method : Method) (stands : slice_get classes.folder place ≡ Some class) (found : slice_get class.methods number ≡ Some method) (has_code : is_some (code_of method.attrs) ≡ true) where
  own : (s : Scope) × (scope_of (headers_of classes) class method ≡ Some s)
  own = some_scope (headers_of classes) class method (code_of method.attrs) has_code

  pub member : (m : Member) × (slice_get (header_of class).methods number ≡ Some m)
  member = is_member class number method found

  same_class : own.0.class ≡ class
  same_class = class_is (headers_of classes) class method own.0 own.1

  pub answered : (result : Result (List Frame) VerifyFault) → VerifiesAs classes (record { class = place; method = number }) result → MethodVerifies (scope_of (headers_of classes) class method) (header_of class) member.0 result
  answered result verifies =
      let of_scope = verifies own.0 member.0 (scope_found classes place number class method stands found ∙ own.1) (ap (λ (c : ClassFile). slice_get (header_of c).methods number) same_class ∙ member.1) in
      subst (λ (o : Option Scope). MethodVerifies o (header_of class) member.0 result) (sym own.1) (subst (λ (c : ClassFile). MethodVerifies (Some own.0) (header_of c) member.0 result) same_class of_scope)

  pub class_stops : (typed : List (Option (List Frame))) → SoFar (headers_of classes) class number typed → (fault : VerifyFault) → VerifiesAs classes (record { class = place; method = number }) (Err fault) → ClassVerifies (headers_of classes) class (Err fault)
  class_stops typed so_far (faults.Unverified name wrong offset rule) verifies =
      stops (headers_of classes) class number typed method found so_far member.0 (record { class = name; method = wrong; offset = offset; rule = rule }) member.1 (answered (Err (faults.Unverified name wrong offset rule)) verifies)
  class_stops typed so_far faults.NoMemory verifies = tt

  pub check_stops : IsTypedSoFar (headers_of classes) class number → (fault : VerifyFault) → VerifiesAs classes (record { class = place; method = number }) (Err fault) → ClassIsTyped (headers_of classes) class (Err fault)
  check_stops is (faults.Unverified name wrong offset rule) verifies = class_stops is.typed is.so_far (faults.Unverified name wrong offset rule) verifies
  check_stops is faults.NoMemory verifies = tt
