-- What the methods of a class file are asked, each with the member of the header that it is.
use Rattle.std.proofs.Common.{◌≡◌, ◌+◌, ◌<◌, ℕ, List, ◌∷◌, ◌++◌, length, drop, get_or, Err, sym, subst}
use Rattle.std.proofs.lemmas.List.{drop_more}
use Rattle.class_model.specs.Checks.{Check, asked_each, AllHold}
use Rattle.class_model.specs.Laws.Checks.{Remain, all_remain, remain}
use Rattle.class_model.specs.Methods.{home_of}
use Rattle.class_model.specs.declared.class_file.ClassFile.{ClassFile}
use Rattle.class_model.specs.declared.class_file.Method.{Method}
use Rattle.class_model.specs.declared.header.Header.{Header}
use Rattle.class_model.specs.declared.header.Member.{Member}
use Rattle.class_tree.specs.Answers.{Answers}
use Rattle.class_tree.specs.Headers.{Headers}
use Rattle.class_tree.specs.Laws.Links.{refused}
use Rattle.class_tree.specs.Problems.{Problem}
use Rattle.class_tree.specs.declared.fault.LinkFault.{LinkFault}
use Rattle.member_link.specs.Inner.Resolving.{Resolved, resolved_scope}
use Rattle.member_link.specs.Uses.{attr_checks, methods_use_checks}

abbrev pub resolved : Headers → ClassFile → Header → Resolved
resolved headers class header = record { headers = headers; pool = class.pool; from = header.name }

abbrev asked_of_method : Resolved → ClassFile → Method → Member → List (Check Problem)
asked_of_method resolver class method member = asked_each (attr_checks (resolved_scope resolver member) (home_of class) method) method.attrs

-- Methods below an index have been asked, and the resolver is that of the class.
pub record MethodsBelow (headers : Headers) (class : ClassFile) (header : Header) (resolver : Resolved) (i : ℕ) : Type 0 where
  pub resolver_is : resolver ≡ resolved headers class header
  pub left : Remain (methods_use_checks headers class header class.methods header.methods) (methods_use_checks headers class header (drop i class.methods) (drop i header.methods))

pub no_method_below : (headers : Headers) (class : ClassFile) (header : Header) (resolver : Resolved) → resolver ≡ resolved headers class header → MethodsBelow headers class header resolver 0
no_method_below headers class header resolver is = record { resolver_is = is; left = all_remain (methods_use_checks headers class header class.methods header.methods) }

-- a method of a class file, and the member of the header that stands at the same index
pub record MethodAt (class : ClassFile) (header : Header) (i : ℕ) (method : Method) (member : Member) : Type 0 where
  pub method_within : i < length class.methods
  pub member_within : i < length header.methods
  pub method_is : method ≡ get_or class.methods i method
  pub member_is : member ≡ get_or header.methods i member

module _ (headers : Headers) (class : ClassFile) (header : Header) (resolver : Resolved) (i : ℕ) (method : Method) (member : Member) (below : MethodsBelow headers class header resolver i) (at : MethodAt class header i method member) where
  this_method : Remain (methods_use_checks headers class header class.methods header.methods) (asked_of_method (resolved headers class header) class method member ++ methods_use_checks headers class header (drop (i + 1) class.methods) (drop (i + 1) header.methods))
  this_method =
      let whole = methods_use_checks headers class header class.methods header.methods in
      let rest = methods_use_checks headers class header (drop (i + 1) class.methods) (drop (i + 1) header.methods) in
      subst (λ m. Remain whole (asked_of_method (resolved headers class header) class m member ++ rest)) (sym at.method_is)
      (subst (λ m. Remain whole (asked_of_method (resolved headers class header) class (get_or class.methods i method) m ++ rest)) (sym at.member_is)
      (subst (λ members. Remain whole (methods_use_checks headers class header (get_or class.methods i method ∷ drop (i + 1) class.methods) members)) (drop_more header.methods i member at.member_within)
      (subst (λ methods. Remain whole (methods_use_checks headers class header methods (drop i header.methods))) (drop_more class.methods i method at.method_within) below.left)))

  pub method_below : (next : Resolved) → next ≡ resolver → AllHold (asked_of_method resolver class method member) → MethodsBelow headers class header next (i + 1)
  method_below next kept hold = record {
    resolver_is = subst (λ r. r ≡ resolved headers class header) (sym kept) below.resolver_is;
    left = remain (asked_of_method (resolved headers class header) class method member) (methods_use_checks headers class header (drop (i + 1) class.methods) (drop (i + 1) header.methods)) this_method
        (subst (λ r. AllHold (asked_of_method r class method member)) below.resolver_is hold);
  }

  pub method_refused : (e : LinkFault) → Answers {X = Unit {0}} (asked_of_method resolver class method member) (Err e) → Answers {X = Unit {0}} (methods_use_checks headers class header class.methods header.methods) (Err e)
  method_refused e told =
      refused (asked_of_method (resolved headers class header) class method member) (methods_use_checks headers class header (drop (i + 1) class.methods) (drop (i + 1) header.methods)) e this_method
      (subst (λ r. Answers {X = Unit {0}} (asked_of_method r class method member) (Err e)) below.resolver_is told)
