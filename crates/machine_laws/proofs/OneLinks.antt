-- A hierarchy has at most one list of links.
use Rattle.std.specs.Prelude.{◌≡◌, ◌≢◌, ◌↔◌, IsTrue, ℕ, Bool, true, false, List, Option, Some, None, option_map, bytes_eq}
use Rattle.std.proofs.Common.{refl, sym, ap, ◌∙◌}
use Rattle.std.proofs.lemmas.Slice.Eq.{bytes_eq-Decides}
use Rattle.class_model.specs.Names.{init}
use Rattle.class_tree.specs.Headers.{Name, Classes, Headers}
use Rattle.machine_values.specs.declared.action.Action.{Action}
use Rattle.member_link.specs.DeclaredMembers.{Declared, own_method}
use Rattle.member_link.specs.Fields.{FindsField}
use Rattle.member_link.specs.Machine.Classes.{program_of}
use Rattle.member_link.specs.Machine.Links.{AreLinksOf, IsLink, IsSelection, reference_to, chosen_by}
use Rattle.member_link.specs.Machine.Programs.{Links, Chosen}
use Rattle.member_link.specs.Machine.Runs.{shown_after}
use Rattle.member_link.specs.Methods.{FindsMethod}
use Rattle.member_link.specs.References.{Reference}
use Rattle.member_link.specs.Selection.{Choice, Selects}
use Rattle.member_link.specs.declared.selection.CallForm.{CallForm}
use mathlib.Core.Path.{fun_ext}

impossible : IsTrue false → ⊥
impossible e = cc

differ : true ≡ false → ⊥
differ e = cc

same_bool : {A : Type 0} (b c : Bool) → (IsTrue b ↔ A) → (IsTrue c ↔ A) → b ≡ c
same_bool true true p q = refl
same_bool false false p q = refl
same_bool true false p q = absurd (impossible (q.1 (p.0 refl)))
same_bool false true p q = absurd (impossible (p.1 (q.0 refl)))

-- a fact for a name that is an initialiser's and for one that is not holds for each
by_name : {A : Type 0} (name : List ℕ) → (name ≡ init → A) → (name ≢ init → A) → A
by_name {A = A} name is is_not = by (bytes_eq name init) refl where
  by : (b : Bool) → bytes_eq name init ≡ b → A
  by true e = is ((bytes_eq-Decides name init).0 e)
  by false e = is_not (λ same. differ (sym ((bytes_eq-Decides name init).1 same) ∙ e))

module _
    (field_once : (headers : Headers) (class : Name) (name desc : List ℕ) (one other : Option Declared) → FindsField headers class name desc one → FindsField headers class name desc other → one ≡ other)
    (method_once : (headers : Headers) (class : Name) (name desc : List ℕ) (one other : Option Declared) → FindsMethod headers class name desc one → FindsMethod headers class name desc other → one ≡ other)
    (selects_once : (headers : Headers) (receiver : Name) (resolved : Declared) (form : CallForm) (one other : Choice) → Selects headers receiver resolved form one → Selects headers receiver resolved form other → one ≡ other)
    (headers : Headers) (a b : Links) (is : AreLinksOf headers a) (also : AreLinksOf headers b) where
  same_link : (Finds : Option Declared → Type 0) → ((one other : Option Declared) → Finds one → Finds other → one ≡ other) → (x y : Option Reference) → IsLink Finds x → IsLink Finds y → x ≡ y
  same_link Finds once x y l m = l.same ∙ (ap (option_map reference_to) (once l.found m.found l.finds m.finds) ∙ sym m.same)

  same_choice : (receiver : Name) (form : CallForm) (method : Option Declared) (x y : Chosen) → IsSelection headers receiver form method x → IsSelection headers receiver form method y → x ≡ y
  same_choice receiver form None x y l m = l ∙ sym m
  same_choice receiver form (Some method) x y l m = l.same ∙ (ap chosen_by (selects_once headers receiver method form l.choice m.choice l.selects m.selects) ∙ sym m.same)

  same_below : a.below ≡ b.below
  same_below = fun_ext (λ low. fun_ext (λ high. same_bool (a.below low high) (b.below low high) (is.below low high) (also.below low high)))

  same_field : a.field ≡ b.field
  same_field = fun_ext (λ r. same_link (FindsField headers r.class r.name r.desc) (field_once headers r.class r.name r.desc) (a.field r) (b.field r) (is.field r) (also.field r))

  same_method : a.method ≡ b.method
  same_method = fun_ext (λ r. by_name r.name
      (λ e. is.initialiser r e ∙ sym (also.initialiser r e))
      (λ n. same_link (FindsMethod headers r.class r.name r.desc) (method_once headers r.class r.name r.desc) (a.method r) (b.method r) (is.method r n) (also.method r n)))

  same_select : a.select ≡ b.select
  same_select = fun_ext (λ receiver. fun_ext (λ r. fun_ext (λ form. by_name r.name
      (λ e. is.no_initialiser receiver r form e ∙ sym (also.no_initialiser receiver r form e))
      (λ n. same_choice receiver form (own_method headers r.class r.name r.desc) (a.select receiver r form) (b.select receiver r form) (is.select receiver r form n) (also.select receiver r form n)))))

  pub links_once : a ≡ b
  links_once = λ i. record { below = same_below i; field = same_field i; method = same_method i; select = same_select i }

pub same_shown : (classes : Classes) (one other : Links) → one ≡ other → (actions : List Action) (count : ℕ) → shown_after (program_of classes one) actions count ≡ shown_after (program_of classes other) actions count
same_shown classes one other same actions count = ap (λ links. shown_after (program_of classes links) actions count) same
