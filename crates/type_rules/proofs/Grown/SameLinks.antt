-- The links of classes are those of classes that have grown.
use Rattle.std.proofs.Common.{◌≡◌, ◌≢◌, ◌↔◌, ◌∙◌, ◌&&◌, ◌++◌, ℕ, Bool, true, false, cond, List, [], ◌∷◌, bytes_eq, Option, Some, None, option_map, refl, sym, ap, subst}
use Rattle.std.specs.Prelude.{option_and_then}
use Rattle.std.specs.List.{AllByRecursion}
use Rattle.std.proofs.lemmas.Option.{same_Some}
use Rattle.std.proofs.lemmas.Slice.Eq.{bytes_eq-Decides}
use Rattle.class_model.specs.Names.{init}
use Rattle.class_model.specs.declared.header.Header.{Header}
use Rattle.class_model.specs.declared.header.Member.{Member}
use Rattle.class_tree.specs.Headers.{Name, Headers, class_named}
use Rattle.class_tree.specs.Names.{is_member}
use Rattle.class_tree.specs.Subtype.{IsSubtype}
use Rattle.member_link.specs.DeclaredMembers.{Declared, declared, declared_by, own_method}
use Rattle.member_link.specs.Fields.{FindsField}
use Rattle.member_link.specs.FoundNames.{FindsFieldNamed}
use Rattle.member_link.specs.Machine.Links.{AreLinksOf, IsLink, IsSelection}
use Rattle.member_link.specs.Machine.Programs.{Chosen, Links}
use Rattle.member_link.specs.Methods.{FindsMethod}
use Rattle.member_link.specs.References.{Reference}
use Rattle.member_link.specs.Selection.{Choice, Selects}
use Rattle.member_link.specs.declared.selection.CallForm.{CallForm}
use Rattle.type_rules.proofs.Grown.Headers.{Both, no_pair, a_pair, class_pair}
use Rattle.type_rules.proofs.Grown.Methods.{declared_in}
use Rattle.type_rules.specs.Grown.{AreGrownHeaders, IsGrownHeader}

-- ---- the method that a class declares itself

both_true : (one other : Bool) → (one && other) ≡ true → one ≡ true
both_true true other is = refl
both_true false other is = is

declared_named : (name desc : List ℕ) (members : List Member) (member : Member) → declared name desc members ≡ Some member → member.name ≡ name
declared_named name desc [] member is = absurd cc
declared_named name desc (first ∷ members) member is = by (is_member name desc first) refl (declared_named name desc members member) is where
  by : (b : Bool) → is_member name desc first ≡ b → (declared name desc members ≡ Some member → member.name ≡ name)
      → cond b (Some first) (declared name desc members) ≡ Some member → member.name ≡ name
  by true e rest is =
      ap (λ (m : Member). m.name) (sym (same_Some first member is))
      ∙ sym ((bytes_eq-Decides name first.name).0 (both_true (bytes_eq name first.name) (bytes_eq desc first.desc) e))
  by false e rest is = rest is

own_named : (headers : Headers) (class : Name) (name desc : List ℕ) (method : Declared) → own_method headers class name desc ≡ Some method → method.member.name ≡ name
own_named headers class name desc method is = by (class_named headers class) is where
  of_member : (members : List Member) (o : Option Member) → declared name desc members ≡ o → option_map (declared_by class) o ≡ Some method → method.member.name ≡ name
  of_member members None e is = absurd cc
  of_member members (Some member) e is =
      ap (λ (d : Declared). d.member.name) (sym (same_Some (declared_by class member) method is)) ∙ declared_named name desc members member e

  by : (o : Option Header) → option_and_then (λ (header : Header). option_map (declared_by class) (declared name desc header.methods)) o ≡ Some method → method.member.name ≡ name
  by None is = absurd cc
  by (Some header) is = of_member header.methods (declared name desc header.methods) refl is

module _ (name desc : List ℕ) (differ : name ≢ init) where
  none_added : (added : List Member) → AllByRecursion (λ method. method.name ≡ init) added → declared name desc added ≡ None
  none_added added are = by (declared name desc added) refl where
    named : (member : Member) → declared name desc added ≡ Some member → member.name ≡ init → ⊥
    named member is also = differ (sym (declared_named name desc added member is) ∙ also)

    by : (o : Option Member) → declared name desc added ≡ o → declared name desc added ≡ None
    by None e = e
    by (Some member) e = absurd (named member e (declared_in name desc (λ (m : Member). m.name ≡ init) added member are e))

  declared_behind : (methods added : List Member) → declared name desc added ≡ None → declared name desc (methods ++ added) ≡ declared name desc methods
  declared_behind [] added none = none
  declared_behind (method ∷ methods) added none =
      ap (λ (rest : Option Member). cond (is_member name desc method) (Some method) rest) (declared_behind methods added none)

  own_pair : (class : Name) {o p : Option Header} → Both IsGrownHeader o p
      → option_and_then (λ (header : Header). option_map (declared_by class) (declared name desc header.methods)) p
      ≡ option_and_then (λ (header : Header). option_map (declared_by class) (declared name desc header.methods)) o
  own_pair class no_pair = refl
  own_pair class (a_pair old new grows) =
      ap (λ (members : List Member). option_map (declared_by class) (declared name desc members)) grows.alike.methods
      ∙ ap (option_map (declared_by class)) (declared_behind old.methods grows.alike.added (none_added grows.alike.added grows.alike.initialisers))

  pub own_same : (old new : Headers) → AreGrownHeaders old new → (class : Name) → own_method new class name desc ≡ own_method old class name desc
  own_same old new grown class = own_pair class (class_pair old new grown class)

-- ---- links

-- what links ask of two lists of classes
pub record AnswerAlike (one other : Headers) : Type 0 where
  pub subtypes : (low high : Name) → IsSubtype one low high ↔ IsSubtype other low high
  pub fields : (class : Name) (name desc : List ℕ) (answer : Option Reference) → FindsFieldNamed one class name desc answer → FindsFieldNamed other class name desc answer
  pub methods : (class : Name) (name desc : List ℕ) (found : Option Declared) → name ≢ init → FindsMethod one class name desc found → FindsMethod other class name desc found
  pub selections : (receiver : Name) (resolved : Declared) (form : CallForm) (choice : Choice) → resolved.member.name ≢ init
      → Selects one receiver resolved form choice → Selects other receiver resolved form choice
  pub own : (class : Name) (name desc : List ℕ) → name ≢ init → own_method other class name desc ≡ own_method one class name desc

module _ (one other : Headers) (alike : AnswerAlike one other) (links : Links) (are : AreLinksOf one links) where
  field_link : (r : Reference) → IsLink (FindsField other r.class r.name r.desc) (links.field r)
  field_link r =
      let was = are.field r in
      let now = alike.fields r.class r.name r.desc (links.field r) (record { field = was.found; finds = was.finds; is = was.same }) in
      record { found = now.field; finds = now.finds; same = now.is }

  method_link : (r : Reference) → r.name ≢ init → IsLink (FindsMethod other r.class r.name r.desc) (links.method r)
  method_link r differ =
      let was = are.method r differ in
      record { found = was.found; finds = alike.methods r.class r.name r.desc was.found differ was.finds; same = was.same }

  chosen_still : (receiver : Name) (form : CallForm) (name : List ℕ) → name ≢ init → (o : Option Declared) → ((method : Declared) → o ≡ Some method → method.member.name ≡ name) → (link : Chosen)
      → IsSelection one receiver form o link → IsSelection other receiver form o link
  chosen_still receiver form name differ None named link is = is
  chosen_still receiver form name differ (Some method) named link is =
      record { choice = is.choice; selects = alike.selections receiver method form is.choice (λ e. differ (sym (named method refl) ∙ e)) is.selects; same = is.same }

  selection : (receiver : Name) (r : Reference) (form : CallForm) → r.name ≢ init → IsSelection other receiver form (own_method other r.class r.name r.desc) (links.select receiver r form)
  selection receiver r form differ =
      subst (λ (o : Option Declared). IsSelection other receiver form o (links.select receiver r form)) (sym (alike.own r.class r.name r.desc differ))
      (chosen_still receiver form r.name differ (own_method one r.class r.name r.desc) (own_named one r.class r.name r.desc) (links.select receiver r form) (are.select receiver r form differ))

  pub links_still : AreLinksOf other links
  links_still = record {
    below = λ low high. let was = are.below low high in let sub = alike.subtypes low high in (λ is. sub.0 (was.0 is), λ is. was.1 (sub.1 is));
    field = field_link;
    method = method_link;
    initialiser = are.initialiser;
    select = selection;
    no_initialiser = are.no_initialiser;
  }
