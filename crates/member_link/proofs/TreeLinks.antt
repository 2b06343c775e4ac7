-- A hierarchy has links.
use Rattle.std.specs.Prelude.{◌≡◌, ◌≢◌, ◌↔◌, IsTrue, Bool, true, false, cond, List, ℕ, Option, Some, None, option_map, bytes_eq, refl}
use Rattle.std.proofs.Common.{sym, ap, subst}
use Rattle.std.proofs.lemmas.Slice.Eq.{bytes_eq-Decides}
use Rattle.class_model.specs.Names.{init}
use Rattle.class_tree.specs.Headers.{Name, Headers}
use Rattle.class_tree.specs.Subtype.{IsSubtype}
use Rattle.member_link.specs.DeclaredMembers.{Declared, own_method}
use Rattle.member_link.specs.Fields.{FindsField}
use Rattle.member_link.specs.Machine.Links.{AreLinksOf, IsSelection, reference_to, chosen_by}
use Rattle.member_link.specs.Machine.Programs.{Links, Chosen, abstract_method}
use Rattle.member_link.specs.Methods.{FindsMethod}
use Rattle.member_link.specs.References.{Reference}
use Rattle.member_link.specs.Selection.{Choice, Selects}
use Rattle.member_link.specs.declared.selection.CallForm.{CallForm}

is_init : (name : List ℕ) → name ≡ init → bytes_eq name init ≡ true
is_init name is = (bytes_eq-Decides name init).1 is

is_not_init : (name : List ℕ) → name ≢ init → bytes_eq name init ≡ false
is_not_init name is_not = by (bytes_eq name init) refl where
  by : (b : Bool) → bytes_eq name init ≡ b → bytes_eq name init ≡ false
  by true e = absurd (is_not ((bytes_eq-Decides name init).0 e))
  by false e = e

module _
    (headers : Headers)
    (sub : Name → Name → Bool)
    (subs : (low high : Name) → IsTrue (sub low high) ↔ IsSubtype headers low high)
    (field : Reference → Option Declared)
    (fields : (r : Reference) → FindsField headers r.class r.name r.desc (field r))
    (method : Reference → Option Declared)
    (methods : (r : Reference) → FindsMethod headers r.class r.name r.desc (method r))
    (select : Name → Declared → CallForm → Choice)
    (selects : (receiver : Name) (resolved : Declared) (form : CallForm) → Selects headers receiver resolved form (select receiver resolved form)) where
  abbrev selected : Name → CallForm → Option Declared → Chosen
  selected receiver form None = abstract_method
  selected receiver form (Some resolved) = chosen_by (select receiver resolved form)

  is_selected :
      (receiver : Name) (form : CallForm) (own : Option Declared)
      → IsSelection headers receiver form own (selected receiver form own)
  is_selected receiver form None = refl
  is_selected receiver form (Some resolved) =
      record { choice = select receiver resolved form; selects = selects receiver resolved form; same = refl }

  abbrev method_link : Reference → Option Reference
  method_link r = cond (bytes_eq r.name init) None (option_map reference_to (method r))

  abbrev select_link : Name → Reference → CallForm → Chosen
  select_link receiver r form =
      cond (bytes_eq r.name init) abstract_method (selected receiver form (own_method headers r.class r.name r.desc))

  abbrev pub links : Links
  links = record {
    below = sub;
    field = λ r. option_map reference_to (field r);
    method = method_link;
    select = select_link;
  }

  pub are_links : AreLinksOf headers links
  are_links = record {
    below = subs;
    field = λ r. record { found = field r; finds = fields r; same = refl };
    method = λ r is_not. record {
      found = method r;
      finds = methods r;
      same = ap (λ b. cond b None (option_map reference_to (method r))) (is_not_init r.name is_not);
    };
    initialiser = λ r is. ap (λ b. cond b None (option_map reference_to (method r))) (is_init r.name is);
    select = λ receiver r form is_not.
        subst (IsSelection headers receiver form (own_method headers r.class r.name r.desc))
        (sym (ap (λ b. cond b abstract_method (selected receiver form (own_method headers r.class r.name r.desc))) (is_not_init r.name is_not)))
        (is_selected receiver form (own_method headers r.class r.name r.desc));
    no_initialiser = λ receiver r form is.
        ap (λ b. cond b abstract_method (selected receiver form (own_method headers r.class r.name r.desc))) (is_init r.name is);
  }
