use Rattle.std.specs.Prelude.{◌≡◌, ◌≢◌, ◌⊎◌, ℕ, true, false, List, Option, Some, option_map}
use Rattle.std.proofs.Common.{inl, inr, ap, sym, ◌∙◌}
use Rattle.class_model.specs.Names.{clinit, init}
use Rattle.class_tree.specs.Headers.{Name, Headers}
use Rattle.class_tree.specs.Hierarchy.{IsHierarchy}
use Rattle.member_link.specs.DeclaredMembers.{Declared}
use Rattle.member_link.specs.FoundAbove.{IsMethodAbove}
use Rattle.member_link.specs.Machine.CallSteps.{is_polymorphic}
use Rattle.member_link.specs.Machine.Links.{reference_to}
use Rattle.member_link.specs.Machine.Programs.{Program, headers_in}
use Rattle.member_link.specs.Methods.{FindsMethod, IsPolymorphic}
use Rattle.member_link.specs.References.{Reference}
use Rattle.typed_runs.proofs.Callees.{polymorphic_is}
use Rattle.typed_runs.specs.TypedPoints.{HasMethod}
use Rattle.typed_runs.specs.TypedPrograms.{Typings, IsTypedProgram}

-- the laws of look-up
pub record LookUps : Type 0 where
  pub finds_one : (headers : Headers) (class : Name) (name desc : List ℕ) (one other : Option Declared)
      → FindsMethod headers class name desc one → FindsMethod headers class name desc other → one ≡ other
  pub finds_above : (headers : Headers) (class : Name) (name desc : List ℕ) (method : Declared) → IsHierarchy headers
      → FindsMethod headers class name desc (Some method) → IsMethodAbove headers class name desc method

-- the method that a reference names
pub record LookedUp (P : Program) (Form : Declared → Type 0) (r : Reference) : Type 0 where
  pub method : Declared
  pub finds : FindsMethod (headers_in P) r.class r.name r.desc (Some method)
  pub is : IsMethodAbove (headers_in P) r.class r.name r.desc method
  pub form : Form method
  pub no_clinit : method.member.name ≢ clinit

pub looked_up : (P : Program) (T : Typings) → IsTypedProgram P T → LookUps → (Form : Declared → Type 0) (r : Reference)
    → HasMethod (headers_in P) Form r → LookedUp P Form r
looked_up P T program laws Form r has =
    let above = laws.finds_above (headers_in P) r.class r.name r.desc has.method program.hierarchy has.finds in
    record {
      method = has.method;
      finds = has.finds;
      is = above;
      form = has.form;
      no_clinit =
          λ e. has.no_clinit (sym above.same_name ∙ e);
    }

module _ {P : Program} {T : Typings} (program : IsTypedProgram P T) (laws : LookUps) {Form : Declared → Type 0} {r : Reference}
    (l : LookedUp P Form r) where
  -- the links answer it, but for an instance initialiser
  pub linked_to : r.name ≢ init → P.links.method r ≡ Some (reference_to l.method)
  linked_to other =
      let link = program.links.method r other in
      link.same ∙ ap (option_map reference_to) (laws.finds_one (headers_in P) r.class r.name r.desc link.found
      (Some l.method) link.finds l.finds)

  pub no_initialiser : r.name ≢ init → l.method.member.name ≢ init
  no_initialiser other e = other (sym l.is.same_name ∙ e)

  -- it has the descriptor, unless it is found under every one
  pub same_desc : is_polymorphic P r ≡ false → l.method.member.desc ≡ r.desc
  same_desc single = by l.is.same_desc where
    by : (l.method.member.desc ≡ r.desc) ⊎ IsPolymorphic (headers_in P) r.class r.name → l.method.member.desc ≡ r.desc
    by (inl e) = e
    by (inr is) = let yes : is_polymorphic P r ≡ true = polymorphic_is P r is in let both : true ≡ false = sym yes ∙ single in cc
