-- Methods that are found, in a tree and in its program.
use Rattle.member_link.specs.Laws.OwnMembers.{first_declared}
use Rattle.std.proofs.Common.{◌≡◌, ◌≢◌, ◌&&◌, ℕ, Bool, true, false, cond, List, [], ◌∷◌, bytes_eq, slice_get, Option, Some, None, IfSome, is_some, option_map, option_and_then, refl, sym, ap, subst, ◌∙◌}
use Rattle.std.proofs.lemmas.Bool.{false≢true, and_parts}
use Rattle.std.proofs.lemmas.Option.{none-some, same_Some}
use Rattle.std.proofs.lemmas.Slice.Eq.{bytes_eq-Decides}
use Rattle.class_model.specs.Members.{has, STATIC, ABSTRACT}
use Rattle.class_model.specs.Names.{init}
use Rattle.class_model.specs.declared.header.Header.{Header}
use Rattle.class_model.specs.declared.header.Member.{Member}
use Rattle.class_tree.specs.Headers.{Name, Classes, Headers, class_named, headers_of}
use Rattle.class_tree.specs.Hierarchy.{IsHierarchy}
use Rattle.class_tree.specs.Names.{is_member}
use Rattle.class_tree.specs.Order.{member_place, place_of}
use Rattle.class_tree.specs.declared.place.Place.{Place}
use Rattle.class_tree.specs.declared.place.Place.TheVariants.{Folder, Library}
use Rattle.machine_values.specs.declared.value.Value.{Value}
use Rattle.member_link.specs.DeclaredMembers.{Declared, declared_by, declared, own_method}
use Rattle.member_link.specs.Found.{AreSame, IsMethodFound, IsMethodOf}
use Rattle.member_link.specs.Machine.CallSteps.{as_asked, found_special, is_object_init, is_polymorphic, run_chosen, special_choice}
use Rattle.member_link.specs.Machine.Links.{reference_to}
use Rattle.member_link.specs.Machine.Programs.{Chosen, Program, abstract_method, chosen, folder_number, has_flag, method_of}
use Rattle.member_link.specs.Machine.Worlds.{Memory}
use Rattle.member_link.specs.Methods.{FindsMethod, initialiser}
use Rattle.member_link.specs.References.{Reference}
use Rattle.member_link.specs.declared.found.Found.{Found}
use Rattle.member_link.specs.declared.selection.CallForm.TheVariants.{Special}
use Rattle.machine_code.specs.Inner.Resolved.{LinksMethod, home_number}
use Rattle.member_link.specs.RunOps.{is_nothing}
use Rattle.member_link.specs.RunOps.{IsFoundMethod, RunsSpecial, called}
use Rattle.member_link.specs.TreePrograms.{IsProgram}
use Rattle.member_link.specs.declared.run_op.CallTarget.{CallTarget}
use Rattle.member_link.specs.declared.run_op.Callee.{Callee}
use Rattle.member_link.specs.declared.run_op.Callee.TheVariants.{Runs, Asks, Raises, Nothing}
use Rattle.member_link.specs.Laws.OwnMethods.{own_flag, own_member}
use Rattle.member_link.specs.Laws.ProgramHeaders.{links_are, number_by_place}

-- a look-up finds one method
pub record OneMethod : Type 0 where
  pub one :
      (headers : Headers) (class : Name) (name desc : List ℕ) (one other : Option Declared)
      → FindsMethod headers class name desc one
      → FindsMethod headers class name desc other
      → one ≡ other

-- ---- names of what is declared

-- the declared member has the name and descriptor
declared_named :
    (name desc : List ℕ) (members : List Member) (member : Member)
    → declared name desc members ≡ Some member
    → is_member name desc member ≡ true
declared_named name desc [] member is = absurd (none-some member is)
declared_named name desc (first ∷ members) member is = by (is_member name desc first) refl (declared_named name desc members member) is
  where
    by :
        (test : Bool)
        → is_member name desc first ≡ test
        → (declared name desc members ≡ Some member → is_member name desc member ≡ true)
        → cond test (Some first) (declared name desc members) ≡ Some member
        → is_member name desc member ≡ true
    by true here later is = ap (is_member name desc) (sym (same_Some first member is)) ∙ here
    by false there later is = later is

same_parts :
    (one other : Reference)
    → one.class ≡ other.class
    → one.name ≡ other.name
    → one.desc ≡ other.desc
    → one ≡ other
same_parts one other class name desc =
    ap (λ (c : Name). let r : Reference = record { class = c; name = one.name; desc = one.desc } in r) class
    ∙ ap (λ (n : List ℕ). let r : Reference = record { class = other.class; name = n; desc = one.desc } in r) name
    ∙ ap (λ (d : List ℕ). let r : Reference = record { class = other.class; name = other.name; desc = d } in r) desc

own_in :
    (r : Reference) (found : Option Header) (method : Declared)
    → option_and_then (λ (header : Header). option_map (declared_by r.class) (declared r.name r.desc header.methods)) found ≡ Some method
    → r ≡ reference_to method
own_in r None method is = absurd (none-some method is)
own_in r (Some header) method is = by (declared r.name r.desc header.methods) refl is
  where
    by :
        (member : Option Member)
        → declared r.name r.desc header.methods ≡ member
        → option_map (declared_by r.class) member ≡ Some method
        → r ≡ reference_to method
    by None none is = absurd (none-some method is)
    by (Some member) some is =
        let parts = and_parts _ _ (declared_named r.name r.desc header.methods member some) in
        let same : declared_by r.class member ≡ method = same_Some (declared_by r.class member) method is in
        same_parts r (reference_to (declared_by r.class member)) refl ((bytes_eq-Decides r.name member.name).0 parts.0) ((bytes_eq-Decides r.desc member.desc).0 parts.1)
        ∙ ap reference_to same

-- a method that a class declares is the reference to it
pub own_reference :
    (headers : Headers) (r : Reference) (method : Declared)
    → own_method headers r.class r.name r.desc ≡ Some method
    → r ≡ reference_to method
own_reference headers r method own = own_in r (class_named headers r.class) method own

-- ---- a method that is found

pub method_exists :
    (headers : Headers) (class : Name) (name desc : List ℕ) (result : Option Found)
    → IsMethodOf headers class name desc result
    → IfSome result (λ found. (method : Declared) × IsMethodFound headers found method)
method_exists headers class name desc result of_method = by result of_method.method of_method.same
  where
    by :
        (result : Option Found) (method : Option Declared)
        → AreSame (IsMethodFound headers) result method
        → IfSome result (λ found. (method : Declared) × IsMethodFound headers found method)
    by None method same = tt
    by (Some found) None same = absurd same
    by (Some found) (Some method) same = (method, same)

linked :
    (headers : Headers) (result : Option Found) (method : Option Declared) (link : Option Reference)
    → AreSame (IsMethodFound headers) result method
    → link ≡ option_map reference_to method
    → LinksMethod headers result link
linked headers None None link same is = is
linked headers None (Some method) link same is = absurd same
linked headers (Some found) None link same is = absurd same
linked headers (Some found) (Some method) link same is = (method, same, is)

module _ (classes : Classes) (P : Program) (is : IsProgram classes P) where
  -- ---- links

  pub method_linked :
      OneMethod
      → (r : Reference) (result : Option Found)
      → r.name ≢ init
      → IsMethodOf (headers_of classes) r.class r.name r.desc result
      → LinksMethod (headers_of classes) result (P.links.method r)
  method_linked law r result name found =
      let link = (links_are classes P is).method r name in
      linked (headers_of classes) result found.method (P.links.method r) found.same
      (link.same ∙ ap (option_map reference_to) (law.one (headers_of classes) r.class r.name r.desc link.found found.method link.finds found.finds))

  pub initialiser_linked : (r : Reference) → r.name ≡ init → P.links.method r ≡ None
  initialiser_linked r name = (links_are classes P is).initialiser r name

  special_of_initialiser :
      (r : Reference) (own : Option Declared)
      → bytes_eq r.name init ≡ true
      → own_method (headers_of classes) r.class r.name r.desc ≡ own
      → found_special P r ≡ option_map reference_to own
  special_of_initialiser r None name own =
      let none : method_of P r ≡ None = sym (own_member classes P is r) ∙ ap (option_map (λ (d : Declared). d.member)) own in
      rw (name, none) refl
  special_of_initialiser r (Some method) name own =
      let some : method_of P r ≡ Some method.member = sym (own_member classes P is r) ∙ ap (option_map (λ (d : Declared). d.member)) own in
      rw (name, some) (ap Some (own_reference (headers_of classes) r method own))

  pub special_linked :
      OneMethod
      → (r : Reference) (result : Option Found)
      → IsMethodOf (headers_of classes) r.class r.name r.desc result
      → LinksMethod (headers_of classes) result (found_special P r)
  special_linked law r result found = by (bytes_eq r.name init) refl
    where
      by : (test : Bool) → bytes_eq r.name init ≡ test → LinksMethod (headers_of classes) result (found_special P r)
      by true name =
          let own = law.one (headers_of classes) r.class r.name r.desc (own_method (headers_of classes) r.class r.name r.desc) found.method (initialiser ((bytes_eq-Decides r.name init).0 name)) found.finds in
          linked (headers_of classes) result found.method (found_special P r) found.same (special_of_initialiser r found.method name own)
      by false name =
          let differ : r.name ≢ init = λ same. false≢true (sym name ∙ (bytes_eq-Decides r.name init).1 same) in
          let link : P.links.method r ≡ found_special P r = rw name refl in
          subst (LinksMethod (headers_of classes) result) link (method_linked law r result differ found)

  -- ---- what is kept

  module _ (hierarchy : IsHierarchy (headers_of classes)) (method : Declared) (found : Found) (at : IsMethodFound (headers_of classes) found method) where
    own_is : own_method (headers_of classes) method.class method.member.name method.member.desc ≡ Some method
    own_is =
        let stands = hierarchy.of_place found.place at.header at.at in
        let there : class_named (headers_of classes) method.class ≡ Some at.header = ap (class_named (headers_of classes)) (sym at.own_class) ∙ stands.found in
        ap (option_and_then (λ (header : Header). option_map (declared_by method.class) (declared method.member.name method.member.desc header.methods))) there
        ∙ ap (option_map (declared_by method.class)) (first_declared method.member.name method.member.desc at.header.methods ∙ ap (option_and_then (slice_get at.header.methods)) at.first ∙ at.stands)

    home_is : folder_number P method.class ≡ home_number found.place
    home_is = by found.place refl
      where
        by : (place : Place) → found.place ≡ place → folder_number P method.class ≡ home_number found.place
        by (Folder class) same =
            rw same (sym (number_by_place classes P is method.class (Some (Folder class)) (ap (place_of (headers_of classes)) (sym at.own_class) ∙ (hierarchy.of_place found.place at.header at.at).is_place ∙ ap Some same)))
        by (Library class) same =
            rw same (sym (number_by_place classes P is method.class (Some (Library class)) (ap (place_of (headers_of classes)) (sym at.own_class) ∙ (hierarchy.of_place found.place at.header at.at).is_place ∙ ap Some same)))

    pub found_method_is :
        (named : Reference) (target : CallTarget)
        → target.method ≡ reference_to method
        → target.is_static ≡ has found.flags STATIC
        → target.is_polymorphic ≡ is_polymorphic P named
        → target.asked ≡ cond target.is_polymorphic (record target.method { desc = named.desc }) target.method
        → target.home ≡ home_number found.place
        → IsFoundMethod P named target
    found_method_is named target same static polymorphic asked home = record {
      static =
          static
          ∙ ap (λ (flags : ℕ). has flags STATIC) at.same_flags
          ∙ sym (own_flag classes P is (reference_to method) method STATIC own_is)
          ∙ ap (λ (r : Reference). has_flag (method_of P r) STATIC) (sym same);
      asked = asked ∙ ap (λ (b : Bool). cond b (record target.method { desc = named.desc }) target.method) polymorphic;
      polymorphic = polymorphic;
      home = ap (λ (r : Reference). folder_number P r.class) same ∙ home_is ∙ sym home;
    }

-- ---- special calls

module _ (P : Program) (from : Name) (method : Reference) where
  pub choice_selected :
      bytes_eq method.name init ≡ false
      → special_choice P from method ≡ P.links.select from method Special
  choice_selected name = rw name refl

  pub choice_abstract :
      bytes_eq method.name init ≡ true
      → has_flag (method_of P method) ABSTRACT ≡ true
      → special_choice P from method ≡ abstract_method
  choice_abstract name abstract = rw (name, abstract) refl

  pub choice_itself :
      bytes_eq method.name init ≡ true
      → has_flag (method_of P method) ABSTRACT ≡ false
      → special_choice P from method ≡ chosen method
  choice_itself name concrete = rw (name, concrete) refl

  pub runs_special :
      (target : CallTarget) (callee : Callee) (choice : Chosen)
      → target.method ≡ method
      → is_object_init method ≡ false
      → is_nothing callee ≡ false
      → special_choice P from method ≡ choice
      → ((memory : Memory) (values : List Value) → run_chosen P choice values ≡ called memory callee values)
      → RunsSpecial P from target (Some callee)
  runs_special target callee choice same no_init something is runs = by callee something runs
    where
      chosen_is : (values : List Value) → run_chosen P (special_choice P from target.method) values ≡ run_chosen P choice values
      chosen_is values =
          ap (λ (m : Reference). run_chosen P (special_choice P from m) values) same
          ∙ ap (λ (c : Chosen). run_chosen P c values) is

      by :
          (callee : Callee)
          → is_nothing callee ≡ false
          → ((memory : Memory) (values : List Value) → run_chosen P choice values ≡ called memory callee values)
          → RunsSpecial P from target (Some callee)
      by Nothing something runs = absurd cc
      by (Runs at) something runs = (ap is_object_init same ∙ no_init, λ memory values. chosen_is values ∙ runs memory values)
      by (Asks asked) something runs = (ap is_object_init same ∙ no_init, λ memory values. chosen_is values ∙ runs memory values)
      by (Raises throwable) something runs = (ap is_object_init same ∙ no_init, λ memory values. chosen_is values ∙ runs memory values)
