-- What the operations of calls come to where the method that runs is one of the folder with code.
use Rattle.std.specs.Prelude.{◌≡◌, ◌≢◌, ◌⊎◌, ◌&&◌, refl, ℕ, Bool, true, false, List, [], ◌∷◌, bytes_eq, slice_get, Some, IsTrue, if◌then◌else◌}
use Rattle.std.proofs.Common.{inl, inr, ap, sym, subst, ◌∙◌}
use Rattle.std.proofs.lemmas.Slice.Eq.{bytes_eq-Decides}
use Rattle.class_model.specs.Descriptors.{parameters_of}
use Rattle.class_model.specs.Members.{ABSTRACT, STATIC, has}
use Rattle.class_model.specs.Names.{init}
use Rattle.class_model.specs.declared.class_file.MethodAt.{MethodAt}
use Rattle.class_model.specs.declared.header.Member.{Member}
use Rattle.class_tree.specs.Headers.{Name}
use Rattle.class_tree.specs.Names.{object}
use Rattle.expanded_code.specs.Expanded.{tests_receiver}
use Rattle.expanded_code.specs.Expansions.{Coded}
use Rattle.expanded_runs.proofs.Runs.CallTargets.{IsTarget}
use Rattle.expanded_runs.proofs.Runs.ReplacedCalls.{ComesTo, comes_to_begin, comes_to_call, comes_to_null}
use Rattle.machine_values.specs.Heaps.{object_at}
use Rattle.machine_values.specs.Values.{have_kinds}
use Rattle.machine_values.specs.declared.object.Object.{Object}
use Rattle.machine_values.specs.declared.object.Shape.{Shape}
use Rattle.machine_values.specs.declared.value.Value.{Value}
use Rattle.machine_values.specs.declared.value.Value.TheVariants.{Null, Ref}
use Rattle.member_link.specs.DeclaredMembers.{Declared, IsMethod, declared}
use Rattle.member_link.specs.Machine.CallSteps.{as_asked, call_found_special, call_static_work, call_virtual_work, found_special, if_conforms, is_object_init, is_polymorphic, on_receiver, run_call, special_choice, special_on, virtual_on, with_receiver}
use Rattle.member_link.specs.Machine.Completions.{Completion, begins, calls, ends, raises}
use Rattle.member_link.specs.Machine.FieldSteps.{begun_first}
use Rattle.member_link.specs.Machine.Links.{reference_to}
use Rattle.member_link.specs.Machine.Ops.{Op, call_special, call_static, call_virtual}
use Rattle.member_link.specs.Machine.Programs.{Program, RunClass, chosen, first_member, folder_number, has_flag, headers_in, member_of, method_of}
use Rattle.member_link.specs.Machine.Shapes.{class_of_shape, is_external, shape_conforms}
use Rattle.member_link.specs.Machine.Throwables.{null_pointer}
use Rattle.member_link.specs.Machine.Work.{work}
use Rattle.member_link.specs.Machine.Worlds.{Memory, is_begun, stuck}
use Rattle.member_link.specs.References.{Reference}
use Rattle.member_link.specs.declared.selection.CallForm.TheVariants.{Special, Virtual}
use Rattle.same_runs.specs.SameMemories.{IsInert}

-- ---- tests

not_init : (name : List ℕ) → name ≢ init → bytes_eq name init ≡ false
not_init name other = by (bytes_eq name init) refl where
  by : (b : Bool) → bytes_eq name init ≡ b → bytes_eq name init ≡ false
  by true e = absurd (other ((bytes_eq-Decides name init).0 e))
  by false e = e

and_false : (a b : Bool) → b ≡ false → (a && b) ≡ false
and_false true b is = is
and_false false b is = refl

first_member_is : (r : Reference) (members : List Member) → first_member r members ≡ declared r.name r.desc members
first_member_is r [] = refl
first_member_is r (m ∷ members) = ap (λ o. if member_of r m then Some m else o) (first_member_is r members)

-- a method that a class declares is that of the reference to it
pub method_is : (P : Program) (m : Declared) → IsMethod (headers_in P) m → method_of P (reference_to m) ≡ Some m.member
method_is P m declares = rw declares.found (first_member_is (reference_to m) declares.header.methods ∙ declares.declares)

module _ (P : Program) (memory : Memory) where
  -- what runs
  pub runs_target : (at : MethodAt) (m : Declared) → IsTarget P at m → (vs : List Value) → run_call P (reference_to m) vs ≡ calls at vs
  runs_target at m target vs = rw target.place (rw target.coded refl)

  -- ---- static methods

  module _ (g : Coded) (r : Reference) (m : Declared) (vs : List Value) (target : IsTarget P g.at m) where
    begun_or_called : (class : RunClass) → slice_get P.classes g.at.class ≡ Some class → IsInert P g.at.class → (IsTrue (tests_receiver g.scope) → ⊥)
        → work P memory (call_static r) vs ≡ begun_first P memory m.class (calls g.at vs)
        → ComesTo P memory (call_static r) vs g
    begun_or_called class is_class inert untested whole = by (is_begun memory g.at.class) refl where
      number : folder_number P m.class ≡ Some g.at.class
      number = target.number

      by : (b : Bool) → is_begun memory g.at.class ≡ b → ComesTo P memory (call_static r) vs g
      by true e =
          let begun : begun_first P memory m.class (calls g.at vs) ≡ calls g.at vs = rw (number, e) refl in
          comes_to_call (λ tested. absurd (untested tested)) (whole ∙ begun)
      by false e =
          let begun : begun_first P memory m.class (calls g.at vs) ≡ begins g.at.class = rw (number, e) refl in
          comes_to_begin g.at.class class is_class inert e (whole ∙ begun)

    -- a static call begins the class, or runs the method
    pub static_comes : (class : RunClass) → slice_get P.classes g.at.class ≡ Some class → IsInert P g.at.class → (IsTrue (tests_receiver g.scope) → ⊥)
        → is_polymorphic P r ≡ false → P.links.method r ≡ Some (reference_to m)
        → work P memory (call_static r) vs ≢ ends stuck
        → (have_kinds (parameters_of r.desc) vs ≡ true) × ComesTo P memory (call_static r) vs g
    static_comes class is_class inert untested plain link going =
        by (has_flag (method_of P (reference_to m)) STATIC) (have_kinds (parameters_of r.desc) vs) refl refl where
          found : work P memory (call_static r) vs ≡ call_static_work P memory r (Some (reference_to m)) vs
          found = ap (λ o. call_static_work P memory r o vs) link

          asked : run_call P (as_asked P r (reference_to m)) vs ≡ calls g.at vs
          asked = rw plain (runs_target g.at m target vs)

          by : (static kinds : Bool) → has_flag (method_of P (reference_to m)) STATIC ≡ static → have_kinds (parameters_of r.desc) vs ≡ kinds
              → (have_kinds (parameters_of r.desc) vs ≡ true) × ComesTo P memory (call_static r) vs g
          by true true s k =
              let works : call_static_work P memory r (Some (reference_to m)) vs ≡ begun_first P memory m.class
              (run_call P (as_asked P r (reference_to m)) vs) =
              rw (s, k) refl in
              (k, begun_or_called class is_class inert untested (found ∙ works ∙ ap (begun_first P memory m.class) asked))
          by true false s k =
              let works : call_static_work P memory r (Some (reference_to m)) vs ≡ ends stuck = rw (s, k) refl in
              absurd (going (found ∙ works))
          by false kinds s k =
              let works : call_static_work P memory r (Some (reference_to m)) vs ≡ ends stuck = rw s refl in
              absurd (going (found ∙ works))

  -- ---- methods of an object

  -- the receiver is null, or an object on which the method runs
  pub record RunsOn (v : Value) (on : Shape → Completion) (done : Completion) : Type 0 where
    pub reference : ℕ
    pub is : v ≡ Ref reference
    pub object : Object
    pub there : object_at memory.heap reference ≡ Some object
    pub runs : on object.shape ≡ done

  abbrev pub IsOutcome : List ℕ → Value → List Value → Completion → Completion → Type 0
  IsOutcome desc v others whole done =
      (have_kinds (parameters_of desc) others ≡ true)
      × (((v ≡ Null) × (whole ≡ raises null_pointer)) ⊎ ((reference : ℕ) × (v ≡ Ref reference) × (whole ≡ done)))

  -- the receiver conforms to the named class, or the run would end
  conformed : (r : Reference) (on : Shape → Completion) (shape : Shape) → if_conforms P r on shape ≢ ends stuck → if_conforms P r on shape ≡ on shape
  conformed r on shape going = by (shape_conforms P shape r.class) refl where
    by : (b : Bool) → shape_conforms P shape r.class ≡ b → if_conforms P r on shape ≡ on shape
    by true e = rw e refl
    by false e = absurd (going (rw e refl))

  received : (r : Reference) (on : Shape → Completion) (v : Value) (others : List Value) (done : Completion)
      → with_receiver P memory r.desc (if_conforms P r on) (v ∷ others) ≢ ends stuck
      → (v ≡ Null) ⊎ RunsOn v on done
      → IsOutcome r.desc v others (with_receiver P memory r.desc (if_conforms P r on) (v ∷ others)) done
  received r on v others done going receiver = by (have_kinds (parameters_of r.desc) others) refl where
    whole : Value → Completion
    whole one = with_receiver P memory r.desc (if_conforms P r on) (one ∷ others)

    by : (kinds : Bool) → have_kinds (parameters_of r.desc) others ≡ kinds
        → IsOutcome r.desc v others (with_receiver P memory r.desc (if_conforms P r on) (v ∷ others)) done
    by false k = absurd (going (rw k refl))
    by true k = (k, of_receiver receiver) where
      of_receiver : (v ≡ Null) ⊎ RunsOn v on done
          → ((v ≡ Null) × (with_receiver P memory r.desc (if_conforms P r on) (v ∷ others) ≡ raises null_pointer))
          ⊎ ((reference : ℕ) × (v ≡ Ref reference) × (with_receiver P memory r.desc (if_conforms P r on) (v ∷ others) ≡ done))
      of_receiver (inl e) =
          let null : with_receiver P memory r.desc (if_conforms P r on) (Null ∷ others) ≡ raises null_pointer = rw k refl in
          inl (e, ap (λ one. with_receiver P memory r.desc (if_conforms P r on) (one ∷ others)) e ∙ null)
      of_receiver (inr o) =
          let same = ap (λ one. with_receiver P memory r.desc (if_conforms P r on) (one ∷ others)) o.is in
          let works : with_receiver P memory r.desc (if_conforms P r on) (Ref o.reference ∷ others) ≡ if_conforms P r on o.object.shape =
          rw (k, o.there) refl in
          let conforms = conformed r on o.object.shape (λ e. going (same ∙ works ∙ e)) in
          inr (o.reference, o.is, same ∙ works ∙ conforms ∙ o.runs)

  -- a call of a method that is not static
  outcome : (r : Reference) (on : Shape → Completion) (v : Value) (others : List Value) (done : Completion) (static : Bool) (whole : Completion)
      → whole ≡ (if static then ends stuck else with_receiver P memory r.desc (if_conforms P r on) (v ∷ others))
      → whole ≢ ends stuck
      → (v ≡ Null) ⊎ RunsOn v on done
      → IsOutcome r.desc v others whole done
  outcome r on v others done true whole is going receiver = absurd (going is)
  outcome r on v others done false whole is going receiver =
      subst (λ c. IsOutcome r.desc v others c done) (sym is) (received r on v others done (λ e. going (is ∙ e)) receiver)

  module _ (g : Coded) (r : Reference) (m : Declared) (v : Value) (others : List Value) (target : IsTarget P g.at m)
      (plain : is_polymorphic P r ≡ false) where
    -- on an object that is none of the library the method that is chosen runs
    runs_chosen : (shape : Shape) (found : Reference) → is_external shape ≡ false
        → on_receiver P shape r found (chosen (reference_to m)) (v ∷ others) ≡ calls g.at (v ∷ others)
    runs_chosen shape found inside = rw (inside, plain) (runs_target g.at m target (v ∷ others))

    -- a receiver that is tested is null, or the method runs
    pub tested_comes : (op : Op) → IsTrue (tests_receiver g.scope)
        → IsOutcome r.desc v others (work P memory op (v ∷ others)) (calls g.at (v ∷ others))
        → ComesTo P memory op (v ∷ others) g
    tested_comes op tested (kinds, inl e) = comes_to_null others tested (ap (λ one. one ∷ others) e.0) e.1
    tested_comes op tested (kinds, inr e) = comes_to_call (λ is. (e.0, others, ap (λ one. one ∷ others) e.1)) e.2

    pub virtual_outcome : P.links.method r ≡ Some (reference_to m)
        → (v ≡ Null) ⊎ RunsOn v (virtual_on P r (reference_to m) (v ∷ others)) (calls g.at (v ∷ others))
        → work P memory (call_virtual r) (v ∷ others) ≢ ends stuck
        → IsOutcome r.desc v others (work P memory (call_virtual r) (v ∷ others)) (calls g.at (v ∷ others))
    virtual_outcome link receiver going =
        outcome r (virtual_on P r (reference_to m) (v ∷ others)) v others (calls g.at (v ∷ others)) (has_flag (method_of P (reference_to m)) STATIC)
        (work P memory (call_virtual r) (v ∷ others)) (ap (λ o. call_virtual_work P memory r o (v ∷ others)) link) going receiver

    -- where selection chooses it
    pub virtual_runs : (shape : Shape) → is_external shape ≡ false
        → P.links.select (class_of_shape P shape) (reference_to m) Virtual ≡ chosen (reference_to m)
        → virtual_on P r (reference_to m) (v ∷ others) shape ≡ calls g.at (v ∷ others)
    virtual_runs shape inside selects =
        ap (λ choice. on_receiver P shape r (reference_to m) choice (v ∷ others)) selects ∙ runs_chosen shape (reference_to m) inside

    pub special_outcome : (from : Name) (found : Declared) → found_special P r ≡ Some (reference_to found)
        → (v ≡ Null) ⊎ RunsOn v (special_on P memory r from (reference_to found) (v ∷ others)) (calls g.at (v ∷ others))
        → work P memory (call_special r from) (v ∷ others) ≢ ends stuck
        → IsOutcome r.desc v others (work P memory (call_special r from) (v ∷ others)) (calls g.at (v ∷ others))
    special_outcome from found link receiver going =
        outcome r (special_on P memory r from (reference_to found) (v ∷ others)) v others (calls g.at (v ∷ others))
        (has_flag (method_of P (reference_to found)) STATIC)
        (work P memory (call_special r from) (v ∷ others)) (ap (λ o. call_found_special P memory r from o (v ∷ others)) link) going receiver

    -- a method that is no initialiser is selected from a class on
    pub special_runs : (from : Name) (found : Declared) → found.member.name ≢ init
        → P.links.select from (reference_to found) Special ≡ chosen (reference_to m)
        → (shape : Shape) → is_external shape ≡ false
        → special_on P memory r from (reference_to found) (v ∷ others) shape ≡ calls g.at (v ∷ others)
    special_runs from found other selects shape inside =
        let plain_name : bytes_eq found.member.name init ≡ false = not_init found.member.name other in
        let no_object : is_object_init (reference_to found) ≡ false =
        and_false (bytes_eq found.class object) (bytes_eq found.member.name init) plain_name in
        let choice : special_choice P from (reference_to found) ≡ chosen (reference_to m) = rw plain_name selects in
        let on : special_on P memory r from (reference_to found) (v ∷ others) shape ≡ on_receiver P shape r (reference_to found)
        (special_choice P from (reference_to found)) (v ∷ others) =
        rw no_object refl in
        on ∙ ap (λ c. on_receiver P shape r (reference_to found) c (v ∷ others)) choice ∙ runs_chosen shape (reference_to found) inside

    -- and an initialiser of a class other than java/lang/Object is itself the choice
    pub init_runs : (from : Name) → m.member.name ≡ init → m.class ≢ object → IsMethod (headers_in P) m → has m.member.flags ABSTRACT ≡ false
        → (shape : Shape) → is_external shape ≡ false
        → special_on P memory r from (reference_to m) (v ∷ others) shape ≡ calls g.at (v ∷ others)
    init_runs from is apart declares concrete shape inside =
        let named : bytes_eq m.member.name init ≡ true = (bytes_eq-Decides m.member.name init).1 is in
        let other : bytes_eq m.class object ≡ false = differ (bytes_eq m.class object) refl in
        let no_object : is_object_init (reference_to m) ≡ false = rw other refl in
        let method : method_of P (reference_to m) ≡ Some m.member = method_is P m declares in
        let flags : has_flag (method_of P (reference_to m)) ABSTRACT ≡ false = ap (λ o. has_flag o ABSTRACT) method ∙ concrete in
        let choice : special_choice P from (reference_to m) ≡ chosen (reference_to m) = rw (named, flags) refl in
        let on : special_on P memory r from (reference_to m) (v ∷ others) shape ≡ on_receiver P shape r (reference_to m)
        (special_choice P from (reference_to m)) (v ∷ others) =
        rw no_object refl in
        on ∙ ap (λ c. on_receiver P shape r (reference_to m) c (v ∷ others)) choice ∙ runs_chosen shape (reference_to m) inside where
          differ : (b : Bool) → bytes_eq m.class object ≡ b → bytes_eq m.class object ≡ false
          differ true e = absurd (apart ((bytes_eq-Decides m.class object).0 e))
          differ false e = e

    -- what a special call finds
    pub found_named : (found : Declared) → r.name ≢ init → P.links.method r ≡ Some (reference_to found)
        → found_special P r ≡ Some (reference_to found)
    found_named found other link = rw (not_init r.name other) link

    pub found_init : reference_to m ≡ r → r.name ≡ init → IsMethod (headers_in P) m → found_special P r ≡ Some (reference_to m)
    found_init same is declares =
        let named : bytes_eq r.name init ≡ true = (bytes_eq-Decides r.name init).1 is in
        let method : method_of P r ≡ Some m.member = subst (λ (x : Reference). method_of P x ≡ Some m.member) same (method_is P m declares) in
        let itself : found_special P r ≡ Some r = rw (named, method) refl in
        itself ∙ ap Some (sym same)
