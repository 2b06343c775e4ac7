-- Calls come to the same in both runs: of the same method, with a frame in both or in none.
use Rattle.std.proofs.Common.{◌≡◌, ◌&&◌, ◌||◌, ℕ, zero, suc, Bool, true, false, List, [], ◌∷◌, ◌++◌, map, slice_get, bytes_eq, is_some, Option, Some, None, option_map, if◌then◌else◌, IsSome, refl, sym, ap, subst, ◌∙◌, ◌≢◌}
use Rattle.std.proofs.lemmas.Bool.{false≢true}
use Rattle.std.proofs.lemmas.Option.{none-some, same_Some}
use Rattle.std.proofs.lemmas.Slice.Eq.{bytes_eq-Decides}
use Rattle.class_model.specs.Descriptors.{kind_of, parameters_of}
use Rattle.class_model.specs.Members.{ABSTRACT, STATIC}
use Rattle.class_model.specs.Names.{init}
use Rattle.class_model.specs.declared.class_file.MethodAt.{MethodAt}
use Rattle.class_model.specs.declared.descriptor.FieldType.{FieldType}
use Rattle.class_model.specs.declared.header.Header.{Header}
use Rattle.class_model.specs.declared.header.Member.{Member}
use Rattle.class_tree.specs.Headers.{Name, named}
use Rattle.machine_values.specs.Values.{have_kinds}
use Rattle.machine_values.specs.declared.object.Shape.{Shape}
use Rattle.machine_values.specs.declared.value.Value.{Value}
use Rattle.member_link.specs.Machine.CallSteps.{as_asked, call_dynamic_work, call_found_special, call_interface_work, call_special_work, call_static_work, call_virtual_work, if_conforms, interface_on, is_object_init, is_polymorphic, on_receiver, run_call, run_chosen, special_choice, special_on, virtual_on, with_receiver}
use Rattle.member_link.specs.Machine.Completions.{Completion}
use Rattle.member_link.specs.Machine.Programs.{Chosen, Links, Program, RunClass, RunMethod, abstract_method, chosen, code_at, first_member, folder_number, has_flag, header_named, member_of, method_of, not_public, number_of_first, place_of_method, several_defaults}
use Rattle.member_link.specs.Machine.Shapes.{class_of_shape, is_external, is_instance, shape_conforms}
use Rattle.member_link.specs.Machine.Worlds.{Memory}
use Rattle.member_link.specs.References.{Reference}
use Rattle.member_link.specs.declared.selection.CallForm.{CallForm}
use Rattle.member_link.specs.declared.selection.CallForm.TheVariants.{Virtual, Interface, Special}
use Rattle.same_runs.specs.Renamings.{Names, SameValue, same_int, same_long, same_float, same_double, same_null, same_reference, SameValues, no_values, and_value}
use Rattle.same_runs.specs.SameCompletions.{same_call, same_dynamic, SameCompletions, both_ask, both_call, both_end, both_raise}
use Rattle.same_runs.specs.SameMemories.{Apart, SameMemories}
use Rattle.same_runs.specs.SamePrograms.{SamePrograms}
use Rattle.same_runs.specs.Laws.FieldWork.{begun_both}
use Rattle.same_runs.specs.Laws.Methods.{place_is, same_code, same_no_place, same_place}
use Rattle.same_runs.specs.Laws.OperandWork.{gives_nothing, kind_same}
use Rattle.same_runs.specs.Laws.Programs.{SameAt, at_both, at_number, same_method, same_no_method, same_number}
use Rattle.same_runs.specs.Laws.Shapes.{same_class_of, same_conforms, same_instance}

-- ---- a method that its class declares has a place there

abbrev is_class : Name → RunClass → Bool
is_class name class = bytes_eq name class.header.name

abbrev is_method : Reference → RunMethod → Bool
is_method r method = member_of r method.member

abbrev headers : List RunClass → List Header
headers classes = map (λ class. class.header) classes

abbrev members : List RunMethod → List Member
members methods = map (λ method. method.member) methods

-- the class of a number is the first of its name
pub class_named_first : (name : Name) (library : List Header) (classes : List RunClass) (number : ℕ)
    → number_of_first (is_class name) classes ≡ Some number
    → (class : RunClass) × (slice_get classes number ≡ Some class) × (named name (headers classes ++ library) ≡ Some class.header)
class_named_first name library [] number is = absurd (none-some number is)
class_named_first name library (first ∷ classes) number is =
    by (is_class name first) (number_of_first (is_class name) classes) refl is (class_named_first name library classes) where
      by : (b : Bool) (found : Option ℕ) → number_of_first (is_class name) classes ≡ found
          → (if b then Some zero else option_map suc (number_of_first (is_class name) classes)) ≡ Some number
          → ((later : ℕ) → number_of_first (is_class name) classes ≡ Some later
          → (class : RunClass) × (slice_get classes later ≡ Some class) × (named name (headers classes ++ library) ≡ Some class.header))
          → (class : RunClass) × (slice_get (first ∷ classes) number ≡ Some class)
          × ((if b then Some first.header else named name (headers classes ++ library)) ≡ Some class.header)
      by true found e is rest = (first, ap (slice_get (first ∷ classes)) (sym (same_Some zero number is)), refl)
      by false None e is rest =
          let none : option_map suc (number_of_first (is_class name) classes) ≡ None = rw (e) refl in
          absurd (none-some number (sym none ∙ is))
      by false (Some later) e is rest =
          let here : suc later ≡ number = same_Some (suc later) number (sym (rw (e) refl) ∙ is) in
          let found = rest later e in
          (found.0, ap (slice_get (first ∷ classes)) (sym here) ∙ found.1, found.2)

-- a method without a number is no member
no_member : (r : Reference) (methods : List RunMethod)
    → number_of_first (is_method r) methods ≡ None
    → first_member r (members methods) ≡ None
no_member r [] none = refl
no_member r (method ∷ methods) none =
    by (member_of r method.member) (number_of_first (is_method r) methods) refl none (no_member r methods) where
      by : (b : Bool) (found : Option ℕ) → number_of_first (is_method r) methods ≡ found
          → (if b then Some zero else option_map suc (number_of_first (is_method r) methods)) ≡ None
          → (number_of_first (is_method r) methods ≡ None → first_member r (members methods) ≡ None)
          → (if b then Some method.member else first_member r (members methods)) ≡ None
      by true found e none rest = absurd (none-some zero (sym none))
      by false (Some later) e none rest =
          let some : option_map suc (number_of_first (is_method r) methods) ≡ Some (suc later) = rw (e) refl in
          absurd (none-some (suc later) (sym none ∙ some))
      by false None e none rest = rest e

-- a method that is no instance initialiser, or that its class declares in the first program: the second has it where the first has it
pub data IsKnown (P : Program) (r : Reference) : Type 0 where
  other_name : r.name ≢ init → IsKnown P r
  is_declared : IsSome (method_of P r) → IsKnown P r

module _ {P Q : Program} (same : SamePrograms P Q) where
  no_place_declared : (r : Reference) → IsSome (method_of P r) → place_of_method P r ≡ None → place_of_method Q r ≡ None
  no_place_declared r there none = by (folder_number P r.class) refl where
    in_class : (number : ℕ) (class : RunClass) (one other : Option RunClass)
        → folder_number P r.class ≡ Some number
        → slice_get P.classes number ≡ one
        → one ≡ Some class
        → SameAt P one other
        → header_named P r.class ≡ Some class.header
        → place_of_method Q r ≡ None
    in_class number class None other where_ here is alike header = absurd (none-some class is)
    in_class number class (Some one) None where_ here is impossible header = elim impossible [ ]
    in_class number class (Some one) (Some other) where_ here is (at_both alike) header =
        found (number_of_first (is_method r) one.methods) refl where
          found : (at_number : Option ℕ) → number_of_first (is_method r) one.methods ≡ at_number
              → place_of_method Q r ≡ None
          found (Some method) e =
              let place : Some (record { class = number; method = method }) ≡ None = sym (rw (where_, here, e) refl) ∙ none in
              absurd (none-some (record { class = number; method = method }) (sym place))
          found None e =
              let missing : first_member r class.header.methods ≡ None =
              ap (λ (c : RunClass). first_member r c.header.methods) (sym (same_Some one class is))
              ∙ ap (first_member r) (sym alike.members) ∙ no_member r one.methods e in
              let no_method : method_of P r ≡ None = rw (header) missing in
              absurd (false≢true (subst IsSome no_method there))

    by : (found : Option ℕ) → folder_number P r.class ≡ found → place_of_method Q r ≡ None
    by None where_ = rw (same_number same r.class, where_) refl
    by (Some number) where_ =
        let class = class_named_first r.class P.library P.classes number where_ in
        in_class number class.0 (slice_get P.classes number) (slice_get Q.classes number)
        where_ refl class.1 (at_number same number) class.2

  pub known_place : (r : Reference) → IsKnown P r → place_of_method Q r ≡ place_of_method P r
  known_place r known = by (place_of_method P r) refl known where
    by : (found : Option MethodAt) → place_of_method P r ≡ found → IsKnown P r → place_of_method Q r ≡ place_of_method P r
    by (Some at) is known = same_place same r at is ∙ sym is
    by None is (other_name differs) = same_no_place same r differs is ∙ sym is
    by None is (is_declared there) = no_place_declared r there is ∙ sym is

  pub known_method : (r : Reference) → IsKnown P r → method_of Q r ≡ method_of P r
  known_method r known = by (method_of P r) refl known where
    by : (found : Option Member) → method_of P r ≡ found → IsKnown P r → method_of Q r ≡ method_of P r
    by (Some member) is known = same_method same r member is ∙ sym is
    by None is (other_name differs) = same_no_method same r differs is ∙ sym is
    by None is (is_declared there) = absurd (false≢true (subst IsSome is there))

  pub same_polymorphic : (r : Reference) → is_polymorphic Q r ≡ is_polymorphic P r
  same_polymorphic r = rw (same_number same r.class) refl

  pub same_asked : (r found : Reference) → as_asked Q r found ≡ as_asked P r found
  same_asked r found = ap (λ (b : Bool). if b then record found { desc = r.desc } else found) (same_polymorphic r)

  pub same_found : (r : Reference) → Q.links.method r ≡ P.links.method r
  same_found r = ap (λ (links : Links). links.method r) same.links

  pub same_select : (shape : Shape) (r : Reference) (form : CallForm)
      → Q.links.select (class_of_shape Q shape) r form ≡ P.links.select (class_of_shape P shape) r form
  same_select shape r form =
      ap (λ (links : Links). links.select (class_of_shape Q shape) r form) same.links
      ∙ ap (λ (receiver : Name). P.links.select receiver r form) (same_class_of same shape)

module _ {P Q : Program} {Allocated Entered : ℕ → ℕ → Type 0} {apart : Apart} {names : Names} {one other : Memory}
    (same : SamePrograms P Q) (memories : SameMemories P Allocated Entered apart names [] one other) where
  abbrev Both : Completion → Completion → Type 0
  Both completion also = SameCompletions P Allocated Entered apart names one other completion also

  -- ---- arguments

  pub kinds_same : (types : List FieldType) {ones others : List Value} → SameValues names ones others
      → have_kinds types others ≡ have_kinds types ones
  kinds_same [] no_values = refl
  kinds_same [] (and_value is are) = refl
  kinds_same (type ∷ types) no_values = refl
  kinds_same (type ∷ types) (and_value is are) = rw (kind_same same memories (kind_of type) is, kinds_same types are) refl

  receives : (desc : List ℕ) (f g : Shape → Completion) → ((shape : Shape) → Both (f shape) (g shape)) → {ones others : List Value}
      → SameValues names ones others
      → Both (with_receiver P one desc f ones) (with_receiver Q other desc g others)
  receives desc f g each no_values = both_end
  receives desc f g each (and_value {one = receiver} {other = also} {ones = ones} {others = others} is are) =
      by (have_kinds (parameters_of desc) ones) refl is where
        by : {value value_also : Value} (b : Bool) → have_kinds (parameters_of desc) ones ≡ b → SameValue names value value_also
            → Both (with_receiver P one desc f (value ∷ ones)) (with_receiver Q other desc g (value_also ∷ others))
        by false e is = rw (e, kinds_same (parameters_of desc) are ∙ e) both_end
        by true e same_int = rw (e, kinds_same (parameters_of desc) are ∙ e) both_end
        by true e same_long = rw (e, kinds_same (parameters_of desc) are ∙ e) both_end
        by true e same_float = rw (e, kinds_same (parameters_of desc) are ∙ e) both_end
        by true e same_double = rw (e, kinds_same (parameters_of desc) are ∙ e) both_end
        by true e same_null = rw (e, kinds_same (parameters_of desc) are ∙ e) both_raise
        by true e (same_reference {reference = reference} {named = named} is) =
            let old = memories.heaps.objects reference named is in
            rw (e, kinds_same (parameters_of desc) are ∙ e, old.2, old.3, old.4.shape) (each old.0.shape)

  -- ---- the method that runs

  runs : (method : Reference) → IsKnown P method → {ones others : List Value} → SameValues names ones others
      → Both (run_call P method ones) (run_call Q method others)
  runs method known {ones = ones} {others = others} are = by (place_of_method P method) refl where
    at_place : (at : MethodAt) (b : Bool) → place_of_method P method ≡ Some at → is_some (code_at P at) ≡ b → is_some (code_at Q at) ≡ b
        → Both (run_call P method ones) (run_call Q method others)
    at_place at true is e e_also = rw (is, known_place same method known ∙ is, e, e_also) (both_call are)
    at_place at false is e e_also = rw (is, known_place same method known ∙ is, e, e_also) (both_ask (same_call are))

    by : (found : Option MethodAt) → place_of_method P method ≡ found → Both (run_call P method ones) (run_call Q method others)
    by None is = rw (is, known_place same method known ∙ is) (both_ask (same_call are))
    by (Some at) is =
        let method_there = place_is P method at is in
        at_place at (is_some (code_at P at)) is refl (same_code same at method_there.0 method_there.1)

  runs_chosen : (choice : Chosen) → ((found : Reference) → choice ≡ chosen found → IsKnown P found) → {ones others : List Value}
      → SameValues names ones others
      → Both (run_chosen P choice ones) (run_chosen Q choice others)
  runs_chosen (chosen found) known are = runs found (known found refl) are
  runs_chosen abstract_method known are = both_raise
  runs_chosen several_defaults known are = both_raise
  runs_chosen not_public known are = both_raise

  on_shape : (shape : Shape) (r found : Reference) (choice also : Chosen) → also ≡ choice
      → ((method : Reference) → choice ≡ chosen method → IsKnown P method)
      → {ones others : List Value} → SameValues names ones others
      → Both (on_receiver P shape r found choice ones) (on_receiver Q shape r found also others)
  on_shape shape r found choice also same_choice known {ones = ones} {others = others} are =
      by (is_external shape || is_polymorphic P r) refl where
        test : (is_external shape || is_polymorphic Q r) ≡ (is_external shape || is_polymorphic P r)
        test = ap (λ (b : Bool). is_external shape || b) (same_polymorphic same r)

        by : (b : Bool) → (is_external shape || is_polymorphic P r) ≡ b
            → Both (on_receiver P shape r found choice ones) (on_receiver Q shape r found also others)
        by true e = rw (e, test ∙ e, same_asked same r found) (both_ask (same_call are))
        by false e = rw (e, test ∙ e, same_choice) (runs_chosen choice known are)

  conforms : (r : Reference) (f g : Shape → Completion) → ((shape : Shape) → Both (f shape) (g shape)) → (shape : Shape)
      → Both (if_conforms P r f shape) (if_conforms Q r g shape)
  conforms r f g each shape = by (shape_conforms P shape r.class) refl where
    by : (b : Bool) → shape_conforms P shape r.class ≡ b → Both (if_conforms P r f shape) (if_conforms Q r g shape)
    by true e = rw (e, same_conforms same shape r.class ∙ e) (each shape)
    by false e = rw (e, same_conforms same shape r.class ∙ e) both_end

  -- what is selected for a method that is no instance initialiser is none
  selected : (shape : Shape) (found : Reference) (form : CallForm) → found.name ≢ init → (method : Reference)
      → P.links.select (class_of_shape P shape) found form ≡ chosen method → IsKnown P method
  selected shape found form differs method is = other_name (same.no_init.selected (class_of_shape P shape) found method form differs is)

  -- ---- static methods

  calls_static_of : (r : Reference) (found : Option Reference) → ((method : Reference) → found ≡ Some method → method.name ≢ init)
      → {ones others : List Value} → SameValues names ones others
      → Both (call_static_work P one r found ones) (call_static_work Q other r found others)
  calls_static_of r None differs are = both_end
  calls_static_of r (Some found) differs {ones = ones} {others = others} are =
      by (has_flag (method_of P found) STATIC && have_kinds (parameters_of r.desc) ones) refl where
        known : IsKnown P (as_asked P r found)
        known = by_name (is_polymorphic P r) where
          by_name : (b : Bool) → IsKnown P (if b then record found { desc = r.desc } else found)
          by_name true = other_name (differs found refl)
          by_name false = other_name (differs found refl)

        test : (has_flag (method_of Q found) STATIC && have_kinds (parameters_of r.desc) others)
            ≡ (has_flag (method_of P found) STATIC && have_kinds (parameters_of r.desc) ones)
        test = rw (known_method same found (other_name (differs found refl)), kinds_same (parameters_of r.desc) are) refl

        run : Both (run_call P (as_asked P r found) ones) (run_call Q (as_asked Q r found) others)
        run = rw (same_asked same r found) (runs (as_asked P r found) known are)

        by : (b : Bool) → (has_flag (method_of P found) STATIC && have_kinds (parameters_of r.desc) ones) ≡ b
            → Both (call_static_work P one r (Some found) ones) (call_static_work Q other r (Some found) others)
        by false e = rw (e, test ∙ e) both_end
        by true e = rw (e, test ∙ e) (begun_both same memories found.class _ _ (λ none. run) (λ number is begun. run))

  pub calls_static : (r : Reference) {ones others : List Value} → SameValues names ones others
      → Both (call_static_work P one r (P.links.method r) ones) (call_static_work Q other r (Q.links.method r) others)
  calls_static r {ones = ones} {others = others} are =
      subst (λ found. Both (call_static_work P one r (P.links.method r) ones) (call_static_work Q other r found others))
      (sym (same_found same r))
      (calls_static_of r (P.links.method r) (same.no_init.found r) are)

  -- ---- methods of an object

  calls_virtual_of : (r : Reference) (found : Option Reference) → ((method : Reference) → found ≡ Some method → method.name ≢ init)
      → {ones others : List Value} → SameValues names ones others
      → Both (call_virtual_work P one r found ones) (call_virtual_work Q other r found others)
  calls_virtual_of r None differs are = both_end
  calls_virtual_of r (Some found) differs {ones = ones} {others = others} are = by (has_flag (method_of P found) STATIC) refl where
    test : has_flag (method_of Q found) STATIC ≡ has_flag (method_of P found) STATIC
    test = ap (λ (member : Option Member). has_flag member STATIC) (known_method same found (other_name (differs found refl)))

    on : (shape : Shape) → Both (virtual_on P r found ones shape) (virtual_on Q r found others shape)
    on shape =
        on_shape shape r found
        (P.links.select (class_of_shape P shape) found Virtual)
        (Q.links.select (class_of_shape Q shape) found Virtual)
        (same_select same shape found Virtual)
        (selected shape found Virtual (differs found refl)) are

    by : (b : Bool) → has_flag (method_of P found) STATIC ≡ b
        → Both (call_virtual_work P one r (Some found) ones) (call_virtual_work Q other r (Some found) others)
    by true e = rw (e, test ∙ e) both_end
    by false e = rw (e, test ∙ e) (receives r.desc _ _ (conforms r _ _ on) are)

  pub calls_virtual : (r : Reference) {ones others : List Value} → SameValues names ones others
      → Both (call_virtual_work P one r (P.links.method r) ones) (call_virtual_work Q other r (Q.links.method r) others)
  calls_virtual r {ones = ones} {others = others} are =
      subst (λ found. Both (call_virtual_work P one r (P.links.method r) ones) (call_virtual_work Q other r found others))
      (sym (same_found same r))
      (calls_virtual_of r (P.links.method r) (same.no_init.found r) are)

  calls_interface_of : (r : Reference) (found : Option Reference) → ((method : Reference) → found ≡ Some method → method.name ≢ init)
      → {ones others : List Value} → SameValues names ones others
      → Both (call_interface_work P one r found ones) (call_interface_work Q other r found others)
  calls_interface_of r None differs are = both_end
  calls_interface_of r (Some found) differs {ones = ones} {others = others} are = by (has_flag (method_of P found) STATIC) refl where
    test : has_flag (method_of Q found) STATIC ≡ has_flag (method_of P found) STATIC
    test = ap (λ (member : Option Member). has_flag member STATIC) (known_method same found (other_name (differs found refl)))

    on : (shape : Shape) → Both (interface_on P r found ones shape) (interface_on Q r found others shape)
    on shape = tested (is_instance P shape r.class) refl where
      tested : (b : Bool) → is_instance P shape r.class ≡ b → Both (interface_on P r found ones shape) (interface_on Q r found others shape)
      tested false e = rw (e, same_instance same shape r.class ∙ e) both_raise
      tested true e = rw (e, same_instance same shape r.class ∙ e)
          (on_shape shape r found
          (P.links.select (class_of_shape P shape) found Interface)
          (Q.links.select (class_of_shape Q shape) found Interface)
          (same_select same shape found Interface)
          (selected shape found Interface (differs found refl)) are)

    by : (b : Bool) → has_flag (method_of P found) STATIC ≡ b
        → Both (call_interface_work P one r (Some found) ones) (call_interface_work Q other r (Some found) others)
    by true e = rw (e, test ∙ e) both_end
    by false e = rw (e, test ∙ e) (receives r.desc _ _ on are)

  pub calls_interface : (r : Reference) {ones others : List Value} → SameValues names ones others
      → Both (call_interface_work P one r (P.links.method r) ones) (call_interface_work Q other r (Q.links.method r) others)
  calls_interface r {ones = ones} {others = others} are =
      subst (λ found. Both (call_interface_work P one r (P.links.method r) ones) (call_interface_work Q other r found others))
      (sym (same_found same r))
      (calls_interface_of r (P.links.method r) (same.no_init.found r) are)

  -- ---- special calls

  special_choice_same : (from : Name) (found : Reference) → IsKnown P found → special_choice Q from found ≡ special_choice P from found
  special_choice_same from found known = rw (known_method same found known, same.links) refl

  -- the found instance initialiser itself, or what is selected
  special_known : (from : Name) (found : Reference) → IsKnown P found → (method : Reference) → special_choice P from found ≡ chosen method
      → IsKnown P method
  special_known from found known method is = by (bytes_eq found.name init) refl where
    itself : (b : Bool) → bytes_eq found.name init ≡ true → has_flag (method_of P found) ABSTRACT ≡ b → IsKnown P method
    itself true e abstract =
        let here : abstract_method ≡ chosen method = sym (rw (e, abstract) refl) ∙ is in
        absurd (cc here)
    itself false e concrete =
        let here : chosen found ≡ chosen method = sym (rw (e, concrete) refl) ∙ is in
        subst (IsKnown P) (cc here) known

    by : (b : Bool) → bytes_eq found.name init ≡ b → IsKnown P method
    by true e = itself (has_flag (method_of P found) ABSTRACT) e refl
    by false e =
        let here : P.links.select from found Special ≡ chosen method = sym (rw (e) refl) ∙ is in
        let differs : found.name ≢ init = λ is_init. false≢true (sym e ∙ (bytes_eq-Decides found.name init).1 is_init) in
        other_name (same.no_init.selected from found method Special differs here)

  calls_found : (r : Reference) (from : Name) (found : Option Reference) → ((method : Reference) → found ≡ Some method → IsKnown P method)
      → {ones others : List Value} → SameValues names ones others
      → Both (call_found_special P one r from found ones) (call_found_special Q other r from found others)
  calls_found r from None known are = both_end
  calls_found r from (Some found) known {ones = ones} {others = others} are = by (has_flag (method_of P found) STATIC) refl where
    test : has_flag (method_of Q found) STATIC ≡ has_flag (method_of P found) STATIC
    test = ap (λ (member : Option Member). has_flag member STATIC) (known_method same found (known found refl))

    on : (shape : Shape) → Both (special_on P one r from found ones shape) (special_on Q other r from found others shape)
    on shape = tested (is_object_init found) refl where
      tested : (b : Bool) → is_object_init found ≡ b
          → Both (special_on P one r from found ones shape) (special_on Q other r from found others shape)
      tested true e = rw (e) (gives_nothing same memories)
      tested false e = rw (e)
          (on_shape shape r found (special_choice P from found) (special_choice Q from found)
          (special_choice_same from found (known found refl))
          (special_known from found (known found refl)) are)

    by : (b : Bool) → has_flag (method_of P found) STATIC ≡ b
        → Both (call_found_special P one r from (Some found) ones) (call_found_special Q other r from (Some found) others)
    by true e = rw (e, test ∙ e) both_end
    by false e = rw (e, test ∙ e) (receives r.desc _ _ (conforms r _ _ on) are)

  -- an instance initialiser that is called is declared in the first program
  pub calls_special : (r : Reference) (from : Name) → (r.name ≡ init → IsSome (method_of P r)) → {ones others : List Value}
      → SameValues names ones others
      → Both (call_special_work P one r from ones) (call_special_work Q other r from others)
  calls_special r from declared {ones = ones} {others = others} are = by (bytes_eq r.name init) refl where
    by : (b : Bool) → bytes_eq r.name init ≡ b → Both (call_special_work P one r from ones) (call_special_work Q other r from others)
    by true e =
        let there = declared ((bytes_eq-Decides r.name init).0 e) in
        let there_also : is_some (method_of Q r) ≡ true =
        ap (λ (member : Option Member). is_some member) (known_method same r (is_declared there)) ∙ there in
        rw (e, there, there_also)
        (calls_found r from (Some r)
        (λ method is. is_declared (subst (λ (m : Reference). IsSome (method_of P m)) (same_Some r method is) there)) are)
    by false e = rw (e)
        (subst
        (λ found. Both (call_found_special P one r from (P.links.method r) ones) (call_found_special Q other r from found others))
        (sym (same_found same r))
        (calls_found r from (P.links.method r) (λ method is. other_name (same.no_init.found r method is)) are))

  -- ---- dynamic calls

  pub calls_dynamic : (class : Name) (bootstrap : ℕ) (name desc : List ℕ) {ones others : List Value} → SameValues names ones others
      → Both (call_dynamic_work class bootstrap name desc ones) (call_dynamic_work class bootstrap name desc others)
  calls_dynamic class bootstrap name desc {ones = ones} {others = others} are = by (have_kinds (parameters_of desc) ones) refl where
    by : (b : Bool) → have_kinds (parameters_of desc) ones ≡ b
        → Both (call_dynamic_work class bootstrap name desc ones) (call_dynamic_work class bootstrap name desc others)
    by true e = rw (e, kinds_same (parameters_of desc) are ∙ e) (both_ask (same_dynamic are))
    by false e = rw (e, kinds_same (parameters_of desc) are ∙ e) both_end
