-- It is decided which method of the folder a call runs.
use Rattle.std.proofs.Common.{◌≡◌, ◌⊎◌, ◌==◌, not, cond, ℕ, Bool, true, false, List, [], ◌∷◌, slice_get, codes, Option, Some, None, IsTrue, IsFalse, refl, sym, ap, subst, ◌∙◌, inl, inr, eqb-true}
use Rattle.std.proofs.lemmas.Bool.{and_parts, cases_eq, false≢true}
use Rattle.std.proofs.lemmas.Option.{none-some, same_Some}
use Rattle.class_model.specs.Characters.{left_bracket}
use Rattle.class_model.specs.Laws.Decisions.{Decision, both, denied, either, is_false, mapped}
use Rattle.class_model.specs.Members.{has, PRIVATE, STATIC}
use Rattle.class_model.specs.Names.{init}
use Rattle.class_model.specs.declared.class_file.MethodAt.{MethodAt}
use Rattle.class_model.specs.declared.header.Header.{Header}
use Rattle.class_model.specs.declared.header.Member.{Member}
use Rattle.class_model.specs.declared.opcodes.TheConstants.{INVOKESPECIAL, INVOKESTATIC, INVOKEVIRTUAL}
use Rattle.class_tree.specs.Headers.{Classes, Headers, Name, class_named, headers_of, named}
use Rattle.class_tree.specs.Hierarchy.{IsHierarchy}
use Rattle.class_tree.specs.Laws.Decided.{same_bytes}
use Rattle.class_tree.specs.Laws.Headers.{own_name, same_class}
use Rattle.class_tree.specs.Names.{method_handle, object}
use Rattle.class_tree.specs.Order.{member_place, place_of}
use Rattle.class_tree.specs.Subtype.{IsArray, IsBelow}
use Rattle.class_tree.specs.declared.place.Place.{Place}
use Rattle.class_tree.specs.declared.place.Place.TheVariants.{Folder, Library}
use Rattle.expanded_code.specs.Callees.{Calls, Finds, IsClass, IsOverriddenByNone, Runs, StandsAt, own_name as name_of, runs_special, runs_static, runs_virtual}
use Rattle.expanded_code.specs.Laws.Searches.{HasOne, HasSome, given, is_item, one_decided, some_decided, three}
use Rattle.inline_expand.proofs.CalledMethods.{decides_call, read_call}
use Rattle.inline_expand.proofs.DecidedRuns.{HasLaws, finds_nothing, finds_once, of_other, of_special, of_static, of_virtual, runs_once, special_selects}
use Rattle.inline_expand.proofs.DecidedWords.{HasAnswers, class_decided, same_member}
use Rattle.inline_expand.proofs.OverridingMethods.{may_of}
use Rattle.inline_expand.specs.Inner.Calls.{Called, DecidesRun, call_at, called_as}
use Rattle.member_link.specs.Declarations.{IsFolderMethod}
use Rattle.member_link.specs.DeclaredMembers.{Declared, declared, declared_by}
use Rattle.member_link.specs.Laws.FolderClasses.{class_of_folder, folder_index}
use Rattle.member_link.specs.Laws.OwnMembers.{own_of_declared}
use Rattle.member_link.specs.Methods.{FindsMethod, IsInLibrary, IsPolymorphic}
use Rattle.member_link.specs.Overriding.{Overrides}
use Rattle.member_link.specs.References.{Reference}
use Rattle.member_link.specs.Scope.{Scope}
use Rattle.member_link.specs.Selection.{Choice, Chooses, IsOrOverrides, Selects, by_default, chosen_method, first_upwards, of_initialiser, of_interface, of_private, of_special as selects_special, of_virtual as selects_virtual, start_of}
use Rattle.member_link.specs.Upwards.{FirstUpwards, in_absent_class, in_itself, in_no_superclass, in_superclass}
use Rattle.member_link.specs.declared.selection.CallForm.{CallForm}
use Rattle.member_link.specs.declared.selection.CallForm.TheVariants.{Special, Virtual}

-- ---- names and tests

start_same : (name : Name) → ¬ IsArray name → start_of name ≡ name
start_same [] flat = refl
start_same (first ∷ rest) flat = by (first == left_bracket) refl where
  by : (test : Bool) → (first == left_bracket) ≡ test → cond test object (first ∷ rest) ≡ first ∷ rest
  by true same = absurd (flat (rest, ap (λ (b : ℕ). b ∷ rest) (eqb-true first left_bracket same)))
  by false differ = refl

not_true : (test : Bool) → IsTrue (not test) → IsFalse test
not_true true is = absurd (false≢true is)
not_true false is = refl

-- ---- methods of the folder that override another

module _ (headers : Headers) (hierarchy : IsHierarchy headers) (answers : HasAnswers headers) (high : Declared) where
  -- of the first upwards that counts: whether that counts which its class declares
  counts_itself : {Counts : Declared → Type 0} {name desc : List ℕ} {class : Name} {found : Option Declared}
      → FirstUpwards headers Counts name desc class found
      → (header : Header) (member : Member)
      → class_named headers class ≡ Some header
      → declared name desc header.methods ≡ Some member
      → Decision (Counts (declared_by class member))
  counts_itself {Counts} {name} {desc} (in_itself class other own other_is own_is counts) header member is declares =
      inl (subst (λ (m : Member). Counts (declared_by class m))
      (same_Some own member (sym own_is ∙ ap (λ (h : Header). declared name desc h.methods) (same_class headers class other header other_is is) ∙ declares)) counts)
  counts_itself {Counts} {name} {desc} (in_superclass class above other found other_is passed some rest) header member is declares =
      inr (passed member (ap (λ (h : Header). declared name desc h.methods) (same_class headers class other header other_is is) ∙ declares))
  counts_itself {Counts} {name} {desc} (in_no_superclass class other other_is passed none) header member is declares =
      inr (passed member (ap (λ (h : Header). declared name desc h.methods) (same_class headers class other header other_is is) ∙ declares))
  counts_itself (in_absent_class class none) header member is declares = absurd (none-some header (sym none ∙ is))

  of_chosen : {Counts : Declared → Type 0} {of_method : Declared → Choice} {class : Name} {name desc : List ℕ} {choice : Choice}
      → Chooses headers Counts of_method class name desc choice
      → (header : Header) (member : Member)
      → class_named headers class ≡ Some header
      → declared name desc header.methods ≡ Some member
      → Decision (Counts (declared_by class member))
  of_chosen (first_upwards method first) header member is declares = counts_itself first header member is declares
  of_chosen (by_default choice first other) header member is declares = counts_itself first header member is declares

  of_selected : {receiver : Name} {form : CallForm} {choice : Choice}
      → Selects headers receiver high form choice
      → form ≡ Virtual
      → IsFalse (has high.member.flags PRIVATE)
      → (header : Header) (member : Member)
      → class_named headers (start_of receiver) ≡ Some header
      → declared high.member.name high.member.desc header.methods ≡ Some member
      → Decision (IsOrOverrides headers high (declared_by (start_of receiver) member))
  of_selected (of_private is_private) form open_ header member is declares = absurd (false≢true (sym open_ ∙ is_private))
  of_selected (selects_virtual choice not_private chooses) form open_ header member is declares = of_chosen chooses header member is declares
  of_selected (of_interface choice chooses) form open_ header member is declares = absurd cc
  of_selected (of_initialiser is_named) form open_ header member is declares = absurd cc
  of_selected (selects_special choice is_named chooses) form open_ header member is declares = absurd cc

  not_itself : (low : Declared) → Decision (IsOrOverrides headers high low) → Decision (Overrides headers low high)
  not_itself low (inl (inl same)) = inr (λ overrides. hierarchy.acyclic high.class (subst (λ (d : Declared). IsBelow headers d.class high.class) same (may_of overrides).below))
  not_itself low (inl (inr overrides)) = inl overrides
  not_itself low (inr neither) = inr (λ overrides. neither (inr overrides))

  is_or_overrides : (low : Declared) → IsFolderMethod headers low → IsFalse (has high.member.flags PRIVATE)
      → low.member.name ≡ high.member.name → low.member.desc ≡ high.member.desc
      → Decision (IsOrOverrides headers high low)
  is_or_overrides low folder open_ name desc =
      let is : class_named headers low.class ≡ Some folder.header = class_of_folder headers low.class folder.header folder.found in
      let start : start_of low.class ≡ low.class = start_same low.class (λ array. none-some folder.header (sym (hierarchy.no_array low.class array) ∙ is)) in
      let declares : declared high.member.name high.member.desc folder.header.methods ≡ Some low.member =
      ap (λ (n : List ℕ). declared n high.member.desc folder.header.methods) (sym name)
      ∙ ap (λ (d : List ℕ). declared low.member.name d folder.header.methods) (sym desc)
      ∙ folder.declares in
      subst (λ (class : Name). Decision (IsOrOverrides headers high (declared_by class low.member))) start
      (of_selected (answers.select_is low.class high Virtual) refl open_ folder.header low.member (ap (class_named headers) start ∙ is) declares)

  overrides_decided : (low : Declared) → IsFolderMethod headers low → Decision (Overrides headers low high)
  overrides_decided low folder = by (is_false (has high.member.flags PRIVATE)) (both (same_bytes low.member.name high.member.name) (same_bytes low.member.desc high.member.desc)) where
    by : Decision (IsFalse (has high.member.flags PRIVATE)) → Decision ((low.member.name ≡ high.member.name) × (low.member.desc ≡ high.member.desc))
        → Decision (Overrides headers low high)
    by (inr is_private) same = inr (λ overrides. is_private (not_true (has high.member.flags PRIVATE)
        (and_parts (not (has high.member.flags PRIVATE)) (not (has high.member.flags STATIC)) (may_of overrides).high_inherited).0))
    by (inl open_) (inr differ) = inr (λ overrides. differ ((may_of overrides).same_name, (may_of overrides).same_desc))
    by (inl open_) (inl same) = not_itself low (is_or_overrides low folder open_ same.0 same.1)

  folder_method_decided : (low : Declared) → Decision (IsFolderMethod headers low)
  folder_method_decided low =
      mapped (λ some. record { header = some.item; found = some.is; declares = some.holds }) (λ folder. record { item = folder.header; is = folder.found; holds = folder.declares })
      (some_decided (named low.class headers.folder) (λ header. declared low.member.name low.member.desc header.methods ≡ Some low.member)
      (λ header is. is_item same_member (declared low.member.name low.member.desc header.methods) low.member))

  abbrev IsOverriding : Name → Member → Type 0
  IsOverriding class member = IsFolderMethod headers (declared_by class member) × Overrides headers (declared_by class member) high

  abbrev OneOverrides : Type 0
  OneOverrides = HasOne headers.folder (λ number header. HasOne header.methods (λ place member. IsOverriding header.name member))

  one_overrides : (low : Declared) → IsFolderMethod headers low → Overrides headers low high → OneOverrides
  one_overrides low folder overrides =
      let stands = folder_index headers low.class folder.header folder.found in
      let place = own_of_declared low.member.name low.member.desc folder.header.methods low.member folder.declares in
      let own : folder.header.name ≡ low.class = own_name headers low.class folder.header (class_of_folder headers low.class folder.header folder.found) in
      record {
        number = stands.0;
        item = folder.header;
        is = stands.1;
        holds = record { number = place.0; item = low.member; is = place.2; holds = subst (λ (class : Name). IsOverriding class low.member) (sym own) (folder, overrides) };
      }

  pub overridden_decided : Decision (IsOverriddenByNone headers high)
  overridden_decided =
      mapped (λ none low folder overrides. none (one_overrides low folder overrides))
      (λ none one. none (declared_by one.item.name one.holds.item) one.holds.holds.0 one.holds.holds.1)
      (denied (one_decided headers.folder (λ number header. HasOne header.methods (λ place member. IsOverriding header.name member))
      (λ number header is. one_decided header.methods (λ place member. IsOverriding header.name member)
      (λ place member there. given (folder_method_decided (declared_by header.name member)) (overrides_decided (declared_by header.name member))))))

-- ---- the method that a call runs

module _ (classes : Classes) (hierarchy : IsHierarchy (headers_of classes)) (answers : HasAnswers (headers_of classes)) (laws : HasLaws) where
  abbrev headers : Headers
  headers = headers_of classes

  -- the numbers of a method in the folder
  stands_decided : (method : Declared) → Decision ((callee : MethodAt) × StandsAt classes callee method)
  stands_decided method =
      mapped (λ one. (
        record { class = one.number; method = one.holds.1.item },
        record { header = one.item; at = one.is; own_class = one.holds.0; stands = one.holds.1.holds; first = one.holds.1.is; same_flags = refl },
      )) (λ some. record {
        number = some.0.class;
        item = some.1.header;
        is = some.1.at;
        holds = (some.1.own_class, record { item = some.0.method; is = some.1.first; holds = some.1.stands });
      })
      (one_decided headers.folder (λ class header. (header.name ≡ method.class)
      × HasSome (member_place method.member.name method.member.desc header.methods) (λ number. slice_get header.methods number ≡ Some method.member))
      (λ class header is. both (same_bytes header.name method.class)
      (some_decided (member_place method.member.name method.member.desc header.methods) (λ number. slice_get header.methods number ≡ Some method.member)
      (λ number first. is_item same_member (slice_get header.methods number) method.member))))

  in_library : (name : Name) → Decision (IsInLibrary headers name)
  in_library name = by (place_of headers name) refl where
    by : (place : Option Place) → place_of headers name ≡ place → Decision (IsInLibrary headers name)
    by None none = inr (λ in_it. none-some (Library in_it.0) (sym none ∙ in_it.1))
    by (Some (Folder number)) is = inr (λ in_it. let e : Folder number ≡ Library in_it.0 = same_Some (Folder number) (Library in_it.0) (sym is ∙ in_it.1) in absurd cc)
    by (Some (Library number)) is = inl (number, is)

  module _ (own : Name) (reference : Reference) where
    polymorphic_decided : Decision (IsPolymorphic headers reference.class reference.name)
    polymorphic_decided =
        three (same_bytes reference.class method_handle) (either (same_bytes reference.name (codes "invoke")) (same_bytes reference.name (codes "invokeExact")))
        (in_library reference.class)

    abbrev RunsOne : ℕ → Type 0
    RunsOne opcode = (method : Declared) × Runs headers own reference opcode method

    finds_decided : Decision ((method : Declared) × Finds headers reference method)
    finds_decided = by (answers.method reference) (answers.method_is reference) where
      by : (found : Option Declared) → FindsMethod headers reference.class reference.name reference.desc found → Decision ((method : Declared) × Finds headers reference method)
      by (Some method) finds = inl (method, finds)
      by None finds = inr (λ some. finds_nothing laws.looks_up finds some.1)

    static_decided : Decision (RunsOne INVOKESTATIC)
    static_decided = mapped (λ some. (some.0, runs_static some.0 some.1)) (λ some. (some.0, of_static some.1 refl)) finds_decided

    virtual_decided : Decision (RunsOne INVOKEVIRTUAL)
    virtual_decided = by finds_decided where
      by : Decision ((method : Declared) × Finds headers reference method) → Decision (RunsOne INVOKEVIRTUAL)
      by (inr none) = inr (λ some. none (some.0, (of_virtual some.1 refl).finds))
      by (inl found) =
          mapped (λ h. (found.0, runs_virtual found.0 found.1 h.0 h.1)) (λ some.
          let run = of_virtual some.1 refl in
          let same : some.0 ≡ found.0 = finds_once laws.looks_up run.finds found.1 in
          (subst (λ (d : Declared). IsClass headers d.class) same run.of_class, subst (IsOverriddenByNone headers) same run.alone))
          (both (class_decided headers found.0.class) (overridden_decided headers hierarchy answers found.0))

    abbrev MaySelect : Declared → Type 0
    MaySelect found = (IsClass headers own ⊎ (reference.name ≡ init)) × (¬ IsPolymorphic headers reference.class reference.name) × IsFalse (has found.member.flags STATIC)

    of_choice : (found : Declared) → Finds headers reference found → MaySelect found → (choice : Choice) → Selects headers (answers.start own reference.class) found Special choice
        → Decision (RunsOne INVOKESPECIAL)
    of_choice found finds may (chosen_method method) selects =
        inl (method, runs_special found method (answers.start own reference.class) may.0 may.1 finds may.2 (answers.start_is own reference.class) selects)
    of_choice found finds may other selects = inr (λ some.
        let same : chosen_method some.0 ≡ other = special_selects laws (of_special some.1 refl) finds (answers.start_is own reference.class) selects in absurd cc)

    of_found : (found : Declared) → Finds headers reference found → Decision (MaySelect found) → Decision (RunsOne INVOKESPECIAL)
    of_found found finds (inl may) =
        of_choice found finds may (answers.select (answers.start own reference.class) found Special) (answers.select_is (answers.start own reference.class) found Special)
    of_found found finds (inr fails) = inr (λ some.
        let run = of_special some.1 refl in
        fails (run.may, run.plain, subst (λ (d : Declared). IsFalse (has d.member.flags STATIC)) (finds_once laws.looks_up run.finds finds) run.of_instance))

    special_decided : Decision (RunsOne INVOKESPECIAL)
    special_decided = by finds_decided where
      by : Decision ((method : Declared) × Finds headers reference method) → Decision (RunsOne INVOKESPECIAL)
      by (inr none) = inr (λ some. none ((of_special some.1 refl).found, (of_special some.1 refl).finds))
      by (inl found) =
          of_found found.0 found.1
          (three (either (class_decided headers own) (same_bytes reference.name init)) (denied polymorphic_decided) (is_false (has found.0.member.flags STATIC)))

    runs_decided : (opcode : ℕ) → Decision (RunsOne opcode)
    runs_decided opcode = elim (cases_eq opcode INVOKESTATIC) [
      | inl is ↦ subst (λ (o : ℕ). Decision (RunsOne o)) (sym is) static_decided
      | inr no_static ↦ elim (cases_eq opcode INVOKESPECIAL) [
        | inl is ↦ subst (λ (o : ℕ). Decision (RunsOne o)) (sym is) special_decided
        | inr no_special ↦ elim (cases_eq opcode INVOKEVIRTUAL) [
          | inl is ↦ subst (λ (o : ℕ). Decision (RunsOne o)) (sym is) virtual_decided
          | inr no_virtual ↦ inr (λ some. of_other no_static no_special no_virtual some.1)
        ]
      ]
    ]

    run_decided : (opcode : ℕ) → (callee : Option MethodAt) × DecidesRun classes own reference opcode callee
    run_decided opcode = by (runs_decided opcode) where
      numbered : (method : Declared) → Runs headers own reference opcode method → Decision ((callee : MethodAt) × StandsAt classes callee method)
          → (callee : Option MethodAt) × DecidesRun classes own reference opcode callee
      numbered method runs (inl there) = (Some there.0, record { method = method; runs = runs; stands = there.1 })
      numbered method runs (inr none) = (None, λ callee at. none (callee, subst (StandsAt classes callee) (runs_once laws at.runs runs) at.stands))

      by : Decision (RunsOne opcode) → (callee : Option MethodAt) × DecidesRun classes own reference opcode callee
      by (inl some) = numbered some.0 some.1 (stands_decided some.0)
      by (inr none) = (None, λ callee at. none (at.method, at.runs))

  -- a call runs a method of the folder, or none
  pub calls_decided : (s : Scope) (at : ℕ) → Decision ((callee : MethodAt) × Calls classes s at callee)
  calls_decided s at = by (call_at s at) refl where
    of_run : (call : Called) → call_at s at ≡ Some call → (callee : Option MethodAt) → DecidesRun classes (name_of s) call.reference call.opcode callee
        → Decision ((callee : MethodAt) × Calls classes s at callee)
    of_run call read (Some callee) run = inl (callee, decides_call classes s at call read (Some callee) run)
    of_run call read None run = inr (λ some. decides_call classes s at call read None run some.0 some.1)

    by : (call : Option Called) → call_at s at ≡ call → Decision ((callee : MethodAt) × Calls classes s at callee)
    by None none = inr (λ some. none-some (called_as some.1.opcode some.1.reference) (sym none ∙ read_call s at some.1.is_call))
    by (Some call) read = let run = run_decided (name_of s) call.reference call.opcode in of_run call read run.0 run.1
