use Rattle.std.proofs.Common.{◌≡◌, ◌⊎◌, ℕ, true, false, refl, sym, ap, subst, ◌∙◌, Option}
use Rattle.std.proofs.lemmas.Bool.{false≢true}
use Rattle.class_model.specs.Members.{has, STATIC}
use Rattle.class_model.specs.Names.{init}
use Rattle.class_model.specs.declared.class_file.MethodAt.{MethodAt}
use Rattle.class_model.specs.declared.opcodes.TheConstants.{INVOKESPECIAL}
use Rattle.class_tree.specs.Headers.{headers_of}
use Rattle.expanded_code.specs.Callees.{IsClass, Runs, runs_special}
use Rattle.inline_expand.proofs.DecidedRuns.{HasLaws, chosen_found, decided, finds_nothing, finds_once, looked_up, looked_up_none, nothing_chosen, of_special, same_choice, special_selects, undecided}
use Rattle.inline_expand.proofs.calls.special_callee.Goals as goal
use Rattle.inline_expand.specs.Inner.Calls.{Decides}
use Rattle.member_link.specs.DeclaredMembers.{Declared}
use Rattle.member_link.specs.Found.{IsChoice}
use Rattle.member_link.specs.MemberRefs.{reference_meant}
use Rattle.member_link.specs.Methods.{IsPolymorphic}
use Rattle.member_link.specs.Selection.{Choice, Selects}
use Rattle.member_link.specs.declared.selection.CallForm.TheVariants.{Special}

pub returns-in_err-found : goal.returns-in_err-found
returns-in_err-found c =
    let classes = c.args.tree.now in
    let IsRun = λ (method : Declared). Runs (headers_of classes) c.args.own.now (reference_meant c.args.reference.now) INVOKESPECIAL method in
    subst (λ (callee : Option MethodAt). Decides classes IsRun callee) (sym c.from_residual.ensures)
    (undecided classes IsRun (λ method runs. finds_nothing c.a_look_up_finds_one_method.ensures (looked_up_none c.in_err-found.ensures) (of_special runs refl).finds))

pub returns-then-is_polymorphic : goal.returns-then-is_polymorphic
returns-then-is_polymorphic c =
    let classes = c.args.tree.now in
    let IsRun = λ (method : Declared). Runs (headers_of classes) c.args.own.now (reference_meant c.args.reference.now) INVOKESPECIAL method in
    undecided classes IsRun (λ method runs. (of_special runs refl).plain (c.is_polymorphic.ensures.0 c.if-is_polymorphic.true))

pub returns-then-has : goal.returns-then-has
returns-then-has c =
    let classes = c.args.tree.now in
    let found = looked_up c.in_ok-found.ensures in
    let IsRun = λ (method : Declared). Runs (headers_of classes) c.args.own.now (reference_meant c.args.reference.now) INVOKESPECIAL method in
    let static : has found.0.member.flags STATIC ≡ true = ap (λ (flags : ℕ). has flags STATIC) (sym found.2.same_flags) ∙ sym c.has.ensures ∙ c.if-has.true in
    undecided classes IsRun (λ method runs.
    let run = of_special runs refl in
    let same = finds_once c.a_look_up_finds_one_method.ensures run.finds found.1 in
    false≢true (sym run.of_instance ∙ ap (λ (d : Declared). has d.member.flags STATIC) same ∙ static))

pub returns-in-Found : goal.returns-in-Found
returns-in-Found c =
    let classes = c.args.tree.now in
    let headers = headers_of classes in
    let reference = reference_meant c.args.reference.now in
    let laws : HasLaws = record { looks_up = c.a_look_up_finds_one_method.ensures; selects = c.a_selection_chooses_one.ensures; starts = c.a_special_call_starts_once.ensures } in
    let found = looked_up c.in_ok-found.ensures in
    let IsRun = λ (method : Declared). Runs headers c.args.own.now reference INVOKESPECIAL method in
    let instance : has found.0.member.flags STATIC ≡ false = ap (λ (flags : ℕ). has flags STATIC) (sym found.2.same_flags) ∙ sym c.has.ensures ∙ c.if-has.false in
    let choice = c.in-Found.ensures found.0 found.2 in
    let chosen = chosen_found choice.0 choice.2 in
    let selects = subst (λ (ch : Choice). Selects headers c.special_start-start.result.now found.0 Special ch) chosen.1 choice.1 in
    let plain : ¬ IsPolymorphic headers reference.class reference.name = λ every. false≢true (sym c.if-is_polymorphic.false ∙ c.is_polymorphic.ensures.1 every) in
    let may : IsClass headers c.args.own.now ⊎ (reference.name ≡ init) = c.is_special.ensures.0 c.if-not-is_special.false in
    let run = decided classes c.a_tree_is_a_hierarchy.ensures IsRun c.in-Found.chosen chosen.0 chosen.2
    (runs_special found.0 chosen.0 c.special_start-start.result.now may plain found.1 instance c.special_start-start.ensures selects)
    (λ other runs. same_choice other chosen.0 (special_selects laws (of_special runs refl) found.1 c.special_start-start.ensures selects)) in
    subst (λ (callee : Option MethodAt). Decides classes IsRun callee) (sym c.folder_method.ensures) run

pub returns-in_default : goal.returns-in_default
returns-in_default c =
    let classes = c.args.tree.now in
    let headers = headers_of classes in
    let laws : HasLaws = record { looks_up = c.a_look_up_finds_one_method.ensures; selects = c.a_selection_chooses_one.ensures; starts = c.a_special_call_starts_once.ensures } in
    let found = looked_up c.in_ok-found.ensures in
    let IsRun = λ (method : Declared). Runs headers c.args.own.now (reference_meant c.args.reference.now) INVOKESPECIAL method in
    let choice = c.select.ensures found.0 found.2 in
    undecided classes IsRun (λ method runs.
    let same = special_selects laws (of_special runs refl) found.1 c.special_start-start.ensures choice.1 in
    nothing_chosen headers method c.select.result c.in_default.not-Found (subst (λ (ch : Choice). IsChoice headers c.select.result ch) (sym same) choice.2))
