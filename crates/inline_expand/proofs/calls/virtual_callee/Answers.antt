use Rattle.std.proofs.Common.{◌≡◌, refl, sym, subst, ◌∙◌, Option, None, Some}
use Rattle.std.proofs.lemmas.Bool.{false≢true}
use Rattle.class_model.specs.declared.class_file.MethodAt.{MethodAt}
use Rattle.class_model.specs.declared.opcodes.TheConstants.{INVOKEVIRTUAL}
use Rattle.class_tree.specs.Headers.{Classes, headers_of}
use Rattle.expanded_code.specs.Callees.{IsClass, IsOverriddenByNone, Runs, runs_virtual}
use Rattle.inline_expand.proofs.DecidedRuns.{finds_nothing, finds_once, looked_up, looked_up_none, no_interface, of_virtual, outside, undecided}
use Rattle.inline_expand.proofs.FoundMethods.{found_class, numbers_stand}
use Rattle.inline_expand.proofs.calls.virtual_callee.Goals as goal
use Rattle.inline_expand.proofs.calls.virtual_callee.Goals.{else-is_class_at-via-then-is_class_at+else-is_overridden_by_none, else-is_class_at-via-else-is_class_at}
use Rattle.inline_expand.specs.Inner.Calls.{DecidesRun}
use Rattle.member_link.specs.DeclaredMembers.{Declared}
use Rattle.member_link.specs.Found.{IsMethodFound}
use Rattle.member_link.specs.MemberRefs.{reference_meant}

pub returns-in_err-found : goal.returns-in_err-found
returns-in_err-found c = λ own.
    let classes = c.args.methods.now in
    let reference = reference_meant c.args.reference.now in
    let IsRun = λ (method : Declared). Runs (headers_of c.tree-tree.result.now) own reference INVOKEVIRTUAL method in
    let none = undecided c.tree-tree.result.now IsRun (λ method runs. finds_nothing c.a_look_up_finds_one_method.ensures (looked_up_none c.in_err-found.ensures) (of_virtual runs refl).finds) in
    subst (λ (callee : Option MethodAt). DecidesRun classes own reference INVOKEVIRTUAL callee) (sym c.from_residual.ensures)
    (subst (λ (all : Classes). DecidesRun all own reference INVOKEVIRTUAL None) c.tree-tree.ensures none)

pub returns-in_err-callee : goal.returns-in_err-callee
returns-in_err-callee c = λ own.
    let classes = c.args.methods.now in
    let reference = reference_meant c.args.reference.now in
    let found = looked_up c.in_ok-found.ensures in
    let IsRun = λ (method : Declared). Runs (headers_of c.tree-tree.result.now) own reference INVOKEVIRTUAL method in
    let none = outside c.tree-tree.result.now c.a_tree_is_a_hierarchy.ensures IsRun c.in_ok-found.found found.0 found.2 (sym c.in_err-callee.ensures)
    (λ other runs. finds_once c.a_look_up_finds_one_method.ensures (of_virtual runs refl).finds found.1) in
    subst (λ (callee : Option MethodAt). DecidesRun classes own reference INVOKEVIRTUAL callee) (sym c.from_residual-in_err-callee.ensures)
    (subst (λ (all : Classes). DecidesRun all own reference INVOKEVIRTUAL None) c.tree-tree.ensures none)

pub is_overridden_by_none-requires : goal.is_overridden_by_none-requires
is_overridden_by_none-requires c =
    let found = looked_up c.in_ok-found.ensures in
    (found.0, subst (λ (all : Classes). IsMethodFound (headers_of all) c.in_ok-found.found found.0) c.tree-tree.ensures found.2)

pub returns-then-is_overridden_by_none : goal.returns-then-is_overridden_by_none
returns-then-is_overridden_by_none c = λ own.
    let classes = c.tree-tree.result.now in
    let headers = headers_of classes in
    let reference = reference_meant c.args.reference.now in
    let found = looked_up c.in_ok-found.ensures in
    let is = found.2 in
    let class : IsClass headers found.0.class = record {
      header = is.header;
      found = found_class headers c.a_tree_is_a_hierarchy.ensures is;
      no_interface = (c.is_class_at.ensures is.header is.at).0 c.if-is_class_at.true;
    } in
    let own_is = subst (λ (all : Classes). IsMethodFound (headers_of all) c.in_ok-found.found found.0) c.tree-tree.ensures is in
    let alone = subst (λ (all : Classes). IsOverriddenByNone (headers_of all) found.0) (sym c.tree-tree.ensures) ((c.is_overridden_by_none.ensures found.0 own_is).0 c.if-is_overridden_by_none.true) in
    let run : DecidesRun classes own reference INVOKEVIRTUAL (Some c.in_ok-callee.callee) = record {
      method = found.0;
      runs = runs_virtual found.0 found.1 class alone;
      stands = numbers_stand classes c.a_tree_is_a_hierarchy.ensures c.in_ok-callee.callee is (sym c.in_ok-callee.ensures);
    } in
    subst (λ (all : Classes). DecidesRun all own reference INVOKEVIRTUAL (Some c.in_ok-callee.callee)) c.tree-tree.ensures run

pub returns-else-is_class_at : goal.returns-else-is_class_at
returns-else-is_class_at c = λ own.
    let classes = c.tree-tree.result.now in
    let headers = headers_of classes in
    let reference = reference_meant c.args.reference.now in
    let found = looked_up c.in_ok-found.ensures in
    let is = found.2 in
    let own_is = subst (λ (all : Classes). IsMethodFound (headers_of all) c.in_ok-found.found found.0) c.tree-tree.ensures is in
    let IsRun = λ (method : Declared). Runs headers own reference INVOKEVIRTUAL method in
    let none = undecided classes IsRun (λ method runs.
    let run = of_virtual runs refl in
    let same : method ≡ found.0 = finds_once c.a_look_up_finds_one_method.ensures run.finds found.1 in
    elim c.else-is_class_at.branch [
      | else-is_class_at-via-then-is_class_at+else-is_overridden_by_none w ↦
          let alone = subst (λ (all : Classes). IsOverriddenByNone (headers_of all) found.0) c.tree-tree.ensures (subst (λ (d : Declared). IsOverriddenByNone headers d) same run.alone) in
          false≢true (sym w.if-is_overridden_by_none.false ∙ (w.is_overridden_by_none.ensures found.0 own_is).1 alone)
      | else-is_class_at-via-else-is_class_at w ↦
          let class = subst (λ (d : Declared). IsClass headers d.class) same run.of_class in
          false≢true (sym w.if-is_class_at.false ∙ (c.is_class_at.ensures is.header is.at).1 (no_interface headers found.0.class is.header (found_class headers c.a_tree_is_a_hierarchy.ensures is) class))
    ]) in
    subst (λ (all : Classes). DecidesRun all own reference INVOKEVIRTUAL None) c.tree-tree.ensures none
