use Rattle.std.proofs.Common.{refl, sym, subst, Option}
use Rattle.class_model.specs.declared.class_file.MethodAt.{MethodAt}
use Rattle.class_model.specs.declared.opcodes.TheConstants.{INVOKESTATIC}
use Rattle.class_tree.specs.Headers.{headers_of}
use Rattle.expanded_code.specs.Callees.{Runs, runs_static}
use Rattle.inline_expand.proofs.DecidedRuns.{decided, finds_nothing, finds_once, looked_up, looked_up_none, of_static, undecided}
use Rattle.inline_expand.proofs.calls.static_callee.Goals as goal
use Rattle.inline_expand.specs.Inner.Calls.{Decides}
use Rattle.member_link.specs.MemberRefs.{reference_meant}

pub returns-in-Some : goal.returns-in-Some
returns-in-Some c = λ own.
    let headers = headers_of c.args.tree.now in
    let reference = reference_meant c.args.reference.now in
    let found = looked_up c.in-Some.ensures in
    let run = decided c.args.tree.now c.a_tree_is_a_hierarchy.ensures (Runs headers own reference INVOKESTATIC) c.in-Some.found found.0 found.2 (runs_static found.0 found.1)
    (λ other runs. finds_once c.a_look_up_finds_one_method.ensures (of_static runs refl) found.1) in
    subst (λ (callee : Option MethodAt). Decides c.args.tree.now (Runs headers own reference INVOKESTATIC) callee) (sym c.folder_method.ensures) run

pub returns-in-None : goal.returns-in-None
returns-in-None c = λ own.
    let reference = reference_meant c.args.reference.now in
    undecided c.args.tree.now (Runs (headers_of c.args.tree.now) own reference INVOKESTATIC)
    (λ method runs. finds_nothing c.a_look_up_finds_one_method.ensures (looked_up_none c.in-None.ensures) (of_static runs refl))
