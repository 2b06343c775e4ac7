use Rattle.std.proofs.Common.{◌≡◌, true, false, bytes_eq, rules, sym, ap, ◌∙◌}
use Rattle.class_model.specs.Names.{init}
use Rattle.member_link.specs.Machine.CallSteps.{run_call}
use Rattle.member_link.specs.Machine.Programs.{chosen}
use Rattle.member_link.specs.References.{Reference}
use Rattle.member_link.specs.declared.selection.CallForm.TheVariants.{Special}
use Rattle.machine_code.proofs.CallTargets.{choice_selected, choice_itself, runs_special}
use Rattle.machine_code.proofs.resolving.targets.run_special.Goals as goal

pub returns-in_ok-callee : goal.returns-in_ok-callee
returns-in_ok-callee c = λ P target is same not_static.
    let method = c.args.method.now in
    let name : bytes_eq method.name init ≡ false = search rules in
    runs_special P c.args.from.now method target c.in_ok-callee.callee (P.links.select c.args.from.now method Special) same
    (sym c.is_object_init.ensures ∙ c.if-is_object_init.false) c.in_ok-callee.ensures.something
    (choice_selected P c.args.from.now method name)
    (λ memory values. c.in_ok-callee.ensures.runs P memory values is not_static)

pub returns-in_ok-copy : goal.returns-in_ok-copy
returns-in_ok-copy c = λ P target is same not_static.
    let method = c.args.method.now in
    let name : bytes_eq method.name init ≡ true = search rules in
    runs_special P c.args.from.now method target c.run_call.result (chosen method) same
    (sym c.is_object_init.ensures ∙ c.if-is_object_init.false) c.run_call.ensures.something
    (choice_itself P c.args.from.now method name (sym (c.has_method_flag.ensures P is) ∙ c.if-has_method_flag.false))
    (λ memory values. ap (λ (r : Reference). run_call P r values) (sym c.in_ok-copy.ensures) ∙ c.run_call.ensures.runs P memory values is)
