use Rattle.std.proofs.Common.{◌≡◌, Option, Some, sym, ap, ◌∙◌, rules}
use Rattle.class_model.specs.Descriptors.{type_of}
use Rattle.machine_values.specs.Heaps.{Heap}
use Rattle.machine_values.specs.declared.value.Value.{Value}
use Rattle.member_link.specs.Machine.Acting.{given_value}
use Rattle.member_link.specs.Machine.Worlds.{World}
use Rattle.machine_run.specs.Inner.ActingWords.{answered, value_for}
use Rattle.machine_run.specs.Inner.ArrayWords.{narrowed_value}
use Rattle.machine_run.proofs.acting.answers.value_for.Goals as goal

pub returns : goal.returns
returns c = λ P program.
    let inside = c.w.inside in
    let type = type_of c.args.text.now in
    let given : given_value inside.known c.args.value ≡ Some c.in_ok-value.value = search rules in
    ap answered (c.in_ok-value-2.ensures P program)
    ∙ ap (λ (heap : Heap). answered (narrowed_value P heap type c.in_ok-value.value)) c.heap.ensures
    ∙ ap (λ (value : Option Value). value_for P inside.memory.heap (Some type) value) (sym given)
    ∙ ap (λ (w : World). value_for P w.memory.heap (Some type) (given_value w.known c.args.value)) c.w.view_is

pub returns-in_err-value-2 : goal.returns-in_err-value-2
returns-in_err-value-2 c = λ P program.
    let inside = c.w.inside in
    let type = type_of c.args.text.now in
    let given : given_value inside.known c.args.value ≡ Some c.in_ok-value.value = search rules in
    c.from_residual-in_err-value-2.ensures
    ∙ ap answered (c.in_err-value-2.ensures P program)
    ∙ ap (λ (heap : Heap). answered (narrowed_value P heap type c.in_ok-value.value)) c.heap.ensures
    ∙ ap (λ (value : Option Value). value_for P inside.memory.heap (Some type) value) (sym given)
    ∙ ap (λ (w : World). value_for P w.memory.heap (Some type) (given_value w.known c.args.value)) c.w.view_is
