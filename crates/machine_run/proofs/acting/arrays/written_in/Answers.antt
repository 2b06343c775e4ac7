use Rattle.std.proofs.Common.{◌≡◌, ℕ, List, Some, sym, ap, ◌∙◌, rules}
use Rattle.class_model.specs.Descriptors.{type_of}
use Rattle.machine_values.specs.Heaps.{Heap}
use Rattle.machine_values.specs.Values.{component_text}
use Rattle.machine_values.specs.declared.object.Shape.TheVariants.{Array}
use Rattle.member_link.specs.Machine.Acting.{set_at, set_of_shape}
use Rattle.member_link.specs.Machine.ArraySteps.{index_in}
use Rattle.machine_run.specs.Inner.ArrayWords.{narrowed_value}
use Rattle.machine_run.proofs.Written.{set_narrowed}
use Rattle.machine_run.proofs.acting.arrays.written_in.Goals as goal

pub returns-in_ok-value-in-Array : goal.returns-in_ok-value-in-Array
returns-in_ok-value-in-Array c = λ P w program heap.
    let desc = c.in-Array.desc in
    let given = c.args.value.now in
    let number = c.in_ok-number-in-Array.number in
    let value = c.in_ok-value-in-Array.value in
    let type = type_of (component_text desc) in
    let shape : c.args.shape.now ≡ Array desc c.in-Array.len = search rules in
    let index : index_in c.args.index c.in-Array.len ≡ Some number = search rules in
    let kept : Some value ≡ narrowed_value P w.memory.heap type given =
    c.in_ok-value-in-Array.ensures P program
    ∙ ap (λ (h : Heap). narrowed_value P h (type_of c.component_text.result.now) given) (sym heap)
    ∙ ap (λ (text : List ℕ). narrowed_value P w.memory.heap (type_of text) given) (c.component_text.ensures ∙ ap component_text c.bytes.ensures.same)
    in
    ap (set_of_shape P w c.args.reference c.args.index given) shape
    ∙ ap (set_at P w c.args.reference type given) index
    ∙ set_narrowed P w c.args.reference type given value number kept
