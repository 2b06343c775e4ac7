use Rattle.std.proofs.Common.{arith, ◌≡◌, ◌&&◌, nat_le, pos, Bool, true, if◌then◌else◌, sym, ap, ◌∙◌, rules}
use Rattle.std.proofs.lemmas.Grind.{common_steps}
use Rattle.member_link.specs.Machine.Acting.{act_new_array, fault, is_array_descriptor, shows_new}
use Rattle.member_link.specs.Machine.ArraySteps.{blank_array, most_elements}
use Rattle.machine_run.proofs.acting.arrays.count_of.Goals as goal

pub returns-then-count-le-MOST_ELEMENTS-clause-count : goal.returns-then-count-le-MOST_ELEMENTS-clause-count
returns-then-count-le-MOST_ELEMENTS-clause-count c = λ P w.
    let desc = c.args.desc.now in
    let count = c.in-Ok.count in
    let length : c.args.length ≡ pos count = first_of (search rules, grind (arith, common_steps)) in
    let text : is_array_descriptor desc ≡ true =
    ap is_array_descriptor (sym c.bytes.ensures.same) ∙ sym c.is_array_descriptor.ensures ∙ c.if-is_array_descriptor.true
    in
    let few : nat_le count 1000000 ≡ true = first_of (search rules, grind (arith, common_steps)) in
    ap (act_new_array P w desc) length
    ∙ ap (λ (b : Bool). if b && nat_le count most_elements then shows_new P w (blank_array w.memory.heap desc count) else fault w) text
    ∙ ap (λ (b : Bool). if b then shows_new P w (blank_array w.memory.heap desc count) else fault w) few
