use Rattle.std.proofs.Common.{◌≡◌, ◌-◌, ℕ, List, [], ◌∷◌, sym, subst, arith, rules}
use Rattle.std.proofs.lemmas.Grind.{common_steps}
use Rattle.class_model.specs.declared.opcodes.TheConstants.{IASTORE as iastore}
use Rattle.machine_values.specs.declared.value.Value.{Value}
use Rattle.member_link.specs.Machine.ArraySteps.{store_element_work}
use Rattle.machine_step.specs.Completing.{Completes}
use Rattle.machine_step.proofs.elements.store_element.Goals as goal

pub returns-in-len3 : goal.returns-in-len3
returns-in-len3 c = λ P is.
    let operands = c.args.operands.now in
    let memory = c.args.memory.now in
    let split : operands ≡ c.array-item.result ∷ c.index-item.result ∷ c.value-item.result ∷ [] = first_of (search rules, grind (arith, common_steps)) in
    let number : c.saturating_sub-number.result ≡ c.args.opcode - iastore = c.saturating_sub-number.ensures in
    subst (λ (n : ℕ). Completes memory c.store_into.new.memory operands c.store_into.result (store_element_work P memory n operands)) number
    (subst (λ (all : List Value). Completes memory c.store_into.new.memory operands c.store_into.result (store_element_work P memory c.saturating_sub-number.result all)) (sym split)
    (c.store_into.ensures P operands is))
