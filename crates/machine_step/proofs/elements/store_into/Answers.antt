use Rattle.std.proofs.Common.{◌≡◌, ℕ, ℤ, true, [], ◌∷◌, refl, sym, subst, ◌∙◌, rules, w32, FitsSigned}
use Rattle.std.proofs.lemmas.Int.{to_z-of_z}
use Rattle.machine_values.specs.declared.value.Value.{Value}
use Rattle.machine_values.specs.declared.value.Value.TheVariants.{Int, Ref}
use Rattle.machine_values.specs.Heaps.{object_at}
use Rattle.member_link.specs.Machine.ArraySteps.{put_element, store_element_work, stores_value}
use Rattle.member_link.specs.Machine.Programs.{Program}
use Rattle.member_link.specs.Machine.Worlds.{Memory}
use Rattle.machine_step.specs.Completing.{Completes}
use Rattle.machine_step.proofs.elements.store_into.Goals as goal

into_array : (P : Program) (memory : Memory) (number reference : ℕ) (at : ℤ) (array index value : Value) → array ≡ Ref reference → index ≡ Int at → stores_value number value ≡ true
    → store_element_work P memory number (array ∷ index ∷ value ∷ []) ≡ put_element P memory number reference at value (object_at memory.heap reference)
into_array P memory number reference at array index value is index_is stores = rw index_is (rw is (rw stores refl))

pub returns-in-Ref : goal.returns-in-Ref
returns-in-Ref c = λ P operands is.
    let stores : stores_value c.args.number c.args.value.now ≡ true = sym c.stores_value.ensures ∙ (search rules) in
    let fits : FitsSigned w32 c.in-Int.index = search rules in
    let memory = c.args.memory.now in
    let array = object_at memory.heap c.in-Ref.at in
    subst (Completes memory c.store_at.new.memory operands c.store_at.result)
    (sym (into_array P memory c.args.number c.in-Ref.at c.in-Int.index c.args.array.now c.args.index.now c.args.value.now c.in-Ref.is c.in-Int.is stores))
    (subst (λ (index : ℤ). Completes memory c.store_at.new.memory operands c.store_at.result (put_element P memory c.args.number c.in-Ref.at index c.args.value.now array))
    (to_z-of_z w32 c.in-Int.index fits) (c.store_at.ensures P operands is))
