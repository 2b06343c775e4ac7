use Rattle.std.proofs.Common.{◌≡◌, ◌≤◌, ◌+◌, ◌-◌, ◌^◌, ℕ, List, Option, Some, option_map, count_by, sym, ap, ◌∙◌, rules}
use Rattle.std.proofs.lemmas.Option.{none-some, same_Some}
use Rattle.class_model.specs.declared.header.Header.{Header}
use Rattle.class_model.specs.declared.header.Member.{Member}
use Rattle.class_tree.specs.Headers.{headers_of}
use Rattle.member_link.specs.Machine.Programs.{number_of_first, same_reference}
use Rattle.member_link.specs.Inner.SlotWords.{is_of_object, own_number}
use Rattle.member_link.specs.Machine.Layouts.{capped}
use Rattle.member_link.proofs.SlotNumbers.{capped_added, capped_below, number_found, number_behind}
use Rattle.member_link.proofs.slots.number_in_folder.Goals as goal

pub returns-in_default : goal.returns-in_default
returns-in_default c = λ header slots at number. absurd (none-some header (c.in_default.ensures ∙ at))

pub returns-in-Some-own_number : goal.returns-in-Some-own_number
returns-in-Some-own_number c = λ header slots at number.
    let same : c.in-Some.header.now ≡ header = same_Some c.in-Some.header.now header (c.in-Some.ensures ∙ at) in
    let own = sym (c.in-Some-own_number.ensures.number ∙ ap (λ (h : Header). own_number h c.args.field.now) same) in
    capped_below (2 ^ 64 - 1) c.in-Some-own_number.own c.in-Some-own_number.ensures.small
    ∙ ap (capped (2 ^ 64 - 1)) (sym (number_found (headers_of c.args.tree.now) c.args.field.now c.a_tree_is_a_hierarchy.ensures c.args.class header slots c.in-Some-own_number.own at own))

pub returns-in-None : goal.returns-in-None
returns-in-None c = λ header slots at number.
    let same : c.in-Some.header.now ≡ header = same_Some c.in-Some.header.now header (c.in-Some.ensures ∙ at) in
    let own = sym (c.in-None.ensures.number ∙ ap (λ (h : Header). own_number h c.args.field.now) same) in
    let count = count_by is_of_object header.fields in
    c.added.ensures
    ∙ ap (λ (n : ℕ). capped (2 ^ 64 - 1) (option_map (λ (m : ℕ). n + m) c.args.number))
    (c.count.ensures ∙ ap (λ (fields : List Member). count_by is_of_object fields) (c.as_slice.ensures ∙ ap (λ (h : Header). h.fields) same))
    ∙ ap (λ (o : Option ℕ). capped (2 ^ 64 - 1) (option_map (λ (m : ℕ). count + m) o)) number
    ∙ capped_added (2 ^ 64 - 1) count (number_of_first (same_reference c.args.field.now) slots)
    ∙ ap (capped (2 ^ 64 - 1)) (sym (number_behind (headers_of c.args.tree.now) c.args.field.now c.a_tree_is_a_hierarchy.ensures c.args.class header slots at own))
