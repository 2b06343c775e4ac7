use Rattle.std.proofs.Common.{List, ◌++◌, ◌^◌, ◌-◌, sym, ap, ◌∙◌}
use Rattle.class_tree.specs.Headers.{headers_of}
use Rattle.class_tree.specs.Order.{header_at}
use Rattle.member_link.specs.Machine.Programs.{number_of_first, same_reference}
use Rattle.member_link.specs.References.{Reference}
use Rattle.member_link.specs.Machine.Layouts.{capped}
use Rattle.member_link.proofs.SlotNumbers.{none_of_library}
use Rattle.member_link.proofs.slots.number_with.Goals as goal

pub returns-in-Folder : goal.returns-in-Folder
returns-in-Folder c = λ header slots at number.
    c.number_in_folder.ensures header slots (ap (header_at (headers_of c.args.tree.now)) (sym c.in-Folder.is) ∙ at) number

pub returns-in-Library : goal.returns-in-Library
returns-in-Library c = λ header slots at number.
    let there = ap (header_at (headers_of c.args.tree.now)) (sym c.in-Library.is) ∙ at in
    number
    ∙ ap (λ (own : List Reference). capped (2 ^ 64 - 1) (number_of_first (same_reference c.args.field.now) (own ++ slots)))
    (sym (none_of_library (headers_of c.args.tree.now) c.args.field.now c.a_tree_is_a_hierarchy.ensures c.in-Library.field-0 header there))
