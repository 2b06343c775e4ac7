use Rattle.member_link.specs.Selection.{abstract_choice, chosen_method, several_defaults, the_one, no_default, two_defaults}
use Rattle.member_link.proofs.selection.by_default.Goals as goal

pub returns-in-Nothing : goal.returns-in-Nothing
returns-in-Nothing c = λ header at. (abstract_choice, no_default (c.in-Nothing.ensures header at), tt)

pub returns-in-One : goal.returns-in-One
returns-in-One c = λ header at.
    let one = c.in-One.ensures header at in
    (chosen_method one.0, the_one one.0 one.2, one.1)

pub returns-in-Several : goal.returns-in-Several
returns-in-Several c = λ header at.
    let two = c.in-Several.ensures header at in
    (several_defaults, two_defaults two.one two.other two.is_default two.is_other two.differ, tt)
