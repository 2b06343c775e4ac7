use Rattle.std.proofs.Common.{Bool, Some, sym, ap, ◌∙◌}
use Rattle.class_tree.specs.declared.place.Place.TheVariants.{Folder, Library}
use Rattle.machine_run.proofs.ComesFirst.{default_at, number_if}
use Rattle.machine_run.proofs.coming_first.unbegun_at.Goals as goal

pub returns-then-is_unbegun_at-clause-first : goal.returns-then-is_unbegun_at-clause-first
returns-then-is_unbegun_at-clause-first c = λ P name is at.
    let place = Folder c.in-Folder.class in
    sym (default_at c.args.tree.now P is c.a_tree_is_a_hierarchy.ensures c.args.memory.now name place (at ∙ ap Some c.in-Folder.is)
    ∙ ap (λ (test : Bool). number_if test place) (sym c.is_unbegun_at.ensures ∙ c.if-is_unbegun_at.true))

pub returns-else-is_unbegun_at-clause-first : goal.returns-else-is_unbegun_at-clause-first
returns-else-is_unbegun_at-clause-first c = λ P name is at.
    let place = Folder c.in-Folder.class in
    sym (default_at c.args.tree.now P is c.a_tree_is_a_hierarchy.ensures c.args.memory.now name place (at ∙ ap Some c.in-Folder.is)
    ∙ ap (λ (test : Bool). number_if test place) (sym c.is_unbegun_at.ensures ∙ c.if-is_unbegun_at.false))

pub returns-in-Library-clause-first : goal.returns-in-Library-clause-first
returns-in-Library-clause-first c = λ P name is at.
    sym (default_at c.args.tree.now P is c.a_tree_is_a_hierarchy.ensures c.args.memory.now name (Library c.in-Library.field-0) (at ∙ ap Some c.in-Library.is))
