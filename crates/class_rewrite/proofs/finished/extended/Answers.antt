use Rattle.std.proofs.Common.{◌∙◌}
use Rattle.class_rewrite.proofs.FinishedClasses.{extends, has_room}
use Rattle.class_rewrite.proofs.finished.extended.Goals as goal

pub field_constructor_with-requires-clause-may : goal.field_constructor_with-requires-clause-may
field_constructor_with-requires-clause-may c = λ header there. (c.requires.can header there).may

pub field_constructor_with-requires-clause-room : goal.field_constructor_with-requires-clause-room
field_constructor_with-requires-clause-room c =
    has_room c.args.constructors.now c.args.number c.args.draft.now c.in_ok-pool.pool c.in_ok-pool.ensures c.requires.of_folder c.requires.can

pub returns : goal.returns
returns c =
    extends c.args.constructors.now c.args.number c.args.draft.now c.in_ok-pool.pool c.field_constructor_with.new.pool c.in_ok-finish.field-0
    c.in_ok-methods.methods c.push.new.self c.in_ok-method.method c.in_ok-pool.ensures c.in_ok-method.ensures.method c.in_ok-finish.ensures
    (c.in_ok-methods.ensures ∙ c.as_slice.ensures) c.in_ok-push.ensures.ok
