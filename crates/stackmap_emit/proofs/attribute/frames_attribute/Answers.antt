use Rattle.std.proofs.Common.{ℕ, subst, sym, ◌∙◌}
use Rattle.pool_edit.specs.Edits.{TakesBack}
use Rattle.stackmap_emit.proofs.Attributes.{none_there}
use Rattle.stackmap_emit.proofs.attribute.frames_attribute.Goals as goal
use Rattle.stackmap_emit.specs.FramesAttribute.{no_attribute}

pub returns-then-is_empty-clause-attribute : goal.returns-then-is_empty-clause-attribute
returns-then-is_empty-clause-attribute c = λ more.
    no_attribute (none_there c.args.frames.now (sym c.is_empty.ensures ∙ c.if-is_empty.true))

pub returns-in-Err-clause-err : goal.returns-in-Err-clause-err
returns-in-Err-clause-err c =
    c.an_edit_goes_back_to_what_it_was.ensures.back c.args.pool.now c.some_attribute.new.pool c.back.new.self c.some_attribute.ensures.more
    (subst (λ (count : ℕ). TakesBack c.some_attribute.new.pool count c.back.new.self) c.count-count.ensures.count c.back.ensures)
