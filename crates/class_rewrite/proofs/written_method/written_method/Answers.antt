use Rattle.std.proofs.Common.{ℕ, sym, subst}
use Rattle.class_rewrite.proofs.written_method.written_method.Goals as goal
use Rattle.pool_edit.specs.Edits.{TakesBack}

pub returns-in-Err-clause-err : goal.returns-in-Err-clause-err
returns-in-Err-clause-err c =
    c.an_edit_goes_back_to_what_it_was.ensures.back c.args.pool.now c.written.new.pool c.back.new.self c.written.ensures.more
    (subst (λ (count : ℕ). TakesBack c.written.new.pool count c.back.new.self) c.count-count.ensures.count c.back.ensures)
