use Rattle.std.proofs.Common.{ℕ, sym, subst}
use Rattle.code_emit.proofs.emitting.write_code.Goals as goal
use Rattle.pool_edit.specs.Edits.{Continues, TakesBack}

pub returns-in-Err-clause-err : goal.returns-in-Err-clause-err
returns-in-Err-clause-err c =
    c.an_edit_goes_back_to_what_it_was.ensures.back c.args.pool.now c.written.new.pool c.back.new.self c.written.ensures.more
    (subst (λ (count : ℕ). TakesBack c.written.new.pool count c.back.new.self) c.count-count.ensures.count c.back.ensures)

pub returns-in-Err-clause-more : goal.returns-in-Err-clause-more
returns-in-Err-clause-more c =
    let laws = c.an_edit_goes_back_to_what_it_was.ensures in
    let back =
    laws.back c.args.pool.now c.written.new.pool c.back.new.self c.written.ensures.more
    (subst (λ (count : ℕ). TakesBack c.written.new.pool count c.back.new.self) c.count-count.ensures.count c.back.ensures) in
    subst (Continues c.args.pool.now) (sym back) (laws.itself c.args.pool.now)
