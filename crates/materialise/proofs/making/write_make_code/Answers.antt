use Rattle.std.proofs.Common.{◌≡◌, ℕ, Err, sym, ap, subst}
use Rattle.flow_code.specs.declared.reason.KeptFault.TheVariants.{Kept}
use Rattle.materialise.proofs.making.write_make_code.Goals as goal
use Rattle.pool_edit.specs.Edits.{Continues, TakesBack}

pub returns-in-Err-clause-full : goal.returns-in-Err-clause-full
returns-in-Err-clause-full c = λ reason constructor order is described is_order.
    let same : c.in-Err.fault ≡ Kept reason = cc in
    c.in-Err.ensures.full reason constructor order (ap Err same) described is_order

pub returns-in-Err-clause-err : goal.returns-in-Err-clause-err
returns-in-Err-clause-err c =
    c.an_edit_goes_back_to_what_it_was.ensures.back c.args.pool.now c.making.new.pool c.back.new.self c.making.ensures.more
    (subst (λ (count : ℕ). TakesBack c.making.new.pool count c.back.new.self) c.count-count.ensures.count c.back.ensures)

pub returns-in-Err-clause-more : goal.returns-in-Err-clause-more
returns-in-Err-clause-more c =
    let laws = c.an_edit_goes_back_to_what_it_was.ensures in
    let back =
    laws.back c.args.pool.now c.making.new.pool c.back.new.self c.making.ensures.more
    (subst (λ (count : ℕ). TakesBack c.making.new.pool count c.back.new.self) c.count-count.ensures.count c.back.ensures) in
    subst (Continues c.args.pool.now) (sym back) (laws.itself c.args.pool.now)
