use Rattle.std.proofs.Common.{ℕ, subst}
use Rattle.pool_edit.specs.Edits.{TakesBack}
use Rattle.cases_rewrite.proofs.pools.appended_and_taken_back.Goals as goal

pub returns : goal.returns
returns c =
    let laws = c.an_edit_goes_back_to_what_it_was.ensures in
    let before = c.args.edit.now in
    let grown = c.add.new.self in
    let on = laws.onwards before before grown _ (laws.itself before) c.in_ok-index.ensures.ok in
    laws.back before grown c.back.new.self on (subst (λ (count : ℕ). TakesBack grown count c.back.new.self) c.count-before.ensures.count c.back.ensures)
