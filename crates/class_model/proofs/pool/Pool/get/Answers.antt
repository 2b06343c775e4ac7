use Rattle.std.proofs.Common.{◌-◌, ◌∙◌, arith}
use Rattle.class_model.proofs.Constants.{entry_is_constant, nothing_past}
use Rattle.class_model.proofs.pool.Pool.get.Goals as goal

pub returns-in-Some : goal.returns-in-Some
returns-in-Some c =
    let found = c.in-Some.ensures.lookup in
    c.as_ref.ensures.value ∙ entry_is_constant c.args.self.now c.as_slice-entries.result.now _ (c.from.result - 1) _ (cc) (omega arith) found.3.0 found.1

pub returns-in-None : goal.returns-in-None
returns-in-None c = nothing_past c.args.self.now c.as_slice-entries.result.now _ (c.from.result - 1) (cc) (omega arith) c.in-None.ensures.lookup.3
