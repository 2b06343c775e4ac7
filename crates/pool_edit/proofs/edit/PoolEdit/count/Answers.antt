use Rattle.std.proofs.Common.{subst, length, ◌++◌, arith, ◌≤◌}
use Rattle.std.specs.List.{flat_map}
use Rattle.std.specs.Map.{keys_of}
use Rattle.class_model.specs.Pool.{IsPool, entries_of}
use Rattle.pool_edit.specs.Edits.{Edit, grown}
use Rattle.pool_edit.proofs.Numbered.{IsPool-append}
use Rattle.pool_edit.proofs.edit.PoolEdit.count.Goals as goal

pub returns-clause-pool : goal.returns-clause-pool
returns-clause-pool c =
    let kept = c.self.invariant in
    let base = c.self.inside.base in
    let constants = keys_of c.self.inside.added.entries in
    let fits : length (base ++ flat_map entries_of constants) ≤ 65535 = omega (arith, kept.counts, kept.most) in
    subst (λ (edit : Edit). IsPool (grown edit)) c.self.view_is (IsPool-append base constants kept.pool fits)
