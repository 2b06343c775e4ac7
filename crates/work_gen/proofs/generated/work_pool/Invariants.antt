use Rattle.std.proofs.Common.{◌≡◌, ◌++◌, [], ◌∷◌, take, Some}
use Rattle.work_gen.specs.Generated.{indexed, name_constant, work_constants}
use Rattle.work_gen.proofs.generated.work_pool.Given as goal

abbrev pub invariant-loop : goal.invariant-loop
invariant-loop l = record {
  number : l.number ≡ l.index;
  pool : l.pool ≡ work_constants ++ indexed (λ number choice. Some (name_constant number) ∷ []) 0 (take l.index l.chosen);
}
