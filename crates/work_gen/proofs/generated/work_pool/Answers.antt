use Rattle.std.proofs.Common.{◌++◌, ◌∷◌, [], Some, ap, ◌∙◌, append_assoc, arith, take}
use Rattle.class_model.specs.Pool.{entries_of}
use Rattle.work_gen.specs.Generated.{indexed, name_constant, work_constants}
use Rattle.work_gen.proofs.Indexed.{few_constants, names, next_indexed, no_choice}
use Rattle.work_gen.proofs.generated.work_pool.Goals as goal

pub push-requires : goal.push-requires
push-requires c = rw c.in_ok-method_name.ensures (few_constants c.loop.pool c.args.chosen.now c.loop.index c.loop.invariant.pool c.loop-test.true c.requires)

pub loop-preserved : goal.loop-preserved
loop-preserved c = record {
  number = omega (arith, c.loop.invariant.number);
  pool =
      c.in_ok-push.ensures.ok
      ∙ ap (λ constant. c.loop.pool ++ entries_of constant) (c.in_ok-method_name.ensures ∙ ap name_constant c.loop.invariant.number)
      ∙ ap (λ before. before ++ Some (name_constant c.loop.index) ∷ []) c.loop.invariant.pool
      ∙ append_assoc work_constants (indexed names 0 (take c.loop.index c.args.chosen.now)) (Some (name_constant c.loop.index) ∷ [])
      ∙ ap (λ given. work_constants ++ given) (next_indexed names c.args.chosen.now c.loop.index no_choice c.loop-test.true);
}
