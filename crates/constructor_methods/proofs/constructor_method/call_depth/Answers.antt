use Rattle.std.proofs.Common.{rules, ◌≢◌}
use Rattle.std.proofs.lemmas.Grind.{common_steps}
use Rattle.class_tree.specs.Names.{object}
use Rattle.constructor_methods.proofs.ConstructorFields.{depth_above}
use Rattle.constructor_methods.proofs.constructor_method.call_depth.Goals as goal

pub returns-else-eq : goal.returns-else-eq
returns-else-eq c = λ headers same.
    let apart : c.in-Some.class ≢ object = first_of (search rules, grind common_steps) in
    depth_above headers c.args.header.now c.in-Some.class c.args.above c.in-Some.is apart same
