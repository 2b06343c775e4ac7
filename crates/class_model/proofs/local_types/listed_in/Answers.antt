use Rattle.std.proofs.Common.{arith}
use Rattle.class_model.proofs.LocalParts.{tops-from}
use Rattle.class_model.proofs.local_types.listed_in.Goals as goal

pub returns-in-Some-clause-tops : goal.returns-in-Some-clause-tops
returns-in-Some-clause-tops c =
    tops-from c.args.parts.now c.in-Some.part.now c.args.len c.min.result c.requires c.in-Some.ensures.value (λ under. omega arith)
