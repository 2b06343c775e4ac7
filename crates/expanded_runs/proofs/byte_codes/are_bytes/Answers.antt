use Rattle.std.proofs.Common.{arith}
use Rattle.class_model.specs.Laws.Cuts.{are_bytes}
use Rattle.expanded_runs.proofs.byte_codes.are_bytes.Goals as goal

pub returns : goal.returns
returns c = are_bytes c.args.bytes.now (λ i. omega (arith, c.type_inv.bytes i))
