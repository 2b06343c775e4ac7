use Rattle.class_bytes.proofs.Decides.{counts_shape, counts_no_shape}
use Rattle.class_bytes.proofs.operands.counts_arguments.Goals as goal

pub returns-in-Some : goal.returns-in-Some
returns-in-Some c = rw (← c.requires, c.from.ensures, c.from-in-Some.ensures) (counts_shape _ c.args.count c.in-Some.shape c.in-Some.ensures)

pub returns-in-None : goal.returns-in-None
returns-in-None c = rw (← c.requires) (counts_no_shape _ c.args.count c.in-None.ensures)
