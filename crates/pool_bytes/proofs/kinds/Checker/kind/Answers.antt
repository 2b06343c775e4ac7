use Rattle.pool_bytes.proofs.kinds.Checker.kind.Goals as goal

pub returns-in-Some : goal.returns-in-Some
returns-in-Some c = c.in-Some.ensures.is c.args.text.now c.requires
