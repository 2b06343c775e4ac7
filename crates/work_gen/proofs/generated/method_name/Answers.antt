use Rattle.work_gen.proofs.PlainMethodNames.{plain_name}
use Rattle.work_gen.proofs.generated.method_name.Goals as goal

pub of_plain-requires : goal.of_plain-requires
of_plain-requires c = rw (c.as_bytes.ensures.value, c.in_ok-name.ensures.ok) (plain_name c.args.number c.requires)
