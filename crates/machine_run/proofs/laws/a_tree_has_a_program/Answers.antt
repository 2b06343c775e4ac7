use Rattle.std.proofs.Common.{refl}
use Rattle.member_link.specs.Machine.Classes.{program_of}
use Rattle.machine_run.proofs.laws.a_tree_has_a_program.Goals as goal

pub returns : goal.returns
returns c =
    let law = c.a_tree_has_links.ensures in
    (program_of c.args.tree.now law.0, record { links = law.0; are_links = law.1; same = refl })
