use Rattle.std.proofs.Common.{subst}
use Rattle.class_tree.specs.Headers.{headers_of}
use Rattle.member_link.specs.Found.{IsMethodOf}
use Rattle.member_link.specs.References.{Reference}
use Rattle.machine_code.proofs.CallTargets.{method_exists, special_linked}
use Rattle.machine_code.proofs.resolving.targets.special_method.Goals as goal

pub returns-clause-found : goal.returns-clause-found
returns-clause-found c = method_exists (headers_of c.args.tree.now) c.named.inside.class c.named.inside.name c.named.inside.desc c.find_method.result c.find_method.ensures

pub returns-clause-link : goal.returns-clause-link
returns-clause-link c = λ P is.
    special_linked c.args.tree.now P is (record { one = c.a_look_up_finds_one_method.ensures }) c.args.named.now c.find_method.result
    (subst (λ (r : Reference). IsMethodOf (headers_of c.args.tree.now) r.class r.name r.desc c.find_method.result) c.named.view_is c.find_method.ensures)
