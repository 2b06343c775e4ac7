use Rattle.std.proofs.Common.{◌≡◌, rules}
use Rattle.std.specs.Bool.{Decides}
use Rattle.class_tree.specs.Headers.{headers_of}
use Rattle.type_rules.proofs.TypeAssignability.{is_top, same_decides}
use Rattle.type_rules.proofs.assignability.assignable.Goals as goal

pub returns-in-Top : goal.returns-in-Top
returns-in-Top c = is_top (headers_of c.args.tree.now) c.args.from.now c.args.to.now c.in-Top.is

pub returns-in_default : goal.returns-in_default
returns-in_default c =
    let same : Decides c.eq.result (c.args.from.now ≡ c.args.to.now) = search rules in
    same_decides (headers_of c.args.tree.now) c.args.from.now c.args.to.now c.eq.result same c.in_default.not-Top c.in_default.not-Object
