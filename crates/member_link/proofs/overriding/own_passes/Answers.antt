use Rattle.class_tree.specs.Headers.{headers_of}
use Rattle.class_tree.specs.Laws.Headers.{header_there}
use Rattle.member_link.specs.DeclaredMembers.{declared}
use Rattle.member_link.specs.Found.{IsMethodFound}
use Rattle.member_link.proofs.Climbed.{own_some}
use Rattle.member_link.proofs.MethodsAbove.{own_counts, none_counts}
use Rattle.member_link.proofs.overriding.own_passes.Goals as goal

pub test-requires : goal.test-requires
test-requires g c =
    let headers = headers_of c.args.tree.now in
    let class = header_there headers c.args.place c.requires.place in
    let header = class.0 in
    let known = own_some (IsMethodFound headers) header.name c.in-Some.found (declared c.args.member.now.name c.args.member.now.desc header.methods) (c.in-Some.ensures header class.1) in
    c.requires.test c.in-Some.found _ known.2

pub returns-in-Some : goal.returns-in-Some
returns-in-Some g c = λ header at.
    own_counts (headers_of c.args.tree.now) c.a_tree_is_a_hierarchy.ensures c.args.place header at c.args.member.now (goal.F-post g c.args.test.now) c.in-Some.found c.test.result (c.in-Some.ensures header at) c.test.ensures

pub returns-in-None : goal.returns-in-None
returns-in-None g c = λ header at.
    none_counts (headers_of c.args.tree.now) c.a_tree_is_a_hierarchy.ensures c.args.place header at c.args.member.now (goal.F-post g c.args.test.now) (c.in-None.ensures header at)
