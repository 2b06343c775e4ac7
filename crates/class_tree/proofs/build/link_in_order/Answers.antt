use Rattle.std.proofs.Common.{◌≡◌, ◌∙◌, map, sym, subst, rules}
use Rattle.std.proofs.lemmas.Bool.{true≢false}
use Rattle.std.proofs.lemmas.Result.{err_from_is_err_and}
use Rattle.class_tree.specs.Inner.Graphs.{IsWithin}
use Rattle.class_tree.specs.Headers.{all_headers}
use Rattle.class_tree.specs.Inner.Nodes.{super_place, indexes_of, AreInterfaceLists, AreMemberIndexes}
use Rattle.class_tree.specs.Order.{members_of}
use Rattle.class_tree.specs.Trees.{IsInOrder}
use Rattle.class_tree.specs.declared.links.Links.{Links}
use Rattle.class_tree.proofs.BuiltSteps.{same_headers, hierarchy_refused, base_refused, steps_hold, classes_are_placed}
use Rattle.class_tree.proofs.GraphPaths.{graph_is_within}
use Rattle.class_tree.proofs.MemberIndexes.{both}
use Rattle.class_tree.proofs.build.link_in_order.Goals as goal
use Rattle.class_tree.proofs.build.link_in_order.Goals.{then-not-is_empty+in_ok-check_base, else-not-is_empty}

pub topological-requires : goal.topological-requires
topological-requires c = subst IsWithin (sym c.in_ok-graph.ensures) (graph_is_within c.args.headers.now)

pub returns-in_err-check_hierarchy : goal.returns-in_err-check_hierarchy
returns-in_err-check_hierarchy c =
    let p = err_from_is_err_and c.from_residual-in_err-check_hierarchy.result c.from_residual-in_err-check_hierarchy.ensures.1 in
    rw (p.1, p.2) (hierarchy_refused c.args.folder.now c.args.headers.now _ c.requires.headers c.requires.in_order c.in_err-check_hierarchy.ensures)

pub returns-in_err-check_base : goal.returns-in_err-check_base
returns-in_err-check_base c =
    let p = err_from_is_err_and c.from_residual-in_err-check_base.result c.from_residual-in_err-check_base.ensures.1 in
    rw (p.1, p.2) (base_refused c.args.folder.now c.args.headers.now _ c.requires.headers c.requires.in_order c.in_ok-check_hierarchy.ensures (sym c.is_empty.ensures ∙ c.if-not-is_empty.true) c.in_err-check_base.ensures)

pub interface_lists-requires-clause-all : goal.interface_lists-requires-clause-all
interface_lists-requires-clause-all c =
    classes_are_placed c.args.headers.now c.in_ok-graph.graph c.as_slice-order.result.now c.requires.in_order c.in_ok-check_hierarchy.ensures
    c.in_ok-graph.ensures
    (search rules)

pub returns : goal.returns
returns c =
    let same = same_headers c.args.folder.now c.args.headers.now c.requires.headers in
    let links : Links = record {
      superclasses = c.in_ok-superclasses.superclasses;
      interfaces = c.in_ok-interfaces.interfaces;
      fields = c.in_ok-fields.fields;
      methods = c.in_ok-methods.methods;
    } in
    record {
      tree = record {
        folder = c.requires.folder;
        library = c.requires.library;
        in_order = subst IsInOrder same c.requires.in_order;
        holds = steps_hold c.args.folder.now c.args.headers.now c.requires.headers c.in_ok-check_hierarchy.ensures (elim c.if-not-is_empty.branch [
          | then-not-is_empty+in_ok-check_base w ↦ λ some. w.in_ok-check_base.ensures
          | else-not-is_empty w ↦ λ some. absurd (true≢false (sym w.if-not-is_empty.false ∙ c.is_empty.ensures ∙ some))
        ]);
      };
      headers = c.requires.headers;
      superclasses = subst (λ headers. c.in_ok-superclasses.superclasses.items ≡ map (super_place headers) (all_headers headers)) same c.in_ok-superclasses.ensures;
      interfaces = subst (λ headers. AreInterfaceLists headers c.in_ok-interfaces.interfaces) same c.in_ok-interfaces.ensures;
      members = λ kind. subst (λ headers. AreMemberIndexes (members_of kind) headers (indexes_of kind links)) same (both c.args.headers.now links c.in_ok-fields.ensures c.in_ok-methods.ensures kind);
    }
