use Rattle.std.proofs.Common.{◌≡◌, ◌<◌, false, length, sym, ap, subst, ◌∙◌, arith}
use Rattle.std.proofs.lemmas.Bool.{false≢true}
use Rattle.std.proofs.lemmas.List.{get_or_read}
use Rattle.std.proofs.lemmas.Result.{err_from_is_err_and}
use Rattle.class_tree.specs.Inner.Graphs.{IsWithin}
use Rattle.class_tree.specs.Headers.{all_headers}
use Rattle.class_tree.proofs.Acyclic.{placed_is_on_no_circle}
use Rattle.class_tree.proofs.GraphPaths.{graph_is_within}
use Rattle.class_tree.proofs.HierarchyChecks.{as_many_nodes, begin, one_more, one_refused, none_left}
use Rattle.class_tree.proofs.hierarchy.check_hierarchy.Goals as goal
use Rattle.class_tree.proofs.hierarchy.check_hierarchy.Goals.{then-not-is_placed+in_ok-is_on_circle, else-not-is_placed}

pub loop-number-init : goal.loop-number-init
loop-number-init c = begin c.args.headers.now

pub reaches-requires-clause-within : goal.reaches-requires-clause-within
reaches-requires-clause-within c = subst IsWithin (sym c.requires.graph) (graph_is_within c.args.headers.now)

pub check_class-requires-clause-circle : goal.check_class-requires-clause-circle
check_class-requires-clause-circle c = elim c.if-not-is_placed.branch [
  | then-not-is_placed+in_ok-is_on_circle w ↦ rw w.is_on_circle-is w.in_ok-is_on_circle.ensures
  | else-not-is_placed w ↦
      let many : length c.args.graph.now ≡ length (all_headers c.args.headers.now) = ap length c.requires.graph ∙ as_many_nodes c.args.headers.now in
      let within : c.loop-number.number < length c.in_ok-placed.placed.items = omega (arith, c.in_ok-placed.ensures.len) in
      let placed = c.in_ok-placed.ensures.placed c.loop-number.number (sym (get_or_read c.in_ok-placed.placed.items c.loop-number.number c.index-is_placed.result.now within c.index-is_placed.ensures false) ∙ w.if-not-is_placed.false) in
      rw (w.is_on_circle-is, w.if-not-is_placed.false) (λ e. absurd (false≢true e), λ path. absurd (placed_is_on_no_circle c.args.graph.now c.args.order.now c.loop-number.number c.requires.topological placed path))
]

pub returns-in_err-check_class : goal.returns-in_err-check_class
returns-in_err-check_class c =
    let p = err_from_is_err_and c.from_residual-in_err-check_class.result c.from_residual-in_err-check_class.ensures.1 in
    rw (p.1, p.2) (one_refused c.args.headers.now c.loop-number.number _ (omega arith) c.loop-number.invariant (record { folder = c.in_err-check_class.ensures.folder; library = c.in_err-check_class.ensures.library }))

pub loop-number-preserved : goal.loop-number-preserved
loop-number-preserved c =
    one_more c.args.headers.now c.loop-number.number (omega arith) c.loop-number.invariant (record { folder = c.in_ok-check_class.ensures.folder; library = c.in_ok-check_class.ensures.library })

pub returns : goal.returns
returns c = none_left c.args.headers.now c.loop-number.number (omega arith) c.loop-number.invariant
