use Rattle.std.proofs.Common.{sym, subst, ◌∙◌}
use Rattle.std.proofs.lemmas.Bool.{false≢true}
use Rattle.std.proofs.lemmas.Result.{err_from_is_err_and}
use Rattle.class_tree.specs.Trees.{AreHeadersInOrder}
use Rattle.class_tree.proofs.BuiltSteps.{same_headers, duplicate_refused}
use Rattle.class_tree.proofs.build.link.Goals as goal
use Rattle.class_tree.proofs.build.link.Goals.{in-Some+in_ok-ask, in_default}

pub returns-in_err-ask : goal.returns-in_err-ask
returns-in_err-ask c =
    let p = err_from_is_err_and c.from_residual.result c.from_residual.ensures.1 in
    let same = c.new-all.ensures ∙ same_headers c.args.folder.now (record { folder = c.args.headers.now; library = c.args.library.now }) c.requires.headers in
    rw (p.1, p.2) (duplicate_refused (record { folder = c.args.folder.now; library = c.args.library.now }) c.new-all.result c.args.headers.now c.in-Some.name.now _ same c.in-Some.ensures.twice c.in-Some.ensures.first c.in_err-ask.ensures)

pub link_in_order-requires-clause-in_order : goal.link_in_order-requires-clause-in_order
link_in_order-requires-clause-in_order c = record {
  folder = subst (λ headers. AreHeadersInOrder headers.folder) (sym c.new-all.ensures) c.requires.folder_sorted;
  library = subst (λ headers. AreHeadersInOrder headers.library) (sym c.new-all.ensures) c.requires.library_sorted;
  once = elim c.match-first_duplicate.branch [
    | in-Some+in_ok-ask w ↦ absurd (false≢true w.in_ok-ask.ensures.0)
    | in_default w ↦ w.in_default.ensures.none
  ];
}
