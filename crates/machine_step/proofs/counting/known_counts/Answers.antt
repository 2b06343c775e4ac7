use Rattle.std.proofs.Common.{ℕ, List, length, sym, subst, ap, ◌∙◌}
use Rattle.machine_values.specs.Counts.{AreHeld, all_counts}
use Rattle.machine_values.specs.declared.count_list.HeldCount.{HeldCount}
use Rattle.machine_step.proofs.CountedLists.{collected-counts, collected-held}
use Rattle.machine_step.proofs.counting.known_counts.Goals as goal

pub of_held-requires : goal.of_held-requires
of_held-requires c =
    let known = c.args.known.now in
    let counts = c.in_ok-counts.counts in
    subst (λ (len : ℕ). AreHeld 0 len c.in_ok-held.held.items) (sym c.len.ensures)
    (subst (λ (held : List HeldCount). AreHeld 0 (length known) held) (sym c.in_ok-held.ensures.same)
    (collected-held c.args.heap.now known c.args.references.now counts c.in_ok-counts.ensures c.held_counts.ensures.ordered))

pub returns : goal.returns
returns c =
    let known = c.args.known.now in
    let counts = c.in_ok-counts.counts in
    c.of_held.ensures
    ∙ ap (λ (len : ℕ). all_counts 0 len c.in_ok-held.held.items) c.len.ensures
    ∙ ap (λ (held : List HeldCount). all_counts 0 (length known) held) c.in_ok-held.ensures.same
    ∙ collected-counts c.args.heap.now known c.args.references.now counts c.in_ok-counts.ensures c.requires c.held_counts.ensures.ordered
