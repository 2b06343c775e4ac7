use Rattle.std.proofs.Common.{rules, sym, subst}
use Rattle.std.proofs.lemmas.Cmp.{nat_list_cmp_total}
use Rattle.std.proofs.lemmas.Fn.{always_returns_same}
use Rattle.std.proofs.lemmas.List.Sorted.{ranks_by}
use Rattle.std.specs.Cmp.Lexicographic.{slice_cmp}
use Rattle.std.specs.Ordering.{nat_cmp, is_lt}
use Rattle.class_model.specs.declared.header.Header.{Header}
use Rattle.class_tree.specs.Trees.{AreHeadersInOrder}
use Rattle.class_tree.proofs.arrange.sort_library.Goals as goal

pub returns-clause-sorted : goal.returns-clause-sorted
returns-clause-sorted c =
    subst AreHeadersInOrder (sym c.from_vec.ensures)
    (c.in_ok-sort_by.ensures.sorted (λ (one other : Header). is_lt (slice_cmp nat_cmp one.name other.name)) (ranks_by nat_list_cmp_total (λ (header : Header). header.name)) (always_returns_same _ _ _ (λ a r f' k. search rules)))
