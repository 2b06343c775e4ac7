use Rattle.std.proofs.Common.{rules, sym, subst, map}
use Rattle.std.proofs.lemmas.Cmp.{nat_list_cmp_total}
use Rattle.std.proofs.lemmas.Fn.{always_returns_same}
use Rattle.std.proofs.lemmas.List.Sorted.{ranks_by}
use Rattle.std.specs.Cmp.Lexicographic.{slice_cmp}
use Rattle.std.specs.Ordering.{nat_cmp, is_lt}
use Rattle.std.specs.List.{AllByRecursion}
use Rattle.class_model.specs.Header.{header_of}
use Rattle.class_model.specs.declared.class_file.ClassFile.{ClassFile}
use Rattle.class_tree.specs.Headers.{IsClassFile}
use Rattle.class_tree.specs.Trees.{AreHeadersInOrder}
use Rattle.class_tree.proofs.Searches.{sorted_by_names, kept_by_order}
use Rattle.class_tree.proofs.arrange.sort_folder.Goals as goal

pub returns-clause-sorted : goal.returns-clause-sorted
returns-clause-sorted c =
    subst (λ classes. AreHeadersInOrder (map header_of classes)) (sym c.from_vec.ensures)
    (sorted_by_names _ (c.in_ok-sort_by.ensures.sorted (λ (one other : ClassFile). is_lt (slice_cmp nat_cmp (header_of one).name (header_of other).name)) (ranks_by nat_list_cmp_total (λ (class : ClassFile). (header_of class).name)) (always_returns_same _ _ _ (λ a r f' k. search rules))))

pub returns-clause-class_files : goal.returns-clause-class_files
returns-clause-class_files c =
    subst (AllByRecursion IsClassFile) (sym c.from_vec.ensures)
    (kept_by_order IsClassFile _ _ c.in_ok-sort_by.ensures.permutation (subst (AllByRecursion IsClassFile) (sym c.into_vec-classes.ensures) c.requires))
