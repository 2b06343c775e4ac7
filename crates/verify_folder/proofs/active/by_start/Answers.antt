use Rattle.std.proofs.Common.{rules}
use Rattle.std.proofs.lemmas.List.Sorted.{IsNonDecreasingBy-from_sort_by_key}
use Rattle.class_model.specs.declared.class_file.Handler.{Handler}
use Rattle.verify_folder.proofs.active.by_start.Goals as goal

pub returns-clause-sorted : goal.returns-clause-sorted
returns-clause-sorted c =
    IsNonDecreasingBy-from_sort_by_key (λ (handler : Handler). handler.start) _ c.in_ok-sort_by_key.ensures.sorted (λ a r q k. search rules)
