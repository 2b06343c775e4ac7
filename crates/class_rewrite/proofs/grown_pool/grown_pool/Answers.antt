use Rattle.std.proofs.Common.{◌≡◌, ℕ, ◌≤◌, ◌++◌, ◌∙◌, List, length, IfOk, sym, ap, subst}
use Rattle.std.specs.List.{flat_map}
use Rattle.std.specs.Map.{keys_of}
use Rattle.class_model.specs.Pool.{Constants, entries_of}
use Rattle.class_model.specs.declared.pool.Const.{Const}
use Rattle.class_rewrite.proofs.PoolCopies.{keys_numbered}
use Rattle.class_rewrite.proofs.grown_pool.grown_pool.Goals as goal
use Rattle.pool_edit.specs.Edits.{Edit, added_entries, grown}

is_grown : (pool base : Constants) (entries : List (Const × ℕ)) (edit : Edit) → pool ≡ base → edit.base ≡ base → entries ≡ added_entries edit
    → pool ++ flat_map entries_of (keys_of entries) ≡ grown edit
is_grown pool base entries edit is own are =
    ap (λ (front : Constants). front ++ flat_map entries_of (keys_of entries)) (is ∙ sym own)
    ∙ ap (λ (constants : List Const). edit.base ++ flat_map entries_of constants) (ap keys_of are ∙ keys_numbered (length edit.base) edit.added)

pub with_added-requires : goal.with_added-requires
with_added-requires c =
    subst (λ (pool : Constants). length pool ≤ 65535)
    (sym (is_grown c.in_ok-pool.pool c.args.base.now c.added.result.now.entries c.args.edit.now c.in_ok-pool.ensures c.requires c.added.ensures))
    c.count-count.ensures.pool.count

pub returns : goal.returns
returns c =
    subst (λ (want : Constants). IfOk c.with_added.result (λ pool. pool ≡ want))
    (is_grown c.in_ok-pool.pool c.args.base.now c.added.result.now.entries c.args.edit.now c.in_ok-pool.ensures c.requires c.added.ensures)
    c.with_added.ensures
