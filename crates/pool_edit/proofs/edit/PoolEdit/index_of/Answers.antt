use Rattle.std.proofs.Common.{ℕ, List, ◌++◌, Option, sym, subst, ◌∙◌}
use Rattle.std.specs.List.{flat_map}
use Rattle.std.specs.Map.{keys_of, lookup}
use Rattle.class_model.specs.Pool.{Constants, entries_of}
use Rattle.class_model.specs.contracts.pool.ConstPartialEq.TheImpl.{ghosts as comparison}
use Rattle.class_model.specs.declared.pool.Const.{Const}
use Rattle.pool_edit.specs.Edits.{Edit, IsAbsent, grown}
use Rattle.pool_edit.specs.Inner.Known.{Says}
use Rattle.pool_edit.proofs.Numbered.{numbered-says}
use Rattle.pool_edit.proofs.edit.PoolEdit.index_of.Goals as goal

pub returns-in-None : goal.returns-in-None
returns-in-None c =
    let kept = c.self.invariant in
    let base = c.self.inside.base in
    let entries = c.self.inside.added.entries in
    let value = c.args.value.now in
    let pool : Constants = base ++ flat_map entries_of (keys_of entries) in
    let absent : IsAbsent base value = subst (λ (found : Option ℕ). Says base value found) (sym c.in-None.ensures.value) (kept.knows.says value) in
    let said = numbered-says comparison.eq c.constants_compare_by_value.ensures base (keys_of entries) value kept.new absent in
    let here : Says pool value (lookup (comparison.eq value) entries) = subst (λ (all : List (Const × ℕ)). Says pool value (lookup (comparison.eq value) all)) (sym kept.numbers) said in
    subst (λ (edit : Edit). Says (grown edit) value c.copied.result) c.self.view_is
    (subst (λ (found : Option ℕ). Says pool value found) (sym (c.copied.ensures ∙ c.get-in-None.ensures.value)) here)
