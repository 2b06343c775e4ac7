use Rattle.std.proofs.Common.{◌≡◌, ℕ, ◌+◌, ◌≤◌, List, [], ◌∷◌, ◌++◌, length, sym, subst, ap, ◌∙◌, arith}
use Rattle.std.specs.List.{flat_map}
use Rattle.std.specs.Map.{keys_of, lookup}
use Rattle.class_model.specs.Pool.{entries_of}
use Rattle.class_model.specs.contracts.pool.ConstPartialEq.TheImpl.{ghosts as comparison}
use Rattle.class_model.specs.declared.pool.Const.{Const}
use Rattle.pool_edit.specs.Edits.{Edit, IsAbsent, IsFirstIndex, grown}
use Rattle.pool_edit.specs.Inner.Kept.{IsKept}
use Rattle.pool_edit.proofs.Keeps.{kept-push, first-pushed}
use Rattle.pool_edit.proofs.Numbered.{numbered-lacks}
use Rattle.pool_edit.proofs.edit.PoolEdit.add.Goals as goal

pub append-requires : goal.append-requires
append-requires c =
    let kept = c.self.invariant in
    let base = c.self.inside.base in
    let entries = c.self.inside.added.entries in
    let value = c.args.value in
    let absent : IsAbsent (base ++ flat_map entries_of (keys_of entries)) value = subst (λ (edit : Edit). IsAbsent (grown edit) value) (sym c.self.view_is) c.in_default.ensures in
    ap (λ (all : List (Const × ℕ)). lookup (comparison.eq value) all) kept.numbers
    ∙ numbered-lacks comparison.eq c.constants_compare_by_value.ensures base (keys_of entries) value kept.new absent

pub invariant_of-self-2 : goal.invariant_of-self-2
invariant_of-self-2 c =
    let kept = c.self.invariant in
    let base = c.self.inside.base in
    let entries = c.self.inside.added.entries in
    let count = c.self.inside.count in
    let known = c.self.inside.known in
    let value = c.args.value in
    let absent : IsAbsent (base ++ flat_map entries_of (keys_of entries)) value = subst (λ (edit : Edit). IsAbsent (grown edit) value) (sym c.self.view_is) c.in_default.ensures in
    let units : c.units-units.result ≡ length (entries_of value) = c.units-units.ensures in
    let fits : count + length (entries_of value) ≤ 65535 = omega arith in
    subst (λ (all : List (Const × ℕ)). IsKept base known all (count + c.units-units.result)) (sym c.in_ok-append.ensures.ok)
    (subst (λ (n : ℕ). IsKept base known (entries ++ (value, count) ∷ []) (count + n)) (sym units) (kept-push base known entries count kept value absent fits))

pub returns-clause-index : goal.returns-clause-index
returns-clause-index c =
    let kept = c.self.invariant in
    let base = c.self.inside.base in
    let entries = c.self.inside.added.entries in
    let count = c.self.inside.count in
    let value = c.args.value in
    let absent : IsAbsent (base ++ flat_map entries_of (keys_of entries)) value = subst (λ (edit : Edit). IsAbsent (grown edit) value) (sym c.self.view_is) c.in_default.ensures in
    subst (λ (all : List (Const × ℕ)). IsFirstIndex (base ++ flat_map entries_of (keys_of all)) value count) (sym c.in_ok-append.ensures.ok)
    (first-pushed base c.self.inside.known entries count kept value absent)
