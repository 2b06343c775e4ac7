use Rattle.std.proofs.Common.{◌≡◌, ◌+◌, ◌<◌, length, slice_get, take, Some, None, sym, subst, arith}
use Rattle.std.specs.HashMap.{Updates}
use Rattle.class_model.specs.contracts.pool.ConstPartialEq.TheImpl.{ghosts as comparison}
use Rattle.class_model.specs.declared.pool.Const.{Const}
use Rattle.pool_edit.specs.Inner.Known.{Indices, KnowsFirst}
use Rattle.pool_edit.proofs.Firsts.{const-slot, none-slot, none-if-not, knows-again, knows-new, knows-none}
use Rattle.pool_edit.proofs.known.first_indices.Goals as goal
use Rattle.pool_edit.proofs.known.first_indices.Goals.{in-Some+then-not-contains_key+in_ok-copy+in_ok-insert, in-Some+else-not-contains_key, in_default}

pub loop-index-preserved : goal.loop-index-preserved
loop-index-preserved c =
    let pool = c.args.pool.now in
    let at = c.loop-index.index in
    let known = c.loop-index.known in
    let same = c.constants_compare_by_value.ensures in
    let knows = c.loop-index.invariant.says in
    elim c.match-get.branch [
      | in-Some+then-not-contains_key+in_ok-copy+in_ok-insert w ↦
          let here = w.in-Some.constant.now in
          let is : slice_get pool at ≡ Some (Some here) = const-slot pool at here (sym w.in-Some.ensures) in
          let updates = subst (λ (key : Const). Updates comparison.eq known w.insert.new.self key (Some at)) w.in_ok-copy.ensures w.in_ok-insert.ensures.updates in
          subst (λ (after : Indices). KnowsFirst (take (at + 1) pool) after) (sym w.known-is)
          (record { says = knows-new comparison.eq same pool at known knows here w.insert.new.self is (none-if-not _ w.if-not-contains_key.ensures) updates })
      | in-Some+else-not-contains_key w ↦
          let here = w.in-Some.constant.now in
          let is : slice_get pool at ≡ Some (Some here) = const-slot pool at here (sym w.in-Some.ensures) in
          subst (λ (after : Indices). KnowsFirst (take (at + 1) pool) after) (sym w.known-is)
          (record { says = knows-again comparison.eq same pool at known knows here is (sym w.if-not-contains_key.ensures) })
      | in_default w ↦
          let within : at < length pool = omega arith in
          let is : slice_get pool at ≡ Some None = none-slot pool at (sym w.in_default.ensures) within in
          subst (λ (after : Indices). KnowsFirst (take (at + 1) pool) after) (sym w.known-is)
          (record { says = knows-none comparison.eq same pool at known knows is })
    ]
