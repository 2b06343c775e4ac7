use Rattle.std.proofs.Common.{◌<◌, ◌≤◌, length, arith}
use Rattle.class_tree.specs.Steps.{is_method_handle, is_method_type}
use Rattle.class_tree.proofs.FoundConstants.{found_more, all_found, at_index, behind_last}
use Rattle.class_tree.proofs.base.constants_in.Goals as goal

pub loop-index-preserved : goal.loop-index-preserved
loop-index-preserved c =
    let within : c.loop-index.index < length c.args.class.now.pool = omega arith in
    rw (c.or-constants.ensures, c.constants_at.ensures.method_handle, c.constants_at.ensures.method_type) (
      found_more _ _ _ _ _ (at_index is_method_handle c.args.class.now c.loop-index.index within) c.loop-index.invariant.0,
      found_more _ _ _ _ _ (at_index is_method_type c.args.class.now c.loop-index.index within) c.loop-index.invariant.1,
    )

pub returns-clause-method_handle : goal.returns-clause-method_handle
returns-clause-method_handle c =
    let end : length c.args.class.now.pool ≤ c.loop-index.index = omega arith in
    all_found _ _ _ (behind_last is_method_handle c.args.class.now c.loop-index.index end) c.loop-index.invariant.0

pub returns-clause-method_type : goal.returns-clause-method_type
returns-clause-method_type c =
    let end : length c.args.class.now.pool ≤ c.loop-index.index = omega arith in
    all_found _ _ _ (behind_last is_method_type c.args.class.now c.loop-index.index end) c.loop-index.invariant.1
