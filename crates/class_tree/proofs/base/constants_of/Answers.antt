use Rattle.std.proofs.Common.{ap}
use Rattle.std.specs.List.{list_any}
use Rattle.std.proofs.lemmas.List.{drop_all}
use Rattle.class_tree.specs.Steps.{has_constant, is_method_handle, is_method_type}
use Rattle.class_tree.proofs.FoundConstants.{found_more, all_found, at_class}
use Rattle.class_tree.proofs.base.constants_of.Goals as goal

pub loop-class-preserved : goal.loop-class-preserved
loop-class-preserved c =
    rw (c.or-constants.ensures, c.constants_in.ensures.method_handle, c.constants_in.ensures.method_type) (
      found_more _ _ _ _ _ (at_class (has_constant is_method_handle) c.args.folder.now c.loop-class.class-index c.class-item.result c.loop-class-test.true c.class-item.is) c.loop-class.invariant.0,
      found_more _ _ _ _ _ (at_class (has_constant is_method_type) c.args.folder.now c.loop-class.class-index c.class-item.result c.loop-class-test.true c.class-item.is) c.loop-class.invariant.1,
    )

pub returns-clause-method_handle : goal.returns-clause-method_handle
returns-clause-method_handle c =
    all_found _ _ _ (ap (list_any (has_constant is_method_handle)) (drop_all c.loop-class.class-index c.args.folder.now c.loop-class-test.false)) c.loop-class.invariant.0

pub returns-clause-method_type : goal.returns-clause-method_type
returns-clause-method_type c =
    all_found _ _ _ (ap (list_any (has_constant is_method_type)) (drop_all c.loop-class.class-index c.args.folder.now c.loop-class-test.false)) c.loop-class.invariant.1
