use Rattle.type_rules.proofs.Grown.Asked.{code_asked}
use Rattle.type_rules.proofs.Grown.Whole.{entry_kept, method_linked, method_runs, method_typed, site_kept, stated_kept}
use Rattle.type_rules.proofs.laws.a_grown_class_keeps_its_code.Goals as goal

pub returns-clause-entry : goal.returns-clause-entry
returns-clause-entry c = λ old new number method part is grown there. entry_kept old new is grown number method there part

pub returns-clause-stated : goal.returns-clause-stated
returns-clause-stated c = λ old new number method part is grown there code.
    stated_kept old new is grown number method there c.alike_classes_have_one_look_up.ensures.methods c.checks_hold_over_a_grown_pool.ensures.frames part
    (code_asked old is number method there part code)

pub returns-clause-typed : goal.returns-clause-typed
returns-clause-typed c = λ before after old new number method frames headers is grown there types.
    method_typed old new is grown number method there c.alike_classes_have_one_look_up.ensures.methods c.checks_hold_over_a_grown_pool.ensures.frames before after headers frames types

pub returns-clause-site : goal.returns-clause-site
returns-clause-site c = λ old new number method is grown there. site_kept old new is grown number method there

pub returns-clause-linked : goal.returns-clause-linked
returns-clause-linked c = λ before after old new number method site headers is grown there asks.
    method_linked old new is grown number method there c.alike_classes_have_one_look_up.ensures.methods c.checks_hold_over_a_grown_pool.ensures.frames before after headers site asks

pub returns-clause-runs : goal.returns-clause-runs
returns-clause-runs c = λ before after old new number method links headers is grown there.
    method_runs old new is grown number method there c.alike_classes_have_one_look_up.ensures.methods c.checks_hold_over_a_grown_pool.ensures.frames before after headers links
