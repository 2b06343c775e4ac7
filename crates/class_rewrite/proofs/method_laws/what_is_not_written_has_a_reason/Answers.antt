use Rattle.class_rewrite.proofs.KeptMethods.{kept_reason}
use Rattle.class_rewrite.proofs.method_laws.what_is_not_written_has_a_reason.Goals as goal

pub returns : goal.returns
returns c = λ of m before reason meant edit kept.
    kept_reason of m meant (c.what_is_meant_can_be_written.ensures of m meant) c.items_of_a_plan_go_wide.ensures before edit reason kept
