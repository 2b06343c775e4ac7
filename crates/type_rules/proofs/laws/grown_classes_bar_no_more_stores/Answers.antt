use Rattle.type_rules.proofs.Grown.Stores.{bars_no_more}
use Rattle.type_rules.proofs.laws.grown_classes_bar_no_more_stores.Goals as goal

pub returns : goal.returns
returns c = bars_no_more
