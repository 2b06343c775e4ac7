use Rattle.type_rules.proofs.Grown.Files.{handles_stay, starts_kept}
use Rattle.type_rules.proofs.laws.a_grown_class_begins_alike.Goals as goal

pub returns-clause-starts : goal.returns-clause-starts
returns-clause-starts c = starts_kept

pub returns-clause-handles : goal.returns-clause-handles
returns-clause-handles c = λ old new grown is none. handles_stay old new is grown none
