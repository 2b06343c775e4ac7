use Rattle.code_drafts.proofs.laws.items_of_a_plan_are_emitted_code.Goals as goal
use Rattle.code_drafts.specs.Laws.EmittedItems.{items_are_emitted}

pub returns : goal.returns
returns c = λ s constructor pool plan routes items formed valid routed same. items_are_emitted s plan routes valid routed formed constructor pool items same
