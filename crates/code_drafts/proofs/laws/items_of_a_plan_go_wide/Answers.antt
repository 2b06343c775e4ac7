use Rattle.code_drafts.proofs.laws.items_of_a_plan_go_wide.Goals as goal
use Rattle.code_drafts.specs.Laws.WideReady.{all_wide}

pub returns : goal.returns
returns c = λ s constructor pool plan routes formed valid routed. all_wide s constructor pool plan routes formed valid routed
