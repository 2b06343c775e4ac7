-- The actions of a generated script: a call of each generated method, an answer to what it calls, if it calls anything, and the end.
use Rattle.std.specs.Prelude.{◌==◌, ℕ, pos, Bool, true, List, [], ◌∷◌, ◌++◌, codes, None}
use Rattle.machine_values.specs.declared.action.Action.{Action}
use Rattle.machine_values.specs.declared.action.Action.TheVariants.{Call, Return, Stop}
use Rattle.machine_values.specs.declared.action.Given.TheVariants.{Int}
use Rattle.work_gen.specs.Generated.{indexed, method_name}
use Rattle.work_gen.specs.declared.choices.Choice.{Choice}
use Rattle.work_gen.specs.declared.choices.Kind.{Kind}
use Rattle.work_gen.specs.declared.choices.Kind.TheVariants.{Branches}

-- the answer to the call of L.use, which the kind with branches makes for 1
abbrev pub answer_actions : Kind → Bool → List Action
answer_actions Branches true = Return None ∷ []
answer_actions kind other = []

-- the actions of the method of a number
abbrev pub call_actions : ℕ → Choice → List Action
call_actions number choice =
    Call (codes "G") (method_name number) (codes "(I)I") (Int (pos choice.argument) ∷ [])
    ∷ answer_actions choice.kind (choice.argument == 1)

abbrev pub generated_actions : List Choice → List Action
generated_actions chosen = indexed call_actions 0 chosen ++ Stop ∷ []
