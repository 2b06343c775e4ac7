use Rattle.std.proofs.Common.{Bool, [], if◌then◌else◌, sym, ap, ◌∙◌}
use Rattle.plan_flow.specs.PlanTable.{operands_asked}
use Rattle.plan_flow.proofs.table.library_operands.Goals as goal

pub returns-then-is_of_library : goal.returns-then-is_of_library
returns-then-is_of_library c = λ f links flat.
    ap (λ (b : Bool). if b then operands_asked f c.args.count else []) (sym c.if-is_of_library.true ∙ c.is_of_library.ensures links flat)

pub returns-else-is_of_library : goal.returns-else-is_of_library
returns-else-is_of_library c = λ f links flat.
    ap (λ (b : Bool). if b then operands_asked f c.args.count else []) (sym c.if-is_of_library.false ∙ c.is_of_library.ensures links flat)
