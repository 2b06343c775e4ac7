-- The action of a line, if it has one.
use Rattle.std.proofs.Common.{List, subst, sym}
use Rattle.machine_values.specs.declared.action.Action.{Action}
use Rattle.script_text.specs.declared.scripts.Line.{Line}
use Rattle.script_text.specs.Inner.Lines.{AddsLine, adds_nothing, adds_action, ReadsLine}
use Rattle.script_text.proofs.scripts.add_line.Goals as goal

pub returns-in-Ok-Empty-clause-added : goal.returns-in-Ok-Empty-clause-added
returns-in-Ok-Empty-clause-added c = adds_nothing (subst (λ (l : Line). ReadsLine c.args.line.now l) c.in-Ok-Empty.field-0-is c.in-Ok-Empty.ensures)

pub returns-in-Ok-clause-added : goal.returns-in-Ok-clause-added
returns-in-Ok-clause-added c =
    subst (λ (t : List Action). AddsLine c.args.line.now c.args.actions.now t) (sym c.in-Ok.ensures.ok)
    (adds_action (subst (λ (l : Line). ReadsLine c.args.line.now l) c.in-Ok-Action.field-0-is c.in-Ok-Action.ensures))
