-- The program's command as the grammar sees it.
use Rattle.pea_top.specs.Words as grammar
use Rattle.pea_top.specs.declared.words.Command.{Command}
use Rattle.pea_top.specs.declared.words.Command.TheVariants.{OnFolder, Listing, Generated}
use Rattle.pea_top.specs.declared.words.Task.{Task}
use Rattle.pea_top.specs.declared.words.Task.TheVariants.{Optimise, Verify, Plan, Run, Both}

abbrev pub task_view : Task → grammar.Task
task_view (Optimise output) = grammar.Optimise output.now
task_view Verify = grammar.Verify
task_view Plan = grammar.Plan
task_view (Run script steps) = grammar.Run script.now steps
task_view (Both script steps) = grammar.Both script.now steps

abbrev pub command_view : Command → grammar.Command
command_view (OnFolder input library task) =
    grammar.OnFolder input.now library.now (task_view task)
command_view (Listing input name) = grammar.Listing input.now name.now
command_view (Generated number size) = grammar.Generated number size
