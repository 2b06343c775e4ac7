-- The lines are those of a script.
use Rattle.std.proofs.Common.{◌≡◌, List, ℕ, rules, subst, sym}
use Rattle.std.specs.List.{AllByRecursion}
use Rattle.script_text.specs.PrintedScripts.{IsAction, printed_script}
use Rattle.script_text.specs.Scripts.{IsScript}
use Rattle.script_text.proofs.PrintedActions.{reads_back}
use Rattle.script_text.proofs.printed_scripts.print_script.Goals as goal

pub returns-clause-read_back : goal.returns-clause-read_back
returns-clause-read_back c =
    let actions = c.args.actions.now in
    let printed : c.from_vec.result ≡ printed_script actions = search rules in
    let known : AllByRecursion IsAction actions = search rules in
    subst (λ (t : List ℕ). IsScript t actions) (sym printed) (reads_back actions known)
