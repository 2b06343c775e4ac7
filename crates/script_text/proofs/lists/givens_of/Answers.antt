-- One word more, or none.
use Rattle.std.proofs.Common.{List, sym, subst}
use Rattle.std.specs.Option.{option_copied}
use Rattle.machine_values.specs.declared.action.Given.{Given}
use Rattle.script_text.specs.Scripts.{SpellsGiven}
use Rattle.script_text.specs.Inner.Reading.{words_left}
use Rattle.script_text.proofs.EachWord.{EachSoFar, each_more, each_done, each_stuck}
use Rattle.script_text.proofs.lists.givens_of.Goals as goal

pub returns-in_default-given_of : goal.returns-in_default-given_of
returns-in_default-given_of c = each_stuck SpellsGiven _ _ _ _ _ c.loop-word.invariant c.in-Some.ensures.some c.in_default-given_of.ensures

pub loop-word-preserved : goal.loop-word-preserved
loop-word-preserved c =
    subst (λ (t : List Given). EachSoFar SpellsGiven (words_left (option_copied c.args.words)) t (words_left (option_copied c.in-Some.rest))) (sym c.in_ok-push.ensures.ok)
    (each_more SpellsGiven _ _ _ _ _ _ c.loop-word.invariant c.in-Some.ensures.some c.in-Some-given_of.ensures)

pub returns : goal.returns
returns c = each_done SpellsGiven _ _ _ c.loop-word.invariant c.in_default.ensures.none
