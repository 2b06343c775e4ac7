-- One word more, or none.
use Rattle.std.proofs.Common.{ℕ, List, Option, sym, subst}
use Rattle.std.specs.Option.{option_copied}
use Rattle.script_text.specs.Scripts.{SpellsText}
use Rattle.script_text.specs.Inner.Reading.{words_left, IsRead}
use Rattle.script_text.proofs.EachWord.{EachSoFar, each_more, each_done, each_stuck}
use Rattle.script_text.proofs.lists.texts_of.Goals as goal

pub returns-in_default-2 : goal.returns-in_default-2
returns-in_default-2 c =
    let never : (text : List ℕ) → ¬ SpellsText text c.in-Some.word.now = subst (λ (o : Option (List ℕ)). IsRead (λ text. SpellsText text c.in-Some.word.now) o) c.in_default-2.is c.in_ok-text.ensures in
    each_stuck SpellsText _ _ _ _ _ c.loop-word.invariant c.in-Some.ensures.some never

pub loop-word-preserved : goal.loop-word-preserved
loop-word-preserved c =
    let spelled : SpellsText c.in-Some-2.text c.in-Some.word.now = subst (λ (o : Option (List ℕ)). IsRead (λ text. SpellsText text c.in-Some.word.now) o) c.in-Some-2.is c.in_ok-text.ensures in
    subst (λ (t : List (List ℕ)). EachSoFar SpellsText (words_left (option_copied c.args.words)) t (words_left (option_copied c.in-Some.rest))) (sym c.in_ok-push.ensures.ok)
    (each_more SpellsText _ _ _ _ _ _ c.loop-word.invariant c.in-Some.ensures.some spelled)

pub returns : goal.returns
returns c = each_done SpellsText _ _ _ c.loop-word.invariant c.in_default.ensures.none
