use Rattle.std.proofs.Common.{◌≢◌, refl, sym, ◌∙◌}
use Rattle.std.proofs.lemmas.Bool.{false≢true}
use Rattle.class_tree.specs.Headers.{Name, Headers, headers_of}
use Rattle.class_tree.specs.Names.{object}
use Rattle.inline_expand.proofs.AllLeft.{left_more, left_none, item_passes}
use Rattle.inline_expand.specs.Inner.QuietWords.{IsQuietItself}
use Rattle.inline_expand.proofs.quiet.are_quiet.Goals as goal

abbrev Passes : Headers → Name → Type 0
Passes headers name = name ≢ object → IsQuietItself headers name

pub loop-class-preserved : goal.loop-class-preserved
loop-class-preserved c =
    left_more (Passes (headers_of c.args.tree.now)) c.args.classes.now c.loop-class.class-index c.class-item.result c.loop-class-test.true c.class-item.is
    (c.is_quiet_but_object.ensures.0 c.if-not-is_quiet_but_object.false) c.loop-class.invariant

pub returns-then-not-is_quiet_but_object : goal.returns-then-not-is_quiet_but_object
returns-then-not-is_quiet_but_object c = (
  λ is. absurd (false≢true is),
  λ all. absurd (false≢true (sym c.if-not-is_quiet_but_object.true
      ∙ c.is_quiet_but_object.ensures.1 (item_passes (Passes (headers_of c.args.tree.now)) c.args.classes.now c.loop-class.class-index c.class-item.result c.loop-class-test.true c.class-item.is all))),
)

pub returns : goal.returns
returns c = (
  λ is. left_none (Passes (headers_of c.args.tree.now)) c.args.classes.now c.loop-class.class-index c.loop-class-test.false c.loop-class.invariant,
  λ all. refl,
)
