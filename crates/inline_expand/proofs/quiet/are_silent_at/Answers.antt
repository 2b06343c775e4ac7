use Rattle.std.proofs.Common.{refl, sym, ◌∙◌}
use Rattle.std.proofs.lemmas.Bool.{false≢true}
use Rattle.class_tree.specs.Headers.{headers_of}
use Rattle.class_tree.specs.declared.place.Place.TheVariants.{Folder}
use Rattle.inline_expand.proofs.AllLeft.{left_at, left_none, passes_at}
use Rattle.inline_expand.specs.Inner.QuietWords.{IsSilentAt}
use Rattle.inline_expand.proofs.quiet.are_silent_at.Goals as goal

pub loop-place-preserved : goal.loop-place-preserved
loop-place-preserved c =
    left_at (IsSilentAt (headers_of c.args.tree.now)) c.args.places.now c.loop-place.place-index (Folder 0) c.loop-place-test.true
    (c.is_silent_at.ensures.0 c.if-not-is_silent_at.false) c.loop-place.invariant

pub returns-then-not-is_silent_at : goal.returns-then-not-is_silent_at
returns-then-not-is_silent_at c = (
  λ is. absurd (false≢true is),
  λ all. absurd (false≢true (sym c.if-not-is_silent_at.true
      ∙ c.is_silent_at.ensures.1 (passes_at (IsSilentAt (headers_of c.args.tree.now)) c.args.places.now c.loop-place.place-index (Folder 0) c.loop-place-test.true all))),
)

pub returns : goal.returns
returns c = (
  λ is. left_none (IsSilentAt (headers_of c.args.tree.now)) c.args.places.now c.loop-place.place-index c.loop-place-test.false c.loop-place.invariant,
  λ all. refl,
)
