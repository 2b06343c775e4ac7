use Rattle.std.proofs.Common.{refl, sym, ◌∙◌}
use Rattle.std.proofs.lemmas.Bool.{false≢true}
use Rattle.class_tree.specs.Headers.{headers_of}
use Rattle.inline_expand.proofs.AllLeft.{left_more, left_none, item_passes}
use Rattle.inline_expand.specs.Inner.QuietWords.{IsInterfaceThere, IsSilent}
use Rattle.inline_expand.proofs.quiet.are_silent.Goals as goal

pub loop-interface-preserved : goal.loop-interface-preserved
loop-interface-preserved c =
    left_more (IsSilent (headers_of c.args.tree.now)) c.args.interfaces.now c.loop-interface.interface-index c.interface-item.result c.loop-interface-test.true c.interface-item.is
    (c.is_silent.ensures.0 c.if-not-is_silent.false) c.loop-interface.invariant

pub returns-then-not-is_silent : goal.returns-then-not-is_silent
returns-then-not-is_silent c = (
  λ is. absurd (false≢true is),
  λ all. absurd (false≢true (sym c.if-not-is_silent.true
      ∙ c.is_silent.ensures.1 (item_passes (IsSilent (headers_of c.args.tree.now)) c.args.interfaces.now c.loop-interface.interface-index c.interface-item.result c.loop-interface-test.true c.interface-item.is all))),
)

pub is_silent-requires : goal.is_silent-requires
is_silent-requires c =
    item_passes (IsInterfaceThere (headers_of c.args.tree.now)) c.args.interfaces.now c.loop-interface.interface-index c.interface-item.result c.loop-interface-test.true c.interface-item.is c.requires

pub returns : goal.returns
returns c = (
  λ is. left_none (IsSilent (headers_of c.args.tree.now)) c.args.interfaces.now c.loop-interface.interface-index c.loop-interface-test.false c.loop-interface.invariant,
  λ all. refl,
)
