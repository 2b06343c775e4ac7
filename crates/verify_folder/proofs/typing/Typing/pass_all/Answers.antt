use Rattle.verify_folder.proofs.Passing.{all_passed, one_passed}
use Rattle.verify_folder.proofs.typing.Typing.pass_all.Goals as goal

pub loop-placed-preserved : goal.loop-placed-preserved
loop-placed-preserved c = (
  one_passed c.args.self.now c.loop-placed.flows c.as_slice-placed-items.result.now c.loop-placed.placed-index c.loop-placed.invariant.0 c.placed-item.result c.loop-placed-test.true c.placed-item.is c.in_ok-flows.flows c.in_ok-flows.ensures.told,
  c.in_ok-flows.ensures.in_force,
  c.in_ok-flows.ensures.known,
)

pub returns : goal.returns
returns c = all_passed c.args.self.now c.loop-placed.flows c.as_slice-placed-items.result.now c.loop-placed.placed-index c.loop-placed.invariant.0 c.loop-placed-test.false c.in-None.is
