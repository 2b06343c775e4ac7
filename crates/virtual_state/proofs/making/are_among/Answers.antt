use Rattle.std.proofs.Common.{arith}
use Rattle.virtual_state.proofs.Fronts.{all_among}
use Rattle.virtual_state.specs.Sites.{has}
use Rattle.virtual_state.proofs.making.are_among.Goals as goal

pub returns : goal.returns
returns c = λ told.
    all_among (has c.args.among.now) c.args.objects.now c.end-site-end.result c.is_in_order.ensures c.end-site-end.ensures
    (λ site low. c.loop-site.invariant site (let past = c.loop-site-test.false in omega (arith, low, past)))
