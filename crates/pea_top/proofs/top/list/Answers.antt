use Rattle.std.proofs.Common.{◌∙◌}
use Rattle.host_tree.specs.Host.{Bytes}
use Rattle.pea_top.specs.Inner.Ended.{ended}
use Rattle.pea_top.proofs.Outcomes.{printed_behind, stop_listed, stop_listing}
use Rattle.pea_top.proofs.top.list.Goals as goal

-- the listing was printed, or that stopped
pub returns-in-Ok-clause-stop : goal.returns-in-Ok-clause-stop
returns-in-Ok-clause-stop g c = λ words spelled tells.
    let left = rw c.as_slice.ensures at (c.finish.ensures.left tells) in
    stop_listed words c.args.input.now c.args.name.now spelled _ _ c.in-Ok.text _ _ (c.in-Ok.ensures.found tells) (ended c.finish.result) (printed_behind _ _ _ _ _ _ _ _ (c.in-Ok.ensures.files tells) (c.in-Ok.ensures.printed tells) left)

-- or there is none
pub returns-in-Err-clause-stop : goal.returns-in-Err-clause-stop
returns-in-Err-clause-stop g c = λ words spelled tells.
    let same = λ (root : Bytes) (name : Bytes). c.explain_listing.ensures.files tells root name ∙ c.in-Err.ensures.files tells root name in
    let printed = c.explain_listing.ensures.printed tells ∙ c.in-Err.ensures.printed tells in
    rw c.list_status.ensures (stop_listing words _ _ _ _ same printed c.args.input.now c.args.name.now spelled c.in-Err.stop (c.in-Err.ensures.found tells))
