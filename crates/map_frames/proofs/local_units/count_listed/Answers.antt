use Rattle.std.proofs.Common.{◌≡◌, ℕ, ◌+◌, ◌-◌, true, false, take, ap, sym, ◌∙◌, arith}
use Rattle.std.specs.List.{slice_get}
use Rattle.map_frames.specs.Inner.Units.{is_top_there}
use Rattle.map_frames.proofs.FrameUnits.{kept}
use Rattle.map_frames.proofs.ListedUnits.{before_tops, without_top, up_to_other}
use Rattle.map_frames.proofs.local_units.count_listed.Goals as goal

pub loop-end-init : goal.loop-end-init
loop-end-init c = record { same = before_tops c.args.locals.now c.listed-end.result c.listed-end.ensures.tops; few = c.listed-end.ensures.few }

pub loop-end-preserved : goal.loop-end-preserved
loop-end-preserved c =
    let end = c.loop-end.end in
    let top : is_top_there (slice_get c.args.locals.now (end - 1)) ≡ true = ap is_top_there (sym c.get.ensures) ∙ sym c.is_top.ensures ∙ c.if-is_top.true in
    let same : end - 1 + 1 ≡ end = omega arith in
    record {
      same = sym (without_top c.args.locals.now (end - 1) top) ∙ ap (λ (n : ℕ). kept (take n c.args.locals.now)) same ∙ c.loop-end.invariant.same;
      few = omega arith;
    }

pub returns-else-is_top-clause-listed : goal.returns-else-is_top-clause-listed
returns-else-is_top-clause-listed c =
    let end = c.loop-end.end in
    let other : is_top_there (slice_get c.args.locals.now (end - 1)) ≡ false = ap is_top_there (sym c.get.ensures) ∙ sym c.is_top.ensures ∙ c.if-is_top.false in
    let same : end - 1 + 1 ≡ end = omega arith in
    let whole : kept (take end c.args.locals.now) ≡ take end c.args.locals.now = rw same at (up_to_other c.args.locals.now (end - 1) (omega arith) other) in
    sym whole ∙ c.loop-end.invariant.same
