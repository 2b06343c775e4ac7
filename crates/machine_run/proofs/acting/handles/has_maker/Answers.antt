use Rattle.std.proofs.Common.{◌||◌, ◌<◌, ◌+◌, Bool, drop, length, sym, ap, ◌∙◌, arith}
use Rattle.std.specs.List.{list_any}
use Rattle.machine_run.specs.Inner.ActWords.{makes_object}
use Rattle.machine_run.proofs.Makers.{entry_at}
use Rattle.machine_run.proofs.acting.handles.has_maker.Goals as goal

pub returns-then-makes_object : goal.returns-then-makes_object
returns-then-makes_object c =
    let pool = c.args.pool.now in
    let index = c.loop-index.index in
    let inside : index < length pool = omega (arith, c.loop-index-test.true, c.count-index-end.ensures.count) in
    sym (c.loop-index.invariant
    ∙ entry_at (makes_object pool c.args.class.now c.args.desc.now) pool index inside
    ∙ ap (λ (b : Bool). b || list_any (makes_object pool c.args.class.now c.args.desc.now) (drop (index + 1) pool))
    (sym c.makes_object.ensures ∙ c.if-makes_object.true))

pub loop-index-preserved : goal.loop-index-preserved
loop-index-preserved c =
    let pool = c.args.pool.now in
    let index = c.loop-index.index in
    let inside : index < length pool = omega (arith, c.loop-index-test.true, c.count-index-end.ensures.count) in
    c.loop-index.invariant
    ∙ entry_at (makes_object pool c.args.class.now c.args.desc.now) pool index inside
    ∙ ap (λ (b : Bool). b || list_any (makes_object pool c.args.class.now c.args.desc.now) (drop (index + 1) pool))
    (sym c.makes_object.ensures ∙ c.if-makes_object.false)
