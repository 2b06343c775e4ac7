use Rattle.std.proofs.Common.{◌<◌, ◌∙◌, ℕ, List, ap, length, slice_set, arith}
use Rattle.class_model.specs.declared.frame.VType.TheVariants.{Object}
use Rattle.row_frames.specs.Inner.Becoming.{becomes}
use Rattle.row_frames.proofs.BecomingLocals.{next_object, next_same, top_stays}
use Rattle.row_frames.proofs.MappedSoFar.{all_mapped}
use Rattle.row_frames.proofs.initialisers.Copies.locals.Goals as goal
use Rattle.row_frames.proofs.initialisers.Copies.locals.Goals.{in-Some+in_ok-copy+in_ok-set, in_default}

pub loop-index-preserved : goal.loop-index-preserved
loop-index-preserved c =
    let own = c.args.self.now.own.now in
    let class = c.args.self.now.class.now in
    let receiver = c.args.self.now.receiver.now in
    let locals = c.args.before.now in
    let after = c.loop-index.after in
    let within : c.loop-index.index < length locals = omega (arith, c.loop-index-test.true, c.listed-index-end.ensures.few) in
    elim c.match-class_of_local.branch [
      | in-Some+in_ok-copy+in_ok-set w ↦
          w.after-is ∙ w.in_ok-set.ensures.ok ∙ ap (λ (name : List ℕ). slice_set after c.loop-index.index (Object name)) w.in_ok-copy.ensures
          ∙ next_object own class receiver locals after c.loop-index.index within c.loop-index.invariant w.in-Some.name.now w.in-Some.ensures
      | in_default w ↦ w.after-is ∙ next_same own class receiver locals after c.loop-index.index within c.loop-index.invariant w.in_default.ensures
    ]

pub returns : goal.returns
returns c =
    let own = c.args.self.now.own.now in
    let class = c.args.self.now.class.now in
    let receiver = c.args.self.now.receiver.now in
    all_mapped (becomes own class receiver) c.args.before.now c.loop-index.after c.loop-index.index c.listed-index-end.result (top_stays own class receiver) c.loop-index-test.false c.loop-index.auto.index-end c.listed-index-end.ensures.tops c.loop-index.invariant
