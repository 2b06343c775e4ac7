use Rattle.std.proofs.Common.{◌<◌, length, sym, ◌∙◌, arith, refl}
use Rattle.std.proofs.lemmas.Bool.{false≢true}
use Rattle.member_link.specs.Rows.Table.{without_older}
use Rattle.row_frames.proofs.MappedSoFar.{all_mapped}
use Rattle.row_frames.proofs.OlderObjects.{next_older, next_other}
use Rattle.row_frames.proofs.objects.without_older.Goals as goal
use Rattle.row_frames.proofs.objects.without_older.Goals.{then-is_older+in_ok-set, else-is_older}

pub loop-index-preserved : goal.loop-index-preserved
loop-index-preserved c =
    let locals = c.args.locals.now in
    let within : c.loop-index.index < length locals = omega (arith, c.loop-index-test.true, c.listed-index-end.ensures.few) in
    elim c.if-is_older.branch [
      | then-is_older+in_ok-set w ↦
          w.after-is ∙ w.in_ok-set.ensures.ok ∙ next_older c.args.at locals c.loop-index.after c.loop-index.index (c.is_older.ensures.0 w.if-is_older.true) c.loop-index.invariant
      | else-is_older w ↦
          w.after-is ∙ next_other c.args.at locals c.loop-index.after c.loop-index.index within (λ there. false≢true (sym w.if-is_older.false ∙ c.is_older.ensures.1 there)) c.loop-index.invariant
    ]

pub returns : goal.returns
returns c =
    all_mapped (without_older c.args.at) c.args.locals.now c.loop-index.after c.loop-index.index c.listed-index-end.result refl c.loop-index-test.false c.loop-index.auto.index-end c.listed-index-end.ensures.tops c.loop-index.invariant
