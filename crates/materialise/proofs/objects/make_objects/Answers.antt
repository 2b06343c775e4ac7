use Rattle.std.proofs.Common.{rules, ℕ, List, slice_index_or, take, subst}
use Rattle.std.specs.List.{flat_map}
use Rattle.std.specs.Result.{IsErrOf}
use Rattle.std.proofs.lemmas.List.{take_all}
use Rattle.std.proofs.lemmas.Option.{slice_get-get_or}
use Rattle.flow_code.specs.declared.reason.KeptFault.TheVariants.{Kept}
use Rattle.making_code.specs.Items.{WInstr}
use Rattle.making_code.specs.MakeCode.{make_one}
use Rattle.materialise.specs.Laws.GrownEdits.{continues_both}
use Rattle.materialise.proofs.ObjectCode.{full_at, makes_both, sites_more}
use Rattle.materialise.proofs.objects.make_objects.Goals as goal
use Rattle.materialise.specs.Inner.CodeWords.{Makes}

pub returns-in_err-make_object_of-clause-full : goal.returns-in_err-make_object_of-clause-full
returns-in_err-make_object_of-clause-full c = λ reason constructor is described.
    let order = c.args.order.now in
    let at = c.loop-site.site-index in
    let site = slice_index_or order at 0 in
    let fails : IsErrOf c.make_object_of.result (Kept reason) = search rules in
    full_at constructor c.args.units.now (make_one c.args.units.now c.args.state.now) order at site c.args.pool.now c.loop-site.pool c.args.instrs.now.items c.loop-site.instrs.items reason
    (slice_get-get_or order at 0 c.loop-site-test.true) (c.loop-site.invariant.0 constructor described) (c.make_object_of.ensures.full reason constructor fails described)

pub loop-site-preserved : goal.loop-site-preserved
loop-site-preserved c =
    let order = c.args.order.now in
    let at = c.loop-site.site-index in
    let site = slice_index_or order at 0 in
    let of = make_one c.args.units.now c.args.state.now in (
      λ constructor described.
          subst (λ (instrs : List WInstr). Makes c.args.units.now constructor c.args.pool.now c.args.instrs.now.items instrs c.make_object_of.new.pool c.make_object_of.new.instrs.items)
          (sites_more of order at site (slice_get-get_or order at 0 c.loop-site-test.true))
          (makes_both constructor c.args.units.now c.args.pool.now c.loop-site.pool c.make_object_of.new.pool c.args.instrs.now.items c.loop-site.instrs.items c.make_object_of.new.instrs.items
          (flat_map of (take at order)) (of site) (c.loop-site.invariant.0 constructor described) (c.in_ok-make_object_of.ensures.ok constructor described) c.make_object_of.ensures.more),
      continues_both c.args.pool.now c.loop-site.pool c.make_object_of.new.pool c.loop-site.invariant.1 c.make_object_of.ensures.more,
    )

pub returns-clause-ok : goal.returns-clause-ok
returns-clause-ok c = λ constructor described.
    let of = make_one c.args.units.now c.args.state.now in
    subst (λ (sites : List ℕ). Makes c.args.units.now constructor c.args.pool.now c.args.instrs.now.items (flat_map of sites) c.loop-site.pool c.loop-site.instrs.items)
    (take_all c.loop-site.site-index c.args.order.now c.loop-site-test.false) (c.loop-site.invariant.0 constructor described)
