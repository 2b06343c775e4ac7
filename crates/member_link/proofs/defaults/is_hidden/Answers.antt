use Rattle.std.proofs.Common.{get_or, refl, sym, ap, ◌∙◌, is_some}
use Rattle.std.proofs.lemmas.Bool.{false≢true}
use Rattle.class_tree.specs.Headers.{headers_of}
use Rattle.class_tree.specs.Laws.Headers.{header_there}
use Rattle.class_tree.specs.declared.place.Place.TheVariants.{Folder}
use Rattle.member_link.proofs.InheritedMethods.{HidesAt, hidden_by_one, one_hides}
use Rattle.member_link.proofs.OneHas.{one_left, none_left}
use Rattle.member_link.proofs.Superinterfaces.{superinterfaces_of, superinterface_at}
use Rattle.member_link.proofs.defaults.is_hidden.Goals as goal

pub hides-requires-clause-below : goal.hides-requires-clause-below
hides-requires-clause-below c =
    let headers = headers_of c.args.tree.now in
    let class = header_there headers c.args.class c.requires.class in
    ap is_some (superinterface_at headers c.a_tree_is_a_hierarchy.ensures c.args.class c.superinterfaces-below-items.result.now c.superinterfaces-below-items.ensures class.0 class.1 c.loop-below.below-index (Folder 0) c.loop-below-test.true).at

pub returns-then-hides : goal.returns-then-hides
returns-then-hides c = λ low high low_at high_at.
    let headers = headers_of c.args.tree.now in
    let hierarchy = c.a_tree_is_a_hierarchy.ensures in
    let place = get_or c.superinterfaces-below-items.result.now c.loop-below.below-index (Folder 0) in
    let is = superinterface_at headers hierarchy c.args.class c.superinterfaces-below-items.result.now c.superinterfaces-below-items.ensures low low_at c.loop-below.below-index (Folder 0) c.loop-below-test.true in
    let told = (c.hides.ensures is.header high is.at high_at).0 c.if-hides.true in (
      λ yes. one_hides headers hierarchy low.name place c.args.name.now c.args.desc.now high.name is (record { header = is.header; at = is.at; declares = told.0; below = told.1 }),
      λ hidden. refl,
    )

pub loop-below-preserved : goal.loop-below-preserved
loop-below-preserved c = λ high high_at one.
    let headers = headers_of c.args.tree.now in
    let places = c.superinterfaces-below-items.result.now in
    let Hides = HidesAt headers c.args.name.now c.args.desc.now high.name in
    let not : ¬ Hides (get_or places c.loop-below.below-index (Folder 0)) =
    λ hides. false≢true (sym c.if-hides.false ∙ (c.hides.ensures hides.header high hides.at high_at).1 (hides.declares, hides.below)) in
    one_left Hides places c.loop-below.below-index (Folder 0) c.loop-below-test.true not (c.loop-below.invariant high high_at one)

pub returns : goal.returns
returns c = λ low high low_at high_at.
    let headers = headers_of c.args.tree.now in
    let hierarchy = c.a_tree_is_a_hierarchy.ensures in
    let places = c.superinterfaces-below-items.result.now in
    let are = superinterfaces_of headers hierarchy c.args.class places c.superinterfaces-below-items.ensures low low_at in
    let Hides = HidesAt headers c.args.name.now c.args.desc.now high.name in (
      λ yes. absurd (false≢true yes),
      λ hidden. absurd (none_left Hides places c.loop-below.below-index c.loop-below-test.false (c.loop-below.invariant high high_at (hidden_by_one headers hierarchy low.name places are c.args.name.now c.args.desc.now high.name hidden))),
    )
