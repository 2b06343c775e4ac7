use Rattle.std.proofs.Common.{Option, Vec, Global, get_or, subst, sym}
use Rattle.std.proofs.lemmas.List.{take_more}
use Rattle.std.specs.Option.{option_map}
use Rattle.class_model.specs.declared.class_file.MethodAt.{MethodAt}
use Rattle.inline_expand.proofs.MethodLists.{among_at}
use Rattle.inline_expand.proofs.ShallowLevels.{needed_more}
use Rattle.inline_expand.specs.Inner.Walks.{HasNeeds, NeedsThese}
use Rattle.inline_expand.proofs.shallow.needed.Goals as goal

pub unreachable-requires : goal.unreachable-requires
unreachable-requires c =
    let at = get_or c.args.methods.now c.loop-at.at-index (record { class = 0; method = 0 }) in
    let none = subst (λ (o : Option (Vec MethodAt Global)). HasNeeds c.args.host.tree.now c.args.host.typed.now c.args.host.number at (option_map (λ v. v.items) o)) c.in_default.is c.in_ok-needs.ensures in
    none (c.requires.ready at (among_at c.args.methods.now c.loop-at.at-index (record { class = 0; method = 0 }) c.loop-at-test.true))

pub loop-at-preserved : goal.loop-at-preserved
loop-at-preserved c =
    let at = get_or c.args.methods.now c.loop-at.at-index (record { class = 0; method = 0 }) in
    let has = subst (λ (o : Option (Vec MethodAt Global)). HasNeeds c.args.host.tree.now c.args.host.typed.now c.args.host.number at (option_map (λ v. v.items) o)) c.in-Some.is c.in_ok-needs.ensures in
    needed_more c.args.host.tree.now c.args.host.typed.now c.args.host.number _ _ c.loop-at.all c.add_all.new.self c.as_slice.result.now at c.loop-at.invariant
    (subst (NeedsThese c.args.host.tree.now c.args.host.typed.now c.args.host.number at) (sym c.as_slice.ensures.value) has)
    c.in_ok-add_all.ensures
    (take_more c.args.methods.now c.loop-at.at-index (record { class = 0; method = 0 }) c.loop-at-test.true)
