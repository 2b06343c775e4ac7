use Rattle.std.proofs.Common.{◌≤◌, length, refl, sym, ap, subst, ◌∙◌, arith}
use Rattle.std.proofs.lemmas.Bool.{false≢true}
use Rattle.std.proofs.lemmas.Option.{none-some, same_Some}
use Rattle.std.specs.Option.{option_copied}
use Rattle.class_tree.specs.Headers.{Classes, headers_of}
use Rattle.inline_expand.proofs.OverridingMethods.{found_at, none_at_all, none_more, one_overrides}
use Rattle.inline_expand.proofs.overridden.is_overridden_by_none.Goals as goal
use Rattle.member_link.specs.Found.{IsMethodFound}
use Rattle.member_link.specs.Overriding.{Overrides}

pub unreachable-requires : goal.unreachable-requires
unreachable-requires c =
    let is = subst (λ (classes : Classes). IsMethodFound (headers_of classes) c.args.high c.requires.0) (sym c.tree-tree.ensures) c.requires.1 in
    none-some c.requires.0.member (sym (ap option_copied c.in_default.is) ∙ c.method_of.ensures c.requires.0 is)

pub overrides_at-requires-clause-low : goal.overrides_at-requires-clause-low
overrides_at-requires-clause-low c = λ found at.
    let folder = c.alike-lows.ensures.found c.loop-index.index found at in
    (folder.method, subst (λ (classes : Classes). IsMethodFound (headers_of classes) found folder.method) (sym c.tree-tree.ensures) folder.is)

pub returns-then-overrides_at : goal.returns-then-overrides_at
returns-then-overrides_at c = λ method is.
    let headers = headers_of c.args.methods.now in
    let lows = c.alike-lows.result.now in
    let index = c.loop-index.index in
    let item = found_at lows index (omega (arith, c.loop-index-test.true, c.len-index-end.ensures)) in
    let high = subst (λ (classes : Classes). IsMethodFound (headers_of classes) c.args.high method) (sym c.tree-tree.ensures) is in
    let same = same_Some c.in-Some.member.now method.member (c.in-Some.ensures method high) in (
      λ passed. absurd (false≢true passed),
      λ none. absurd (one_overrides headers method lows c.in-Some.member.now c.alike-lows.ensures same index item.0 item.1
          (λ low low_is.
          let own = subst (λ (classes : Classes). IsMethodFound (headers_of classes) item.0 low) (sym c.tree-tree.ensures) low_is in
          subst (λ (classes : Classes). Overrides (headers_of classes) low method) c.tree-tree.ensures ((c.overrides_at.ensures item.0 low method item.1 own high).0 c.if-overrides_at.true)) none),
    )

pub loop-index-preserved : goal.loop-index-preserved
loop-index-preserved c = λ method is.
    let headers = headers_of c.args.methods.now in
    let lows = c.alike-lows.result.now in
    let index = c.loop-index.index in
    let item = found_at lows index (omega (arith, c.loop-index-test.true, c.len-index-end.ensures)) in
    let high = subst (λ (classes : Classes). IsMethodFound (headers_of classes) c.args.high method) (sym c.tree-tree.ensures) is in
    none_more headers method lows index item.0 item.1
    (λ low low_is overrides.
    let own = subst (λ (classes : Classes). IsMethodFound (headers_of classes) item.0 low) (sym c.tree-tree.ensures) low_is in
    let over = subst (λ (classes : Classes). Overrides (headers_of classes) low method) (sym c.tree-tree.ensures) overrides in
    false≢true (sym c.if-overrides_at.false ∙ (c.overrides_at.ensures item.0 low method item.1 own high).1 over)) (c.loop-index.invariant method is)

pub returns : goal.returns
returns c = λ method is.
    let headers = headers_of c.args.methods.now in
    let lows = c.alike-lows.result.now in
    let high = subst (λ (classes : Classes). IsMethodFound (headers_of classes) c.args.high method) (sym c.tree-tree.ensures) is in
    let same = same_Some c.in-Some.member.now method.member (c.in-Some.ensures method high) in
    let past : length lows ≤ c.loop-index.index = omega (arith, c.loop-index-test.false, c.len-index-end.ensures) in (
      λ passed. none_at_all headers method lows c.in-Some.member.now c.alike-lows.ensures same c.loop-index.index past (c.loop-index.invariant method is),
      λ none. refl,
    )
