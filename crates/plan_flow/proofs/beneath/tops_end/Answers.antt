use Rattle.std.proofs.Common.{◌≡◌, ◌-◌, ◌<◌, ◌≤◌, Some, length, slice_get, refl, sym, ◌∙◌, arith}
use Rattle.std.proofs.lemmas.Option.{slice_get_read}
use Rattle.plan_flow.proofs.TopEntries.{some_earlier}
use Rattle.plan_flow.proofs.beneath.tops_end.Goals as goal

pub returns-then-is_top-clause-before : goal.returns-then-is_top-clause-before
returns-then-is_top-clause-before c = λ at low.
    let types = c.args.types.now in
    let type = c.index-types-end.result in
    let last = c.loop-end.end - 1 in
    let some = c.loop-end-test.true in
    let all = c.loop-end.invariant.0 in
    let inside : last < length types = omega (arith, some, all) in
    let there : slice_get types last ≡ Some type = slice_get_read types (length types) last type refl inside c.index-types-end.is in
    let before : at ≤ last = omega (arith, low, some) in
    some_earlier types at last type before there (sym c.is_top.ensures ∙ c.if-is_top.true)
