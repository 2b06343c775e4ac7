use Rattle.std.proofs.Common.{◌≡◌, ◌+◌, ℕ, Some, sym, ap, ◌∙◌}
use Rattle.virtual_state.proofs.Depths.{depth_moves}
use Rattle.virtual_state.specs.Laws.Objects.{found_site}
use Rattle.virtual_state.specs.States.{object_of}
use Rattle.virtual_state.proofs.depth.enter.Goals as goal

pub with_object-requires : goal.with_object-requires
with_object-requires c =
    let found : object_of c.args.state.now.objects c.args.site ≡ Some c.in-Some.object.now = sym c.in-Some.ensures in
    ap (object_of c.args.state.now.objects) (found_site c.args.state.now.objects c.args.site c.in-Some.object.now found) ∙ found

pub returns-in_ok-entered-in-Some : goal.returns-in_ok-entered-in-Some
returns-in_ok-entered-in-Some c =
    let found : object_of c.args.state.now.objects c.args.site ≡ Some c.in-Some.object.now = sym c.in-Some.ensures in
    let change : ℕ → ℕ = λ depth. depth + 1 in
    c.in_ok-entered-in-Some.ensures ∙ depth_moves c.args.state.now c.in-Some.object.now c.args.site change c.is_state.ensures.order found
