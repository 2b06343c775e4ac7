use Rattle.std.proofs.Common.{◌≡◌, sym, subst}
use Rattle.std.proofs.Common.{◌∙◌}
use Rattle.std.proofs.lemmas.List.{length-map}
use Rattle.expanded_code.specs.Alone.{flat_alone}
use Rattle.flow_code.specs.FlatCode.{FlatCode, IsFlat}
use Rattle.inline_expand.proofs.AloneFlat.{alone-is-flat}
use Rattle.inline_expand.proofs.alone.flat_of.Goals as goal
use Rattle.member_link.specs.Scope.{instructions}
use Rattle.type_rules.specs.MethodBodies.{body_of, point_of}

pub of-requires : goal.of-requires
of-requires c =
    let s = c.args.host.now in
    let frames = c.args.frames.now in
    let order = c.a_method_stands_in_order.ensures.order s in
    let stated = c.a_method_stands_in_order.ensures.stated s in
    let edges = c.a_typed_body_goes_to_stated_frames.ensures.edges (body_of s) frames order stated c.requires.typed in
    let one-each = c.a_typed_method_types_each_instruction.ensures.count (body_of s) frames c.requires.typed ∙ length-map (instructions s) (point_of s) in
    let flat = alone-is-flat s c.args.at frames one-each stated edges c.requires.units in
    let made : FlatCode = record { host = c.args.at; locals = c.max_locals.result; points = c.in_ok-points.points; sites = c.new.result } in
    let same : flat_alone s c.args.at frames ≡ made =
    λ i. record { host = c.args.at; locals = sym c.max_locals.ensures i; points = sym c.in_ok-points.ensures i; sites = sym c.new.ensures i } in
    subst IsFlat same flat
