use Rattle.std.proofs.Common.{◌≡◌, List, map, reverse, ap, ◌∙◌}
use Rattle.std.specs.List.{filter}
use Rattle.flow_code.specs.FlatCode.{FlatCode}
use Rattle.making_code.specs.MakeCode.{is_plain}
use Rattle.materialise.proofs.ConstantLaws.{if_ok}
use Rattle.materialise.proofs.MadeLaws.{saved_is}
use Rattle.materialise.proofs.stack.restack.Goals as goal
use Rattle.materialise.specs.Inner.StackWords.{place_and_unit}
use Rattle.materialise.specs.declared.stack.StackEntry.{StackEntry}

pub returns : goal.returns
returns c =
    let flat = c.args.flat.now in
    let entries = c.in_ok-entries.entries.items in
    let saved : c.as_slice-2.result.now ≡ reverse (filter (λ entry. is_plain entry.slot) entries) =
    c.as_slice-2.ensures.value ∙ c.in_ok-saved.ensures
    ∙ ap (λ (list : List StackEntry). reverse (filter (λ entry. is_plain entry.slot) list)) c.as_slice.ensures.value in
    if_ok c.saved_places.result
    (λ list is.
    is
    ∙ ap (λ (places : List StackEntry). map (place_and_unit c.in_ok-units.units) places) saved
    ∙ ap (λ (f : FlatCode). map (place_and_unit f) (reverse (filter (λ (entry : StackEntry). is_plain entry.slot) entries))) c.in_ok-units.ensures
    ∙ saved_is flat c.args.at c.args.state.now c.args.sites.now entries c.in_ok-entries.ensures c.requires.units)
    c.saved_places.ensures
