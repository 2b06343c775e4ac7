use Rattle.std.proofs.Common.{rules, ◌≡◌, List, length, map, sym, ap, subst, ◌∙◌, arith}
use Rattle.std.proofs.lemmas.Grind.{common_steps}
use Rattle.virtual_state.proofs.Agreeing.{objects_marked, usable_fields}
use Rattle.virtual_state.specs.Inner.Agreement.{HasMarkedDifferences}
use Rattle.virtual_state.specs.States.{is_unusable}
use Rattle.virtual_state.specs.declared.slot.Slot.{Slot}
use Rattle.virtual_state.proofs.merge.mark_fields.Goals as goal

pub mark_differences-requires : goal.mark_differences-requires
mark_differences-requires c =
    let len : length c.args.object.now.fields ≡ length c.args.other.now.fields = first_of (omega arith, search rules, grind (arith, common_steps)) in
    ap (map is_unusable) c.as_slice.ensures
    ∙ usable_fields c.args.object.now.fields c.args.other.now.fields len c.requires.1 c.requires.2
    ∙ sym (ap (map is_unusable) c.as_slice-2.ensures)

pub returns : goal.returns
returns c =
    let len : length c.args.object.now.fields ≡ length c.args.other.now.fields = first_of (omega arith, search rules, grind (arith, common_steps)) in
    let depth : c.args.object.now.depth ≡ c.args.other.now.depth = first_of (omega arith, search rules, grind (arith, common_steps)) in
    let usable = usable_fields c.args.object.now.fields c.args.other.now.fields len c.requires.1 c.requires.2 in
    let left = subst (λ (slots : List Slot). HasMarkedDifferences c.args.away.now c.mark_differences.new.away slots c.as_slice-2.result.now) c.as_slice.ensures c.in_ok-mark_differences.ensures in
    let marked = subst (λ (slots : List Slot). HasMarkedDifferences c.args.away.now c.mark_differences.new.away c.args.object.now.fields slots) c.as_slice-2.ensures left in
    objects_marked c.args.away.now c.mark_differences.new.away c.args.object.now c.args.other.now c.requires.0 depth usable marked
