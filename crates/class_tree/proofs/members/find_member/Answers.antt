use Rattle.std.proofs.Common.{length, refl, sym, ap, ◌∙◌, rules, arith}
use Rattle.std.proofs.lemmas.List.Sorted.{IsPartitionPoint-from_clause}
use Rattle.std.proofs.lemmas.Option.{slice_get_read}
use Rattle.std.specs.Bool.{then_some}
use Rattle.class_tree.proofs.MemberIndexes.{is_before, parted, place_within, none_at_end, answer_at_point}
use Rattle.class_tree.proofs.members.find_member.Goals as goal

pub returns-in_err-place : goal.returns-in_err-place
returns-in_err-place c =
    let members = c.args.members.now in
    let index = c.args.index.now in
    let name = c.args.name.now in
    let desc = c.args.desc.now in
    let point = c.partition_point-point.result in
    let parts = IsPartitionPoint-from_clause (is_before name desc members) index point c.partition_point-point.ensures.partitioned (parted members index c.requires name desc) (λ a r f' k. search rules) in
    c.from_residual.ensures ∙ sym (none_at_end members index c.requires name desc point parts c.in_err-place.ensures.lookup.3)

pub returns-in_err-member : goal.returns-in_err-member
returns-in_err-member c =
    let members = c.args.members.now in
    let index = c.args.index.now in
    let point = c.partition_point-point.result in
    let place = c.in_ok-place.field-0.now in
    let lookup = c.in_ok-place.ensures.lookup in
    let there = slice_get_read index (length index) point place refl lookup.3.0 lookup.1 in
    absurd (omega (arith, place_within members index c.requires point place there, c.in_err-member.ensures.lookup.3))

pub returns : goal.returns
returns c =
    let members = c.args.members.now in
    let index = c.args.index.now in
    let name = c.args.name.now in
    let desc = c.args.desc.now in
    let point = c.partition_point-point.result in
    let place = c.in_ok-place.field-0.now in
    let member = c.in_ok-member.member.now in
    let parts = IsPartitionPoint-from_clause (is_before name desc members) index point c.partition_point-point.ensures.partitioned (parted members index c.requires name desc) (λ a r f' k. search rules) in
    let place_lookup = c.in_ok-place.ensures.lookup in
    let member_lookup = c.in_ok-member.ensures.lookup in
    let there = slice_get_read index (length index) point place refl place_lookup.3.0 place_lookup.1 in
    let inside = slice_get_read members (length members) place member refl member_lookup.3.0 member_lookup.1 in
    c.then_some.ensures ∙ ap (λ b. then_some b place) c.is_member.ensures ∙ answer_at_point members index c.requires name desc point parts place member there inside
