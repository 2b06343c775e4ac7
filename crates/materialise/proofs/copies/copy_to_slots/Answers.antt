use Rattle.std.proofs.Common.{◌≡◌, ◌+◌, ◌≤◌, ℕ, suc, List, length, drop, get_or, slice_get, Some, sym, ap, subst, ◌∙◌, arith}
use Rattle.std.proofs.lemmas.Option.{slice_get-get_or}
use Rattle.making_code.specs.MakeCode.{copy_fields_from}
use Rattle.making_code.specs.Units.{field_unit}
use Rattle.materialise.proofs.CodeLaws.{writes_all, writes_more}
use Rattle.materialise.proofs.CopyLaws.{fields_end, fields_there}
use Rattle.materialise.proofs.copies.copy_to_slots.Goals as goal
use Rattle.materialise.specs.Inner.CodeWords.{copied}
use Rattle.materialise.specs.Inner.UnitWords.{kept_unit}
use Rattle.virtual_state.specs.declared.slot.Slot.{Slot}
use Rattle.virtual_state.specs.declared.slot.Slot.TheVariants.{Plain}

pub loop-number-preserved : goal.loop-number-preserved
loop-number-preserved c =
    let flat = c.args.units.now in
    let sites = c.args.sites.now in
    let of = c.args.object.now.site in
    let fields = c.args.object.now.fields in
    let items = c.as_slice-slot-items.result.now in
    let number = c.loop-number.number in
    let slot = get_or items number Plain in
    let there : slice_get fields number ≡ Some slot =
    subst (λ (list : List Slot). slice_get list number ≡ Some slot) c.as_slice-slot-items.ensures (slice_get-get_or items number Plain c.loop-number-test.true) in
    let next : suc number ≡ number + 1 = omega arith in (
      writes_more flat c.args.instrs.now.items c.loop-number.instrs.items c.copy_slot.new.instrs.items (copy_fields_from sites of 0 fields) (copied sites slot (field_unit of number))
          (copy_fields_from sites of (number + 1) (drop (number + 1) fields)) (copy_fields_from sites of number (drop number fields)) c.loop-number.invariant.0
          (fields_there sites of fields number slot there) (c.in_ok-copy_slot.ensures (field_unit of number) (sym c.loop-number.invariant.1)),
      c.next_field-unit.ensures ∙ ap (λ (n : ℕ). kept_unit flat (field_unit of n)) next,
    )

pub returns : goal.returns
returns c =
    let fields = c.args.object.now.fields in
    let end : length fields ≤ c.loop-number.number = subst (λ (list : List Slot). length list ≤ c.loop-number.number) c.as_slice-slot-items.ensures c.loop-number-test.false in
    writes_all c.args.units.now c.args.instrs.now.items c.loop-number.instrs.items (copy_fields_from c.args.sites.now c.args.object.now.site 0 fields)
    (copy_fields_from c.args.sites.now c.args.object.now.site c.loop-number.number (drop c.loop-number.number fields)) c.loop-number.invariant.0
    (fields_end c.args.sites.now c.args.object.now.site fields c.loop-number.number end)
