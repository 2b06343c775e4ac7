use Rattle.std.proofs.Common.{◌≡◌, ◌+◌, ◌≤◌, ℕ, suc, List, [], ◌∷◌, length, drop, get_or, slice_get, Some, sym, ap, subst, ◌∙◌, arith}
use Rattle.std.proofs.lemmas.Option.{slice_get-get_or}
use Rattle.making_code.specs.MakeCode.{load_field, load_fields_from}
use Rattle.making_code.specs.Units.{field_unit}
use Rattle.materialise.proofs.CodeLaws.{got_none, got_some, writes_all, writes_more, writes_one}
use Rattle.materialise.proofs.CopyLaws.{loads_end, loads_past, loads_there}
use Rattle.materialise.proofs.objects.load_fields.Goals as goal
use Rattle.materialise.specs.Inner.UnitWords.{kept_unit}
use Rattle.virtual_state.specs.declared.slot.Slot.{Slot}
use Rattle.virtual_state.specs.declared.slot.Slot.TheVariants.{Plain}

pub returns-in_default : goal.returns-in_default
returns-in_default c =
    let site = c.args.object.now.site in
    let fields = c.args.object.now.fields in
    let types = c.args.types.now in
    let number = c.loop-number.number in
    writes_all c.args.units.now c.args.instrs.now.items c.loop-number.instrs.items (load_fields_from site 0 types fields)
    (load_fields_from site number (drop number types) (drop number fields)) c.loop-number.invariant.0
    (loads_past site types fields number (got_none types number c.in_default.ensures.lookup.3))

pub loop-number-preserved : goal.loop-number-preserved
loop-number-preserved c =
    let flat = c.args.units.now in
    let site = c.args.object.now.site in
    let fields = c.args.object.now.fields in
    let types = c.args.types.now in
    let items = c.as_slice-slot-items.result.now in
    let number = c.loop-number.number in
    let slot = get_or items number Plain in
    let type = c.in-Some.field.now in
    let there : slice_get fields number ≡ Some slot =
    subst (λ (list : List Slot). slice_get list number ≡ Some slot) c.as_slice-slot-items.ensures (slice_get-get_or items number Plain c.loop-number-test.true) in
    let is : slice_get types number ≡ Some type = got_some types number type c.in-Some.ensures.lookup.0 c.in-Some.ensures.lookup.1 in
    let next : suc number ≡ number + 1 = omega arith in (
      writes_more flat c.args.instrs.now.items c.loop-number.instrs.items c.push.new.self.items (load_fields_from site 0 types fields) (load_field site number type slot ∷ [])
          (load_fields_from site (number + 1) (drop (number + 1) types) (drop (number + 1) fields)) (load_fields_from site number (drop number types) (drop number fields)) c.loop-number.invariant.0
          (loads_there site types fields number type slot is there)
          (writes_one flat c.loop-number.instrs.items c.push.new.self.items (load_field site number type slot) c.load_field.result c.in_ok-push.ensures.items
          (λ class_of constructor_of. c.load_field.ensures site number class_of constructor_of (sym c.loop-number.invariant.1))),
      c.next_field-unit.ensures ∙ ap (λ (n : ℕ). kept_unit flat (field_unit site n)) next,
    )

pub returns : goal.returns
returns c =
    let site = c.args.object.now.site in
    let fields = c.args.object.now.fields in
    let types = c.args.types.now in
    let number = c.loop-number.number in
    let end : length fields ≤ number = subst (λ (list : List Slot). length list ≤ number) c.as_slice-slot-items.ensures c.loop-number-test.false in
    writes_all c.args.units.now c.args.instrs.now.items c.loop-number.instrs.items (load_fields_from site 0 types fields)
    (load_fields_from site number (drop number types) (drop number fields)) c.loop-number.invariant.0
    (loads_end site types fields number end)
