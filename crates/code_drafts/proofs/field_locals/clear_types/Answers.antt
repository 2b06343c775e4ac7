use Rattle.std.proofs.Common.{◌≡◌, ◌+◌, ℕ, suc, [], ◌∷◌, drop, slice_get, Some, sym, ap, ◌∙◌, arith}
use Rattle.std.specs.Option.{option_copied}
use Rattle.class_model.specs.Descriptors.{kind_of}
use Rattle.code_drafts.proofs.FieldLaws.{clear_step, cleared_end, cleared_more}
use Rattle.code_drafts.proofs.PutLaws.{rest_all, rest_more}
use Rattle.code_drafts.proofs.field_locals.clear_types.Goals as goal
use Rattle.making_code.specs.Items.{plain, store}
use Rattle.making_code.specs.Units.{field_unit}
use Rattle.materialise.specs.Inner.UnitWords.{kept_unit}
use Rattle.plan_flow.specs.Written.Templates.{cleared_fields, zero_of}

pub loop-of_type-preserved : goal.loop-of_type-preserved
loop-of_type-preserved c =
    let flat = c.args.units.now in
    let site = c.args.site in
    let types = c.args.types.now in
    let number = c.loop-of_type.number in
    let type = c.in-Some.of_type.now in
    let there : slice_get types number ≡ Some type = sym c.in-Some.ensures in
    let next : suc number ≡ number + 1 = omega arith in (
      rest_more flat c.args.kept.now c.loop-of_type.kept c.put-in-Some.new.kept (cleared_fields site 0 types)
          (plain (zero_of (kind_of type)) ∷ store (kind_of type) (field_unit site number) ∷ []) (cleared_fields site (number + 1) (drop (number + 1) types))
          (cleared_fields site number (drop number types)) c.loop-of_type.invariant.0 (cleared_more site number types type there)
          (clear_step flat site number type c.kind.result c.kind-in-Some.result c.zero_of.result c.loop-of_type.unit c.loop-of_type.kept c.put.new.kept c.put-in-Some.new.kept
          c.flat-few.ensures.few c.kind.ensures c.kind-in-Some.ensures c.zero_of.ensures c.loop-of_type.invariant.1 (c.in_ok-put.ensures flat) (c.in_ok-put-2.ensures flat)),
      c.next_field-unit.ensures ∙ ap (λ (n : ℕ). kept_unit flat (field_unit site n)) next,
    )

pub returns : goal.returns
returns c =
    let types = c.args.types.now in
    let number = c.loop-of_type.number in
    rest_all c.args.units.now c.args.kept.now c.loop-of_type.kept (cleared_fields c.args.site 0 types) (cleared_fields c.args.site number (drop number types))
    c.loop-of_type.invariant.0 (cleared_end c.args.site number types (sym c.type_at.ensures ∙ ap option_copied c.in_default.is))
