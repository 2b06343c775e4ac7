use Rattle.std.proofs.Common.{◌≡◌, ◌∷◌, ◌++◌, ◌+◌, ◌<◌, ℕ, List, [], drop, length, map, refl, sym, ap, subst, ◌∙◌, arith}
use Rattle.std.proofs.lemmas.Option.{slice_get_read}
use Rattle.std.specs.List.{AllByRecursion}
use Rattle.class_model.specs.Descriptors.{kind_of, parameter_units, units_of}
use Rattle.class_model.specs.Laws.Lists.{drop_item}
use Rattle.class_model.specs.declared.descriptor.FieldType.{FieldType}
use Rattle.class_model.specs.declared.descriptor.Kind.{Kind}
use Rattle.expanded_code.specs.Expanded.{arguments_from}
use Rattle.inline_expand.proofs.ShapeParts.{next-units, one-inside, one-parameter, units-cons}
use Rattle.inline_expand.proofs.expanded.shapes.push_parameters.Goals as goal
use Rattle.inline_expand.specs.Inner.Layouts.{EndsBy, argument_from}
use Rattle.inline_expand.specs.declared.expanded.shapes.Parameter.{Parameter}

pub loop-field_type-preserved : goal.loop-field_type-preserved
loop-field_type-preserved c =
    let types = c.args.types.now in
    let at = c.loop-field_type.field_type-index in
    let unit = c.loop-field_type.unit in
    let type = c.field_type-item.result in
    let rest = drop (at + 1) types in
    let inside : at < length types = omega (arith, c.loop-field_type-test.true) in
    let cut : drop at types ≡ type ∷ rest = drop_item types at type (slice_get_read types (length types) at type refl inside c.field_type-item.is) in
    let width : c.units-unit.result ≡ units_of (kind_of type) = c.units-unit.ensures ∙ ap units_of c.kind-kind.ensures in
    let one : Parameter = record { kind = c.kind-kind.result; unit = unit } in
    let same : one ≡ record { kind = kind_of type; unit = unit } = ap (λ (kind : Kind). record { kind = kind; unit = unit }) c.kind-kind.ensures in
    record {
      units = let left = next-units unit type (drop at types) rest _ cut c.loop-field_type.invariant.units in omega (arith, left, width);
      each = λ from.
          ap (λ (all : List Parameter). map (argument_from from) all ++ arguments_from (from + (unit + c.units-unit.result)) rest) (c.in_ok-push.ensures.items ∙ ap (λ (p : Parameter). c.loop-field_type.parameters.items ++ p ∷ []) same)
          ∙ ap (λ (n : ℕ). map (argument_from from) (c.loop-field_type.parameters.items ++ record { kind = kind_of type; unit = unit } ∷ []) ++ arguments_from (from + (unit + n)) rest) width
          ∙ one-parameter from unit c.loop-field_type.parameters.items type rest
          ∙ ap (λ (all : List FieldType). map (argument_from from) c.loop-field_type.parameters.items ++ arguments_from (from + unit) all) (sym cut)
          ∙ c.loop-field_type.invariant.each from;
      inside = λ end fits all.
          let left = c.loop-field_type.invariant.units in
          let own : parameter_units (drop at types) ≡ units_of (kind_of type) + parameter_units rest = ap parameter_units cut ∙ units-cons type rest in
          let ends : EndsBy end one = omega (arith, left, own, width, fits, ap units_of c.kind-kind.ensures) in
          subst (AllByRecursion (EndsBy end)) (sym c.in_ok-push.ensures.items) (one-inside (EndsBy end) c.loop-field_type.parameters.items one (c.loop-field_type.invariant.inside end fits all) ends);
    }
