use Rattle.stackmap_emit.proofs.TypedMethods.WholeMethod.{Laws, typed_by_offset}
use Rattle.stackmap_emit.proofs.laws.what_types_items_types_the_laid_method.Goals as goal

pub returns : goal.returns
returns c =
    let laws : Laws = record {
      compares = c.constants_compare_by_value.ensures;
      entry = c.a_grown_class_keeps_its_code.ensures.entry;
      site = c.a_grown_class_keeps_its_code.ensures.site;
      header = c.a_grown_class_has_a_grown_header.ensures.class;
      held = c.rows_hold_among_grown_classes.ensures.held;
      left = c.rows_hold_among_grown_classes.ensures.left;
      frames = c.grown_classes_are_found_alike.ensures.frames;
      throwables = c.grown_classes_are_found_alike.ensures.throwables;
      consecutive = c.a_method_stands_in_order.ensures.consecutive;
      types = c.frames_type_a_body_by_its_places.ensures.types;
    } in
    λ w s grown code types access whole. typed_by_offset laws w s grown code types whole access
