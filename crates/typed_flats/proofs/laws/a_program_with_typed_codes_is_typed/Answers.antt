use Rattle.typed_flats.proofs.MovedPoints.{replaced_typed}
use Rattle.typed_flats.proofs.laws.a_program_with_typed_codes_is_typed.Goals as goal

pub returns : goal.returns
returns c = λ P typings others r typed none codes.
    replaced_typed typed r none
    (record {
      grown = c.a_replaced_program_has_grown_classes.ensures.cleared;
      alike = c.grown_classes_are_found_alike.ensures.alike;
      hierarchy = c.alike_classes_have_one_hierarchy.ensures.hierarchy;
      links = c.grown_classes_have_the_same_links.ensures;
      fields = c.grown_classes_are_found_alike.ensures.fields;
      methods = c.grown_classes_are_found_alike.ensures.methods;
      frames = c.grown_classes_are_found_alike.ensures.frames;
      rows = c.rows_hold_among_grown_classes.ensures.read;
      left = c.rows_hold_among_grown_classes.ensures.left_read;
    }) others codes
