use Rattle.written_files.proofs.FieldConstructors.Checks.{method_passes}
use Rattle.written_files.proofs.FieldConstructors.Typing.{Laws}
use Rattle.written_files.proofs.laws.a_field_constructor_passes_its_checks.Goals as goal

pub returns : goal.returns
returns c =
    let laws : Laws = record {
      compares = c.constants_compare_by_value.ensures;
      spells = λ at instr has numbers. (c.the_chosen_spelling_is_of_the_table.ensures.chosen at instr has numbers).shortest.spells;
      header = c.a_grown_class_has_a_grown_header.ensures.class;
    } in
    λ headers constructor file s before at is new.
    method_passes laws c.parameters_are_spelled.ensures headers constructor file s is before new at
