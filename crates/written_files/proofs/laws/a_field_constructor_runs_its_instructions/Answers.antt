use Rattle.member_link.specs.Scope.{row_scope}
use Rattle.plan_flow.specs.Written.WrittenPrograms.{constructor_scope}
use Rattle.class_model.specs.declared.opcodes.TheConstants.{INVOKESPECIAL}
use Rattle.written_files.proofs.FieldConstructors.Running.{constructor_runs}
use Rattle.written_files.proofs.FieldConstructors.Typing.{Laws}
use Rattle.written_files.proofs.laws.a_field_constructor_runs_its_instructions.Goals as goal

pub returns : goal.returns
returns c =
    let laws : Laws = record {
      compares = c.constants_compare_by_value.ensures;
      spells = λ at instr has numbers. (c.the_chosen_spelling_is_of_the_table.ensures.chosen at instr has numbers).shortest.spells;
      header = c.a_grown_class_has_a_grown_header.ensures.class;
    } in
    λ classes links constructor file s is headers.
    constructor_runs laws classes links constructor file s is (λ reference.
    c.a_grown_class_keeps_its_instructions.ensures.calls (constructor_scope classes file) (row_scope s) links INVOKESPECIAL reference headers
    (c.a_grown_class_has_a_grown_header.ensures.class file s.class is.is_class_file is.class))
