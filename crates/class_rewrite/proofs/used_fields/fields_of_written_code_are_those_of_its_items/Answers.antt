use Rattle.class_rewrite.proofs.UsedWritten.{UsedLaws, finals_are, privates_are}
use Rattle.class_rewrite.proofs.used_fields.fields_of_written_code_are_those_of_its_items.Goals as goal

pub returns : goal.returns
returns c =
    let laws : UsedLaws = record {
      finds_one = c.a_look_up_finds_one_field.ensures;
      compares = c.constants_compare_by_value.ensures;
      grown = record {
        itself = c.a_grown_class_has_a_grown_header.ensures.itself;
        header = c.a_grown_class_has_a_grown_header.ensures.class;
        runs = c.a_grown_class_keeps_its_instructions.ensures.runs;
      };
    } in
    λ of m routes pool items finals privates meant are are_finals are_privates. record {
      finals_are = λ form. finals_are laws of m pool items routes form meant are (c.what_is_meant_can_be_written.ensures of m meant) finals are_finals;
      privates_are = λ form. privates_are laws of m pool items routes form meant are (c.what_is_meant_can_be_written.ensures of m meant) privates are_privates;
    }
