-- The laws of the crates below: bytes are told once, and so are a folder and its library.
use Rattle.pea_top.proofs.BytesLaws.{ClassLaws, HeaderLaws}
use Rattle.pea_top.proofs.OneLinkProblem.{TreeLaws}
use Rattle.pea_top.proofs.OneTypeFailure.{TypeLaws}
use Rattle.pea_top.proofs.OneScript.{ScriptLaws}
use Rattle.pea_top.proofs.OneAnswer.{one_answer}
use Rattle.pea_top.proofs.laws.words_and_files_have_one_answer.Goals as goal

pub returns : goal.returns
returns c = λ words files one other h i.
    let classes : ClassLaws = record {
      one_class = c.bytes_are_one_class_file.ensures;
      one_fault = c.one_first_fault.ensures;
      no_fault = c.a_class_file_has_no_fault.ensures;
      no_other = c.another_version_is_no_class_file.ensures;
    } in
    let headers : HeaderLaws = record {
      one_header = c.a_library_file_is_told_once.ensures.header;
      one_fault = c.a_library_file_is_told_once.ensures.fault;
      one_version = c.a_library_file_is_told_once.ensures.version;
      no_fault = c.a_library_file_is_told_once.ensures.no_fault;
      no_other = c.a_library_file_is_told_once.ensures.no_other;
      other_no_fault = c.a_library_file_is_told_once.ensures.other_no_fault;
    } in
    let trees : TreeLaws = record {
      problem = c.a_folder_is_told_once.ensures.problem;
      arranged = c.a_folder_is_told_once.ensures.arranged;
    } in
    let types : TypeLaws = record { none = c.a_folder_fails_once.ensures.none; one = c.a_folder_fails_once.ensures.one } in
    let scripts : ScriptLaws = record {
      none = c.a_script_has_no_line_outside.ensures.not_both;
      one = c.a_script_has_no_line_outside.ensures.one_line;
    } in
    one_answer (record { classes = classes; headers = headers; trees = trees; types = types; scripts = scripts }) words files one other h i
