use Rattle.class_model.proofs.ClassLaws.{one_header, one_header_fault, one_version, no_header_fault, no_header_of_other, no_fault_of_other}
use Rattle.class_model.proofs.laws.a_library_file_is_told_once.Goals as goal

pub returns-clause-header : goal.returns-clause-header
returns-clause-header c = one_header

pub returns-clause-fault : goal.returns-clause-fault
returns-clause-fault c = one_header_fault

pub returns-clause-version : goal.returns-clause-version
returns-clause-version c = one_version

pub returns-clause-no_fault : goal.returns-clause-no_fault
returns-clause-no_fault c = no_header_fault

pub returns-clause-no_other : goal.returns-clause-no_other
returns-clause-no_other c = no_header_of_other

pub returns-clause-other_no_fault : goal.returns-clause-other_no_fault
returns-clause-other_no_fault c = no_fault_of_other
