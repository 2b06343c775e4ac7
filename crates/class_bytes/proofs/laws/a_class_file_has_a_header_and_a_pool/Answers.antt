use Rattle.class_bytes.proofs.HeaderToo.{is_library_file, has_pool}
use Rattle.class_bytes.proofs.laws.a_class_file_has_a_header_and_a_pool.Goals as goal

pub returns-clause-header : goal.returns-clause-header
returns-clause-header c = is_library_file

pub returns-clause-pool : goal.returns-clause-pool
returns-clause-pool c = has_pool
