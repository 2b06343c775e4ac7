use Rattle.class_bytes.proofs.MadeValues.{made_class}
use Rattle.class_bytes.proofs.laws.a_value_is_the_class_file_of_its_bytes.Goals as goal

pub returns : goal.returns
returns c class fits numbers is =
    made_class class fits numbers.minor numbers.major (c.a_pool_is_read_back.ensures class.major class.pool numbers.pool numbers.constants is.tags) numbers.body is
