use Rattle.member_link.proofs.FieldsOnce.{field_once}
use Rattle.member_link.proofs.laws.a_look_up_finds_one_field.Goals as goal

pub returns : goal.returns
returns c = field_once
