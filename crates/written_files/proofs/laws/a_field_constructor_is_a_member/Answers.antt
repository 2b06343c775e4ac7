use Rattle.written_files.proofs.FieldConstructors.Member.{constructor_is_member}
use Rattle.written_files.proofs.laws.a_field_constructor_is_a_member.Goals as goal

pub returns : goal.returns
returns c = λ headers constructor class before pool more method grows is.
    constructor_is_member c.constants_compare_by_value.ensures headers constructor class before pool more method grows is
