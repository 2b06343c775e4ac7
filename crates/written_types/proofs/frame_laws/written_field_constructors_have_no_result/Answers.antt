use Rattle.written_types.proofs.ConstructorTakes.{takes_fields}
use Rattle.written_types.proofs.FromLaws.{given_by}
use Rattle.written_types.proofs.frame_laws.written_field_constructors_have_no_result.Goals as goal

pub returns : goal.returns
returns c = λ w number site setting is.
    (takes_fields w (given_by c.classes_of_a_tree_are_a_hierarchy.ensures c.effect_grows.ensures.one w setting)
    (record { parameters = c.parameters_of_bytes_are_spelled.ensures }) number site is).no_result
