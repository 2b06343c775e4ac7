use Rattle.written_types.proofs.EdgeTargets.{edges_fit}
use Rattle.written_types.proofs.FromLaws.{given_by}
use Rattle.written_types.proofs.Given.{Given}
use Rattle.written_types.proofs.NamedStates.{stated_named}
use Rattle.written_types.proofs.frame_laws.stated_frames_have_framed_names.Goals as goal
use Rattle.written_types.specs.Setting.{Setting}
use Rattle.written_types.specs.Writing.{Writing}

given : goal.After-effect_grows → (w : Writing) → Setting w → Given w
given c w setting = given_by c.classes_of_a_tree_are_a_hierarchy.ensures c.effect_grows.ensures.one w setting

pub returns : goal.returns
returns c = λ w state frames setting named framed.
    stated_named w (given c w setting) (edges_fit w (given c w setting)) named state frames framed
