use Rattle.making_code.specs.Laws.MeantConstants.{needed_means}
use Rattle.written_types.proofs.EdgeTargets.{edges_fit}
use Rattle.written_types.proofs.FromLaws.{given_by}
use Rattle.written_types.proofs.Given.{Given}
use Rattle.written_types.proofs.WholeFrames.{stated_whole}
use Rattle.written_types.proofs.frame_laws.stated_frames_are_whole.Goals as goal
use Rattle.written_types.specs.Setting.{Setting}
use Rattle.written_types.specs.Writing.{Writing}

given : goal.After-effect_grows → (w : Writing) → Setting w → Given w
given c w setting = given_by c.classes_of_a_tree_are_a_hierarchy.ensures c.effect_grows.ensures.one w setting

pub returns : goal.returns
returns c = λ w state frames setting framed.
    stated_whole w (given c w setting) (record { needed = needed_means c.constants_compare_by_value.ensures })
    (edges_fit w (given c w setting)) state frames framed
