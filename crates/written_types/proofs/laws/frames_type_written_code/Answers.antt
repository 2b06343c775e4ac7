use Rattle.written_types.proofs.Given.{Given}
use Rattle.written_types.proofs.Joined.{LawsBelow, written_frames_are_there, written_frames_type}
use Rattle.making_code.specs.Laws.MeantConstants.{needed_means}
use Rattle.written_types.proofs.Ways.{routes_fit}
use Rattle.written_types.proofs.laws.frames_type_written_code.Goals as goal
use Rattle.written_types.specs.Setting.{Setting}
use Rattle.written_types.specs.Writing.{Writing}

laws : goal.After-effect_grows → LawsBelow
laws c = record {
  pools = record { needed = needed_means c.constants_compare_by_value.ensures };
  fields = record { above = c.a_found_field_is_above.ensures; one = c.a_look_up_finds_one_field.ensures };
  parameters = record { parameters = c.parameters_of_bytes_are_spelled.ensures };
}

given : goal.After-effect_grows → (w : Writing) → Setting w → Given w
given c w setting =
    let hierarchy = c.classes_of_a_tree_are_a_hierarchy.ensures w.s.classes setting.tree in
    record {
      setting = setting;
      hierarchy = hierarchy;
      fits = routes_fit w.s.classes w.s.links w.host w.s.flat setting.plan hierarchy setting.tree.holds setting.links setting.ready setting.sites
          setting.valid setting.routes setting.routed;
      one_effect = c.effect_grows.ensures.one w.s;
    }

pub returns-clause-types : goal.returns-clause-types
returns-clause-types c = λ w state frames setting framed most. written_frames_type w (given c w setting) (laws c) state frames framed most

pub returns-clause-there : goal.returns-clause-there
returns-clause-there c = λ w setting.
    let there = written_frames_are_there w (given c w setting) (laws c) in (there.state, there.frames, there.framed)
