use Rattle.making_code.specs.Laws.MeantConstants.{needed_means}
use Rattle.written_types.proofs.Given.{Given}
use Rattle.written_types.proofs.Joined.{LawsBelow, written_rows_fit}
use Rattle.written_types.proofs.Ways.{routes_fit}
use Rattle.written_types.proofs.laws.written_items_may_use_what_they_name.Goals as goal
use Rattle.written_types.specs.Setting.{Setting}
use Rattle.written_types.specs.Writing.{Writing}

laws : goal.After-effect_grows → LawsBelow
laws c = record {
  pools = record { needed = needed_means c.constants_compare_by_value.ensures };
  fields = record { above = c.a_found_field_is_above.ensures; one = c.a_look_up_finds_one_field.ensures };
  parameters = record { parameters = c.parameters_of_bytes_are_spelled.ensures };
}

given : goal.After-effect_grows → (w : Writing) → Setting w → Given w
given c w setting =
    let hierarchy = c.classes_of_a_tree_are_a_hierarchy.ensures w.s.classes setting.tree in
    record {
      setting = setting;
      hierarchy = hierarchy;
      fits = routes_fit w.s.classes w.s.links w.host w.s.flat setting.plan hierarchy setting.tree.holds setting.links setting.ready setting.sites
          setting.valid setting.routes setting.routed;
      one_effect = c.effect_grows.ensures.one w.s;
    }

pub returns-clause-access : goal.returns-clause-access
returns-clause-access c = λ w state frames setting framed usable number item frame is is_frame.
    (written_rows_fit w (given c w setting) (laws c) state frames framed usable number item frame is is_frame).access

pub returns-clause-rows : goal.returns-clause-rows
returns-clause-rows c = λ w state frames setting framed usable number item frame is is_frame.
    written_rows_fit w (given c w setting) (laws c) state frames framed usable number item frame is is_frame
