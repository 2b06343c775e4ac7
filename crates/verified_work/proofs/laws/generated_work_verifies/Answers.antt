use Rattle.std.proofs.Common.{subst}
use Rattle.type_rules.specs.Verified.{IsVerified}
use Rattle.work_gen.specs.Generated.{choices}
use Rattle.verified_work.proofs.WorkArranged.{are_arranged}
use Rattle.verified_work.proofs.WorkUses.{UseLaws}
use Rattle.verified_work.proofs.WorkVerified.{is_verified}
use Rattle.verified_work.proofs.laws.generated_work_verifies.Goals as goal

pub returns : goal.returns
returns c = λ number size classes few arranged.
    let chosen = choices number size in
    let laws : UseLaws = record {
      parameters = c.parameters_are_spelled.ensures;
      one_type = c.a_text_spells_one_field_type.ensures;
      one_field = c.a_look_up_finds_one_field.ensures;
      one_method = c.a_look_up_finds_one_method.ensures;
    } in
    subst IsVerified (are_arranged c.a_folder_is_told_once.ensures.arranged chosen classes arranged)
    (is_verified laws chosen (c.generated_classes_are_class_files.ensures number size few) c.base_headers_are_library_classes.ensures)
