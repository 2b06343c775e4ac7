use Rattle.std.proofs.Common.{inl, inr}
use Rattle.class_rewrite.proofs.SomeClasses.{none_or_some}
use Rattle.class_rewrite.proofs.laws.expanded_flat_codes_of_a_verified_folder_run_equally.Goals as goal

pub returns : goal.returns
returns c = λ classes typed links flats r tree linked types are_links expanded replaces.
    elim (none_or_some classes links r) [
      | inl same ↦ c.programs_that_are_equal_run_equally.ensures _ _ same
      | inr some ↦
          let program = c.a_verified_folder_is_a_typed_program.ensures classes typed links tree linked types are_links some in
          c.expanded_flat_codes_run_equally.ensures classes typed links program.0 flats r tree types are_links program.1 program.2 expanded replaces
    ]
