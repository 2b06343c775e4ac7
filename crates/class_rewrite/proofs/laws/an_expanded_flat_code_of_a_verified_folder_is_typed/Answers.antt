use Rattle.class_rewrite.proofs.SomeClasses.{some_class}
use Rattle.class_rewrite.proofs.laws.an_expanded_flat_code_of_a_verified_folder_is_typed.Goals as goal

pub returns : goal.returns
returns c = λ classes typed links at flat s tree linked types are_links is host there.
    let program = c.a_verified_folder_is_a_typed_program.ensures classes typed links tree linked types are_links (some_class classes at s there) in
    c.an_expanded_flat_code_is_typed.ensures classes typed links program.0 at flat s tree linked types are_links program.1 program.2 is host there
