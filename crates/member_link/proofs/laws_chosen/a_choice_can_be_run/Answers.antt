use Rattle.std.proofs.Common.{refl}
use Rattle.member_link.proofs.ChosenAbove.{selected_is_runnable}
use Rattle.member_link.proofs.laws_chosen.a_choice_can_be_run.Goals as goal

pub returns : goal.returns
returns c = λ headers receiver resolved method form hierarchy declares instance above selects.
    selected_is_runnable headers hierarchy receiver resolved declares instance above selects method refl
