-- The parts of a selection, for each form of a call.
use Rattle.std.specs.Prelude.{◌≡◌, IsTrue, IsFalse}
use Rattle.class_model.specs.Members.{has, PRIVATE, STATIC}
use Rattle.class_model.specs.Names.{init}
use Rattle.class_tree.specs.Headers.{Name, Headers}
use Rattle.member_link.specs.DeclaredMembers.{Declared}
use Rattle.member_link.specs.Selection.{Choice, choice_of, public_choice_of, IsOrOverrides, CountsForSpecial}
use Rattle.member_link.specs.declared.selection.CallForm.{CallForm}
use Rattle.member_link.specs.declared.selection.CallForm.TheVariants.{Virtual, Interface, Special}

-- the resolved method itself is chosen
abbrev pub IsFixed : CallForm → Declared → Type 0
IsFixed Virtual resolved = IsTrue (has resolved.member.flags PRIVATE)
IsFixed Interface resolved = ⊥
IsFixed Special resolved = resolved.member.name ≡ init

-- which methods count from a class upwards
abbrev pub CountsFrom : Headers → Name → Declared → CallForm → Declared → Type 0
CountsFrom headers start resolved Virtual method = IsOrOverrides headers resolved method
CountsFrom headers start resolved Interface method = IsFalse (has method.member.flags STATIC)
CountsFrom headers start resolved Special method = CountsForSpecial headers start method

-- what becomes of the first that counts
abbrev pub choice_by : CallForm → Declared → Choice
choice_by Virtual method = choice_of method
choice_by Interface method = public_choice_of method
choice_by Special method = choice_of method
