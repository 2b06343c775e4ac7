-- Final methods of the folder that a method overrides.
use Rattle.std.specs.Prelude.{IsTrue}
use Rattle.class_model.specs.Members.{has, FINAL}
use Rattle.class_tree.specs.Headers.{Headers}
use Rattle.class_tree.specs.declared.place.Place.{Place}
use Rattle.class_tree.specs.declared.place.Place.TheVariants.{Folder, Library}
use Rattle.member_link.specs.DeclaredMembers.{Declared}
use Rattle.member_link.specs.Declarations.{IsFolderMethod}
use Rattle.member_link.specs.Overriding.{Overrides}

-- a place in the folder
abbrev pub IsFolderPlace : Place → Type 0
IsFolderPlace (Folder index) = Unit {0}
IsFolderPlace (Library index) = ⊥

-- the method is a final one of the folder, and the other overrides it
pub record IsOverriddenFinal (headers : Headers) (low high : Declared) : Type 0 where
  pub of_folder : IsFolderMethod headers high
  pub is_final : IsTrue (has high.member.flags FINAL)
  pub overrides : Overrides headers low high
