-- Members that are open to all classes, and fields that will be opened.
use Rattle.std.specs.Prelude.{ℕ, IsTrue, IsFalse}
use Rattle.class_model.specs.Members.{has, PRIVATE, PROTECTED, PUBLIC, STATIC}
use Rattle.inline_expand.specs.Inner.Found.{IsFolderPlace}
use Rattle.member_link.specs.declared.found.Found.{Found}

-- public and not protected, by the flags of a member
pub record IsOpenToAll (flags : ℕ) : Type 0 where
  pub is_public : IsTrue (has flags PUBLIC)
  pub unprotected : IsFalse (has flags PROTECTED)

-- a private instance field of a class of the folder
pub record WillBeOpened (found : Found) : Type 0 where
  pub is_private : IsTrue (has found.flags PRIVATE)
  pub of_instance : IsFalse (has found.flags STATIC)
  pub of_folder : IsFolderPlace found.place
