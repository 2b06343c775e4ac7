-- The program that a folder and its library are.
use Rattle.std.specs.Prelude.{◌≡◌}
use Rattle.class_tree.specs.Headers.{Classes, headers_of}
use Rattle.member_link.specs.Machine.Classes.{program_of}
use Rattle.member_link.specs.Machine.Links.{AreLinksOf}
use Rattle.member_link.specs.Machine.Programs.{Program, Links}

-- by the links of their hierarchy
pub record IsProgram (classes : Classes) (P : Program) : Type 0 where
  pub links : Links
  pub are_links : AreLinksOf (headers_of classes) links
  pub same : P ≡ program_of classes links
