-- The interfaces of arrays are interfaces in a typed program, and so in the folder that it is the program of.
use Rattle.std.proofs.Common.{◌≡◌, refl, sym, subst, ◌∙◌}
use Rattle.class_tree.specs.Headers.{Classes, headers_of}
use Rattle.class_tree.specs.Names.{cloneable, is_interface, serializable}
use Rattle.expanded_runs.proofs.Runs.CallTargets.{headers_are}
use Rattle.expanded_runs.proofs.Types.ThroughClass.{ArrayInterfaces}
use Rattle.member_link.specs.Machine.Classes.{program_of}
use Rattle.member_link.specs.Machine.Programs.{Links, Program, headers_in, is_interface_named}
use Rattle.typed_runs.specs.TypedPrograms.{IsTypedProgram, Typings}

in_program : (P : Program) (T : Typings) → IsTypedProgram P T → ArrayInterfaces (headers_in P)
in_program P T program = record {
  clones = λ header found.
      let kind : is_interface_named P cloneable ≡ is_interface header = rw found refl in
      sym kind ∙ program.base.of_arrays.0;
  serializes = λ header found.
      let kind : is_interface_named P serializable ≡ is_interface header = rw found refl in
      sym kind ∙ program.base.of_arrays.1.0;
}

pub array_interfaces : (classes : Classes) (links : Links) (T : Typings) → IsTypedProgram (program_of classes links) T
    → ArrayInterfaces (headers_of classes)
array_interfaces classes links T program =
    subst ArrayInterfaces (headers_are classes links) (in_program (program_of classes links) T program)
