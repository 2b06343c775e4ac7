use Rattle.std.proofs.Common.{List}
use Rattle.class_model.specs.declared.class_file.ClassFile.{ClassFile}
use Rattle.class_model.specs.declared.class_file.MethodAt.{MethodAt}
use Rattle.class_rewrite.proofs.MadeMembers.{MadeLaws, linked_members}
use Rattle.class_rewrite.proofs.PassingUses.{LinkLaws}
use Rattle.class_rewrite.proofs.WrittenFolders.{IsRewrittenHost, rewritten_host}
use Rattle.class_rewrite.proofs.WrittenUses.{WrittenLaws, handlers_linked, instrs_linked}
use Rattle.class_rewrite.proofs.linked_laws.written_methods_are_linked.Goals as goal
use Rattle.class_rewrite.specs.Rewriting.Folders.{IsFolderWritten}
use Rattle.class_rewrite.specs.Rewriting.Methods.{Rewriting, Rewritten}
use Rattle.class_rewrite.specs.Rewriting.Verifying.{IsOfVerified, IsWrittenIn}
use Rattle.expanded_runs.specs.UsableNames.{AreUsableCatches, IsUsableCode}
use Rattle.member_link.specs.Scope.{Scope}

module _ (c : goal.After-parameters_of_bytes_are_spelled) where
  made : MadeLaws
  made = record {
    declared = record {
      alike = c.grown_classes_are_found_alike.ensures.alike;
      header = c.a_grown_class_has_a_grown_header.ensures.class;
      declares = c.grown_classes_declare_what_passes.ensures;
      names = c.a_field_constructor_names_classes_that_are_there.ensures;
      member = c.a_field_constructor_is_a_member.ensures;
    };
    methods = c.grown_classes_are_found_alike.ensures.methods;
    class_access = λ old new from name grown. (c.grown_classes_are_found_alike.ensures.class_access old new from name grown).0;
    reads = record { parameters = c.parameters_of_bytes_are_spelled.ensures };
  }

  link : LinkLaws
  link = record {
    itself = c.a_grown_class_has_a_grown_header.ensures.itself;
    linked = λ before after old new locals instr site headers is grown fits held.
        c.a_grown_class_keeps_its_instructions.ensures.linked before after old new locals instr site headers is grown fits held;
    fields = c.grown_classes_are_found_alike.ensures.fields;
    methods = c.grown_classes_are_found_alike.ensures.methods;
    class_access = λ old new from name grown. (c.grown_classes_are_found_alike.ensures.class_access old new from name grown).0;
    method_access = λ old new from named method grown. (c.grown_classes_are_found_alike.ensures.method_access old new from named method grown).0;
    field_access = c.grown_classes_are_found_alike.ensures.field_access;
    one_field = c.a_look_up_finds_one_field.ensures;
    one_method = c.a_look_up_finds_one_method.ensures;
  }

  laws : WrittenLaws
  laws = record {
    link = link;
    made = made;
    compares = c.constants_compare_by_value.ensures;
    site = c.a_grown_class_keeps_its_code.ensures.site;
    calls = λ u opcode constant reference passes. (c.a_method_reference_passes.ensures.of_call u opcode constant reference).1 passes;
  }

  module _ (r : Rewriting) (files : List ClassFile) (w : IsFolderWritten r files) (at : MethodAt) (v : Rewritten) (host now : Scope)
      (verified : IsOfVerified r) (is : IsWrittenIn r files w at v host now) where
    known : IsRewrittenHost r at v.one
    known = rewritten_host r files w at v.one (w.rewritten.all at v is.is)

    usable : IsUsableCode r.classes host v.one.flat
    usable =
        c.an_expanded_flat_code_names_what_the_host_may_use.ensures.code r.classes r.typed at v.one.flat host verified.linked verified.types known.expanded
        is.is_host

    caught : AreUsableCatches host v.one.flat
    caught =
        c.an_expanded_flat_code_names_what_the_host_may_use.ensures.catches r.classes r.typed at v.one.flat host verified.linked verified.types known.expanded
        is.is_host

pub returns-clause-instrs : goal.returns-clause-instrs
returns-clause-instrs c = λ r files w at v host now verified is.
    instrs_linked (laws c) r files w verified (c.a_written_folder_is_ready.ensures r files w verified) at v host now is
    (usable c r files w at v host now verified is)

pub returns-clause-handlers : goal.returns-clause-handlers
returns-clause-handlers c = λ r files w at v host now verified is.
    handlers_linked (laws c) r files w verified (c.a_written_folder_is_ready.ensures r files w verified) at v host now is
    (caught c r files w at v host now verified is)

pub returns-clause-constructors : goal.returns-clause-constructors
returns-clause-constructors c = λ r files w class file above s verified added is_above.
    linked_members (made c) r files w verified (c.a_written_folder_is_ready.ensures r files w verified) class file added.of_folder above s
    added.of_written added.written added.headers added.made is_above
