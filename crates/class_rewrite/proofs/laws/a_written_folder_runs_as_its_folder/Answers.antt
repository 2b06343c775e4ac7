use Rattle.std.proofs.Common.{◌≡◌, inl, inr, ℕ, List, length, slice_get, Some, refl, sym}
use Rattle.class_model.specs.Header.{header_of}
use Rattle.class_model.specs.Pool.{Constants}
use Rattle.class_model.specs.declared.class_file.ClassFile.{ClassFile}
use Rattle.class_model.specs.declared.class_file.Method.{Method}
use Rattle.class_rewrite.proofs.SomeClasses.{none_or_some}
use Rattle.class_rewrite.proofs.WholeFolders.{HaveLaws, folder_known}
use Rattle.class_rewrite.proofs.WrittenClasses.{program_written}
use Rattle.class_rewrite.proofs.WrittenFolders.{are_expanded}
use Rattle.class_rewrite.proofs.laws.a_written_folder_runs_as_its_folder.Goals as goal
use Rattle.class_rewrite.specs.Optimised.{RunsAs, with_folder}
use Rattle.class_rewrite.specs.Rewriting.Folders.{IsClassWritten, IsFolderWritten, IsMade, IsPoolBefore}
use Rattle.class_rewrite.specs.Rewriting.Methods.{Rewriting}
use Rattle.class_tree.specs.Headers.{headers_of}
use Rattle.making_code.specs.Constants.{grow}
use Rattle.making_code.specs.ConstructorCode.{IsConstructorMethod}
use Rattle.making_code.specs.FieldConstructor.{constructor_method_needs}
use Rattle.member_link.specs.Machine.Classes.{program_of, run_method_of}
use Rattle.member_link.specs.Machine.Links.{AreLinksOf}
use Rattle.member_link.specs.Machine.Replaced.{replaced}
use Rattle.member_link.specs.Machine.SameRuns.{SameRuns}
use Rattle.plan_flow.specs.Written.WrittenPrograms.{constructor_method}
use Rattle.class_rewrite.specs.Inner.ReadyFolders.{IsReadyFolder, flats_written, setup_of}
use Rattle.class_rewrite.specs.Rewriting.Verifying.{IsOfVerified}
use Rattle.class_rewrite.specs.Rewriting.WellWritten.{IsWellWritten}

module _ (c : goal.After-programs_that_are_equal_run_equally) (r : Rewriting) (files : List ClassFile) (w : IsFolderWritten r files)
    (verified : IsOfVerified r) where
  ready : IsReadyFolder r files w
  ready = c.a_written_folder_is_ready.ensures r files w verified

  same : SameRuns (program_of r.classes r.links) (replaced (program_of r.classes r.links) w.s)
  same =
      c.running_the_same_composes.ensures _ _ _
      (c.running_equally_is_running_the_same.ensures.forth _ _
      (c.expanded_flat_codes_run_equally.ensures r.classes r.typed r.links ready.typings (flats_written r files w) ready.flats verified.tree verified.types
      verified.links ready.typed ready.has_typings (are_expanded r files w) ready.setup.replaces))
      (c.written_codes_run_the_same.ensures.runs (setup_of r files w ready.flats ready.typings) ready.setup ready.hierarchy ready.adds
      ready.flat_typings_are)

  laws : HaveLaws
  laws = record {
    compares = c.constants_compare_by_value.ensures;
    header = c.a_grown_class_has_a_grown_header.ensures.class;
    method = c.a_grown_class_keeps_its_code.ensures.runs;
    runs = c.a_grown_class_keeps_its_instructions.ensures.runs;
    calls = c.a_grown_class_keeps_its_instructions.ensures.calls;
    starts = c.a_grown_class_begins_alike.ensures.starts;
    handles = c.a_grown_class_begins_alike.ensures.handles;
    means = c.a_laid_code_means_its_items.ensures;
  }

  -- a field constructor does what its instructions mean
  constructs : (class : ℕ) (file also : ClassFile) (method : Method) (pool : Constants) → slice_get r.classes.folder class ≡ Some file
      → IsClassWritten r w.written w.s class file also
      → IsMade r w.written (header_of file).name
      → IsPoolBefore r class file (length file.methods) pool
      → grow 65535 pool (constructor_method_needs (headers_of r.classes) r.constructor (header_of file).name) ≡ Some also.pool
      → IsConstructorMethod (headers_of r.classes) r.constructor (header_of file).name also.pool method
      → run_method_of r.links (headers_of (with_folder r.classes files)) also method ≡ constructor_method r.classes r.links r.constructor file
  constructs class file also method pool there is made first grows is_method =
      c.a_field_constructor_runs_its_instructions.ensures r.classes r.links r.constructor file
      (record { headers = headers_of (with_folder r.classes files); class = also; method = method; part = is_method.part })
      (ready.constructors class file also method pool there is made first grows is_method)
      ready.headers

  folder : IsWellWritten r files w → RunsAs r.classes (with_folder r.classes files)
  folder well =
      let known = folder_known laws r files w verified.tree ready constructs well in
      let after : AreLinksOf (headers_of (with_folder r.classes files)) r.links =
      (c.grown_classes_have_the_same_links.ensures (headers_of r.classes) (headers_of (with_folder r.classes files)) r.links ready.headers).0
      verified.links in
      record {
        first = program_of r.classes r.links;
        is_first = record { links = r.links; are_links = verified.links; same = refl };
        second = replaced (program_of r.classes r.links) w.s;
        is_second = record { links = r.links; are_links = after; same = sym (program_written known) };
        same_runs = same;
      }

pub returns-clause-codes : goal.returns-clause-codes
returns-clause-codes c = λ r files w tree bytes linked types are_links.
    elim (none_or_some r.classes r.links w.s) [
      | inl same_program ↦ c.running_equally_is_running_the_same.ensures.forth _ _ (c.programs_that_are_equal_run_equally.ensures _ _ same_program)
      | inr some ↦ same c r files w (record { tree = tree; bytes = bytes; linked = linked; types = types; links = are_links; some = some })
    ]

pub returns-clause-folder : goal.returns-clause-folder
returns-clause-folder c = λ r files w tree bytes linked types are_links some.
    folder c r files w (record { tree = tree; bytes = bytes; linked = linked; types = types; links = are_links; some = some })
