use Rattle.std.proofs.Common.{List}
use Rattle.class_model.specs.declared.class_file.ClassFile.{ClassFile}
use Rattle.class_model.specs.declared.class_file.MethodAt.{MethodAt}
use Rattle.class_rewrite.proofs.CaughtTexts.{catches_sound}
use Rattle.class_rewrite.proofs.FileClasses.{all_files}
use Rattle.class_rewrite.proofs.FileLaws.{FileLaws}
use Rattle.class_rewrite.proofs.LinkedFrames.{LinkingLaws, states_now}
use Rattle.class_rewrite.proofs.SoundAdditions.{TextLaws, constructor_sound, making_sound}
use Rattle.class_rewrite.proofs.file_laws.written_classes_are_class_files.Goals as goal
use Rattle.class_rewrite.proofs.StatedTexts.{states_placed, tables_sound}
use Rattle.class_rewrite.proofs.UnitsOfWritten.{units_of_written}
use Rattle.class_rewrite.proofs.WrittenFolders.{rewritten_host}
use Rattle.class_rewrite.specs.Inner.FittingFolders.{HasFittingMethods, HasSoundNeeds, IsFittedFolder}
use Rattle.class_rewrite.specs.Inner.ReadyFolders.{IsReadyFolder, IsReadyHost}
use Rattle.class_rewrite.specs.Rewriting.Folders.{IsFolderWritten, IsRewrittenAt}
use Rattle.class_rewrite.specs.Rewriting.Methods.{Rewriting, Rewritten}
use Rattle.class_rewrite.specs.Rewriting.Verifying.{IsOfVerified}
use Rattle.expanded_code.specs.ExpandAnswers.{IsExpanded}

laws : goal.After-constants_compare_by_value → FileLaws
laws c = record {
  compares = c.constants_compare_by_value.ensures;
  fits = c.a_class_file_fits_its_items.ensures;
  is_file = c.a_written_class_is_a_class_file.ensures;
  added = c.fitting_constants_are_added.ensures.added;
  none = c.fitting_constants_are_added.ensures.none;
  both = c.fitting_constants_are_added.ensures.both;
  pool = c.fitting_constants_are_added.ensures.pool;
  code_sound = c.what_written_code_needs_is_sound.ensures;
  code_fits = c.what_written_code_needs_fits.ensures;
  constructor_sound = c.what_a_field_constructor_needs_is_sound.ensures;
  constructor_fits = c.what_a_field_constructor_needs_fits.ensures;
  operands = c.a_grown_class_keeps_its_instructions.ensures.operands;
  consecutive = c.instructions_are_consecutive.ensures;
  constructor_passes = c.a_field_constructor_passes_its_checks.ensures;
}

texts : goal.After-constants_compare_by_value → TextLaws
texts c = record {
  fits = c.a_class_file_fits_its_items.ensures;
  reads = record { parameters = c.parameters_of_bytes_are_spelled.ensures };
  descriptors = c.a_descriptor_of_a_text.ensures;
}

module _ (c : goal.After-constants_compare_by_value) (r : Rewriting) (files : List ClassFile) (w : IsFolderWritten r files) (of : IsOfVerified r)
    (ready : IsReadyFolder r files w) (fitting : HasFittingMethods r) where
  expanded : (at : MethodAt) (v : Rewritten) → IsRewrittenAt r at v → IsExpanded r.classes r.typed at v.one.flat
  expanded at v is = (rewritten_host r files w at v.one (w.rewritten.all at v is)).expanded

  needs : (at : MethodAt) (v : Rewritten) → IsRewrittenAt r at v → HasSoundNeeds r v
  needs at v is =
      let host : IsReadyHost r at v.one = ready.ready at v.one (w.rewritten.all at v is) in
      record {
        making = making_sound (texts c) r files w of.tree ready v.one host.sites;
        catches =
            catches_sound c.a_class_file_fits_its_items.ensures r of.tree.folder at v.one host.scope host.is_scope
            (c.an_expanded_flat_code_catches_what_its_host_names.ensures r.classes r.typed at v.one.flat host.scope of.types (expanded at v is) host.is_scope);
        tables =
            tables_sound r at v is host.scope (c.rewritten_methods_have_sound_frames.ensures r files w at v host.scope is of host.is_scope);
      }

  linking : LinkingLaws
  linking = record {
    typing = record { laid = c.what_types_items_types_the_laid_method.ensures; frames = c.frames_type_written_code.ensures.types };
    alike = c.grown_classes_are_found_alike.ensures.alike;
    states = c.a_laid_method_states_its_frames.ensures;
  }

  pub fitted : IsFittedFolder r files w
  fitted = record {
    needs = needs;
    codes = λ at v host now is. record {
      items = fitting at v is.is;
      units =
          units_of_written (record {
            typing = linking.typing;
            fits = c.a_class_file_fits_its_items.ensures;
            whole = c.stated_frames_are_whole.ensures;
          }) r files w of ready at v host now is (fitting at v is.is).emitted;
      version =
          c.an_expanded_flat_code_is_of_one_version.ensures r.classes r.typed at v.one.flat host of.types (expanded at v is.is) is.is_host;
      states =
          states_placed r at v is.is now
          (states_now linking r files w of ready at v host now is
          (c.rewritten_methods_have_sound_frames.ensures r files w at v host is.is of is.is_host) (fitting at v is.is).emitted);
    };
    constructors = constructor_sound (texts c) r files w of.tree ready;
  }

pub returns : goal.returns
returns c = λ r files w of fitting.
    let ready = c.a_written_folder_is_ready.ensures r files w of in
    all_files (laws c) r files w of.tree ready (fitted c r files w of ready fitting)
