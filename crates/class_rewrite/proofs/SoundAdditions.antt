-- The texts that a written folder adds are those that constants may have: of the field constructors that are added, and of those that written code calls.
use Rattle.std.proofs.Common.{◌≡◌, ◌≢◌, ◌∙◌, bytes_eq, ℕ, List, [], ◌∷◌, slice_get, Option, Some, None, IsTrue, refl, sym, subst, arith}
use Rattle.std.specs.List.{AllByRecursion, list_any}
use Rattle.std.proofs.lemmas.Option.{slice_get-map}
use Rattle.class_model.specs.Descriptors.{SpellsDescriptor}
use Rattle.class_model.specs.Header.{header_of}
use Rattle.class_model.specs.Laws.Lists.{at_index}
use Rattle.class_model.specs.ModifiedUtf8.{IsText}
use Rattle.class_model.specs.PoolChecks.{BytesSpell, class_at, text_or_empty}
use Rattle.class_model.specs.declared.class_file.ClassFile.{ClassFile}
use Rattle.class_model.specs.declared.descriptor.Descriptor.{Descriptor}
use Rattle.class_model.specs.declared.header.Member.{Member}
use Rattle.class_rewrite.proofs.AddedTexts.{HasText, IsTextField, chain_text, class_text_at, of_itself, own_text}
use Rattle.class_rewrite.proofs.MadeClasses.{above, above_in_chain, is_above}
use Rattle.class_rewrite.proofs.WrittenFolders.{site_of}
use Rattle.class_rewrite.proofs.WrittenInstrs.{HoldsOfWritten, each_written}
use Rattle.class_rewrite.specs.Inner.FittingFolders.{HasFittingConstructor, HasSoundMaking}
use Rattle.class_rewrite.specs.Inner.ReadyFolders.{IsReadyFolder, setup_of}
use Rattle.class_rewrite.specs.Laws.MadeConstructors.{made_is_added}
use Rattle.class_rewrite.specs.Rewriting.Folders.{IsFolderWritten, IsMade}
use Rattle.class_rewrite.specs.Rewriting.Methods.{Rewriting, short_items}
use Rattle.class_tree.specs.Headers.{IsClassFile, Name, headers_of, named}
use Rattle.class_tree.specs.Layouts.{own_fields}
use Rattle.class_tree.specs.Names.{object}
use Rattle.class_tree.specs.Trees.{IsTree}
use Rattle.expanded_code.specs.CandidateSites.{HasCandidateSites, IsSite}
use Rattle.flow_code.specs.declared.point.Site.{Site}
use Rattle.making_code.specs.Items.{WItem, constructs}
use Rattle.member_link.specs.Laws.FolderClasses.{found_in_folder}
use Rattle.plan_flow.specs.Written.WrittenCode.{short}
use Rattle.plan_flow.specs.Written.WrittenPrograms.{WrittenMethod, plan_scope}
use Rattle.written_files.specs.ShortNeeds.{IsShort}
use Rattle.written_files.specs.WrittenClasses.{IsFitting}
use Rattle.written_runs.specs.Laws.AddedConstructors.{added_to}
use Rattle.written_runs.specs.Laws.ConstructorTexts.{ReadsParameters}

-- laws of the crates below
pub record TextLaws : Type 0 where
  pub fits : (file : ClassFile) → IsClassFile file → IsFitting file
  pub reads : ReadsParameters
  pub descriptors : (text : List ℕ) (descriptor : Descriptor) → IsText text → BytesSpell text descriptor → SpellsDescriptor text descriptor

module _ (laws : TextLaws) (r : Rewriting) (files : List ClassFile) (w : IsFolderWritten r files) (tree : IsTree r.classes) (ready : IsReadyFolder r files w) where
  -- ---- make code

  module _ (one : WrittenMethod) (sites : HasCandidateSites r.classes one.flat) where
    -- the class of a site
    site_sound : (number : ℕ) (site : Site) → slice_get one.flat.sites number ≡ Some site → HasSoundMaking r.constructor (constructs site.class)
    site_sound number site got =
        let is = site_of (IsSite r.classes one.flat) one.flat.sites number site sites.sites got in
        let name = class_text_at is.file (laws.fits is.file (at_index IsClassFile r.classes.folder is.class is.file tree.folder is.of_class)) is.index site.class is.named in
        let text = chain_text r.classes tree ready.hierarchy laws.fits r.constructor w.constructors laws.reads site.class is.candidate site.class
        (of_itself r.classes tree ready.hierarchy laws.fits r.constructor w.constructors laws.reads site.class is.candidate) in
        (record { name = record { text = name.text.spelling; is_name = name.is_name }; text = text.text.spelling; void = text.void }, name.text.len, text.text.len)

    holds : HoldsOfWritten (plan_scope r.classes r.links one) (HasSoundMaking r.constructor)
    holds = record {
      simple = record {
        loads = λ kind unit. tt;
        stores = λ kind unit. tt;
        consts = λ value form. tt;
        pures = λ opcode form. tt;
        shuffles = λ opcode form. tt;
      };
      enter = tt;
      made = λ number site is. let sound = site_sound number site is in (sound.0.name, sound.1);
      constructed = site_sound;
      carries = λ at point class instr there is. tt;
      opposite = λ class instr other well is. tt;
      goto = tt;
      nop = tt;
      null_jump = tt;
      throw = tt;
    }

    pub making_sound : AllByRecursion (λ (item : WItem). HasSoundMaking r.constructor item.instr) (short_items r one)
    making_sound = each_written (plan_scope r.classes r.links one) (HasSoundMaking r.constructor) holds short one.routes

  -- ---- field constructors that are added

  module _ (class : ℕ) (file : ClassFile) (there : slice_get r.classes.folder class ≡ Some file) (made : IsMade r w.written (header_of file).name) where
    is_file : IsClassFile file
    is_file = at_index IsClassFile r.classes.folder class file tree.folder there

    fits_file : IsFitting file
    fits_file = laws.fits file is_file

    name_short : (found : Option Name) → class_at file.pool file.this_class ≡ found → IsShort (header_of file).name
    name_short None e = subst (λ (o : Option Name). IsShort (text_or_empty o)) (sym e) (omega arith)
    name_short (Some name) e = subst (λ (o : Option Name). IsShort (text_or_empty o)) (sym e) (class_text_at file fits_file file.this_class name e).text.len

    pub constructor_sound : HasFittingConstructor r file
    constructor_sound =
        let u = setup_of r files w ready.flats ready.typings in
        let to = added_to u ready.setup ready.hierarchy ready.adds class file there (made_is_added r files w tree.in_order class file there made) in
        let up = above u ready.setup ready.hierarchy ready.adds laws.reads file to in
        let text_of : (name : Name) → IsTrue (list_any (bytes_eq name) _) → HasText r.classes tree ready.hierarchy laws.fits r.constructor w.constructors laws.reads name =
        λ name one. chain_text r.classes tree ready.hierarchy laws.fits r.constructor w.constructors laws.reads to.candidate to.is_candidate name one in
        let own = text_of (header_of file).name to.of_chain_of in
        let higher : up.0 ≢ object → HasText r.classes tree ready.hierarchy laws.fits r.constructor w.constructors laws.reads up.0 =
        λ apart. text_of up.0 (above_in_chain u ready.setup ready.hierarchy ready.adds laws.reads file to apart) in
        let found : named (header_of file).name (headers_of r.classes).folder ≡ Some (header_of file) =
        found_in_folder (headers_of r.classes) ready.hierarchy class (header_of file) (slice_get-map header_of r.classes.folder class ∙ rw (there) refl) in
        record {
          descriptor = own.descriptor;
          spells = laws.descriptors (r.constructor (header_of file).name) own.descriptor own.text own.spells;
          no_interface = to.no_interface;
          texts = record {
            is_class_file = is_file;
            above = up.0;
            superclass = up.1;
            is_above = is_above u ready.setup ready.hierarchy ready.adds laws.reads file to;
            own = rw (found) refl;
            text = own.text.spelling;
            text_above = λ apart. (higher apart).text.spelling;
            void_above = λ apart. (higher apart).void;
          };
          short = record {
            above = up.0;
            is_above = is_above u ready.setup ready.hierarchy ready.adds laws.reads file to;
            name = name_short (class_at file.pool file.this_class) refl;
            name_above = (class_text_at file fits_file file.super_class up.0 up.1).text.len;
            text = own.text.len;
            text_above = λ apart. (higher apart).text.len;
            fields = shorter (own_fields (headers_of r.classes) (header_of file).name)
                (own_text r.classes tree ready.hierarchy laws.fits r.constructor w.constructors laws.reads (header_of file).name);
          };
          few = to.room.methods file class there refl;
        } where
          shorter : (fields : List Member) → AllByRecursion IsTextField fields → AllByRecursion (λ (field : Member). IsShort field.name × IsShort field.desc) fields
          shorter [] all = tt
          shorter (field ∷ fields) all = ((all.0.0.len, all.0.1.len), shorter fields all.1)
