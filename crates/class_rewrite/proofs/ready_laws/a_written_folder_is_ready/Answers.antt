use Rattle.std.proofs.Common.{◌≡◌, ℕ, List, [], ◌∷◌, length, slice_get, Some, None, refl, sym, ap, subst, arith, append-nil}
use Rattle.class_model.specs.Header.{header_of}
use Rattle.class_model.specs.Laws.Lists.{at_index}
use Rattle.class_model.specs.MethodCode.{code_of}
use Rattle.class_model.specs.Names.{init}
use Rattle.class_model.specs.Pool.{Constants}
use Rattle.class_model.specs.declared.class_file.ClassFile.{ClassFile}
use Rattle.class_model.specs.declared.class_file.Method.{Method}
use Rattle.class_model.specs.declared.class_file.MethodAt.{MethodAt}
use Rattle.class_rewrite.proofs.MadeClasses.{above, described, described_above, few, fields_are, grow_count, is_above, pool_count}
use Rattle.class_rewrite.proofs.WrittenFolders.{added_is_made, are_expanded, are_flats, made_is_candidate, of_flat, ready_method, rewritten_host, sites_are_news}
use Rattle.class_rewrite.proofs.ready_laws.a_written_folder_is_ready.Goals as goal
use Rattle.class_rewrite.specs.Laws.MadeConstructors.{made_is_added}
use Rattle.class_rewrite.specs.Laws.OneWriting.{HaveOne}
use Rattle.class_rewrite.specs.Optimised.{with_folder}
use Rattle.class_rewrite.specs.Rewriting.Folders.{IsClassWritten, IsFolderWritten, IsMade, IsPoolBefore}
use Rattle.class_rewrite.specs.Rewriting.Methods.{Rewriting}
use Rattle.class_tree.specs.Headers.{IsClassFile, headers_of}
use Rattle.class_tree.specs.Hierarchy.{IsHierarchy}
use Rattle.class_tree.specs.Trees.{IsTree}
use Rattle.making_code.specs.Constants.{grow}
use Rattle.making_code.specs.ConstructorCode.{IsConstructorMethod}
use Rattle.making_code.specs.FieldConstructor.{constructor_method_needs}
use Rattle.member_link.specs.DeclaredMembers.{declared}
use Rattle.member_link.specs.Machine.Classes.{program_of}
use Rattle.member_link.specs.Machine.Programs.{RunMethod}
use Rattle.member_link.specs.Machine.Replaced.{Replacement}
use Rattle.member_link.specs.Scope.{scope_at}
use Rattle.plan_flow.specs.Written.WrittenPrograms.{WrittenMethod}
use Rattle.same_runs.specs.ClearedFields.{ReplacesByFlats}
use Rattle.typed_flats.specs.FlatTypings.{AreReady, IsReadyFlat}
use Rattle.typed_runs.specs.FolderTypings.{HasTypings}
use Rattle.typed_runs.specs.TypedPrograms.{IsTypedProgram, Typings}
use Rattle.written_runs.specs.Inner.Setup.{IsSetup, Setup}
use Rattle.written_runs.specs.Laws.AddedConstructors.{AddsToCandidates, IsAddedTo, added_to, has_free}
use Rattle.written_runs.specs.Laws.ConstructorTexts.{ReadsParameters}
use Rattle.class_rewrite.proofs.GrownFolders.{class_grown, headers_grown}
use Rattle.class_rewrite.specs.Inner.ReadyFolders.{IsReadyHost, flats_written, setup_of}
use Rattle.class_rewrite.specs.Rewriting.Verifying.{IsOfVerified}
use Rattle.written_files.specs.FieldConstructors.{IsConstructorIn}
use Rattle.type_rules.specs.Grown.{IsGrownClass}

module _ (c : goal.After-a_grown_class_has_a_grown_header) (r : Rewriting) (files : List ClassFile) (w : IsFolderWritten r files)
    (verified : IsOfVerified r) where
  tree : IsTree r.classes
  tree = verified.tree

  program : (T : Typings) × IsTypedProgram (program_of r.classes r.links) T × HasTypings r.typed T
  program = c.a_verified_folder_is_a_typed_program.ensures r.classes r.typed r.links tree verified.linked verified.types verified.links verified.some

  ready : (at : MethodAt) (one : WrittenMethod) → w.written at ≡ Some one → IsReadyHost r at one
  ready at one is =
      let known = rewritten_host r files w at one is in
      let there : scope_at r.classes at ≡ Some known.expanded.host.scope = known.expanded.is_host.is_scope in
      record {
        scope = known.expanded.host.scope;
        is_scope = there;
        code =
            c.an_expanded_flat_code_is_ready.ensures.code r.classes r.typed r.links program.0 at one.flat known.expanded.host.scope tree verified.bytes
            verified.linked verified.types verified.links program.1 program.2 known.expanded known.host there;
        for_plans =
            c.an_expanded_flat_code_is_ready.ensures.plans r.classes r.typed r.links program.0 at one.flat tree verified.linked verified.types
            verified.links program.1 program.2 known.expanded known.host known.narrow;
        sites =
            c.an_expanded_flat_code_is_ready.ensures.sites r.classes r.typed r.links program.0 at one.flat tree verified.types verified.links program.1
            program.2 known.expanded known.host;
      }

  replacement : (s : Replacement) × ReplacesByFlats r.classes r.links (flats_written r files w) s
  replacement =
      c.expanded_flat_codes_have_a_replacement.ensures r.classes r.typed r.links (flats_written r files w) verified.links (are_expanded r files w)

  flats_ready : AreReady r.classes (flats_written r files w)
  flats_ready at flat is =
      let one = of_flat r files w at flat is in
      let known = ready at one.0 one.1 in
      subst (IsReadyFlat r.classes at) one.2
      (record { scope = known.scope; is_scope = known.is_scope; ready = known.code; sites = sites_are_news r files w ready at one.0 one.1 })

  abbrev u : Setup
  u = setup_of r files w replacement.0 program.0

  setup : IsSetup u
  setup = record {
    tree = tree;
    linked = verified.links;
    ready = λ at one is. ready_method r files w at one is (ready at one is);
    flats = are_flats r files w;
    constructors = w.constructors;
    replaces = replacement.1;
    replaces_also = w.replaces;
    program =
        c.flat_codes_run_typed.ensures.program r.classes r.links program.0 (flats_written r files w) replacement.0 tree program.1
        (c.linked_instructions_have_linked_operations.ensures r.classes r.links tree verified.links verified.some) flats_ready replacement.1;
  }

  adds : AddsToCandidates u
  adds = record {
    each = λ number file is added.
        let made = added_is_made r files w ready number file _ is added in
        (made.class, made_is_candidate r files w ready made.class made.makes, made.of_chain);
  }

  hierarchy : IsHierarchy (headers_of r.classes)
  hierarchy = c.classes_of_a_tree_are_a_hierarchy.ensures r.classes tree

  one : HaveOne r
  one = record {
    expanded = λ at first other is is_also. c.a_method_has_one_expanded_flat_code.ensures r.classes r.typed at first other hierarchy is is_also;
    least = c.flat_code_has_one_least_plan.ensures.one;
    effect = c.effect_grows.ensures.one;
  }

  added_is : (class : ℕ) (file : ClassFile) → slice_get r.classes.folder class ≡ Some file → IsMade r w.written (header_of file).name
      → IsAddedTo u setup hierarchy adds file
  added_is class file there made = added_to u setup hierarchy adds class file there (made_is_added r files w tree.in_order class file there made)

  free : (class : ℕ) (file : ClassFile) (method : RunMethod) → slice_get r.classes.folder class ≡ Some file → w.s.added class ≡ method ∷ []
      → declared init (r.constructor (header_of file).name) (header_of file).methods ≡ None
  free class file method there added =
      (has_free u setup hierarchy adds file (added_is class file there (added_is_made r files w ready class file method there added))).undeclared

  reads : ReadsParameters
  reads = record { parameters = c.parameters_of_bytes_are_spelled.ensures }

  grown : (class : ℕ) (file also : ClassFile) → slice_get r.classes.folder class ≡ Some file → IsClassWritten r w.written w.s class file also
      → IsGrownClass file also
  grown = class_grown c.constants_compare_by_value.ensures c.a_grown_class_has_a_grown_header.ensures.folder r files w tree free

  -- a field constructor stands in the class that is written
  constructors : (class : ℕ) (file also : ClassFile) (method : Method) (pool : Constants) → slice_get r.classes.folder class ≡ Some file
      → IsClassWritten r w.written w.s class file also
      → IsMade r w.written (header_of file).name
      → IsPoolBefore r class file (length file.methods) pool
      → grow 65535 pool (constructor_method_needs (headers_of r.classes) r.constructor (header_of file).name) ≡ Some also.pool
      → (is : IsConstructorMethod (headers_of r.classes) r.constructor (header_of file).name also.pool method)
      → IsConstructorIn (headers_of r.classes) r.constructor file
      (record { headers = headers_of (with_folder r.classes files); class = also; method = method; part = is.part })
  constructors class file also method pool there is made first grows is_method =
      let to = added_is class file there made in
      let up = above u setup hierarchy adds reads file to in
      let short = pool_count r class file (length file.methods) pool first (to.room.constants file class there refl) in
      record {
        is_class_file = at_index IsClassFile r.classes.folder class file tree.folder there;
        class = grown class file also there is;
        above = up.0;
        superclass = up.1;
        is_above = is_above u setup hierarchy adds reads file to;
        fields = fields_are u setup hierarchy adds reads file to;
        few = few u setup hierarchy adds reads file to;
        described = described u setup hierarchy adds reads file to;
        described_above = described_above u setup hierarchy adds reads file to;
        before = pool;
        pool = also.pool;
        grows = grows;
        more = [];
        has = sym (append-nil also.pool);
        count = grow_count 65535 65535 (constructor_method_needs (headers_of r.classes) r.constructor (header_of file).name) pool also.pool grows
            (omega (arith, short)) (omega arith);
        method = is_method;
        code = ap code_of is_method.attrs;
      }

pub returns : goal.returns
returns c r files w verified = record {
  hierarchy = hierarchy c r files w verified;
  one = one c r files w verified;
  typings = (program c r files w verified).0;
  typed = (program c r files w verified).1;
  has_typings = (program c r files w verified).2;
  ready = ready c r files w verified;
  carries = λ at flat is. c.an_expanded_flat_code_carries_constants.ensures r.classes r.typed at flat verified.types is;
  flats = (replacement c r files w verified).0;
  setup = setup c r files w verified;
  flat_typings_are =
      c.flat_codes_run_typed.ensures.frames r.classes r.links (program c r files w verified).0 (flats_written r files w) (replacement c r files w verified).0
      (flats_ready c r files w verified);
  adds = adds c r files w verified;
  free = free c r files w verified;
  constructors = constructors c r files w verified;
  grown = grown c r files w verified;
  headers =
      headers_grown c.constants_compare_by_value.ensures c.a_grown_class_has_a_grown_header.ensures.folder r files w verified.tree
      (free c r files w verified);
}
