-- The Code of a method that is rewritten, in the class that is written, passes what a class file asks of it, and fits its items.
use Rattle.std.proofs.Common.{◌≡◌, ◌≢◌, ◌≤◌, ◌<◌, ◌+◌, ◌∙◌, inl, inr, ℕ, zero, suc, nat_le, Bool, true, false, List, [], ◌∷◌, ◌++◌, flat_map, length, slice_get, Option, Some, None, IfSome, IsSome, if◌then◌else◌, Result, Ok, Err, refl, sym, ap, subst, arith}
use Rattle.std.specs.List.{AllByRecursion}
use Rattle.std.proofs.lemmas.Bool.{false≢true}
use Rattle.std.proofs.lemmas.Option.{same_Some, slice_get_within}
use Rattle.class_model.specs.Checks.{Fault}
use Rattle.class_model.specs.Code.{stack_map_table}
use Rattle.class_model.specs.Frames.{Setting, stack_map_table_at}
use Rattle.class_model.specs.Stated.{read_or_none, stated_in}
use Rattle.class_model.specs.Instructions.{decoded}
use Rattle.class_model.specs.Laws.ClassFiles.{methods_place, parts_hold}
use Rattle.class_model.specs.Laws.Lists.{at_index}
use Rattle.class_model.specs.Methods.{entry_of, home_of, units_at_call}
use Rattle.class_model.specs.Pool.{Constants}
use Rattle.class_model.specs.PoolChecks.{utf8_at}
use Rattle.class_model.specs.declared.class_file.ClassFile.{ClassFile}
use Rattle.class_model.specs.declared.class_file.InnerAttr.{InnerAttr}
use Rattle.class_model.specs.declared.class_file.Method.{Method}
use Rattle.class_model.specs.declared.class_file.MethodAt.{MethodAt}
use Rattle.class_model.specs.declared.frame.Frame.{Frame}
use Rattle.class_model.specs.declared.frame.PlacedFrame.{PlacedFrame}
use Rattle.class_rewrite.proofs.AskedCodes.{methods_asked}
use Rattle.class_rewrite.proofs.CheckedCodes.{AreReadAttrs, IsCheckedItem, IsLaidPart, none_there, one_there, part_holds}
use Rattle.class_rewrite.proofs.CheckedItems.{fit_sorts, items_checked}
use Rattle.class_rewrite.proofs.FileLaws.{FileLaws}
use Rattle.class_rewrite.proofs.FittingParts.{HasSmallParts, at_most, part_fits, part_small}
use Rattle.class_rewrite.proofs.FolderPairs.{IsPair}
use Rattle.class_rewrite.proofs.GrownConstants.{class_adds, entries_hold}
use Rattle.class_rewrite.proofs.NeededConstants.{written_meant}
use Rattle.class_rewrite.proofs.StayingIndices.{items_stay}
use Rattle.class_rewrite.proofs.WrittenFolders.{IsRewrittenHost, rewritten_host}
use Rattle.class_rewrite.proofs.WrittenScopes.{IsHosted, hosted, now_scope, numbered}
use Rattle.class_rewrite.specs.Inner.FittingFolders.{HasFittingCode, IsFittedFolder, UnitFits, frames_placed}
use Rattle.class_rewrite.specs.Inner.ReadyFolders.{IsReadyFolder, IsReadyHost}
use Rattle.class_rewrite.specs.Laws.GrownPools.{rewritten_begins, written_begins}
use Rattle.class_rewrite.specs.Laws.WrittenGrown.{added_begins}
use Rattle.class_rewrite.specs.Rewriting.Folders.{IsFolderWritten, IsPoolBefore, IsRewrittenAt, with_part}
use Rattle.class_rewrite.specs.Rewriting.Methods.{Rewriting, Rewritten}
use Rattle.class_tree.specs.Headers.{IsClassFile, headers_of}
use Rattle.code_layout.specs.Layout.{placed_items}
use Rattle.code_layout.specs.PlainItems.{plain_items}
use Rattle.expanded_code.specs.ExpandAnswers.{many_units}
use Rattle.flow_code.specs.WrittenUnits.{written_units}
use Rattle.making_code.specs.Constants.{grow, needs_text, text_index}
use Rattle.making_code.specs.Laws.AddedConstants.{Compares, grow_split}
use Rattle.making_code.specs.Laws.GrownPools.{Begins, begins_through, grow_begins}
use Rattle.making_code.specs.Laws.MeantConstants.{grown_text, text_later, text_read}
use Rattle.member_link.specs.Scope.{Scope}
use Rattle.plan_flow.specs.PlanScope.{PlanScope}
use Rattle.plan_flow.specs.Written.WrittenConstants.{indexed_items}
use Rattle.plan_flow.specs.Written.WrittenPrograms.{finished_of, plan_scope}
use Rattle.row_frames.specs.Laws.MorePools.{text_more}
use Rattle.same_runs.specs.ReadyCode.{IsReadyCode}
use Rattle.stackmap_emit.specs.FrameConstants.{frame_needs, stated_frames, table_needs}
use Rattle.stackmap_emit.specs.FramesAttribute.{IsFramesAttribute, no_attribute, one_attribute}
use Rattle.stackmap_emit.specs.PlacedFrames.{placed_frames, spelled_in}
use Rattle.type_rules.specs.Grown.{IsGrownClass}
use Rattle.written_files.specs.WrittenClasses.{IsCodeFor, IsFitting}

none_placed : (place : ℕ → ℕ) (k : ℕ) (frames : List (Option Frame)) → stated_frames frames ≡ [] → placed_frames place k frames ≡ []
none_placed place k [] none = refl
none_placed place k (None ∷ frames) none = none_placed place (suc k) frames none
none_placed place k (Some frame ∷ frames) none = absurd cc

-- the name StackMapTable is there, where a frame is stated
table_named : Compares → (limit : ℕ) (pool grown : Constants) (place : ℕ → ℕ) (stated : List (Option Frame)) → grow limit pool (table_needs stated) ≡ Some grown
    → placed_frames place 0 stated ≢ []
    → utf8_at grown (text_index grown stack_map_table) ≡ Some stack_map_table
table_named same limit pool grown place stated grows some = by (stated_frames stated) refl where
  by : (frames : List Frame) → stated_frames stated ≡ frames → utf8_at grown (text_index grown stack_map_table) ≡ Some stack_map_table
  by [] none = absurd (some (none_placed place 0 stated none))
  by (frame ∷ frames) is =
      let classes = flat_map frame_needs stated in
      let needs : table_needs stated ≡ needs_text stack_map_table ++ classes = rw (is) refl in
      let cut = grow_split limit pool (needs_text stack_map_table) classes grown (ap (grow limit pool) (sym needs) ∙ grows) in
      text_read same grown stack_map_table
      (text_later cut.0 grown stack_map_table (grow_begins limit classes cut.0 grown cut.2) (grown_text same limit pool cut.0 stack_map_table cut.1))

module _ (laws : FileLaws) (r : Rewriting) (files : List ClassFile) (w : IsFolderWritten r files) (folder : AllByRecursion IsClassFile r.classes.folder)
    (ready : IsReadyFolder r files w) (fitting : IsFittedFolder r files w)
    (class : ℕ) (file also : ClassFile) (pair : IsPair r files w class file also)
    (number : ℕ) (method : Method) (got : slice_get file.methods number ≡ Some method)
    (v : Rewritten) (is_at : IsRewrittenAt r (numbered r files w class file also pair number) v) where
  abbrev at : MethodAt
  at = record { class = class; method = number }

  abbrev s : PlanScope
  s = plan_scope r.classes r.links v.one

  found : IsHosted r files w class file also pair number method v
  found = hosted r files w class file also pair number method v got is_at

  abbrev host : Scope
  host = record { headers = headers_of r.classes; class = file; method = method; part = found.part }

  abbrev now : Scope
  now = now_scope r files w class file also pair method v.part

  sound : HasFittingCode r v host now
  sound = fitting.codes at v host now found.is

  is_file : IsClassFile file
  is_file = at_index IsClassFile r.classes.folder class file folder pair.there

  fits_file : IsFitting file
  fits_file = laws.fits file is_file

  grown : IsGrownClass file also
  grown = ready.grown class file also pair.there pair.is

  host_same : is_at.is.host ≡ host
  host_same = same_Some is_at.is.host host (sym is_at.is.is_host ∙ found.is.is_host)

  files_same : is_at.file ≡ file
  files_same = same_Some is_at.file file (sym is_at.is_file ∙ pair.there)

  before_it : IsPoolBefore r class file number is_at.pool
  before_it = subst (λ (f : ClassFile). IsPoolBefore r class f number is_at.pool) files_same is_at.before

  -- ---- the pool of the class begins with the one that the method leaves

  pool_in_class : Begins v.pool also.pool
  pool_in_class =
      let gap : (n : ℕ) × (length file.methods ≡ suc (number + n)) = behind number (length file.methods) (slice_get_within file.methods number method got) in
      let last : IsPoolBefore r class file (suc (number + gap.0)) pair.is.code_pool =
      subst (λ (n : ℕ). IsPoolBefore r class file n pair.is.code_pool) gap.1 pair.is.before_constructors in
      subst (Begins v.pool) (sym (ap (λ (c : ClassFile). c.pool) pair.is.is))
      (begins_through v.pool pair.is.code_pool pair.is.pool
      (written_begins r ready.one class file number is_at.pool v before_it is_at.is gap.0 (number + gap.0) pair.is.code_pool refl last)
      (added_begins r w.written file pair.is.code_pool pair.is.pool pair.is.added pair.is.adds)) where
        behind : (n count : ℕ) → n < count → (gap : ℕ) × (count ≡ suc (n + gap))
        behind n zero low = absurd (omega (arith, low))
        behind zero (suc count) low = (count, omega arith)
        behind (suc n) (suc count) low =
            let rest = behind n count (omega (arith, low)) in
            let same = rest.1 in
            (rest.0, omega (arith, same))

  code_in_class : Begins v.code_pool also.pool
  code_in_class = begins_through v.code_pool v.pool also.pool (rewritten_begins r at is_at.pool v is_at.is).1 pool_in_class

  -- ---- its local units

  rewritten : IsRewrittenHost r at v.one
  rewritten = rewritten_host r files w at v.one (w.rewritten.all at v is_at)

  ready_host : IsReadyHost r at v.one
  ready_host = ready.ready at v.one (w.rewritten.all at v is_at)

  more_units : v.one.flat.locals ≤ v.part.max_locals
  more_units = let is = is_at.is.max_locals in omega (arith, is)

  few_units : v.part.max_locals ≤ 65535
  few_units =
      let few : written_units v.one.flat ≤ 65535 = at_most 65535 (written_units v.one.flat) (λ more. rewritten.narrow (many_units more)) in
      let is = is_at.is.max_locals in
      omega (arith, few, is)

  -- the flat code has the host's units
  host_units : found.part.max_locals ≤ v.one.flat.locals
  host_units =
      let own : rewritten.expanded.host.scope ≡ host = same_Some rewritten.expanded.host.scope host (sym rewritten.expanded.is_host.is_scope ∙ found.is.is_host) in
      let same : rewritten.expanded.host.scope.part.max_locals ≡ found.part.max_locals = ap (λ (one : Scope). one.part.max_locals) own in
      let is : v.one.flat.locals ≡ _ = ap (λ f. f.locals) rewritten.expanded.is in
      omega (arith, same, is)

  units : IfSome (utf8_at also.pool method.desc) (λ text. units_at_call method.flags text ≤ v.part.max_locals)
  units =
      let parts = parts_hold file fits_file.value.checks in
      let asked = methods_asked (home_of file) [] (methods_place file + 2) file.methods number method found.part parts.methods fits_file.value.methods got found.has_code in
      by (utf8_at file.pool method.desc) refl asked.there asked.units where
        by : (o : Option (List ℕ)) → utf8_at file.pool method.desc ≡ o → IsSome (utf8_at file.pool method.desc)
            → IfSome (utf8_at file.pool method.desc) (λ text. units_at_call method.flags text ≤ found.part.max_locals)
            → IfSome (utf8_at also.pool method.desc) (λ text. units_at_call method.flags text ≤ v.part.max_locals)
        by None e there units = absurd (false≢true (subst IsSome e there))
        by (Some text) e there units =
            let own : units_at_call method.flags text ≤ found.part.max_locals =
            subst (λ (o : Option (List ℕ)). IfSome o (λ text. units_at_call method.flags text ≤ found.part.max_locals)) e units in
            let same : utf8_at also.pool method.desc ≡ Some text =
            ap (λ (p : Constants). utf8_at p method.desc) grown.pool ∙ text_more file.pool grown.more method.desc text e in
            let one = host_units in
            let two = more_units in
            let enough : units_at_call method.flags text ≤ v.part.max_locals = omega (arith, own, one, two) in
            subst (λ (o : Option (List ℕ)). IfSome o (λ text. units_at_call method.flags text ≤ v.part.max_locals)) (sym same) enough

  -- ---- its items

  major_same : also.major ≡ file.major
  major_same = ap (λ (c : ClassFile). c.major) grown.rest

  checked : AllByRecursion (IsCheckedItem also.pool also.major v.part.max_locals) v.items
  checked =
      let blocks = finished_of r.classes r.links v.one in
      let own = subst (λ (one : Scope). IsReadyCode r.classes one v.one.flat) (same_Some ready_host.scope host (sym ready_host.is_scope ∙ found.is.is_host)) ready_host.code in
      let meant = written_meant s r.constructor also.pool laws.compares 64535 v.code_pool code_in_class is_at.pool v.one.form blocks is_at.is.coded.grows in
      let in_class : plain_items v.items ≡ indexed_items s r.constructor also.pool v.one.form blocks =
      is_at.is.coded.items ∙ sym (items_stay laws.compares s r.constructor 64535 v.code_pool also.pool code_in_class is_at.pool v.one.form blocks is_at.is.coded.grows) in
      let sorts = fit_sorts s host own (ready.carries at v.one.flat rewritten.expanded) also.major
      (λ of other there. entries_hold other (laws.fits other (at_index IsClassFile r.classes.folder of other folder there)))
      (λ place point of instr other is is_of there foreign. sound.version place point of instr other is is_of there foreign ∙ sym major_same)
      v.one.form v.one.routes in
      let own_file : slice_get r.classes.folder v.one.flat.host.class ≡ Some file =
      subst (λ (a : MethodAt). slice_get r.classes.folder a.class ≡ Some file) (sym (ap (λ f. f.host) rewritten.expanded.is ∙ rewritten.expanded.own)) pair.there in
      items_checked s r.constructor v.one.form blocks file also v.part.max_locals more_units own_file
      (λ few instr fits. laws.operands file also few instr is_file grown fits)
      zero v.items _ in_class sorts meant
      (subst (λ (many : ℕ). AllByRecursion (λ item. UnitFits many item.instr) v.items) (sym is_at.is.max_locals) sound.units)

  -- ---- its frames

  -- what they are read by
  abbrev setting : Setting
  setting = record {
    pool = also.pool;
    max_locals = v.part.max_locals;
    max_stack = v.part.max_stack;
    code = placed_items (spelled_in v.one.form) v.items;
  }

  decodes : decoded v.part.code ≡ Ok (placed_items (spelled_in v.one.form) v.items)
  decodes = ap decoded is_at.is.code ∙ is_at.is.framed.laid.decodes.covers

  abbrev entry : Frame
  entry = entry_of (home_of also) method v.part

  -- frames that are stated in an attribute of this name are those that it is read as
  read_as : (attr : InnerAttr) → utf8_at also.pool attr.name ≡ Some stack_map_table → frames_placed v ≢ []
      → stated_in (home_of also) (record method { attrs = with_part v.part method.attrs }) v.part (attr ∷ []) ≡ frames_placed v
      → stack_map_table_at setting entry attr.bytes ≡ Ok (frames_placed v)
  read_as attr named some is = by (stack_map_table_at setting entry attr.bytes) refl where
    there : stated_in (home_of also) (record method { attrs = with_part v.part method.attrs }) v.part (attr ∷ [])
        ≡ read_or_none (stack_map_table_at setting entry attr.bytes)
    there = rw (named, decodes) refl

    by : (found : Result (List PlacedFrame) Fault) → stack_map_table_at setting entry attr.bytes ≡ found → found ≡ Ok (frames_placed v)
    by (Ok frames) e = ap (λ (list : List PlacedFrame). Ok list) (sym (ap read_or_none e) ∙ sym there ∙ is)
    by (Err fault) e = absurd (some (sym is ∙ there ∙ ap read_or_none e))

  attrs_read : (b : Bool) (from : Frame) (attrs : List InnerAttr) → IsFramesAttribute v.pool from (if b then frames_placed v else []) attrs
      → stated_in (home_of also) (record method { attrs = with_part v.part method.attrs }) v.part attrs ≡ frames_placed v
      → (if b then grow 64535 v.code_pool (table_needs v.stated) else Some v.code_pool) ≡ Some v.pool
      → AreReadAttrs setting entry attrs
  attrs_read b from _ (no_attribute none) states grows = none_there
  attrs_read false from _ (one_attribute some named is_table read) states grows = absurd (some refl)
  attrs_read true from _ (one_attribute {names = names} {bytes = bytes} some named is_table read) states grows =
      let attr : InnerAttr = record { name = text_index v.pool stack_map_table; bytes = bytes } in
      let name = table_named laws.compares 64535 v.code_pool v.pool _ v.stated grows some in
      let there : utf8_at also.pool (text_index v.pool stack_map_table) ≡ Some stack_map_table =
      ap (λ (p : Constants). utf8_at p (text_index v.pool stack_map_table)) pool_in_class.is
      ∙ text_more v.pool pool_in_class.more (text_index v.pool stack_map_table) stack_map_table name in
      one_there attr (frames_placed v) there (read_as attr there some states)

  attrs : AreReadAttrs setting entry v.part.attrs
  attrs = attrs_read (nat_le 50 is_at.is.host.class.major) v.body.entry v.part.attrs is_at.is.attrs sound.states is_at.is.grows

  -- ---- the whole

  laid_part : IsLaidPart (home_of also) method v.part (spelled_in v.one.form) v.items v.laid
  laid_part = record {
    emitted = sound.items.emitted;
    is_laid = is_at.is.framed.laid;
    code = is_at.is.code;
    handlers = is_at.is.handlers;
    checked = checked;
    units = units;
    attrs = attrs;
  }

  small_parts : HasSmallParts v.part (spelled_in v.one.form) v.items setting entry also.major
  small_parts = record {
    few_constants = (class_adds laws r folder files w fitting class file pair.there also pair.is).is_pool.count;
    code = subst (λ (code : List ℕ). length code ≤ 65535) (sym is_at.is.code) is_at.is.framed.laid.decodes.few;
    end = at_most 65535 _ (λ more. is_at.is.framed.fits (inl more));
    table = at_most 65535 _ (λ more. is_at.is.framed.fits (inr more));
    handlers = is_at.is.handlers ∙ is_at.is.framed.laid.handlers;
    stack = subst (λ (n : ℕ). n ≤ 65535) (sym is_at.is.max_stack) sound.items.deep;
    locals = few_units;
    checked = checked;
    attrs = attrs;
    short = sound.items.short;
  }

  pub code_for : IsCodeFor (home_of also) method v.part
  code_for = record {
    fits = part_fits v.part (spelled_in v.one.form) v.items setting entry also.major small_parts;
    numbers = part_small v.part (spelled_in v.one.form) v.items setting entry also.major small_parts;
    passes =
        part_holds (home_of also) method v.part (spelled_in v.one.form) v.items v.laid laid_part
        (laws.consecutive v.part.code (placed_items (spelled_in v.one.form) v.items) decodes);
  }
