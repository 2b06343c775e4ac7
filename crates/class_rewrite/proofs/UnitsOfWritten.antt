-- The items of a rewritten method load and store the local units of written code.
use Rattle.std.proofs.Common.{◌≡◌, ◌∙◌, ◌+◌, ◌≤◌, ℕ, List, [], Option, Some, None, IfSome, IsSome, slice_get, refl, sym, ap, subst, arith}
use Rattle.std.specs.List.{AllByRecursion}
use Rattle.std.proofs.lemmas.Bool.{false≢true}
use Rattle.std.proofs.lemmas.Option.{same_Some}
use Rattle.class_model.specs.Descriptors.{parameter_units, parameters_of}
use Rattle.class_model.specs.Laws.ClassFiles.{methods_place, parts_hold}
use Rattle.class_model.specs.Laws.Lists.{at_index}
use Rattle.class_model.specs.Methods.{home_of, this_units, units_at_call}
use Rattle.class_model.specs.PoolChecks.{text_or_empty, utf8_at}
use Rattle.class_model.specs.declared.class_file.ClassFile.{ClassFile}
use Rattle.class_model.specs.declared.class_file.MethodAt.{MethodAt}
use Rattle.class_model.specs.declared.frame.Frame.{Frame}
use Rattle.class_rewrite.proofs.AskedCodes.{methods_asked}
use Rattle.class_rewrite.proofs.FolderPairs.{IsPair}
use Rattle.class_rewrite.proofs.TypedRewriting.{TypingLaws, found, typed_items}
use Rattle.class_rewrite.proofs.UnitsInside.{entry_units, units_inside, whole_units}
use Rattle.class_rewrite.proofs.WrittenFolders.{IsRewrittenHost, rewritten_host}
use Rattle.class_rewrite.proofs.WrittenScopes.{IsHosted, host_scope}
use Rattle.class_rewrite.proofs.WrittenSettings.{setting, writing}
use Rattle.class_rewrite.specs.Inner.FittingFolders.{UnitFits}
use Rattle.class_rewrite.specs.Inner.ReadyFolders.{IsReadyFolder}
use Rattle.class_rewrite.specs.Rewriting.Folders.{IsFolderWritten}
use Rattle.class_rewrite.specs.Rewriting.Methods.{Rewriting, Rewritten}
use Rattle.class_rewrite.specs.Rewriting.Verifying.{IsOfVerified, IsWrittenIn}
use Rattle.class_tree.specs.Headers.{IsClassFile}
use Rattle.code_layout.specs.Emitting.{IsEmitted}
use Rattle.code_layout.specs.PlainItems.{plain_items}
use Rattle.expanded_code.specs.Laws.StatedUnits.{HasUnitsOf}
use Rattle.flow_code.specs.WrittenUnits.{written_units}
use Rattle.making_code.specs.IndexedItems.{IndexedItem}
use Rattle.member_link.specs.Bodies.{Body}
use Rattle.member_link.specs.Scope.{Scope}
use Rattle.plan_flow.specs.Written.FramedCode.{IsFramed, body_of_items}
use Rattle.plan_flow.specs.Written.WrittenPrograms.{finished_of}
use Rattle.written_files.specs.WrittenClasses.{IsFitting}
use Rattle.written_types.specs.Setting.{Setting}
use Rattle.written_types.specs.StatedFrames.{IsWholeFrame}
use Rattle.written_types.specs.Writing.{Writing, body_in, items_in}

pub record UnitLaws : Type 0 where
  pub typing : TypingLaws
  pub fits : (file : ClassFile) → IsClassFile file → IsFitting file
  pub whole : (w : Writing) (state : ℕ → Option Frame) (frames : List Frame) → Setting w
      → IsFramed w.s.flat w.form w.blocks (items_in w) (body_in w state) frames
      → (number : ℕ) (frame : Frame) → state number ≡ Some frame → IsWholeFrame w frame

module _ (laws : UnitLaws) (r : Rewriting) (files : List ClassFile) (w : IsFolderWritten r files) (verified : IsOfVerified r)
    (ready : IsReadyFolder r files w)
    (at : MethodAt) (v : Rewritten) (host now : Scope) (here : IsWrittenIn r files w at v host now) (emitted : IsEmitted v.items) where
  abbrev pair : IsPair r files w at.class host.class now.class
  pair = record { there = here.of_folder; now = here.class; is = here.written }

  abbrev hosted : IsHosted r files w at.class host.class now.class pair at.method host.method v
  hosted = found r files w verified ready at.class host.class now.class pair at.method host.method here.of_method v here.is

  abbrev then : Scope
  then = host_scope r files w at.class host.class now.class pair host.method hosted.part

  abbrev state : ℕ → Option Frame
  state = here.is.is.framed.state

  -- ---- the frames that are stated

  abbrev FramedBy : List IndexedItem → Body → Type 0
  FramedBy items body = IsFramed v.one.flat v.one.form (finished_of r.classes r.links v.one) items body v.frames

  abbrev body : List IndexedItem → Body
  body items = body_of_items then v.one.flat v.code_pool 0 items state

  body_is : v.body ≡ body (plain_items v.items)
  body_is =
      here.is.is.framed.body
      ∙ ap (λ (one : Scope). body_of_items one v.one.flat v.code_pool 0 (plain_items v.items) state)
      (same_Some here.is.is.host then (sym here.is.is.is_host ∙ hosted.is.is_host))

  abbrev writing_here : Writing
  writing_here = writing r v then v.one.form 0

  framed : FramedBy (items_in writing_here) (body (items_in writing_here))
  framed =
      subst (λ (items : List IndexedItem). FramedBy items (body items)) here.is.is.coded.items
      (subst (FramedBy (plain_items v.items)) body_is here.is.is.framed.framed)

  stated_units : (number : ℕ) (frame : Frame) → state number ≡ Some frame → HasUnitsOf (written_units v.one.flat) frame.locals
  stated_units number frame is =
      whole_units writing_here frame
      (laws.whole writing_here state v.frames (setting r files w verified ready at v here.is then hosted.is.is_host v.one.form 0) framed number frame is)

  -- ---- the frame that the code begins with

  rewritten : IsRewrittenHost r at v.one
  rewritten = rewritten_host r files w at v.one (w.rewritten.all at v here.is)

  host_units : hosted.part.max_locals ≤ v.one.flat.locals
  host_units =
      let own : rewritten.expanded.host.scope ≡ then = same_Some rewritten.expanded.host.scope then (sym rewritten.expanded.is_host.is_scope ∙ hosted.is.is_host) in
      let same : rewritten.expanded.host.scope.part.max_locals ≡ hosted.part.max_locals = ap (λ (one : Scope). one.part.max_locals) own in
      let is : v.one.flat.locals ≡ _ = ap (λ f. f.locals) rewritten.expanded.is in
      omega (arith, same, is)

  arguments_fit : parameter_units (parameters_of (text_or_empty (utf8_at host.class.pool host.method.desc))) + this_units host.method.flags
      ≤ written_units v.one.flat
  arguments_fit =
      let fits_file : IsFitting host.class = laws.fits host.class (at_index IsClassFile r.classes.folder at.class host.class verified.tree.folder here.of_folder) in
      let parts = parts_hold host.class fits_file.value.checks in
      let asked = methods_asked (home_of host.class) [] (methods_place host.class + 2) host.class.methods at.method host.method hosted.part parts.methods
      fits_file.value.methods here.of_method hosted.has_code in
      by (utf8_at host.class.pool host.method.desc) refl asked.there asked.units where
        by : (o : Option (List ℕ)) → utf8_at host.class.pool host.method.desc ≡ o → IsSome (utf8_at host.class.pool host.method.desc)
            → IfSome (utf8_at host.class.pool host.method.desc) (λ text. units_at_call host.method.flags text ≤ hosted.part.max_locals)
            → parameter_units (parameters_of (text_or_empty (utf8_at host.class.pool host.method.desc))) + this_units host.method.flags
            ≤ written_units v.one.flat
        by None e there units = absurd (false≢true (subst IsSome e there))
        by (Some text) e there units =
            let own : units_at_call host.method.flags text ≤ hosted.part.max_locals =
            subst (λ (o : Option (List ℕ)). IfSome o (λ text. units_at_call host.method.flags text ≤ hosted.part.max_locals)) e units in
            let less = host_units in
            let enough : units_at_call host.method.flags text ≤ written_units v.one.flat = omega (arith, own, less) in
            subst (λ (o : Option (List ℕ)). units_at_call host.method.flags (text_or_empty o) ≤ written_units v.one.flat) (sym e) enough

  -- ---- the items

  pub units_of_written : AllByRecursion (λ item. UnitFits (written_units v.one.flat) item.instr) v.items
  units_of_written =
      units_inside then v.one.flat v.code_pool v.part.max_stack v.items state v.frames
      (typed_items r files w verified ready at.class host.class now.class pair at.method host.method here.of_method v here.is laws.typing emitted)
      (written_units v.one.flat) stated_units
      (entry_units host.method.flags (text_or_empty (utf8_at host.class.pool host.method.name)) (home_of host.class).name
      (parameters_of (text_or_empty (utf8_at host.class.pool host.method.desc))) (written_units v.one.flat) arguments_fit)
