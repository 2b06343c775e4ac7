-- Code that was written is that of the form in which it is laid out, and has frames.
use Rattle.std.proofs.Common.{◌≡◌, ◌≢◌, ◌++◌, ◌≤◌, ℕ, Bool, true, false, List, [], ◌∷◌, flat_map, length, slice_get, Option, Some, None, refl, sym, ap, subst, ◌∙◌, inl, inr, arith}
use Rattle.std.specs.List.{AllByRecursion}
use Rattle.std.proofs.lemmas.Option.{same_Some}
use Rattle.class_model.specs.Laws.Lists.{at_index}
use Rattle.class_model.specs.Pool.{Constants, entries_of}
use Rattle.class_model.specs.declared.class_file.ClassFile.{ClassFile}
use Rattle.class_model.specs.declared.frame.Frame.{Frame}
use Rattle.class_model.specs.declared.instr.Instr.{Instr}
use Rattle.class_rewrite.proofs.LastItems.{nothing_closes}
use Rattle.class_rewrite.proofs.LongItems.{long_is_long, within_is_short}
use Rattle.class_rewrite.proofs.StackRoom.{framed_roomy, greatest_roomy}
use Rattle.class_rewrite.specs.Inner.LaidMethods.{IsLaidMethod, framed_of}
use Rattle.class_rewrite.specs.Inner.Meanings.{Framed, IsCode, IsEditOf, IsFramedFor, IsMeant, IsReady, Meaning, scope}
use Rattle.class_tree.specs.Headers.{headers_of}
use Rattle.code_drafts.specs.CodeOfPlans.{AreItemsEmitted, GoAllWide}
use Rattle.code_drafts.specs.Emits.{Writing}
use Rattle.code_emit.specs.EmittedCode.{IsEmittedCode, IsMeantBy}
use Rattle.code_emit.specs.declared.emitting.WrittenCode.{WrittenCode}
use Rattle.code_layout.specs.ChosenForm.{chosen_items, is_short}
use Rattle.code_layout.specs.Emitting.{IsEmitted}
use Rattle.code_layout.specs.PlainItems.{plain_items}
use Rattle.code_layout.specs.WideForm.{closing, widened}
use Rattle.code_layout.specs.declared.emitted.EmitItem.{EmitItem}
use Rattle.expanded_runs.specs.CarriedConstants.{IsCarriable}
use Rattle.flow_code.specs.FlatCode.{point_at}
use Rattle.flow_code.specs.declared.point.FlatInstr.TheVariants.{Of}
use Rattle.flow_code.specs.declared.point.Point.{Point}
use Rattle.making_code.specs.Constants.{grow}
use Rattle.making_code.specs.IndexedItems.{IndexedItem}
use Rattle.making_code.specs.Items.{WItem}
use Rattle.making_code.specs.Laws.GrownPools.{Begins, begins_itself}
use Rattle.member_link.specs.BodyTyping.{HasFrames}
use Rattle.member_link.specs.Laws.Scopes.{scope_is_at}
use Rattle.plan_flow.specs.PlanScope.{PlanScope, pool_of}
use Rattle.plan_flow.specs.Written.Finish.{Finished}
use Rattle.plan_flow.specs.Written.FramedCode.{IsFramed, body_of_items, greatest_of}
use Rattle.plan_flow.specs.Written.WrittenCode.{Form, short, wide, written_items}
use Rattle.plan_flow.specs.Written.WrittenConstants.{code_needs, code_pool, indexed_items}
use Rattle.pool_edit.specs.Edits.{Edit, grown}
use Rattle.same_runs.specs.ReadyCode.{IsReadyInstr, IsReadyItem}
use Rattle.stackmap_emit.specs.FramedItems.{AreEmitted, finished_by, form_of, items_body}
use Rattle.stackmap_emit.specs.WideItems.{AreItemsWide}
use Rattle.written_frames.specs.WideItems.{GoesWide, KeepsWidth}
use Rattle.written_types.specs.Setting.{Setting}
use Rattle.written_types.specs.Writing.{body_in, items_in, points_in}
use Rattle.written_types.specs.Writing as typed

-- laws of the crates below
pub record LaidLaws : Type 0 where
  pub emitted : AreItemsEmitted
  pub goes_wide : GoAllWide
  pub wide : AreItemsWide
  pub types : (w : typed.Writing) (state : ℕ → Option Frame) (frames : List Frame) → Setting w
      → IsFramed w.s.flat w.form w.blocks (items_in w) (body_in w state) frames
      → greatest_of (points_in w) frames ≤ w.max_stack
      → HasFrames (body_in w state) frames
  pub framed : (w : typed.Writing) → Setting w
      → (state : ℕ → Option Frame) × (frames : List Frame) × IsFramed w.s.flat w.form w.blocks (items_in w) (body_in w state) frames

all_widths : (s : PlanScope) (constructor : List ℕ → List ℕ) (pool : Constants) (blocks : List Finished) (ones : List WItem)
    → AllByRecursion (GoesWide s constructor pool blocks) ones
    → AllByRecursion KeepsWidth ones
all_widths s constructor pool blocks [] all = tt
all_widths s constructor pool blocks (one ∷ ones) all = (all.0.width, all_widths s constructor pool blocks ones all.1)

module _ (laws : LaidLaws) (of : Writing) (m : Meaning) (before middle : Edit) (code : WrittenCode) (meant : IsMeant of m)
    (edit : IsEditOf of.classes m.at before) (is_code : IsCode of before middle code) (ready : IsReady of m) where
  abbrev s : PlanScope
  s = scope of m

  abbrev blocks : List Finished
  blocks = finished_by s ready.routes

  abbrev pool : Constants
  pool = grown middle

  pub meant_by : IsMeantBy of.classes of.flat of.plan m.links m.constructor ready.routes
  meant_by = record { is_links = meant.links; describes = ready.describes; routed = ready.routed }

  pub written : IsEmittedCode s m.constructor ready.routes before middle code.emitted
  written = is_code.emitted.each m.links m.constructor ready.routes meant_by

  pub goes : AllByRecursion (GoesWide s m.constructor pool blocks) (written_items short blocks)
  goes = laws.goes_wide s m.constructor pool of.plan ready.routes ready.formed meant.least.valid ready.routed

  pub grows : code_pool s m.constructor (written_items short blocks) (grown before) ≡ Some pool
  grows =
      subst (λ (limit : ℕ). grow limit (grown before) (code_needs s m.constructor (written_items short blocks)) ≡ Some pool) edit.limit
      written.grows.grown_by

  pub pool_before : Begins ready.host.class.pool (grown before)
  pool_before = record {
    more = flat_map entries_of before.added;
    is = ap (λ (base : Constants). base ++ flat_map entries_of before.added) (edit.base ready.host.class (scope_is_at of.classes m.at ready.host ready.is_host).of_folder);
  }

  carried : (place : ℕ) (point : Point) (class : ℕ) (instr : Instr) → point_at of.flat place ≡ Some point → point.instr ≡ Of class instr
      → class ≢ of.flat.host.class
      → IsCarriable (pool_of s class) instr
  carried place point class instr there is other =
      let item : IsReadyInstr of.classes of.flat.locals class instr =
      subst (IsReadyItem of.classes of.flat.locals) is
      (at_index (λ (one : Point). IsReadyItem of.classes of.flat.locals one.instr) of.flat.points place point ready.code.points there) in
      rw (item.there) (ready.carries place point class instr item.file there is item.there other)

  abbrev in_form : Form → ℕ → typed.Writing
  in_form form room = record { s = s; host = ready.host; constructor = m.constructor; pool = pool; form = form; blocks = blocks; max_stack = room }

  setting : (form : Form) (room : ℕ) → Setting (in_form form room)
  setting form room = record {
    plan = of.plan;
    routes = ready.routes;
    tree = meant.folder.tree;
    links = meant.links;
    ready = ready.code;
    sites = ready.sites;
    for_plans = ready.for_plans;
    carried = carried;
    valid = meant.least.valid;
    routed = ready.routed;
    blocks = refl;
    constructors = meant.constructors;
    before = grown before;
    begins_before = pool_before;
    grown = pool;
    grows = grows;
    begins = begins_itself pool;
  }

  -- frames type the items of the short form, so that the last one does not go on
  closes : closing code.emitted ≡ []
  closes =
      let found = laws.framed (in_form short 0) (setting short 0) in
      let own : List IndexedItem = indexed_items s m.constructor pool short blocks in
      let room : ℕ = greatest_of (body_of_items ready.host of.flat pool 0 own found.0).points found.1 in
      let same = greatest_roomy ready.host of.flat pool own found.0 0 room found.1 in
      let has : HasFrames (body_of_items ready.host of.flat pool room own found.0) found.1 =
      laws.types (in_form short room) found.0 found.1 (setting short room)
      (framed_roomy ready.host of.flat pool own found.0 0 room short blocks found.1 found.2) (omega (arith, same)) in
      nothing_closes ready.host of.flat pool room code.emitted found.0 found.1
      (subst (λ (these : List IndexedItem). HasFrames (body_of_items ready.host of.flat pool room these found.0) found.1) (sym written.items) has)

  is_emitted : IsEmitted code.emitted
  is_emitted = laws.emitted s m.constructor pool of.plan ready.routes code.emitted ready.formed meant.least.valid ready.routed written.items

  chosen : plain_items (chosen_items code.emitted) ≡ indexed_items s m.constructor pool (form_of code.emitted) blocks
  chosen = by (is_short code.emitted) refl where
    by : (b : Bool) → is_short code.emitted ≡ b → plain_items (chosen_items code.emitted) ≡ indexed_items s m.constructor pool (form_of code.emitted) blocks
    by true is = rw (is) written.items
    by false is = rw (is) (laws.wide s m.constructor pool blocks code.emitted is_emitted written.items goes closes)

  emitted : AreEmitted s m.constructor ready.routes pool code.emitted code.starts
  emitted = record {
    short_items = written.items;
    items = chosen;
    widths = all_widths s m.constructor pool blocks (written_items short blocks) goes;
    are_starts = is_code.starts.each m.links m.constructor ready.routes meant_by;
  }

  abbrev form : Form
  form = form_of code.emitted

  found : (state : ℕ → Option Frame) × (frames : List Frame)
      × IsFramed of.flat form blocks (indexed_items s m.constructor pool form blocks)
      (body_of_items ready.host of.flat pool 0 (indexed_items s m.constructor pool form blocks) state) frames
  found = laws.framed (in_form form 0) (setting form 0)

  abbrev f : Framed
  f = framed_of of m ready before middle code found.0 found.1

  is_framed : IsFramedFor of m f
  is_framed = record {
    meant = meant;
    is_host = ready.is_host;
    routed = ready.routed;
    begins = pool_before;
    grows = grows;
    items = chosen;
    framed =
        subst (λ (these : List IndexedItem). IsFramed of.flat form blocks these (body_of_items ready.host of.flat pool 0 these found.0) found.1) (sym chosen) found.2;
  }

  pub laid_method : IsLaidMethod of m before middle code ready
  laid_method = record {
    grows = grows;
    limit = written.grows.limit ∙ edit.limit;
    emitted = emitted;
    within = within_is_short s m.constructor pool blocks code.emitted goes written.items chosen;
    long = long_is_long s m.constructor pool blocks code.emitted goes written.items chosen;
    state = found.0;
    frames = found.1;
    framed = is_framed;
  }
