-- The items of rewritten methods are emitted code, in the short form and in the wide one.
use Rattle.std.proofs.Common.{◌≡◌, ◌≤◌, ◌∙◌, ℕ, List, [], Option, sym, subst, arith}
use Rattle.class_model.specs.Laws.Lists.{AllByRecursion-weaker}
use Rattle.class_model.specs.declared.class_file.ClassFile.{ClassFile}
use Rattle.class_model.specs.declared.class_file.MethodAt.{MethodAt}
use Rattle.class_model.specs.declared.frame.Frame.{Frame}
use Rattle.class_rewrite.proofs.LastItems.{nothing_closes}
use Rattle.class_rewrite.proofs.StackRoom.{framed_roomy, greatest_roomy}
use Rattle.class_rewrite.proofs.WrittenSettings.{code_ready, rewritten, setting, writing}
use Rattle.class_rewrite.proofs.WrittenFolders.{IsRewrittenHost}
use Rattle.class_rewrite.specs.Inner.ReadyFolders.{IsReadyFolder}
use Rattle.class_rewrite.specs.Laws.OneWriting.{items_are_one}
use Rattle.class_rewrite.specs.Rewriting.Folders.{IsFolderWritten, IsRewrittenAt}
use Rattle.class_rewrite.specs.Rewriting.Methods.{AreItems, Rewriting, Rewritten}
use Rattle.class_rewrite.specs.Rewriting.Verifying.{IsOfVerified}
use Rattle.code_drafts.specs.CodeOfPlans.{AreItemsEmitted, GoAllWide}
use Rattle.code_drafts.specs.FlatForms.{AreFormed, IsFormed}
use Rattle.code_layout.specs.Emitting.{IsEmitted}
use Rattle.code_layout.specs.PlainItems.{plain_items}
use Rattle.code_layout.specs.WideForm.{closing, widened}
use Rattle.code_layout.specs.declared.emitted.EmitItem.{EmitItem}
use Rattle.flow_code.specs.declared.point.FlatInstr.{FlatInstr}
use Rattle.flow_code.specs.declared.point.FlatInstr.TheVariants.{NullTest, Of}
use Rattle.flow_code.specs.declared.point.Point.{Point}
use Rattle.making_code.specs.IndexedItems.{IndexedItem}
use Rattle.member_link.specs.BodyTyping.{HasFrames}
use Rattle.member_link.specs.Scope.{Scope}
use Rattle.plan_flow.specs.PlanScope.{PlanScope}
use Rattle.plan_flow.specs.Written.Finish.{Finished}
use Rattle.plan_flow.specs.Written.FramedCode.{IsFramed, body_of_items, greatest_of}
use Rattle.plan_flow.specs.Written.WrittenCode.{Form, short, wide}
use Rattle.plan_flow.specs.Written.WrittenConstants.{indexed_items}
use Rattle.plan_flow.specs.Written.WrittenPrograms.{finished_of, plan_scope}
use Rattle.same_runs.specs.ReadyCode.{IsReadyItem}
use Rattle.stackmap_emit.specs.WideItems.{AreItemsWide}
use Rattle.written_types.specs.Setting.{Setting}
use Rattle.written_types.specs.Writing.{Writing, body_in, items_in, points_in}

-- ---- laws of the crates below

pub record EmittedLaws : Type 0 where
  pub emitted : AreItemsEmitted
  pub goes_wide : GoAllWide
  pub wide : AreItemsWide
  pub widened : (items : List EmitItem) → IsEmitted items → IsEmitted (widened items)
  pub types : (w : Writing) (state : ℕ → Option Frame) (frames : List Frame) → Setting w
      → IsFramed w.s.flat w.form w.blocks (items_in w) (body_in w state) frames
      → greatest_of (points_in w) frames ≤ w.max_stack
      → HasFrames (body_in w state) frames
  pub framed : (w : Writing) → Setting w
      → (state : ℕ → Option Frame) × (frames : List Frame) × IsFramed w.s.flat w.form w.blocks (items_in w) (body_in w state) frames

module _ (laws : EmittedLaws) (r : Rewriting) (files : List ClassFile) (w : IsFolderWritten r files) (verified : IsOfVerified r)
    (ready : IsReadyFolder r files w)
    (at : MethodAt) (v : Rewritten) (is_at : IsRewrittenAt r at v) where
  abbrev host : Scope
  host = is_at.is.host

  abbrev s : PlanScope
  s = plan_scope r.classes r.links v.one

  abbrev blocks : List Finished
  blocks = finished_of r.classes r.links v.one

  known : IsRewrittenHost r at v.one
  known = rewritten r files w verified ready at v is_at host is_at.is.is_host

  formed : AreFormed v.one.flat
  formed =
      AllByRecursion-weaker (λ (point : Point). IsReadyItem r.classes v.one.flat.locals point.instr) (λ (point : Point). IsFormed point.instr)
      (λ point. one point.instr) v.one.flat.points (code_ready r files w verified ready at v is_at host is_at.is.is_host).points where
        one : (instr : FlatInstr) → IsReadyItem r.classes v.one.flat.locals instr → IsFormed instr
        one (Of class instr) item = item.form
        one (NullTest local) item = tt

  -- items in the short form
  short_emitted : (items : List EmitItem) → AreItems r v.one short v.code_pool items → IsEmitted items
  short_emitted items are = laws.emitted s r.constructor v.code_pool known.plan v.one.routes items formed known.valid known.routed are

  -- frames type these items, so that the last one does not go on
  short_closes : (items : List EmitItem) → AreItems r v.one short v.code_pool items → closing items ≡ []
  short_closes items are =
      let setting_of : (room : ℕ) → Setting (writing r v host short room) = setting r files w verified ready at v is_at host is_at.is.is_host short in
      let found = laws.framed (writing r v host short 0) (setting_of 0) in
      let own : List IndexedItem = indexed_items s r.constructor v.code_pool short blocks in
      let room : ℕ = greatest_of (body_of_items host v.one.flat v.code_pool 0 own found.0).points found.1 in
      let same = greatest_roomy host v.one.flat v.code_pool own found.0 0 room found.1 in
      let typed : HasFrames (body_of_items host v.one.flat v.code_pool room own found.0) found.1 =
      laws.types (writing r v host short room) found.0 found.1 (setting_of room)
      (framed_roomy host v.one.flat v.code_pool own found.0 0 room short blocks found.1 found.2) (omega (arith, same)) in
      nothing_closes host v.one.flat v.code_pool room items found.0 found.1
      (subst (λ (these : List IndexedItem). HasFrames (body_of_items host v.one.flat v.code_pool room these found.0) found.1) (sym are) typed)

  -- and in the wide one
  wide_emitted : (items : List EmitItem) → AreItems r v.one wide v.code_pool items → IsEmitted items
  wide_emitted items are =
      let chosen = is_at.is.coded.chosen in
      let emitted = short_emitted chosen.items chosen.are_items in
      let these : plain_items (widened chosen.items) ≡ indexed_items s r.constructor v.code_pool wide blocks =
      laws.wide s r.constructor v.code_pool blocks chosen.items emitted chosen.are_items
      (laws.goes_wide s r.constructor v.code_pool known.plan v.one.routes formed known.valid known.routed)
      (short_closes chosen.items chosen.are_items) in
      subst IsEmitted (items_are_one (widened chosen.items) items (these ∙ sym are)) (laws.widened chosen.items emitted)

  -- The items of a rewritten method are emitted code.
  pub items_emitted : IsEmitted v.items
  items_emitted = by v.one.form is_at.is.coded.items where
    by : (form : Form) → AreItems r v.one form v.code_pool v.items → IsEmitted v.items
    by short are = short_emitted v.items are
    by wide are = wide_emitted v.items are
