-- The pools that the methods of a class leave one after the other are one list, and so are their reasons and what is written of them.
use Rattle.std.proofs.Common.{◌≡◌, ◌≢◌, ℕ, zero, suc, List, count_by, length, refl, ap, sym, subst, ◌∙◌}
use Rattle.std.proofs.lemmas.Option.{same_Some}
use Rattle.class_model.specs.Pool.{Constants}
use Rattle.class_model.specs.declared.class_file.ClassFile.{ClassFile}
use Rattle.class_model.specs.declared.class_file.MethodAt.{MethodAt}
use Rattle.class_rewrite.specs.Laws.OneWriting.{HaveOne, method_is_one, pool_is_one, reason_is_one, same_coded}
use Rattle.class_rewrite.specs.Rewriting.Folders.{HasReasonAt, IsPoolBefore, IsRewrittenAt, at_first, behind_kept, behind_rewritten}
use Rattle.class_rewrite.specs.Rewriting.Lines.{HasNumbers}
use Rattle.class_rewrite.specs.Rewriting.Methods.{HasReasonIn, IsRewritten, Rewriting, Rewritten}
use Rattle.class_rewrite.specs.declared.report.Line.{Line}
use Rattle.code_layout.specs.Layout.{placed_bytes, placed_items}
use Rattle.code_layout.specs.declared.emitted.EmitItem.{EmitItem}
use Rattle.flow_code.specs.declared.reason.Reason.{Reason}
use Rattle.flow_code.specs.declared.reason.Reason.TheVariants as reasons
use Rattle.making_code.specs.CountedItems.{is_enter, site_news}
use Rattle.plan_flow.specs.Written.WrittenPrograms.{WrittenMethod, items_of}
use Rattle.stackmap_emit.specs.PlacedFrames.{spelled_in}

module _ (r : Rewriting) (known : HaveOne r) where
  abbrev method_of : ℕ → ℕ → MethodAt
  method_of class number = record { class = class; method = number }

  reasons_are : (at : MethodAt) (pool also : Constants) (one other : Reason) → pool ≡ also → HasReasonIn r at pool one → HasReasonIn r at also other
      → one ≡ other
  reasons_are at pool also one other same p q =
      reason_is_one r known at also one other (subst (λ (x : Constants). HasReasonIn r at x one) same p) q

  pub pool_before_is_one : (class : ℕ) (file : ClassFile) (number : ℕ) (pool also : Constants) → IsPoolBefore r class file number pool
      → IsPoolBefore r class file number also
      → pool ≡ also
  pool_before_is_one class file zero pool also at_first at_first = refl
  pool_before_is_one class file (suc number) pool also (behind_kept {reason = reason} before has kept) (behind_kept before_also has_also kept_also) =
      pool_before_is_one class file number pool also before before_also
  pool_before_is_one class file (suc number) pool _ (behind_kept {reason = reason} before has kept) (behind_rewritten {pool = also} {w = w} before_also is) =
      let same = pool_before_is_one class file number pool also before before_also in
      absurd (kept (reasons_are (method_of class number) pool also reason reasons.Rewritten same has (w, is)))
  pool_before_is_one class file (suc number) _ also (behind_rewritten {pool = pool} {w = w} before is) (behind_kept {reason = reason} before_also has kept) =
      let same = pool_before_is_one class file number pool also before before_also in
      absurd (kept (sym (reasons_are (method_of class number) pool also reasons.Rewritten reason same (w, is) has)))
  pool_before_is_one class file (suc number) _ _ (behind_rewritten {pool = pool} {w = w} before is)
      (behind_rewritten {pool = also} {w = v} before_also is_also) =
      let same = pool_before_is_one class file number pool also before before_also in
      pool_is_one r known (method_of class number) also w v
      (subst (λ (x : Constants). IsRewritten r (method_of class number) x w) same is) is_also

  -- A method has one reason.
  pub reason_at_is_one : (at : MethodAt) (one other : Reason) → HasReasonAt r at one → HasReasonAt r at other → one ≡ other
  reason_at_is_one at one other p q =
      let files : p.file ≡ q.file = same_Some p.file q.file (sym p.is_file ∙ q.is_file) in
      let before = subst (λ (x : ClassFile). IsPoolBefore r at.class x at.method p.pool) files p.before in
      reasons_are at p.pool q.pool one other (pool_before_is_one at.class q.file at.method p.pool q.pool before q.before) p.has q.has

  -- And it is written in one way.
  pub written_at_is_one : (at : MethodAt) (w v : Rewritten) → IsRewrittenAt r at w → IsRewrittenAt r at v → w.one ≡ v.one
  written_at_is_one at w v p q =
      let files : p.file ≡ q.file = same_Some p.file q.file (sym p.is_file ∙ q.is_file) in
      let before = subst (λ (x : ClassFile). IsPoolBefore r at.class x at.method p.pool) files p.before in
      let same = pool_before_is_one at.class q.file at.method p.pool q.pool before q.before in
      method_is_one r known at q.pool w v (subst (λ (x : Constants). IsRewritten r at x w) same p.is) q.is

  -- A method that is kept is not rewritten.
  pub kept_or_rewritten : (at : MethodAt) (reason : Reason) (w : Rewritten) → HasReasonAt r at reason → reason ≢ reasons.Rewritten
      → IsRewrittenAt r at w
      → ⊥
  kept_or_rewritten at reason w has kept is =
      kept
      (reason_at_is_one at reason reasons.Rewritten has
      (record { file = is.file; is_file = is.is_file; pool = is.pool; before = is.before; has = (w, is.is) }))

  -- The numbers of its line are one.
  pub numbers_are_one : (at : MethodAt) (line : Line) (w v : Rewritten) → IsRewrittenAt r at w → IsRewrittenAt r at v → HasNumbers r w line
      → HasNumbers r v line
  numbers_are_one at line w v p q has =
      let files : p.file ≡ q.file = same_Some p.file q.file (sym p.is_file ∙ q.is_file) in
      let before = subst (λ (x : ClassFile). IsPoolBefore r at.class x at.method p.pool) files p.before in
      let same = pool_before_is_one at.class q.file at.method p.pool q.pool before q.before in
      let there : IsRewritten r at q.pool w = subst (λ (x : Constants). IsRewritten r at x w) same p.is in
      let coded = same_coded r known at q.pool w v there.coded q.is.coded in
      record {
        sites = has.sites ∙ ap (λ (x : WrittenMethod). length x.flat.sites) coded.one;
        news = has.news ∙ ap (λ (x : WrittenMethod). site_news (items_of r.classes r.links x)) coded.one;
        enters = has.enters ∙ ap (λ (x : List EmitItem). count_by (λ (item : EmitItem). is_enter item.instr) x) coded.items;
        bytes = has.bytes
            ∙ ap length (p.is.code ∙ p.is.framed.laid.bytes
            ∙ ap (λ (x : WrittenMethod). bytes_of x w.items) coded.one
            ∙ ap (λ (x : List EmitItem). bytes_of v.one x) coded.items
            ∙ sym (q.is.code ∙ q.is.framed.laid.bytes));
      } where
        bytes_of : WrittenMethod → List EmitItem → List ℕ
        bytes_of one items = placed_bytes (spelled_in one.form) (placed_items (spelled_in one.form) items)
