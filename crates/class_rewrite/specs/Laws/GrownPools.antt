-- Pools grow at their end: each pool that methods of a class leave one after the other begins with those before it.
use Rattle.std.proofs.Common.{◌≡◌, ◌+◌, ◌++◌, ℕ, zero, suc, nat_le, Bool, true, false, List, [], ◌∷◌, length, Option, Some, None, option_and_then, refl, sym, ap, subst, ◌∙◌, arith, if◌then◌else◌}
use Rattle.std.proofs.lemmas.Option.{none-some, same_Some}
use Rattle.class_model.specs.Pool.{Constants}
use Rattle.class_model.specs.declared.class_file.ClassFile.{ClassFile}
use Rattle.class_model.specs.declared.class_file.MethodAt.{MethodAt}
use Rattle.class_rewrite.specs.Laws.OneFolder.{pool_before_is_one}
use Rattle.class_rewrite.specs.Laws.OneWriting.{HaveOne, pool_is_one, reason_is_one}
use Rattle.class_rewrite.specs.Rewriting.Folders.{IsPoolBefore, at_first, behind_kept, behind_rewritten}
use Rattle.class_rewrite.specs.Rewriting.Methods.{HasReasonIn, IsRewritten, Rewriting, Rewritten}
use Rattle.flow_code.specs.declared.reason.Reason.TheVariants as reasons
use Rattle.making_code.specs.Constants.{grow}
use Rattle.making_code.specs.Laws.GrownPools.{Begins, begins_itself, begins_through, grow_begins}
use Rattle.stackmap_emit.specs.FrameConstants.{table_needs}

-- ---- the pools that methods leave

module _ (r : Rewriting) where
  pub rewritten_begins : (at : MethodAt) (pool : Constants) (w : Rewritten) → IsRewritten r at pool w → Begins pool w.code_pool × Begins w.code_pool w.pool
  rewritten_begins at pool w is = (grow_begins 64535 _ pool w.code_pool is.coded.grows, by (nat_le 50 is.host.class.major) is.grows) where
    by : (b : Bool) → (if b then grow 64535 w.code_pool (table_needs w.stated) else Some w.code_pool) ≡ Some w.pool → Begins w.code_pool w.pool
    by true e = grow_begins 64535 (table_needs w.stated) w.code_pool w.pool e
    by false e = subst (Begins w.code_pool) (same_Some w.code_pool w.pool e) (begins_itself w.code_pool)

  pub pool_begins : (class : ℕ) (file : ClassFile) (number : ℕ) (pool : Constants) → IsPoolBefore r class file number pool → Begins file.pool pool
  pool_begins class file zero pool at_first = begins_itself file.pool
  pool_begins class file (suc number) pool (behind_kept before has kept) = pool_begins class file number pool before
  pool_begins class file (suc number) _ (behind_rewritten {pool = pool} {w = w} before is) =
      let grown = rewritten_begins (record { class = class; method = number }) pool w is in
      begins_through file.pool pool w.pool (pool_begins class file number pool before)
      (begins_through pool w.code_pool w.pool grown.0 grown.1)

  module _ (known : HaveOne r) (class : ℕ) (file : ClassFile) (number : ℕ) (pool : Constants) (w : Rewritten)
      (before : IsPoolBefore r class file number pool)
      (is : IsRewritten r (record { class = class; method = number }) pool w) where
    -- directly behind a method that is rewritten the pool is the one that it leaves
    next_begins : (last : Constants) → IsPoolBefore r class file (suc number) last → Begins w.pool last
    next_begins last (behind_kept {reason = reason} before_also has kept) =
        let same : last ≡ pool = pool_before_is_one r known class file number last pool before_also before in
        absurd
        (kept
        (reason_is_one r known (record { class = class; method = number }) pool reason reasons.Rewritten
        (subst (λ (x : Constants). HasReasonIn r (record { class = class; method = number }) x reason) same has) (w, is)))
    next_begins _ (behind_rewritten {pool = also} {w = v} before_also is_also) =
        let same : also ≡ pool = pool_before_is_one r known class file number also pool before_also before in
        let there = subst (λ (x : Constants). IsRewritten r (record { class = class; method = number }) x v) same is_also in
        subst (Begins w.pool) (pool_is_one r known (record { class = class; method = number }) pool w v is there) (begins_itself w.pool)

    -- and so many methods on it begins with that
    pub written_begins : (gap later : ℕ) (last : Constants) → later ≡ number + gap → IsPoolBefore r class file (suc later) last → Begins w.pool last
    written_begins zero later last e behind =
        next_begins last (subst (λ (n : ℕ). IsPoolBefore r class file (suc n) last) (omega (arith, e)) behind)
    written_begins (suc gap) zero last e behind = absurd (omega (arith, e))
    written_begins (suc gap) (suc later) last e (behind_kept before_also has kept) =
        written_begins gap later last (omega (arith, e)) before_also
    written_begins (suc gap) (suc later) _ e (behind_rewritten {pool = also} {w = v} before_also is_also) =
        let grown = rewritten_begins (record { class = class; method = suc later }) also v is_also in
        begins_through w.pool also v.pool (written_begins gap later also (omega (arith, e)) before_also)
        (begins_through also v.code_pool v.pool grown.0 grown.1)
