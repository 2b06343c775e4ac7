-- Nothing stands at index 0 of a class file's pool, however it grows.
use Rattle.std.proofs.Common.{◌≡◌, ◌==◌, ◌++◌, ℕ, Bool, true, false, List, ◌∷◌, length, Ok, Err, Option, Some, None, if◌then◌else◌, refl, sym, ap, subst, ◌∙◌}
use Rattle.class_model.specs.Checks.{Fault, fault}
use Rattle.class_model.specs.Cutting.{Rest, attr_at, body_at, counted_at, entries_at, field_at, method_at, pool_at, u2_at}
use Rattle.class_model.specs.Laws.Cuts.{bind_ok, same_done}
use Rattle.class_model.specs.Pool.{Constants, constant_at}
use Rattle.class_model.specs.declared.class_file.ClassFile.{ClassFile}
use Rattle.class_model.specs.declared.pool.Const.{Const}
use Rattle.class_model.specs.declared.fault.FileRule.TheVariants as rules
use Rattle.class_tree.specs.Headers.{IsClassFile}
use Rattle.making_code.specs.Laws.GrownPools.{Begins}

pub record StartsWithNone (pool : Constants) : Type 0 where
  pub others : Constants
  pub is : pool ≡ None ∷ others

pool_starts : (major : ℕ) (rest after : Rest) (pool : Constants) → pool_at major rest ≡ Ok (pool, after) → StartsWithNone pool
pool_starts major rest after pool is =
    let count = bind_ok (u2_at rest) _ (pool, after) is in
    let some = bind_ok (if count.0.0 == 0 then Err (fault rest.at rules.Tag) else Ok count.0.1) _ (pool, after) count.2 in
    let entries = bind_ok (entries_at count.0.0 major 1 count.0.0 some.0) _ (pool, after) some.2 in
    let same : (None ∷ entries.0.0, entries.0.1) ≡ (pool, after) = same_done _ _ entries.2 in
    record { others = entries.0.0; is = sym (ap (λ (p : Constants × Rest). p.0) same) }

body_keeps : (version : _) (pool : Constants) (rest : Rest) (cut : ClassFile) → body_at version pool rest ≡ Ok cut → cut.pool ≡ pool
body_keeps version pool rest cut is =
    let flags = bind_ok (u2_at rest) _ cut is in
    let this = bind_ok (u2_at flags.0.1) _ cut flags.2 in
    let super = bind_ok (u2_at this.0.1) _ cut this.2 in
    let interfaces = bind_ok (counted_at u2_at super.0.1) _ cut super.2 in
    let fields = bind_ok (counted_at field_at interfaces.0.1) _ cut interfaces.2 in
    let methods = bind_ok (counted_at method_at fields.0.1) _ cut fields.2 in
    let attrs = bind_ok (counted_at attr_at methods.0.1) _ cut methods.2 in
    ended (length attrs.0.1.bytes == 0) _ _ attrs.2 where
      ended : (b : Bool) (one : ClassFile) (f : Fault) → (if b then Ok one else Err f) ≡ Ok cut → cut.pool ≡ one.pool
      ended true one f e = ap (λ (c : ClassFile). c.pool) (sym (same_done one cut e))
      ended false one f e = absurd cc

-- the pool of a class file
pub file_starts : (file : ClassFile) → IsClassFile file → StartsWithNone file.pool
file_starts file is =
    let parts = bind_ok (pool_at is.version.major is.rest) _ is.cut is.is_cut in
    let starts = pool_starts is.version.major is.rest parts.0.1 parts.0.0 parts.1 in
    let same : file.pool ≡ parts.0.0 = ap (λ (c : ClassFile). c.pool) is.is ∙ body_keeps is.version parts.0.0 parts.0.1 is.cut parts.2 in
    record { others = starts.others; is = same ∙ starts.is }

pub first_is_none : (pool last : Constants) → StartsWithNone pool → Begins pool last → constant_at last 0 ≡ None
first_is_none pool last starts begins = rw (begins.is, starts.is) refl
