-- What the methods of a class that are rewritten and its field constructor add to its pool has no method handle and no method type.
use Rattle.std.proofs.Common.{◌≡◌, ℕ, zero, suc, nat_le, Bool, true, false, List, length, Some, if◌then◌else◌, sym, ap, subst}
use Rattle.std.proofs.lemmas.Option.{same_Some}
use Rattle.class_model.specs.Header.{header_of}
use Rattle.class_model.specs.Pool.{Constants}
use Rattle.class_model.specs.declared.class_file.ClassFile.{ClassFile}
use Rattle.class_model.specs.declared.class_file.Method.{Method}
use Rattle.class_model.specs.declared.class_file.MethodAt.{MethodAt}
use Rattle.class_rewrite.proofs.NoHandles.{AddsNoHandles, adds_nothing, adds_through, code_none, constructor_none, grow_none, table_none}
use Rattle.class_rewrite.specs.Rewriting.Folders.{AddsMethods, IsClassWritten, IsPoolBefore, adds_none, adds_one, at_first, behind_kept, behind_rewritten}
use Rattle.class_rewrite.specs.Rewriting.Methods.{IsRewritten, Rewriting, Rewritten, short_items}
use Rattle.class_tree.specs.Headers.{headers_of}
use Rattle.making_code.specs.Constants.{grow}
use Rattle.making_code.specs.FieldConstructor.{constructor_method_needs}
use Rattle.plan_flow.specs.Written.WrittenConstants.{code_needs}
use Rattle.plan_flow.specs.Written.WrittenPrograms.{plan_scope}
use Rattle.stackmap_emit.specs.FrameConstants.{table_needs}
use Rattle.member_link.specs.Machine.Replaced.{Replacement}
use Rattle.plan_flow.specs.Written.WrittenPrograms.{WrittenMethods}

module _ (r : Rewriting) (written : WrittenMethods) (s : Replacement) where
  method_adds : (at : MethodAt) (pool : Constants) (v : Rewritten) → IsRewritten r at pool v → AddsNoHandles pool v.pool
  method_adds at pool v is =
      adds_through pool v.code_pool v.pool
      (grow_none 64535 (code_needs (plan_scope r.classes r.links v.one) r.constructor (short_items r v.one)) pool v.code_pool
      (code_none (plan_scope r.classes r.links v.one) r.constructor (short_items r v.one)) is.coded.grows)
      (by (nat_le 50 is.host.class.major) is.grows) where
        by : (b : Bool) → (if b then grow 64535 v.code_pool (table_needs v.stated) else Some v.code_pool) ≡ Some v.pool → AddsNoHandles v.code_pool v.pool
        by true e = grow_none 64535 (table_needs v.stated) v.code_pool v.pool (table_none v.stated) e
        by false e = subst (AddsNoHandles v.code_pool) (same_Some v.code_pool v.pool e) (adds_nothing v.code_pool)

  methods_add : (class : ℕ) (file : ClassFile) (number : ℕ) (pool : Constants) → IsPoolBefore r class file number pool → AddsNoHandles file.pool pool
  methods_add class file zero pool at_first = adds_nothing file.pool
  methods_add class file (suc number) pool (behind_kept before has kept) = methods_add class file number pool before
  methods_add class file (suc number) _ (behind_rewritten {pool = pool} {w = v} before is) =
      adds_through file.pool pool v.pool (methods_add class file number pool before) (method_adds (record { class = class; method = number }) pool v is)

  pub class_adds : (class : ℕ) (file also : ClassFile) → IsClassWritten r written s class file also → AddsNoHandles file.pool also.pool
  class_adds class file also is =
      subst (AddsNoHandles file.pool) (sym (ap (λ (c : ClassFile). c.pool) is.is))
      (adds_through file.pool is.code_pool is.pool (methods_add class file (length file.methods) is.code_pool is.before_constructors)
      (by is.added is.adds)) where
        by : {pool last : Constants} (added : List Method) → AddsMethods r written file pool last added → AddsNoHandles pool last
        by {pool} _ (adds_none none) = adds_nothing pool
        by {pool} {last} _ (adds_one made grows is_method) =
            grow_none 65535 (constructor_method_needs (headers_of r.classes) r.constructor (header_of file).name) pool last
            (constructor_none (headers_of r.classes) r.constructor (header_of file).name) grows
