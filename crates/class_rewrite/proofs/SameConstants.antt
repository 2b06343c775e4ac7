-- A constant that passes a test is found in a pool that has grown, if none that is added passes it, where it was found before.
use Rattle.std.proofs.Common.{◌≡◌, ◌++◌, ◌||◌, Bool, false, List, [], ◌∷◌, Option, Some, None, refl, ap, ◌∙◌}
use Rattle.std.specs.List.{AllByRecursion}
use Rattle.class_model.specs.Methods.{IsHandle}
use Rattle.class_model.specs.Pool.{Constants}
use Rattle.class_model.specs.declared.class_file.ClassFile.{ClassFile}
use Rattle.class_model.specs.declared.pool.Const.{Const}
use Rattle.class_model.specs.declared.pool.Const.TheVariants.{MethodHandle}
use Rattle.class_tree.specs.Steps.{has_constant, is_method_handle}

module _ (test : Const → Bool) where
  -- no entry of these passes
  abbrev pub Fails : Option Const → Type 0
  Fails None = Unit {0}
  Fails (Some constant) = test constant ≡ false

  abbrev found_in : ClassFile → Constants → Bool
  found_in class pool = has_constant test (record class { pool = pool })

  none_in : (class : ClassFile) (pool : Constants) → AllByRecursion Fails pool → found_in class pool ≡ false
  none_in class [] none = refl
  none_in class (None ∷ pool) none = none_in class pool none.1
  none_in class (Some constant ∷ pool) none = rw (none.0) (none_in class pool none.1)

  none_more : (class : ClassFile) (pool more : Constants) → AllByRecursion Fails more → found_in class (pool ++ more) ≡ found_in class pool
  none_more class [] more none = none_in class more none
  none_more class (None ∷ pool) more none = none_more class pool more none
  none_more class (Some constant ∷ pool) more none = ap (λ (rest : Bool). test constant || rest) (none_more class pool more none)

  pub same_found : (file also : ClassFile) (more : Constants) → also.pool ≡ file.pool ++ more → AllByRecursion Fails more
      → has_constant test also ≡ has_constant test file
  same_found file also more is none = ap (found_in also) is ∙ none_more also file.pool more none

-- no method handle
no_handle : (entry : Option Const) → ¬ IsHandle entry → Fails is_method_handle entry
no_handle None none = tt
no_handle (Some (MethodHandle kind reference)) none = absurd (none tt)
no_handle (Some other) none = refl

pub no_handles : (entries : List (Option Const)) → AllByRecursion (λ (entry : Option Const). ¬ IsHandle entry) entries
    → AllByRecursion (Fails is_method_handle) entries
no_handles [] none = tt
no_handles (entry ∷ entries) none = (no_handle entry none.0, no_handles entries none.1)
