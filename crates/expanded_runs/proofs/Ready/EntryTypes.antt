-- The frame that a method begins with has no uninitialised object but that of an instance initialiser, in its first local.
use Rattle.std.proofs.Common.{◌≡◌, ℕ, zero, suc, Bool, true, false, List, [], ◌∷◌, ◌++◌, map, replicate, slice_get, Option, Some, None, refl, sym, subst, ◌∙◌}
use Rattle.std.specs.List.{AllByRecursion}
use Rattle.std.proofs.lemmas.Option.{same_Some}
use Rattle.class_model.specs.Code.{verification_type}
use Rattle.class_model.specs.Descriptors.{parameters_of}
use Rattle.class_model.specs.Frames.{units, units_of_entries}
use Rattle.class_model.specs.Laws.Lists.{at_index}
use Rattle.class_model.specs.Members.{STATIC, has, is_text}
use Rattle.class_model.specs.Methods.{home_of}
use Rattle.class_model.specs.Names.{init}
use Rattle.class_model.specs.PoolChecks.{text_or_empty, utf8_at}
use Rattle.class_model.specs.declared.descriptor.FieldType.{FieldType}
use Rattle.class_model.specs.declared.descriptor.FieldType.TheVariants as field_types
use Rattle.class_model.specs.declared.frame.VType.{VType}
use Rattle.class_model.specs.declared.frame.VType.TheVariants as types
use Rattle.class_tree.specs.Headers.{Name}
use Rattle.expanded_runs.proofs.Ready.RowKeeps.{NotNew}
use Rattle.expanded_runs.proofs.Types.EntryFrames.{entry_object, entry_static, this_of}
use Rattle.member_link.specs.Rows.Operands.{IsUninitialised}
use Rattle.member_link.specs.Scope.{Scope, own_descriptor}
use Rattle.same_runs.specs.Laws.ComeFirst.{all_appended}
use Rattle.type_rules.specs.Stated.{entry}

units_known : (type : FieldType) → AllByRecursion NotNew (units (verification_type type))
units_known (field_types.Named name) = (λ is. is, tt)
units_known field_types.Byte = (λ is. is, tt)
units_known field_types.Char = (λ is. is, tt)
units_known field_types.Short = (λ is. is, tt)
units_known field_types.Bool = (λ is. is, tt)
units_known field_types.Int = (λ is. is, tt)
units_known field_types.Long = (λ is. is, (λ is. is, tt))
units_known field_types.Float = (λ is. is, tt)
units_known field_types.Double = (λ is. is, (λ is. is, tt))

params_known : (params : List FieldType) → AllByRecursion NotNew (units_of_entries (map verification_type params))
params_known [] = tt
params_known (type ∷ params) = all_appended NotNew (units (verification_type type)) _ (units_known type) (params_known params)

tops_known : (count : ℕ) → AllByRecursion NotNew (replicate count types.Top)
tops_known zero = tt
tops_known (suc count) = (λ is. is, tops_known count)

listed_known : (params : List FieldType) (count : ℕ)
    → AllByRecursion NotNew (units_of_entries (map verification_type params) ++ replicate count types.Top)
listed_known params count = all_appended NotNew _ _ (params_known params) (tops_known count)

this_new : (s : Scope) → IsUninitialised (this_of s) → this_of s ≡ types.UninitThis
this_new s new = by (is_text init (Some (text_or_empty (utf8_at s.class.pool s.method.name)))) refl (home_of s.class).name refl where
  by : (constructs : Bool) → is_text init (Some (text_or_empty (utf8_at s.class.pool s.method.name))) ≡ constructs
      → (name : Option Name) → (home_of s.class).name ≡ name
      → this_of s ≡ types.UninitThis
  by true is name named = rw (is) refl
  by false is None named = let no : IsUninitialised types.Top = rw (is, named) at new in absurd no
  by false is (Some class) named = let no : IsUninitialised (types.Object class) = rw (is, named) at new in absurd no

-- of a static method
pub static_known : (s : Scope) → has s.method.flags STATIC ≡ true → (m : ℕ) (type : VType) → slice_get (entry s).locals m ≡ Some type → NotNew type
static_known s static m type is new =
    let begins = entry_static s static in
    at_index NotNew _ m type (listed_known (parameters_of (own_descriptor s)) begins.0)
    (subst (λ (l : List VType). slice_get l m ≡ Some type) begins.1 is) new

-- of a method of an object
pub object_known : (s : Scope) → has s.method.flags STATIC ≡ false → (m : ℕ) (type : VType) → slice_get (entry s).locals m ≡ Some type
    → IsUninitialised type
    → (m ≡ 0) × (type ≡ types.UninitThis)
object_known s static m type is new =
    let begins = entry_object s static in
    by m (subst (λ (l : List VType). slice_get l m ≡ Some type) begins.1 is) where
      by : (m : ℕ)
          → slice_get (this_of s ∷ (units_of_entries (map verification_type (parameters_of (own_descriptor s))) ++ replicate (entry_object s static).0 types.Top)) m ≡ Some type
          → (m ≡ 0) × (type ≡ types.UninitThis)
      by zero there =
          let same : this_of s ≡ type = same_Some (this_of s) type there in
          (refl, sym same ∙ this_new s (subst IsUninitialised (sym same) new))
      by (suc m) there =
          absurd (at_index NotNew _ m type (listed_known (parameters_of (own_descriptor s)) (entry_object s static).0) there new)
