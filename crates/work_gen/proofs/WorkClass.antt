-- The class of generated methods is a class file.
use Rattle.std.proofs.Common.{◌≡◌, ◌+◌, ◌≤◌, ℕ, suc, true, List, [], ◌∷◌, ◌++◌, length, Some, inl, inr, refl, ap, sym, arith, codes}
use Rattle.std.specs.List.{AllByRecursion, flat_map}
use Rattle.class_bytes.specs.Numbers.{FitsNumbers, MethodNumbers, PartNumbers}
use Rattle.class_model.specs.Checks.{AllHold}
use Rattle.class_model.specs.ClassOf.{bootstrap_index_checks}
use Rattle.class_model.specs.Laws.Checks.{◌▸◌}
use Rattle.class_model.specs.Methods.{code}
use Rattle.class_model.specs.ModifiedUtf8.{is_plain_text}
use Rattle.class_model.specs.Names.{clinit, init}
use Rattle.class_model.specs.Pool.{Constants, IsPool, entries_of}
use Rattle.class_model.specs.PoolChecks.{entries_checks}
use Rattle.class_model.specs.Values.{IsValue, MethodIsParted, TagStands}
use Rattle.class_model.specs.declared.pool.Const.{Const}
use Rattle.class_model.specs.declared.pool.Const.TheVariants.{Utf8, Class, NameAndType, Fieldref, Methodref}
use Rattle.class_tree.specs.Names.{object, throwable}
use Rattle.pool_bytes.specs.Items.{EntryFits}
use Rattle.work_gen.specs.BaseLibrary.{takes_object}
use Rattle.work_gen.specs.Generated.{indexed, kind_code, method_name, name_constant, work, work_constants, work_method}
use Rattle.work_gen.specs.declared.choices.Choice.{Choice}
use Rattle.work_gen.specs.declared.choices.Kind.{Kind}
use Rattle.work_gen.specs.declared.choices.Kind.TheVariants.{Adds, Loops, Branches, Locks}
use Rattle.work_gen.proofs.HeldChecks.{object_name, other_text, text}
use Rattle.work_gen.proofs.Indexed.{names}
use Rattle.work_gen.proofs.PlainMethodNames.{plain_name}
use Rattle.class_model.specs.Laws.Texts.{plain_text}
use Rattle.work_gen.proofs.PlainNames as plain_names
use Rattle.work_gen.proofs.PlainNames.{IsPlainClassName, class_name, is_unqualified, reference_name, unqualified}
use Rattle.work_gen.proofs.WorkChecks.{methods_hold}
use Rattle.work_gen.proofs.WorkDescriptors.{gives_int, int_spelled, is_int, keeper_name, point_name, takes, takes_spelled, takes_two, throwable_name, two_is_void, two_spelled, work_name, x_name}
use Rattle.work_gen.proofs.WorkNames.{is_named}
use Rattle.work_gen.proofs.WorkParts.{PartsHold, all_hold}

-- ---- the pool of G

names_hold : (pool : Constants) (number at : ℕ) (left : List Choice) → number + length left ≤ 1000 → AllHold (entries_checks 52 pool at (indexed names number left))
names_hold pool number at [] few = tt
names_hold pool number at (choice ∷ left) few =
    (text (method_name number) (plain_name number (omega (arith, few))), names_hold pool (suc number) _ left (omega (arith, few)))

pool_holds : (chosen : List Choice) → length chosen ≤ 1000 → AllHold (entries_checks 52 (work chosen).pool 10 (work chosen).pool)
pool_holds chosen few =
    text (codes "G") refl ▸ refl ▸ reference_name (codes "G") work_name
    ▸ text object refl ▸ refl ▸ reference_name object object_name
    ▸ text code refl ▸ text (codes "(I)I") refl
    ▸ text (codes "P") refl ▸ refl ▸ reference_name (codes "P") point_name
    -- the constructor
    ▸ text init refl ▸ text (codes "(II)V") refl
    ▸ (refl, refl) ▸ (unqualified init refl, λ _. inl refl, λ _ _. two_is_void) ▸ inr (takes_two, two_spelled)
    ▸ (refl, refl) ▸ (inl refl, other_text init clinit refl, λ _ _. two_is_void) ▸ (takes_two, two_spelled)
    -- the field
    ▸ text (codes "x") refl ▸ text (codes "I") refl
    ▸ (refl, refl) ▸ (unqualified (codes "x") refl, λ _. plain_names.method_name (codes "x") refl refl, λ is_init. absurd (other_text (codes "x") init refl is_init)) ▸ inl is_int
    ▸ (refl, refl) ▸ x_name ▸ is_int
    -- the method
    ▸ text (codes "y") refl ▸ text (codes "()I") refl
    ▸ (refl, refl) ▸ (unqualified (codes "y") refl, λ _. plain_names.method_name (codes "y") refl refl, λ is_init. absurd (other_text (codes "y") init refl is_init)) ▸ inr (gives_int, int_spelled)
    ▸ (refl, refl) ▸ (plain_names.method_name (codes "y") refl refl, other_text (codes "y") clinit refl, λ is_init. absurd (other_text (codes "y") init refl is_init)) ▸ (gives_int, int_spelled)
    -- the method of the library
    ▸ text (codes "L") refl ▸ refl ▸ reference_name (codes "L") keeper_name
    ▸ text (codes "use") refl ▸ text takes_object refl
    ▸ (refl, refl) ▸ (unqualified (codes "use") refl, λ _. plain_names.method_name (codes "use") refl refl, λ is_init. absurd (other_text (codes "use") init refl is_init)) ▸ inr (takes, takes_spelled)
    ▸ (refl, refl) ▸ (plain_names.method_name (codes "use") refl refl, other_text (codes "use") clinit refl, λ is_init. absurd (other_text (codes "use") init refl is_init)) ▸ (takes, takes_spelled)
    ▸ text (codes "StackMapTable") refl ▸ text throwable refl ▸ refl ▸ reference_name throwable throwable_name
    ▸ names_hold (work chosen).pool 0 _ chosen (omega (arith, few))

names_without_dynamics : (count number at : ℕ) (left : List Choice) → AllHold (bootstrap_index_checks count at (indexed names number left))
names_without_dynamics count number at [] = tt
names_without_dynamics count number at (choice ∷ left) = names_without_dynamics count (suc number) _ left

work_holds : (chosen : List Choice) → length chosen ≤ 1000 → PartsHold (work chosen)
work_holds chosen few = record {
  pool = pool_holds chosen few;
  flags = refl;
  this_class = refl ▸ class_name (codes "G") work_name ▸ tt;
  super_class = refl ▸ class_name object object_name ▸ tt;
  interfaces = tt;
  fields = tt;
  methods = methods_hold (indexed names 0 chosen) 0 _ chosen (omega (arith, few)) (λ n within. is_named chosen n (omega (arith, within)));
  attrs = tt;
  dynamics = names_without_dynamics 0 0 _ chosen;
}

-- ---- the value of G

names_tagged : (number : ℕ) (left : List Choice) → AllByRecursion (TagStands 52) (indexed names number left)
names_tagged number [] = tt
names_tagged number (choice ∷ left) = (tt, names_tagged (suc number) left)

methods_parted : (more : Constants) (number : ℕ) (left : List Choice) → AllByRecursion (MethodIsParted (work_constants ++ more)) (indexed (λ n choice. work_method n choice ∷ []) number left)
methods_parted more number [] = tt
methods_parted more number (choice ∷ left) = ((refl, tt), methods_parted more (suc number) left)

pub work_value : (chosen : List Choice) → length chosen ≤ 1000 → IsValue (work chosen)
work_value chosen few = record {
  version = inr (inr (refl, refl));
  tags =
      tt ▸ tt ▸ tt ▸ tt ▸ tt ▸ tt ▸ tt ▸ tt ▸ tt ▸ tt ▸ tt ▸ tt ▸ tt ▸ tt ▸ tt ▸ tt ▸ tt ▸ tt ▸ tt ▸ tt ▸ tt ▸ tt ▸ tt ▸ tt ▸ tt
      ▸ tt ▸ tt ▸ tt ▸ tt ▸ tt ▸ names_tagged 0 chosen;
  fields = tt;
  methods = methods_parted (indexed names 0 chosen) 0 chosen;
  attrs = tt;
  checks = all_hold (work chosen) (work_holds chosen few);
}

-- ---- its numbers

kind_numbers : (kind : Kind) → PartNumbers (kind_code kind)
kind_numbers Adds = record { max_stack = omega arith; max_locals = omega arith; handlers = tt; attrs = tt }
kind_numbers Loops = record { max_stack = omega arith; max_locals = omega arith; handlers = tt; attrs = (omega arith, tt) }
kind_numbers Branches = record { max_stack = omega arith; max_locals = omega arith; handlers = tt; attrs = (omega arith, tt) }
kind_numbers Locks = record {
  max_stack = omega arith;
  max_locals = omega arith;
  handlers =
      record { start = omega arith; end = omega arith; at = omega arith; catch_type = omega arith }
      ▸ record { start = omega arith; end = omega arith; at = omega arith; catch_type = omega arith }
      ▸ tt;
  attrs = (omega arith, tt);
}

method_numbers : (number : ℕ) (left : List Choice) → number + length left ≤ 1000 → AllByRecursion MethodNumbers (indexed (λ n choice. work_method n choice ∷ []) number left)
method_numbers number [] few = tt
method_numbers number (choice ∷ left) few = (
  record { flags = omega arith; name = omega (arith, few); desc = omega arith; attrs = ((omega arith, kind_numbers choice.kind), tt) },
  method_numbers (suc number) left (omega (arith, few)),
)

abbrev constants_of : List Choice → List Const
constants_of chosen = indexed (λ number choice. name_constant number ∷ []) 0 chosen

names_are : (number : ℕ) (left : List Choice) → flat_map entries_of (indexed (λ n choice. name_constant n ∷ []) number left) ≡ indexed names number left
names_are number [] = refl
names_are number (choice ∷ left) = ap (λ others. Some (name_constant number) ∷ others) (names_are (suc number) left)

abbrev first_constants : List Const
first_constants =
    Utf8 (codes "G") ∷ Class 1 ∷ Utf8 object ∷ Class 3
    ∷ Utf8 code ∷ Utf8 (codes "(I)I")
    ∷ Utf8 (codes "P") ∷ Class 7
    ∷ Utf8 init ∷ Utf8 (codes "(II)V") ∷ NameAndType 9 10
    ∷ Methodref 8 11
    ∷ Utf8 (codes "x") ∷ Utf8 (codes "I") ∷ NameAndType 13 14
    ∷ Fieldref 8 15
    ∷ Utf8 (codes "y") ∷ Utf8 (codes "()I") ∷ NameAndType 17 18
    ∷ Methodref 8 19
    ∷ Utf8 (codes "L") ∷ Class 21 ∷ Utf8 (codes "use")
    ∷ Utf8 takes_object ∷ NameAndType 23 24 ∷ Methodref 22 25
    ∷ Utf8 (codes "StackMapTable") ∷ Utf8 throwable ∷ Class 28 ∷ []

names_length : (number : ℕ) (left : List Choice) → length (indexed names number left) ≡ length left
names_length number [] = refl
names_length number (choice ∷ left) = ap suc (names_length (suc number) left)

work_is_pool : (chosen : List Choice) → length chosen ≤ 1000 → IsPool (work chosen).pool
work_is_pool chosen few = record {
  constants = first_constants ++ constants_of chosen;
  all = ap (λ more. work_constants ++ more) (sym (names_are 0 chosen));
  count = omega (arith, names_length 0 chosen, few);
}

few_bytes : (bytes : List ℕ) → is_plain_text bytes ≡ true → length bytes ≤ 65535
few_bytes bytes plain = (plain_text bytes plain).len

names_fit : (number : ℕ) (left : List Choice) → number + length left ≤ 1000 → AllByRecursion EntryFits (indexed names number left)
names_fit number [] few = tt
names_fit number (choice ∷ left) few = (few_bytes (method_name number) (plain_name number (omega (arith, few))), names_fit (suc number) left (omega (arith, few)))

pub work_numbers : (chosen : List Choice) → length chosen ≤ 1000 → FitsNumbers (work chosen)
work_numbers chosen few = record {
  major = omega arith;
  minor = omega arith;
  pool = work_is_pool chosen few;
  constants =
      tt ▸ omega arith ▸ omega arith ▸ omega arith ▸ omega arith ▸ omega arith ▸ omega arith ▸ omega arith ▸ omega arith
      ▸ omega arith ▸ omega arith ▸ (omega arith, omega arith) ▸ (omega arith, omega arith)
      ▸ omega arith ▸ omega arith ▸ (omega arith, omega arith) ▸ (omega arith, omega arith)
      ▸ omega arith ▸ omega arith ▸ (omega arith, omega arith) ▸ (omega arith, omega arith)
      ▸ omega arith ▸ omega arith ▸ omega arith ▸ omega arith ▸ (omega arith, omega arith) ▸ (omega arith, omega arith)
      ▸ omega arith ▸ omega arith ▸ omega arith ▸ names_fit 0 chosen (omega (arith, few));
  body = record {
    flags = omega arith;
    this_class = omega arith;
    super_class = omega arith;
    interfaces = tt;
    fields = tt;
    methods = method_numbers 0 chosen (omega (arith, few));
    attrs = tt;
  };
}
