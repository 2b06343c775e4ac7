use Rattle.std.specs.Prelude.{◌≡◌, ◌==◌, ◌<◌, ◌-◌, refl, ℕ, ℤ, zero, suc, nat_lt, Bool, true, false, List, [], ◌∷◌, ◌++◌, length, take, Option, Some, None}
use Rattle.std.specs.List.{AllByRecursion}
use Rattle.std.proofs.Common.{arith, inl, inr, ap, sym, ◌∙◌, subst}
use Rattle.std.proofs.lemmas.Bool.{false≢true}
use Rattle.std.proofs.lemmas.List.{length_push, take_at}
use Rattle.class_model.specs.ArrayTypes.{component_of}
use Rattle.class_model.specs.Characters.{class_letter, left_bracket, semicolon}
use Rattle.class_model.specs.Descriptors.{kind_of, type_of}
use Rattle.class_model.specs.declared.descriptor.FieldType.{FieldType}
use Rattle.class_model.specs.declared.descriptor.FieldType.TheVariants as field_types
use Rattle.class_model.specs.declared.descriptor.Kind.{Kind}
use Rattle.class_model.specs.declared.descriptor.Kind.TheVariants as kinds
use Rattle.class_model.specs.declared.frame.VType.{VType}
use Rattle.class_model.specs.declared.frame.VType.TheVariants as types
use Rattle.class_tree.specs.Headers.{Name}
use Rattle.class_tree.specs.Subtype.{IsArray, IsReferenceComponent, array, class}
use Rattle.machine_values.specs.Heaps.{Heap}
use Rattle.machine_values.specs.Values.{component_text, has_kind}
use Rattle.machine_values.specs.declared.value.Value.{Value}
use Rattle.machine_values.specs.declared.value.Value.TheVariants as values
use Rattle.member_link.specs.Machine.ArraySteps.{takes_array, stores_value}
use Rattle.member_link.specs.Machine.Programs.{Program}
use Rattle.member_link.specs.Machine.Shapes.{component_named}
use Rattle.member_link.specs.RowScope.{RowScope}
use Rattle.member_link.specs.Rows.ArithmeticRows.{type_of_kind}
use Rattle.member_link.specs.Rows.ArrayRows.{Elements, elements_of, elements_from, need_of_value}
use Rattle.member_link.specs.Rows.Operands.{of_kind, IsAmong}
use Rattle.typed_runs.proofs.Basics.{some_of, same_number}
use Rattle.typed_runs.specs.Conforming.{Conforms, an_int, a_long, a_float, a_double, to_none, to_one, FieldConforms}

-- ---- values of kinds

-- what a field type holds is of its kind
pub field_kind : (P : Program) (h : Heap) (t : FieldType) (v : Value) → FieldConforms P h t v → has_kind (kind_of t) v ≡ true
field_kind P h (field_types.Named name) v to_none = refl
field_kind P h (field_types.Named name) v (to_one has conforms) = refl
field_kind P h field_types.Byte v is = is
field_kind P h field_types.Char v is = is
field_kind P h field_types.Short v is = is
field_kind P h field_types.Bool v is = is
field_kind P h field_types.Int v is = is
field_kind P h field_types.Long v is = is
field_kind P h field_types.Float v is = is
field_kind P h field_types.Double v is = is

pub number_conforms : {P : Program} {s : RowScope} {h : Heap} (k : Kind) (v : Value) → has_kind k v ≡ true → has_kind kinds.Ref v ≡ false
    → Conforms P s h (type_of_kind k) v
number_conforms kinds.Int (values.Int n) is number = an_int
number_conforms kinds.Long (values.Long n) is number = a_long
number_conforms kinds.Float (values.Float n) is number = a_float
number_conforms kinds.Double (values.Double n) is number = a_double
number_conforms kinds.Ref v is number = absurd (false≢true (sym number ∙ is))
number_conforms k v is number = cc

-- ---- the elements that a load or store takes

-- the kind of numbers that elements are, by their type on the stack
pub record TakesKind (n : ℕ) (type : VType) : Type 0 where
  pub kind : Kind
  pub loads : type_of_kind kind ≡ type
  pub needs : need_of_value type ≡ of_kind kind
  pub numbers : (v : Value) → has_kind kind v ≡ true → has_kind kinds.Ref v ≡ false
  pub stores : (v : Value) → has_kind kind v ≡ true → stores_value n v ≡ true

-- an array of such numbers
pub record TakesArray (n : ℕ) (kind : Kind) (name : Name) : Type 0 where
  pub is_array : IsArray name
  pub of_numbers : component_named (component_text name) ≡ None
  pub takes : takes_array n name ≡ true
  pub is_kind : kind_of (type_of (component_text name)) ≡ kind

takes_ints : (n : ℕ) → ((x : ℤ) → stores_value n (values.Int x) ≡ true) → TakesKind n types.Int
takes_ints n stored = record { kind = kinds.Int; loads = refl; needs = refl; numbers = numbers; stores = stores } where
  numbers : (v : Value) → has_kind kinds.Int v ≡ true → has_kind kinds.Ref v ≡ false
  numbers (values.Int x) is = refl
  numbers v is = cc

  stores : (v : Value) → has_kind kinds.Int v ≡ true → stores_value n v ≡ true
  stores (values.Int x) is = stored x
  stores v is = cc

takes_longs : (n : ℕ) → ((x : ℤ) → stores_value n (values.Long x) ≡ true) → TakesKind n types.Long
takes_longs n stored = record { kind = kinds.Long; loads = refl; needs = refl; numbers = numbers; stores = stores } where
  numbers : (v : Value) → has_kind kinds.Long v ≡ true → has_kind kinds.Ref v ≡ false
  numbers (values.Long x) is = refl
  numbers v is = cc

  stores : (v : Value) → has_kind kinds.Long v ≡ true → stores_value n v ≡ true
  stores (values.Long x) is = stored x
  stores v is = cc

takes_floats : (n : ℕ) → ((x : ℕ) → stores_value n (values.Float x) ≡ true) → TakesKind n types.Float
takes_floats n stored = record { kind = kinds.Float; loads = refl; needs = refl; numbers = numbers; stores = stores } where
  numbers : (v : Value) → has_kind kinds.Float v ≡ true → has_kind kinds.Ref v ≡ false
  numbers (values.Float x) is = refl
  numbers v is = cc

  stores : (v : Value) → has_kind kinds.Float v ≡ true → stores_value n v ≡ true
  stores (values.Float x) is = stored x
  stores v is = cc

takes_doubles : (n : ℕ) → ((x : ℕ) → stores_value n (values.Double x) ≡ true) → TakesKind n types.Double
takes_doubles n stored = record { kind = kinds.Double; loads = refl; needs = refl; numbers = numbers; stores = stores } where
  numbers : (v : Value) → has_kind kinds.Double v ≡ true → has_kind kinds.Ref v ≡ false
  numbers (values.Double x) is = refl
  numbers v is = cc

  stores : (v : Value) → has_kind kinds.Double v ≡ true → stores_value n v ≡ true
  stores (values.Double x) is = stored x
  stores v is = cc

pub record TakesElements (n : ℕ) (e : Elements) : Type 0 where
  pub kind : TakesKind n e.type
  pub arrays : AllByRecursion (TakesArray n kind.kind) e.arrays

abbrev AllTaken : ℕ → Option Elements → Type 0
AllTaken n None = Unit {0}
AllTaken n (Some e) = TakesElements n e

takes_one : (n : ℕ) (kind : Kind) (name : Name) → IsArray name → component_named (component_text name) ≡ None → takes_array n name ≡ true
    → kind_of (type_of (component_text name)) ≡ kind → TakesArray n kind name
takes_one n kind name is flat takes same = record { is_array = is; of_numbers = flat; takes = takes; is_kind = same }

all_taken : (n : ℕ) → n < 8 → AllTaken n (elements_of n)
unfolding takes_ints takes_longs takes_floats takes_doubles
all_taken zero below = record { kind = takes_ints 0 (λ x. refl); arrays = (takes_one _ _ _ (_, refl) refl refl refl, tt) }
all_taken (suc zero) below = record { kind = takes_longs 1 (λ x. refl); arrays = (takes_one _ _ _ (_, refl) refl refl refl, tt) }
all_taken (suc (suc zero)) below = record { kind = takes_floats 2 (λ x. refl); arrays = (takes_one _ _ _ (_, refl) refl refl refl, tt) }
all_taken (suc (suc (suc zero))) below =
    record { kind = takes_doubles 3 (λ x. refl); arrays = (takes_one _ _ _ (_, refl) refl refl refl, tt) }
all_taken (suc (suc (suc (suc zero)))) below = tt
all_taken (suc (suc (suc (suc (suc zero))))) below =
    record {
      kind = takes_ints 5 (λ x. refl);
      arrays = (
        takes_one _ _ _ (_, refl) refl refl refl,
        (takes_one _ _ _ (_, refl) refl refl refl, tt),
      );
    }
all_taken (suc (suc (suc (suc (suc (suc zero)))))) below =
    record { kind = takes_ints 6 (λ x. refl); arrays = (takes_one _ _ _ (_, refl) refl refl refl, tt) }
all_taken (suc (suc (suc (suc (suc (suc (suc zero))))))) below =
    record { kind = takes_ints 7 (λ x. refl); arrays = (takes_one _ _ _ (_, refl) refl refl refl, tt) }
all_taken (suc (suc (suc (suc (suc (suc (suc (suc n)))))))) below = absurd (omega (arith, below))

pub elements_taken : (n : ℕ) (e : Elements) → n < 8 → elements_of n ≡ Some e → TakesElements n e
elements_taken n e below is = subst (AllTaken n) is (all_taken n below)

-- one of these arrays
pub among_taken : (n : ℕ) (kind : Kind) (names : List Name) → AllByRecursion (TakesArray n kind) names → (name : Name) → IsAmong names name
    → TakesArray n kind name
among_taken n kind [] all name is = absurd is
among_taken n kind (first ∷ names) all name (inl same) = subst (TakesArray n kind) (sym same) all.0
among_taken n kind (first ∷ names) all name (inr is) = among_taken n kind names all.1 name is

-- by an opcode that is counted from another one
pub counted_from : (first opcode : ℕ) (e : Elements) → elements_from first opcode ≡ Some e → elements_of (opcode - first) ≡ Some e
counted_from first opcode e is = by (nat_lt opcode first) refl where
  by : (b : Bool) → nat_lt opcode first ≡ b → elements_of (opcode - first) ≡ Some e
  by true below = let none = rw below at is in cc
  by false behind = rw behind at is

-- ---- components that are classes or arrays

pub component_type_of : (desc component : Name) → component_named desc ≡ Some component → type_of desc ≡ field_types.Named component
component_type_of [] component is = cc
component_type_of (first ∷ rest) component is = by (first == left_bracket) refl (first == class_letter) refl where
  by : (b : Bool) → (first == left_bracket) ≡ b → (c : Bool) → (first == class_letter) ≡ c
      → type_of (first ∷ rest) ≡ field_types.Named component
  by true e c d =
      let same : first ≡ left_bracket = same_number first left_bracket e in
      let one : left_bracket ∷ rest ≡ component = some_of (subst (λ x. component_named (x ∷ rest) ≡ Some component) same is) in
      subst (λ x. type_of (x ∷ rest) ≡ field_types.Named component) (sym same) (ap field_types.Named one)
  by false e true d =
      let same : first ≡ class_letter = same_number first class_letter d in
      let one : take (length rest - 1) rest ≡ component = some_of (subst (λ x. component_named (x ∷ rest) ≡ Some component) same is) in
      subst (λ x. type_of (x ∷ rest) ≡ field_types.Named component) (sym same) (ap field_types.Named one)
  by false e false d = let none = rw d at (rw e at is) in cc

-- the name of a component as the rows have it
pub component_name : {name component : Name} → IsReferenceComponent name component → component_of name ≡ component
component_name (array component is) = rw is.1 refl
component_name (class component) =
    take_at component (semicolon ∷ []) (length (component ++ semicolon ∷ []) - 1)
    (let e = length_push component semicolon in omega (arith, e))
