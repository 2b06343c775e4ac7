use Rattle.std.specs.Prelude.{◌≡◌, ◌⊎◌, refl, ℕ, ℤ, List, [], ◌∷◌}
use Rattle.std.proofs.Common.{inl, inr}
use Rattle.class_model.specs.declared.frame.VType.{VType}
use Rattle.class_model.specs.declared.frame.VType.TheVariants as types
use Rattle.machine_values.specs.Heaps.{Heap}
use Rattle.machine_values.specs.declared.value.Value.{Value}
use Rattle.machine_values.specs.declared.value.Value.TheVariants as values
use Rattle.member_link.specs.Machine.Programs.{Program}
use Rattle.member_link.specs.RowScope.{RowScope}
use Rattle.member_link.specs.Rows.Operands.{Need, nothing, AllFit, Fits, IsReference}
use Rattle.typed_runs.specs.Conforming.{Conforms, an_int, only_null, null_object, an_object, of_new, of_this, AllConform, and_value}

-- ---- operands that are taken one by one

-- the one value that an instruction takes, and its type
pub record One (P : Program) (s : RowScope) (h : Heap) (r : RowScope) (need : Need) (types : List VType) (v : Value) : Type 0 where
  pub type : VType
  pub is_type : types ≡ type ∷ []
  pub fits : Fits r need type
  pub conforms : Conforms P s h type v

pub one_of : {P : Program} {s : RowScope} {h : Heap} (r : RowScope) (need : Need) (types : List VType) {v : Value} → AllFit r (need ∷ []) types → AllConform P s h types (v ∷ []) → One P s h r need types v
one_of r need (t ∷ []) fit (and_value c others) = record { type = t; is_type = refl; fits = fit.0; conforms = c }
one_of r need (t ∷ u ∷ ts) fit all = absurd fit.1
one_of r need [] fit all = absurd fit

pub record Two (P : Program) (s : RowScope) (h : Heap) (r : RowScope) (first second : Need) (types : List VType) (v x : Value) : Type 0 where
  pub first_type : VType
  pub second_type : VType
  pub are_types : types ≡ first_type ∷ second_type ∷ []
  pub first_fits : Fits r first first_type
  pub second_fits : Fits r second second_type
  pub first_conforms : Conforms P s h first_type v
  pub second_conforms : Conforms P s h second_type x

pub two_of : {P : Program} {s : RowScope} {h : Heap} (r : RowScope) (first second : Need) (types : List VType) {v x : Value} → AllFit r (first ∷ second ∷ []) types → AllConform P s h types (v ∷ x ∷ []) → Two P s h r first second types v x
two_of r first second (t ∷ u ∷ []) fit (and_value c (and_value d others)) =
    record { first_type = t; second_type = u; are_types = refl; first_fits = fit.0; second_fits = fit.1.0; first_conforms = c; second_conforms = d }
two_of r first second (t ∷ u ∷ x ∷ ts) fit all = absurd fit.1.1
two_of r first second (t ∷ []) fit all = absurd fit.1
two_of r first second [] fit all = absurd fit

-- ---- values of a kind

pub an_int_value : {P : Program} {s : RowScope} {h : Heap} {t : VType} {v : Value} → t ≡ types.Int → Conforms P s h t v → (n : ℤ) × (v ≡ values.Int n)
an_int_value e (an_int {number = n}) = (n, refl)
an_int_value e c = cc

pub a_reference_value : {P : Program} {s : RowScope} {h : Heap} {t : VType} {v : Value} → IsReference t → Conforms P s h t v → (v ≡ values.Null) ⊎ ((r : ℕ) × (v ≡ values.Ref r))
a_reference_value is only_null = inl refl
a_reference_value is null_object = inl refl
a_reference_value is (an_object {reference = r} sh c) = inr (r, refl)
a_reference_value is (of_new {reference = r} n sh c) = inr (r, refl)
a_reference_value is (of_this {reference = r} sh b) = inr (r, refl)
a_reference_value is c = absurd is

-- no operand fits where there is no instruction
pub takes_nothing : (r : RowScope) (ts : List VType) → AllFit r (nothing ∷ []) ts → ⊥
takes_nothing r [] fit = fit
takes_nothing r (t ∷ ts) fit = fit.0
