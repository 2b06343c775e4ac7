use Rattle.std.specs.Prelude.{◌≡◌, ◌==◌, refl, ℕ, Bool, true, false, List, [], ◌∷◌, map, length, Option, Some, None}
use Rattle.std.specs.List.{AllByRecursion, list_any}
use Rattle.std.proofs.Common.{arith, ap, ◌∙◌, subst}
use Rattle.class_model.specs.declared.descriptor.Kind.{Kind}
use Rattle.class_model.specs.declared.descriptor.Kind.TheVariants as kinds
use Rattle.class_model.specs.declared.frame.Frame.{Frame}
use Rattle.class_model.specs.declared.frame.VType.{VType}
use Rattle.machine_values.specs.Frames.{MethodState}
use Rattle.machine_values.specs.Heaps.{Heap}
use Rattle.machine_values.specs.Values.{has_kind}
use Rattle.machine_values.specs.declared.frame.RunFrame.{RunFrame}
use Rattle.machine_values.specs.declared.value.Value.{Value}
use Rattle.machine_values.specs.declared.value.Value.TheVariants as values
use Rattle.member_link.specs.Machine.Arithmetic.{Meaning, of_ints, of_longs, of_long_and_int, of_int, of_long, int_to_long, long_to_int, longs_to_int, meaning_in, pure_meanings, result_by, operands_of}
use Rattle.member_link.specs.Machine.Ops.{pure_arithmetic}
use Rattle.member_link.specs.Machine.Programs.{Program}
use Rattle.member_link.specs.Machine.Stepping.{op_step}
use Rattle.member_link.specs.Machine.Worlds.{World}
use Rattle.member_link.specs.RowScope.{RowScope}
use Rattle.member_link.specs.Rows.ArithmeticRows.{Operation, pure_operations, operation_in, operation_row, type_of_kind}
use Rattle.member_link.specs.Rows.Operands.{AllFit, of_kind, topmost}
use Rattle.member_link.specs.Rows.Row.{access_aside, plain}
use Rattle.typed_runs.proofs.Basics.{same_number}
use Rattle.typed_runs.proofs.Here.{Here, operands_here, worked, gives_same}
use Rattle.typed_runs.proofs.Taken.{takes_nothing}
use Rattle.typed_runs.proofs.Units.{kind_conforms}
use Rattle.typed_runs.specs.Conforming.{Conforms, an_int, a_long, AllConform, no_values, and_value}
use Rattle.typed_runs.specs.TypedPrograms.{Typings}
use Rattle.typed_runs.specs.TypedWorlds.{StaysTyped}

-- ---- values of kinds

-- values are of kinds, one by one
abbrev pub AreOfKinds : List Kind → List Value → Type 0
AreOfKinds [] [] = Unit {0}
AreOfKinds (k ∷ ks) (v ∷ vs) = (has_kind k v ≡ true) × AreOfKinds ks vs
AreOfKinds ks vs = ⊥

pub of_kinds : {P : Program} {s : RowScope} {h : Heap} (r : RowScope) (ks : List Kind) (ts : List VType) {vs : List Value} → AllFit r (map of_kind ks) ts → AllConform P s h ts vs → AreOfKinds ks vs
of_kinds r [] [] fit no_values = tt
of_kinds r (k ∷ ks) (t ∷ ts) fit (and_value c others) = (kind_conforms k fit.0 c, of_kinds r ks ts fit.1 others)
of_kinds r [] (t ∷ ts) fit all = absurd fit
of_kinds r (k ∷ ks) [] fit all = absurd fit

-- ---- what a meaning takes and gives

abbrev pub taken_by : Meaning → List Kind
taken_by (of_ints f) = kinds.Int ∷ kinds.Int ∷ []
taken_by (of_longs f) = kinds.Long ∷ kinds.Long ∷ []
taken_by (of_long_and_int f) = kinds.Long ∷ kinds.Int ∷ []
taken_by (of_int f) = kinds.Int ∷ []
taken_by (of_long f) = kinds.Long ∷ []
taken_by (int_to_long f) = kinds.Int ∷ []
taken_by (long_to_int f) = kinds.Long ∷ []
taken_by (longs_to_int f) = kinds.Long ∷ kinds.Long ∷ []

abbrev pub given_by : Meaning → Kind
given_by (of_ints f) = kinds.Int
given_by (of_longs f) = kinds.Long
given_by (of_long_and_int f) = kinds.Long
given_by (of_int f) = kinds.Int
given_by (of_long f) = kinds.Long
given_by (int_to_long f) = kinds.Long
given_by (long_to_int f) = kinds.Int
given_by (longs_to_int f) = kinds.Int

abbrev pub IsMeaningOf : Operation → Option Meaning → Type 0
IsMeaningOf o None = ⊥
IsMeaningOf o (Some m) = (o.takes ≡ taken_by m) × (o.gives ≡ given_by m)

-- ---- a table of operations and one of meanings

-- each opcode of each operation has a meaning of its kinds
abbrev pub HaveMeanings : (ℕ → Option Meaning) → List Operation → Type 0
HaveMeanings meaning os = AllByRecursion (λ (o : Operation). AllByRecursion (λ (opcode : ℕ). IsMeaningOf o (meaning opcode)) o.opcodes) os

pub member_has : (Q : ℕ → Type 0) (xs : List ℕ) (n : ℕ) → list_any (λ x. x == n) xs ≡ true → AllByRecursion Q xs → Q n
member_has Q [] n is all = cc
member_has Q (x ∷ xs) n is all = by (x == n) refl (λ e. member_has Q xs n e all.1) where
  by : (b : Bool) → (x == n) ≡ b → (list_any (λ x. x == n) xs ≡ true → Q n) → Q n
  by true e others = subst Q (same_number x n e) all.0
  by false e others = others (rw e at is)

pub has_meaning : (meaning : ℕ → Option Meaning) (os : List Operation) (opcode : ℕ) (o : Operation) → operation_in os opcode ≡ Some o → HaveMeanings meaning os → IsMeaningOf o (meaning opcode)
has_meaning meaning [] opcode o is have = cc
has_meaning meaning (first ∷ others) opcode o is have = by (list_any (λ x. x == opcode) first.opcodes) refl (λ e. has_meaning meaning others opcode o e have.1) where
  by : (b : Bool) → list_any (λ x. x == opcode) first.opcodes ≡ b → (operation_in others opcode ≡ Some o → IsMeaningOf o (meaning opcode)) → IsMeaningOf o (meaning opcode)
  by true e next =
      let same : Some first ≡ Some o = rw e at is in
      let one : first ≡ o = cc in
      subst (λ x. IsMeaningOf x (meaning opcode)) one (member_has (λ x. IsMeaningOf first (meaning x)) first.opcodes opcode e have.0)
  by false e next = next (rw e at is)

pub pure_have : HaveMeanings (λ opcode. meaning_in pure_meanings opcode) pure_operations
pure_have = (((refl, refl), ((refl, refl), ((refl, refl), ((refl, refl), ((refl, refl), ((refl, refl), ((refl, refl), ((refl, refl), ((refl, refl), tt))))))))), (((refl, refl), ((refl, refl), ((refl, refl), ((refl, refl), ((refl, refl), ((refl, refl), tt)))))), (((refl, refl), ((refl, refl), ((refl, refl), tt))), (((refl, refl), ((refl, refl), ((refl, refl), ((refl, refl), tt)))), (((refl, refl), tt), (((refl, refl), tt), (((refl, refl), tt), (((refl, refl), tt), tt))))))))

pub result_of_meaning : (m : Meaning) (vs : List Value) → AreOfKinds (taken_by m) vs → (v : Value) × (result_by m vs ≡ Some v) × (has_kind (given_by m) v ≡ true)
result_of_meaning (of_ints f) (values.Int a ∷ values.Int b ∷ []) are = (_, refl, refl)
result_of_meaning (of_longs f) (values.Long a ∷ values.Long b ∷ []) are = (_, refl, refl)
result_of_meaning (of_long_and_int f) (values.Long a ∷ values.Int b ∷ []) are = (_, refl, refl)
result_of_meaning (of_int f) (values.Int a ∷ []) are = (_, refl, refl)
result_of_meaning (of_long f) (values.Long a ∷ []) are = (_, refl, refl)
result_of_meaning (int_to_long f) (values.Int a ∷ []) are = (_, refl, refl)
result_of_meaning (long_to_int f) (values.Long a ∷ []) are = (_, refl, refl)
result_of_meaning (longs_to_int f) (values.Long a ∷ values.Long b ∷ []) are = (_, refl, refl)
result_of_meaning m vs are = grind arith

pub of_number : {P : Program} {s : RowScope} {h : Heap} (m : Meaning) (v : Value) → has_kind (given_by m) v ≡ true → Conforms P s h (type_of_kind (given_by m)) v
of_number (of_ints f) (values.Int n) is = an_int
of_number (of_longs f) (values.Long n) is = a_long
of_number (of_long_and_int f) (values.Long n) is = a_long
of_number (of_int f) (values.Int n) is = an_int
of_number (of_long f) (values.Long n) is = a_long
of_number (int_to_long f) (values.Long n) is = a_long
of_number (long_to_int f) (values.Int n) is = an_int
of_number (longs_to_int f) (values.Int n) is = an_int
of_number m v is = grind arith

pub takes_many : (m : Meaning) → operands_of (Some m) ≡ length (map of_kind (taken_by m))
takes_many (of_ints f) = refl
takes_many (of_longs f) = refl
takes_many (of_long_and_int f) = refl
takes_many (of_int f) = refl
takes_many (of_long f) = refl
takes_many (int_to_long f) = refl
takes_many (long_to_int f) = refl
takes_many (longs_to_int f) = refl

-- ---- the instruction

module _ {P : Program} {T : Typings} {w : World} {f : MethodState} {rest : List RunFrame} {s : RowScope} {frame : Frame} {place : ℕ} {numbered : ℕ → ℕ} where
  pub meant_stays : (opcode : ℕ) (takes : List Kind) (given : Kind) (m : Meaning) → takes ≡ taken_by m → given ≡ given_by m → meaning_in pure_meanings opcode ≡ Some m
      → Here P T w f rest s frame place numbered (plain frame (map of_kind takes) (type_of_kind given ∷ [])) (pure_arithmetic opcode) true []
      → StaysTyped P T w (op_step P w f rest (pure_arithmetic opcode))
  meant_stays opcode takes given m t g is h =
      let k : Here P T w f rest s frame place numbered (plain frame (map of_kind (taken_by m)) (type_of_kind (given_by m) ∷ [])) (pure_arithmetic opcode) true [] =
      subst (λ x. Here P T w f rest s frame place numbered (plain frame (map of_kind (taken_by m)) (type_of_kind x ∷ [])) (pure_arithmetic opcode) true []) g
      (subst (λ x. Here P T w f rest s frame place numbered (plain frame (map of_kind x) (type_of_kind given ∷ [])) (pure_arithmetic opcode) true []) t h) in
      let o = operands_here k in
      let result = result_of_meaning m _ (of_kinds s (taken_by m) (topmost (length (map of_kind (taken_by m))) frame.stack) k.holds.operands o.values) in
      worked k (length (map of_kind (taken_by m))) (ap operands_of is ∙ takes_many m) o.enough
      (rw is (rw result.1 (gives_same k (result.0 ∷ []) (and_value (of_number m result.0 result.2) no_values))))

  pub pure_stays : (opcode : ℕ) → Here P T w f rest s frame place numbered (access_aside (operation_row frame (operation_in pure_operations opcode))) (pure_arithmetic opcode) true []
      → StaysTyped P T w (op_step P w f rest (pure_arithmetic opcode))
  pure_stays opcode h = by (operation_in pure_operations opcode) refl h where
    by_meaning : (o : Operation) (m : Option Meaning) → meaning_in pure_meanings opcode ≡ m → IsMeaningOf o m
        → Here P T w f rest s frame place numbered (access_aside (operation_row frame (Some o))) (pure_arithmetic opcode) true [] → StaysTyped P T w (op_step P w f rest (pure_arithmetic opcode))
    by_meaning o None is fits k = absurd fits
    by_meaning o (Some m) is fits k = meant_stays opcode o.takes o.gives m fits.0 fits.1 is k

    by : (o : Option Operation) → operation_in pure_operations opcode ≡ o
        → Here P T w f rest s frame place numbered (access_aside (operation_row frame o)) (pure_arithmetic opcode) true [] → StaysTyped P T w (op_step P w f rest (pure_arithmetic opcode))
    by None is k = absurd (takes_nothing s (topmost 1 frame.stack) k.holds.operands)
    by (Some o) is k = by_meaning o (meaning_in pure_meanings opcode) refl (has_meaning (λ x. meaning_in pure_meanings x) pure_operations opcode o is pure_have) k
