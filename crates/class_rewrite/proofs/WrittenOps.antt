-- What each instruction of written code does in the class that has it: what the definition of written code says.
use Rattle.std.proofs.Common.{◌≡◌, ◌==◌, ◌⊎◌, inl, inr, ℕ, Bool, true, false, List, [], ◌∷◌, map, Option, Some, None, option_map, if◌then◌else◌, refl, sym, ap, subst, ◌∙◌}
use Rattle.class_model.specs.Code.{IsCalled, OperandFits}
use Rattle.class_model.specs.Pool.{Constants, constant_at}
use Rattle.class_model.specs.PoolChecks.{IsInterfaceConstant, IsMethodConstant, class_at}
use Rattle.class_model.specs.declared.instr.Instr.{Instr}
use Rattle.class_model.specs.declared.instr.Instr.TheVariants.{Nop, Const, Ldc, Ldc2, Load, Store, Iinc, ArrayLoad, ArrayStore, Shuffle, Pure, Divide, FloatAsk, If, If2, IfSame, IfNull, Goto, Table, Lookup, Return, GetStatic, PutStatic, GetField, PutField, Invoke, Dynamic, New, NewArray, NewRefArray, NewMulti, Length, Throw, Cast, InstanceOf, Enter, Leave}
use Rattle.making_code.specs.Laws.MeantConstants.{Means}
use Rattle.class_rewrite.proofs.MeantOps.{class_meant, field_meant, loaded2_meant, loaded_meant, method_meant}
use Rattle.expanded_runs.specs.CarriedConstants.{IsCarriable}
use Rattle.class_tree.specs.Headers.{Name}
use Rattle.making_code.specs.Constants.{needs_at}
use Rattle.making_code.specs.IndexedMaking.{index_of_last}
use Rattle.member_link.specs.Machine.Codes.{call_op, initialises, instr_op, naming, or_meaningless, referring}
use Rattle.member_link.specs.Machine.Ops.{Op, put_field, put_static, get_field, get_static, new_array, new_arrays, new_object, check_cast, instance_of}
use Rattle.member_link.specs.Machine.Programs.{Links}
use Rattle.member_link.specs.References.{Reference}
use Rattle.member_link.specs.RowScope.{RowScope}
use Rattle.member_link.specs.Rows.ArrayRows.{array_of}
use Rattle.member_link.specs.Signatures.{reference_of}
use Rattle.plan_flow.specs.Written.WrittenCode.{jumping_to}
use Rattle.plan_flow.specs.Written.WrittenConstants.{named_index, needs_of_index, with_index}
use Rattle.type_rules.specs.Grown.{AreGrownHeaders, IsGrownHeader}

-- ---- instructions that name constants

-- an instruction names no constant
abbrev pub NamesNone : Instr → Type 0
NamesNone (Ldc index) = ⊥
NamesNone (Ldc2 index) = ⊥
NamesNone (GetStatic index) = ⊥
NamesNone (PutStatic index) = ⊥
NamesNone (GetField index) = ⊥
NamesNone (PutField index) = ⊥
NamesNone (Invoke opcode index count) = ⊥
NamesNone (Dynamic index) = ⊥
NamesNone (New index) = ⊥
NamesNone (NewRefArray index) = ⊥
NamesNone (NewMulti index dimensions) = ⊥
NamesNone (Cast index) = ⊥
NamesNone (InstanceOf index) = ⊥
NamesNone instr = Unit {0}

-- what names a constant jumps nowhere
abbrev pub NamesOne : Instr → Type 0
NamesOne (Ldc index) = Unit {0}
NamesOne (Ldc2 index) = Unit {0}
NamesOne (GetStatic index) = Unit {0}
NamesOne (PutStatic index) = Unit {0}
NamesOne (GetField index) = Unit {0}
NamesOne (PutField index) = Unit {0}
NamesOne (Invoke opcode index count) = Unit {0}
NamesOne (Dynamic index) = Unit {0}
NamesOne (New index) = Unit {0}
NamesOne (NewRefArray index) = Unit {0}
NamesOne (NewMulti index dimensions) = Unit {0}
NamesOne (Cast index) = Unit {0}
NamesOne (InstanceOf index) = Unit {0}
NamesOne instr = ⊥

pub jumps_nowhere : (numbers : List ℕ) (instr : Instr) → NamesOne instr → jumping_to numbers instr ≡ instr
jumps_nowhere [] (Ldc index) one = refl
jumps_nowhere (number ∷ numbers) (Ldc index) one = refl
jumps_nowhere [] (Ldc2 index) one = refl
jumps_nowhere (number ∷ numbers) (Ldc2 index) one = refl
jumps_nowhere [] (GetStatic index) one = refl
jumps_nowhere (number ∷ numbers) (GetStatic index) one = refl
jumps_nowhere [] (PutStatic index) one = refl
jumps_nowhere (number ∷ numbers) (PutStatic index) one = refl
jumps_nowhere [] (GetField index) one = refl
jumps_nowhere (number ∷ numbers) (GetField index) one = refl
jumps_nowhere [] (PutField index) one = refl
jumps_nowhere (number ∷ numbers) (PutField index) one = refl
jumps_nowhere [] (Invoke opcode index count) one = refl
jumps_nowhere (number ∷ numbers) (Invoke opcode index count) one = refl
jumps_nowhere [] (Dynamic index) one = refl
jumps_nowhere (number ∷ numbers) (Dynamic index) one = refl
jumps_nowhere [] (New index) one = refl
jumps_nowhere (number ∷ numbers) (New index) one = refl
jumps_nowhere [] (NewRefArray index) one = refl
jumps_nowhere (number ∷ numbers) (NewRefArray index) one = refl
jumps_nowhere [] (NewMulti index dimensions) one = refl
jumps_nowhere (number ∷ numbers) (NewMulti index dimensions) one = refl
jumps_nowhere [] (Cast index) one = refl
jumps_nowhere (number ∷ numbers) (Cast index) one = refl
jumps_nowhere [] (InstanceOf index) one = refl
jumps_nowhere (number ∷ numbers) (InstanceOf index) one = refl
jumps_nowhere numbers Nop one = elim one [ ]
jumps_nowhere numbers (Const imm) one = elim one [ ]
jumps_nowhere numbers (Load kind local) one = elim one [ ]
jumps_nowhere numbers (Store kind local) one = elim one [ ]
jumps_nowhere numbers (Iinc local amount) one = elim one [ ]
jumps_nowhere numbers (ArrayLoad opcode) one = elim one [ ]
jumps_nowhere numbers (ArrayStore opcode) one = elim one [ ]
jumps_nowhere numbers (Shuffle opcode) one = elim one [ ]
jumps_nowhere numbers (Pure opcode) one = elim one [ ]
jumps_nowhere numbers (Divide opcode) one = elim one [ ]
jumps_nowhere numbers (FloatAsk opcode) one = elim one [ ]
jumps_nowhere numbers (If opcode to) one = elim one [ ]
jumps_nowhere numbers (If2 opcode to) one = elim one [ ]
jumps_nowhere numbers (IfSame opcode to) one = elim one [ ]
jumps_nowhere numbers (IfNull opcode to) one = elim one [ ]
jumps_nowhere numbers (Goto to) one = elim one [ ]
jumps_nowhere numbers (Table low default to) one = elim one [ ]
jumps_nowhere numbers (Lookup default pairs) one = elim one [ ]
jumps_nowhere numbers (Return kind) one = elim one [ ]
jumps_nowhere numbers (NewArray code) one = elim one [ ]
jumps_nowhere numbers Length one = elim one [ ]
jumps_nowhere numbers Throw one = elim one [ ]
jumps_nowhere numbers Enter one = elim one [ ]
jumps_nowhere numbers Leave one = elim one [ ]

pub jumps_name_none : (numbers : List ℕ) (instr : Instr) → NamesNone instr → NamesNone (jumping_to numbers instr)
jumps_name_none [] Nop none = tt
jumps_name_none (number ∷ numbers) Nop none = tt
jumps_name_none [] (Const imm) none = tt
jumps_name_none (number ∷ numbers) (Const imm) none = tt
jumps_name_none [] (Load kind local) none = tt
jumps_name_none (number ∷ numbers) (Load kind local) none = tt
jumps_name_none [] (Store kind local) none = tt
jumps_name_none (number ∷ numbers) (Store kind local) none = tt
jumps_name_none [] (Iinc local amount) none = tt
jumps_name_none (number ∷ numbers) (Iinc local amount) none = tt
jumps_name_none [] (ArrayLoad opcode) none = tt
jumps_name_none (number ∷ numbers) (ArrayLoad opcode) none = tt
jumps_name_none [] (ArrayStore opcode) none = tt
jumps_name_none (number ∷ numbers) (ArrayStore opcode) none = tt
jumps_name_none [] (Shuffle opcode) none = tt
jumps_name_none (number ∷ numbers) (Shuffle opcode) none = tt
jumps_name_none [] (Pure opcode) none = tt
jumps_name_none (number ∷ numbers) (Pure opcode) none = tt
jumps_name_none [] (Divide opcode) none = tt
jumps_name_none (number ∷ numbers) (Divide opcode) none = tt
jumps_name_none [] (FloatAsk opcode) none = tt
jumps_name_none (number ∷ numbers) (FloatAsk opcode) none = tt
jumps_name_none [] (If opcode to) none = tt
jumps_name_none (number ∷ numbers) (If opcode to) none = tt
jumps_name_none [] (If2 opcode to) none = tt
jumps_name_none (number ∷ numbers) (If2 opcode to) none = tt
jumps_name_none [] (IfSame opcode to) none = tt
jumps_name_none (number ∷ numbers) (IfSame opcode to) none = tt
jumps_name_none [] (IfNull opcode to) none = tt
jumps_name_none (number ∷ numbers) (IfNull opcode to) none = tt
jumps_name_none [] (Goto to) none = tt
jumps_name_none (number ∷ numbers) (Goto to) none = tt
jumps_name_none [] (Table low default to) none = tt
jumps_name_none (number ∷ numbers) (Table low default to) none = tt
jumps_name_none [] (Lookup default pairs) none = tt
jumps_name_none (number ∷ numbers) (Lookup default pairs) none = tt
jumps_name_none [] (Return kind) none = tt
jumps_name_none (number ∷ numbers) (Return kind) none = tt
jumps_name_none [] (NewArray code) none = tt
jumps_name_none (number ∷ numbers) (NewArray code) none = tt
jumps_name_none [] Length none = tt
jumps_name_none (number ∷ numbers) Length none = tt
jumps_name_none [] Throw none = tt
jumps_name_none (number ∷ numbers) Throw none = tt
jumps_name_none [] Enter none = tt
jumps_name_none (number ∷ numbers) Enter none = tt
jumps_name_none [] Leave none = tt
jumps_name_none (number ∷ numbers) Leave none = tt
jumps_name_none numbers (Ldc index) none = elim none [ ]
jumps_name_none numbers (Ldc2 index) none = elim none [ ]
jumps_name_none numbers (GetStatic index) none = elim none [ ]
jumps_name_none numbers (PutStatic index) none = elim none [ ]
jumps_name_none numbers (GetField index) none = elim none [ ]
jumps_name_none numbers (PutField index) none = elim none [ ]
jumps_name_none numbers (Invoke opcode index count) none = elim none [ ]
jumps_name_none numbers (Dynamic index) none = elim none [ ]
jumps_name_none numbers (New index) none = elim none [ ]
jumps_name_none numbers (NewRefArray index) none = elim none [ ]
jumps_name_none numbers (NewMulti index dimensions) none = elim none [ ]
jumps_name_none numbers (Cast index) none = elim none [ ]
jumps_name_none numbers (InstanceOf index) none = elim none [ ]

-- numbers of items say nothing of operands
pub jumps_fit : (pool : Constants) (major locals : ℕ) (numbers : List ℕ) (instr : Instr) → OperandFits pool major locals instr
    → OperandFits pool major locals (jumping_to numbers instr)
jumps_fit pool major locals [] Nop fits = fits
jumps_fit pool major locals (number ∷ numbers) Nop fits = fits
jumps_fit pool major locals [] (Const imm) fits = fits
jumps_fit pool major locals (number ∷ numbers) (Const imm) fits = fits
jumps_fit pool major locals [] (Load kind local) fits = fits
jumps_fit pool major locals (number ∷ numbers) (Load kind local) fits = fits
jumps_fit pool major locals [] (Store kind local) fits = fits
jumps_fit pool major locals (number ∷ numbers) (Store kind local) fits = fits
jumps_fit pool major locals [] (Iinc local amount) fits = fits
jumps_fit pool major locals (number ∷ numbers) (Iinc local amount) fits = fits
jumps_fit pool major locals [] (ArrayLoad opcode) fits = fits
jumps_fit pool major locals (number ∷ numbers) (ArrayLoad opcode) fits = fits
jumps_fit pool major locals [] (ArrayStore opcode) fits = fits
jumps_fit pool major locals (number ∷ numbers) (ArrayStore opcode) fits = fits
jumps_fit pool major locals [] (Shuffle opcode) fits = fits
jumps_fit pool major locals (number ∷ numbers) (Shuffle opcode) fits = fits
jumps_fit pool major locals [] (Pure opcode) fits = fits
jumps_fit pool major locals (number ∷ numbers) (Pure opcode) fits = fits
jumps_fit pool major locals [] (Divide opcode) fits = fits
jumps_fit pool major locals (number ∷ numbers) (Divide opcode) fits = fits
jumps_fit pool major locals [] (FloatAsk opcode) fits = fits
jumps_fit pool major locals (number ∷ numbers) (FloatAsk opcode) fits = fits
jumps_fit pool major locals [] (If opcode to) fits = fits
jumps_fit pool major locals (number ∷ numbers) (If opcode to) fits = fits
jumps_fit pool major locals [] (If2 opcode to) fits = fits
jumps_fit pool major locals (number ∷ numbers) (If2 opcode to) fits = fits
jumps_fit pool major locals [] (IfSame opcode to) fits = fits
jumps_fit pool major locals (number ∷ numbers) (IfSame opcode to) fits = fits
jumps_fit pool major locals [] (IfNull opcode to) fits = fits
jumps_fit pool major locals (number ∷ numbers) (IfNull opcode to) fits = fits
jumps_fit pool major locals [] (Goto to) fits = fits
jumps_fit pool major locals (number ∷ numbers) (Goto to) fits = fits
jumps_fit pool major locals [] (Table low default to) fits = fits
jumps_fit pool major locals (number ∷ numbers) (Table low default to) fits = fits
jumps_fit pool major locals [] (Lookup default pairs) fits = fits
jumps_fit pool major locals (number ∷ numbers) (Lookup default pairs) fits = fits
jumps_fit pool major locals [] (Return kind) fits = fits
jumps_fit pool major locals (number ∷ numbers) (Return kind) fits = fits
jumps_fit pool major locals [] (NewArray code) fits = fits
jumps_fit pool major locals (number ∷ numbers) (NewArray code) fits = fits
jumps_fit pool major locals [] Length fits = fits
jumps_fit pool major locals (number ∷ numbers) Length fits = fits
jumps_fit pool major locals [] Throw fits = fits
jumps_fit pool major locals (number ∷ numbers) Throw fits = fits
jumps_fit pool major locals [] Enter fits = fits
jumps_fit pool major locals (number ∷ numbers) Enter fits = fits
jumps_fit pool major locals [] Leave fits = fits
jumps_fit pool major locals (number ∷ numbers) Leave fits = fits
jumps_fit pool major locals [] (Ldc index) fits = fits
jumps_fit pool major locals (number ∷ numbers) (Ldc index) fits = fits
jumps_fit pool major locals [] (Ldc2 index) fits = fits
jumps_fit pool major locals (number ∷ numbers) (Ldc2 index) fits = fits
jumps_fit pool major locals [] (GetStatic index) fits = fits
jumps_fit pool major locals (number ∷ numbers) (GetStatic index) fits = fits
jumps_fit pool major locals [] (PutStatic index) fits = fits
jumps_fit pool major locals (number ∷ numbers) (PutStatic index) fits = fits
jumps_fit pool major locals [] (GetField index) fits = fits
jumps_fit pool major locals (number ∷ numbers) (GetField index) fits = fits
jumps_fit pool major locals [] (PutField index) fits = fits
jumps_fit pool major locals (number ∷ numbers) (PutField index) fits = fits
jumps_fit pool major locals [] (Invoke opcode index count) fits = fits
jumps_fit pool major locals (number ∷ numbers) (Invoke opcode index count) fits = fits
jumps_fit pool major locals [] (Dynamic index) fits = fits
jumps_fit pool major locals (number ∷ numbers) (Dynamic index) fits = fits
jumps_fit pool major locals [] (New index) fits = fits
jumps_fit pool major locals (number ∷ numbers) (New index) fits = fits
jumps_fit pool major locals [] (NewRefArray index) fits = fits
jumps_fit pool major locals (number ∷ numbers) (NewRefArray index) fits = fits
jumps_fit pool major locals [] (NewMulti index dimensions) fits = fits
jumps_fit pool major locals (number ∷ numbers) (NewMulti index dimensions) fits = fits
jumps_fit pool major locals [] (Cast index) fits = fits
jumps_fit pool major locals (number ∷ numbers) (Cast index) fits = fits
jumps_fit pool major locals [] (InstanceOf index) fits = fits
jumps_fit pool major locals (number ∷ numbers) (InstanceOf index) fits = fits

-- ---- scopes

-- what operations read of the class that has written code, beside its pool, is as in the class of the folder
pub record IsWrittenScope (host now : RowScope) : Type 0 where
  pub headers : AreGrownHeaders host.headers now.headers
  pub own : IsGrownHeader host.own now.own
  pub result : now.result ≡ host.result
  pub is_init : now.is_init ≡ host.is_init
  pub is_clinit : now.is_clinit ≡ host.is_clinit

module _ (links : Links) (host now : RowScope) (like : IsWrittenScope host now)
    (calls : (opcode : ℕ) (r : Reference) → call_op links now opcode r ≡ call_op links host opcode r) where
  abbrev in_pool : Constants → RowScope
  in_pool old = record host { pool = old }

  -- what names no constant
  pub none_named : (old : Constants) (instr : Instr) → NamesNone instr
      → instr_op links (λ number. number) now instr ≡ instr_op links (λ number. number) (in_pool old) instr
  none_named old Nop none = refl
  none_named old (Const imm) none = refl
  none_named old (Load kind local) none = refl
  none_named old (Store kind local) none = refl
  none_named old (Iinc local amount) none = refl
  none_named old (ArrayLoad opcode) none = refl
  none_named old (ArrayStore opcode) none = refl
  none_named old (Shuffle opcode) none = refl
  none_named old (Pure opcode) none = refl
  none_named old (Divide opcode) none = refl
  none_named old (FloatAsk opcode) none = refl
  none_named old (If opcode to) none = refl
  none_named old (If2 opcode to) none = refl
  none_named old (IfSame opcode to) none = refl
  none_named old (IfNull opcode to) none = refl
  none_named old (Goto to) none = refl
  none_named old (Table low default to) none = refl
  none_named old (Lookup default pairs) none = refl
  none_named old (Return kind) none = rw (like.result) refl
  none_named old (NewArray code) none = refl
  none_named old Length none = refl
  none_named old Throw none = refl
  none_named old Enter none = refl
  none_named old Leave none = refl
  none_named old (Ldc index) none = elim none [ ]
  none_named old (Ldc2 index) none = elim none [ ]
  none_named old (GetStatic index) none = elim none [ ]
  none_named old (PutStatic index) none = elim none [ ]
  none_named old (GetField index) none = elim none [ ]
  none_named old (PutField index) none = elim none [ ]
  none_named old (Invoke opcode index count) none = elim none [ ]
  none_named old (Dynamic index) none = elim none [ ]
  none_named old (New index) none = elim none [ ]
  none_named old (NewRefArray index) none = elim none [ ]
  none_named old (NewMulti index dimensions) none = elim none [ ]
  none_named old (Cast index) none = elim none [ ]
  none_named old (InstanceOf index) none = elim none [ ]

  -- ---- an instruction of another class

  module _ (old : Constants) (first : constant_at now.pool 0 ≡ None) where
    abbrev Meant : ℕ → Type 0
    Meant index = Means old index now.pool (index_of_last now.pool (needs_at old index))

    abbrev there : ℕ → ℕ
    there index = index_of_last now.pool (needs_at old index)

    initialises_same : (is is_also : Bool) → is_also ≡ is → initialises is_also now.own ≡ initialises is host.own
    initialises_same is is_also same = rw (same, like.own.alike.same_name) refl

    refers : (index : ℕ) (op also : Reference → Op) → ((r : Reference) → also r ≡ op r)
        → reference_of now.pool (constant_at now.pool (there index)) ≡ reference_of old (constant_at old index)
        → referring now (there index) also ≡ referring (in_pool old) index op
    refers index op also each same = ap (λ (r : Option Reference). or_meaningless (option_map also r)) same ∙ by (reference_of old (constant_at old index)) where
      by : (found : Option Reference) → or_meaningless (option_map also found) ≡ or_meaningless (option_map op found)
      by None = refl
      by (Some r) = each r

    called : (major opcode index count : ℕ) → IsCalled old major opcode index count
        → IsMethodConstant (constant_at old index) ⊎ IsInterfaceConstant (constant_at old index)
    called major opcode index count is = elim is [
      | inl virtual ↦ inl virtual.1
      | inr other ↦ elim other [
        | inl interface ↦ inr interface.1
        | inr special ↦ elim special.1 [
          | inl method ↦ inl method
          | inr of_interface ↦ inr of_interface.1
        ]
      ]
    ]

    -- It does in the host what it does in its own class.
    pub carried_meant : (major locals : ℕ) (numbers : List ℕ) (instr : Instr) → OperandFits old major locals instr → IsCarriable old instr
        → ((index : ℕ) → named_index instr ≡ Some index → Meant index)
        → instr_op links (λ number. number) now (jumping_to numbers (with_index (index_of_last now.pool (needs_of_index old (named_index instr))) instr))
        ≡ instr_op links (λ number. number) (in_pool old) (jumping_to numbers instr)
    carried_meant major locals numbers instr operands may meaning = by instr operands may meaning where
      by : (instr : Instr) → OperandFits old major locals instr → IsCarriable old instr → ((index : ℕ) → named_index instr ≡ Some index → Meant index)
          → instr_op links (λ number. number) now (jumping_to numbers (with_index (index_of_last now.pool (needs_of_index old (named_index instr))) instr))
          ≡ instr_op links (λ number. number) (in_pool old) (jumping_to numbers instr)
      by Nop fits carriable means = none_named old (jumping_to numbers Nop) (jumps_name_none numbers Nop tt)
      by (Const imm) fits carriable means = none_named old (jumping_to numbers (Const imm)) (jumps_name_none numbers (Const imm) tt)
      by (Load kind local) fits carriable means = none_named old (jumping_to numbers (Load kind local)) (jumps_name_none numbers (Load kind local) tt)
      by (Store kind local) fits carriable means = none_named old (jumping_to numbers (Store kind local)) (jumps_name_none numbers (Store kind local) tt)
      by (Iinc local amount) fits carriable means = none_named old (jumping_to numbers (Iinc local amount)) (jumps_name_none numbers (Iinc local amount) tt)
      by (ArrayLoad opcode) fits carriable means = none_named old (jumping_to numbers (ArrayLoad opcode)) (jumps_name_none numbers (ArrayLoad opcode) tt)
      by (ArrayStore opcode) fits carriable means = none_named old (jumping_to numbers (ArrayStore opcode)) (jumps_name_none numbers (ArrayStore opcode) tt)
      by (Shuffle opcode) fits carriable means = none_named old (jumping_to numbers (Shuffle opcode)) (jumps_name_none numbers (Shuffle opcode) tt)
      by (Pure opcode) fits carriable means = none_named old (jumping_to numbers (Pure opcode)) (jumps_name_none numbers (Pure opcode) tt)
      by (Divide opcode) fits carriable means = none_named old (jumping_to numbers (Divide opcode)) (jumps_name_none numbers (Divide opcode) tt)
      by (FloatAsk opcode) fits carriable means = none_named old (jumping_to numbers (FloatAsk opcode)) (jumps_name_none numbers (FloatAsk opcode) tt)
      by (If opcode to) fits carriable means = none_named old (jumping_to numbers (If opcode to)) (jumps_name_none numbers (If opcode to) tt)
      by (If2 opcode to) fits carriable means = none_named old (jumping_to numbers (If2 opcode to)) (jumps_name_none numbers (If2 opcode to) tt)
      by (IfSame opcode to) fits carriable means = none_named old (jumping_to numbers (IfSame opcode to)) (jumps_name_none numbers (IfSame opcode to) tt)
      by (IfNull opcode to) fits carriable means = none_named old (jumping_to numbers (IfNull opcode to)) (jumps_name_none numbers (IfNull opcode to) tt)
      by (Goto to) fits carriable means = none_named old (jumping_to numbers (Goto to)) (jumps_name_none numbers (Goto to) tt)
      by (Table low default to) fits carriable means = none_named old (jumping_to numbers (Table low default to)) (jumps_name_none numbers (Table low default to) tt)
      by (Lookup default pairs) fits carriable means = none_named old (jumping_to numbers (Lookup default pairs)) (jumps_name_none numbers (Lookup default pairs) tt)
      by (Return kind) fits carriable means = none_named old (jumping_to numbers (Return kind)) (jumps_name_none numbers (Return kind) tt)
      by (NewArray code) fits carriable means = none_named old (jumping_to numbers (NewArray code)) (jumps_name_none numbers (NewArray code) tt)
      by Length fits carriable means = none_named old (jumping_to numbers Length) (jumps_name_none numbers Length tt)
      by Throw fits carriable means = none_named old (jumping_to numbers Throw) (jumps_name_none numbers Throw tt)
      by Enter fits carriable means = none_named old (jumping_to numbers Enter) (jumps_name_none numbers Enter tt)
      by Leave fits carriable means = none_named old (jumping_to numbers Leave) (jumps_name_none numbers Leave tt)
      by (Ldc index) fits carriable means = rw (jumps_nowhere numbers (Ldc (there index)) tt, jumps_nowhere numbers (Ldc index) tt) (loaded_meant old index now.pool (means index refl) first fits carriable)
      by (Ldc2 index) fits carriable means = rw (jumps_nowhere numbers (Ldc2 (there index)) tt, jumps_nowhere numbers (Ldc2 index) tt) (loaded2_meant old index now.pool (means index refl) first fits)
      by (GetStatic index) fits carriable means = rw (jumps_nowhere numbers (GetStatic (there index)) tt, jumps_nowhere numbers (GetStatic index) tt) (refers index get_static get_static (λ r. refl) (field_meant old index now.pool (means index refl) first fits))
      by (PutStatic index) fits carriable means = rw (jumps_nowhere numbers (PutStatic (there index)) tt, jumps_nowhere numbers (PutStatic index) tt) (refers index _ _ (λ r. ap (put_static r) (initialises_same host.is_clinit now.is_clinit like.is_clinit)) (field_meant old index now.pool (means index refl) first fits))
      by (GetField index) fits carriable means = rw (jumps_nowhere numbers (GetField (there index)) tt, jumps_nowhere numbers (GetField index) tt) (refers index get_field get_field (λ r. refl) (field_meant old index now.pool (means index refl) first fits))
      by (PutField index) fits carriable means = rw (jumps_nowhere numbers (PutField (there index)) tt, jumps_nowhere numbers (PutField index) tt) (refers index _ _ (λ r. ap (put_field r) (initialises_same host.is_init now.is_init like.is_init)) (field_meant old index now.pool (means index refl) first fits))
      by (Invoke opcode index count) fits carriable means = rw (jumps_nowhere numbers (Invoke opcode (there index) count) tt, jumps_nowhere numbers (Invoke opcode index count) tt) (refers index _ _ (calls opcode) (method_meant old index now.pool (means index refl) first (called major opcode index count fits)))
      by (Dynamic index) fits carriable means = elim carriable [ ]
      by (New index) fits carriable means = rw (jumps_nowhere numbers (New (there index)) tt, jumps_nowhere numbers (New index) tt) (ap (λ (n : Option Name). naming n new_object) (class_meant old index now.pool (means index refl) first fits))
      by (NewRefArray index) fits carriable means = rw (jumps_nowhere numbers (NewRefArray (there index)) tt, jumps_nowhere numbers (NewRefArray index) tt) (ap (λ (n : Option Name). naming (array_of n) new_array) (class_meant old index now.pool (means index refl) first fits.0))
      by (NewMulti index dimensions) fits carriable means = rw (jumps_nowhere numbers (NewMulti (there index) dimensions) tt, jumps_nowhere numbers (NewMulti index dimensions) tt) (ap (λ (n : Option Name). naming n (λ name. new_arrays name dimensions)) (class_meant old index now.pool (means index refl) first fits.0))
      by (Cast index) fits carriable means = rw (jumps_nowhere numbers (Cast (there index)) tt, jumps_nowhere numbers (Cast index) tt) (ap (λ (n : Option Name). naming n check_cast) (class_meant old index now.pool (means index refl) first fits))
      by (InstanceOf index) fits carriable means = rw (jumps_nowhere numbers (InstanceOf (there index)) tt, jumps_nowhere numbers (InstanceOf index) tt) (ap (λ (n : Option Name). naming n instance_of) (class_meant old index now.pool (means index refl) first fits))
