-- Instructions keep their form, and have as many targets, where they name other indices and where they jump elsewhere.
use Rattle.std.proofs.Common.{◌≡◌, ◌==◌, ◌≤◌, ◌-◌, ◌+ℤ◌, pos, ℕ, Bool, true, false, List, [], ◌∷◌, length, map, FitsSigned, IsTrue, w32, refl, sym, ap, subst, ◌∙◌, arith}
use Rattle.std.proofs.lemmas.List.{length-map}
use Rattle.class_model.specs.Instructions.{keys_increase, targets}
use Rattle.class_model.specs.Pool.{Constants}
use Rattle.class_model.specs.declared.instr.Instr.{Instr}
use Rattle.class_model.specs.declared.instr.Instr.TheVariants.{Nop, Const, Ldc, Ldc2, Load, Store, Iinc, ArrayLoad, ArrayStore, Shuffle, Pure, Divide, FloatAsk, If, If2, IfSame, IfNull, Goto, Table, Lookup, Return, GetStatic, PutStatic, GetField, PutField, Invoke, Dynamic, New, NewArray, NewRefArray, NewMulti, Length, Throw, Cast, InstanceOf, Enter, Leave}
use Rattle.class_model.specs.declared.instr.Pair.{Pair}
use Rattle.member_link.specs.Targets.{HasForm, pair_to}
use Rattle.plan_flow.specs.PlanScope.{PlanScope}
use Rattle.plan_flow.specs.Written.WrittenCode.{jumping_to, pairs_to}
use Rattle.plan_flow.specs.Written.WrittenConstants.{carried_instr, with_index}

-- ---- other indices

index_keeps_form : (new : ℕ) (instr : Instr) → HasForm instr → HasForm (with_index new instr)
index_keeps_form new Nop form = form
index_keeps_form new (Const imm) form = form
index_keeps_form new (Ldc index) form = form
index_keeps_form new (Ldc2 index) form = form
index_keeps_form new (Load kind local) form = form
index_keeps_form new (Store kind local) form = form
index_keeps_form new (Iinc local by) form = form
index_keeps_form new (ArrayLoad opcode) form = form
index_keeps_form new (ArrayStore opcode) form = form
index_keeps_form new (Shuffle opcode) form = form
index_keeps_form new (Pure opcode) form = form
index_keeps_form new (Divide opcode) form = form
index_keeps_form new (FloatAsk opcode) form = form
index_keeps_form new (If opcode to) form = form
index_keeps_form new (If2 opcode to) form = form
index_keeps_form new (IfSame opcode to) form = form
index_keeps_form new (IfNull opcode to) form = form
index_keeps_form new (Goto to) form = form
index_keeps_form new (Table low other to) form = form
index_keeps_form new (Lookup other pairs) form = form
index_keeps_form new (Return kind) form = form
index_keeps_form new (GetStatic index) form = form
index_keeps_form new (PutStatic index) form = form
index_keeps_form new (GetField index) form = form
index_keeps_form new (PutField index) form = form
index_keeps_form new (Invoke opcode index count) form = form
index_keeps_form new (Dynamic index) form = form
index_keeps_form new (New index) form = form
index_keeps_form new (NewArray code) form = form
index_keeps_form new (NewRefArray index) form = form
index_keeps_form new (NewMulti index dimensions) form = form
index_keeps_form new Length form = form
index_keeps_form new Throw form = form
index_keeps_form new (Cast index) form = form
index_keeps_form new (InstanceOf index) form = form
index_keeps_form new Enter form = form
index_keeps_form new Leave form = form

index_keeps_targets : (new : ℕ) (instr : Instr) → targets (with_index new instr) ≡ targets instr
index_keeps_targets new Nop = refl
index_keeps_targets new (Const imm) = refl
index_keeps_targets new (Ldc index) = refl
index_keeps_targets new (Ldc2 index) = refl
index_keeps_targets new (Load kind local) = refl
index_keeps_targets new (Store kind local) = refl
index_keeps_targets new (Iinc local by) = refl
index_keeps_targets new (ArrayLoad opcode) = refl
index_keeps_targets new (ArrayStore opcode) = refl
index_keeps_targets new (Shuffle opcode) = refl
index_keeps_targets new (Pure opcode) = refl
index_keeps_targets new (Divide opcode) = refl
index_keeps_targets new (FloatAsk opcode) = refl
index_keeps_targets new (If opcode to) = refl
index_keeps_targets new (If2 opcode to) = refl
index_keeps_targets new (IfSame opcode to) = refl
index_keeps_targets new (IfNull opcode to) = refl
index_keeps_targets new (Goto to) = refl
index_keeps_targets new (Table low other to) = refl
index_keeps_targets new (Lookup other pairs) = refl
index_keeps_targets new (Return kind) = refl
index_keeps_targets new (GetStatic index) = refl
index_keeps_targets new (PutStatic index) = refl
index_keeps_targets new (GetField index) = refl
index_keeps_targets new (PutField index) = refl
index_keeps_targets new (Invoke opcode index count) = refl
index_keeps_targets new (Dynamic index) = refl
index_keeps_targets new (New index) = refl
index_keeps_targets new (NewArray code) = refl
index_keeps_targets new (NewRefArray index) = refl
index_keeps_targets new (NewMulti index dimensions) = refl
index_keeps_targets new Length = refl
index_keeps_targets new Throw = refl
index_keeps_targets new (Cast index) = refl
index_keeps_targets new (InstanceOf index) = refl
index_keeps_targets new Enter = refl
index_keeps_targets new Leave = refl

pub carried_form : (s : PlanScope) (pool : Constants) (class : ℕ) (instr : Instr) → HasForm instr → HasForm (carried_instr s pool class instr)
carried_form s pool class instr form = by (class == s.flat.host.class) refl where
  by : (same : Bool) → (class == s.flat.host.class) ≡ same → HasForm (carried_instr s pool class instr)
  by true is = rw (is) form
  by false is = rw (is) (index_keeps_form _ instr form)

pub carried_targets : (s : PlanScope) (pool : Constants) (class : ℕ) (instr : Instr) → targets (carried_instr s pool class instr) ≡ targets instr
carried_targets s pool class instr = by (class == s.flat.host.class) refl where
  by : (same : Bool) → (class == s.flat.host.class) ≡ same → targets (carried_instr s pool class instr) ≡ targets instr
  by true is = rw (is) refl
  by false is = rw (is) (index_keeps_targets _ instr)

-- ---- other targets

none_left : (numbers : List ℕ) → length numbers ≡ 0 → numbers ≡ []
none_left [] none = refl
none_left (number ∷ numbers) none = absurd (omega (arith, none))

pairs_targets : (pairs : List Pair) (numbers : List ℕ)
    → length (map (λ (p : Pair). p.to) pairs) ≡ length numbers
    → map (λ (p : Pair). p.to) (pairs_to pairs numbers) ≡ numbers
pairs_targets [] [] many = refl
pairs_targets [] (number ∷ numbers) many = absurd (omega (arith, many))
pairs_targets (pair ∷ pairs) [] many = absurd (omega (arith, many))
pairs_targets (pair ∷ pairs) (number ∷ numbers) many = ap (λ (rest : List ℕ). number ∷ rest) (pairs_targets pairs numbers (omega (arith, many)))

pairs_same : (pairs : List Pair) (numbers : List ℕ) → length (map (λ (p : Pair). p.to) pairs) ≡ length numbers
    → map (pair_to (λ _. 0)) (pairs_to pairs numbers) ≡ map (pair_to (λ _. 0)) pairs
pairs_same [] [] many = refl
pairs_same [] (number ∷ numbers) many = absurd (omega (arith, many))
pairs_same (pair ∷ pairs) [] many = absurd (omega (arith, many))
pairs_same (pair ∷ pairs) (number ∷ numbers) many =
    ap (λ (rest : List Pair). record { key = pair.key; to = 0 } ∷ rest) (pairs_same pairs numbers (omega (arith, many)))

-- the targets are the numbers that are given, if these are as many
pub jumping_targets : (numbers : List ℕ) (instr : Instr) → length (targets instr) ≡ length numbers → targets (jumping_to numbers instr) ≡ numbers
jumping_targets [] instr many = none_left (targets instr) many
jumping_targets (number ∷ numbers) Nop many = absurd (omega (arith, many))
jumping_targets (number ∷ numbers) (Const imm) many = absurd (omega (arith, many))
jumping_targets (number ∷ numbers) (Ldc index) many = absurd (omega (arith, many))
jumping_targets (number ∷ numbers) (Ldc2 index) many = absurd (omega (arith, many))
jumping_targets (number ∷ numbers) (Load kind local) many = absurd (omega (arith, many))
jumping_targets (number ∷ numbers) (Store kind local) many = absurd (omega (arith, many))
jumping_targets (number ∷ numbers) (Iinc local by) many = absurd (omega (arith, many))
jumping_targets (number ∷ numbers) (ArrayLoad opcode) many = absurd (omega (arith, many))
jumping_targets (number ∷ numbers) (ArrayStore opcode) many = absurd (omega (arith, many))
jumping_targets (number ∷ numbers) (Shuffle opcode) many = absurd (omega (arith, many))
jumping_targets (number ∷ numbers) (Pure opcode) many = absurd (omega (arith, many))
jumping_targets (number ∷ numbers) (Divide opcode) many = absurd (omega (arith, many))
jumping_targets (number ∷ numbers) (FloatAsk opcode) many = absurd (omega (arith, many))
jumping_targets (number ∷ numbers) (If opcode to) many = ap (λ (rest : List ℕ). number ∷ rest) (sym (none_left numbers (omega (arith, many))))
jumping_targets (number ∷ numbers) (If2 opcode to) many = ap (λ (rest : List ℕ). number ∷ rest) (sym (none_left numbers (omega (arith, many))))
jumping_targets (number ∷ numbers) (IfSame opcode to) many = ap (λ (rest : List ℕ). number ∷ rest) (sym (none_left numbers (omega (arith, many))))
jumping_targets (number ∷ numbers) (IfNull opcode to) many = ap (λ (rest : List ℕ). number ∷ rest) (sym (none_left numbers (omega (arith, many))))
jumping_targets (number ∷ numbers) (Goto to) many = ap (λ (rest : List ℕ). number ∷ rest) (sym (none_left numbers (omega (arith, many))))
jumping_targets (number ∷ numbers) (Table low other to) many = refl
jumping_targets (number ∷ numbers) (Lookup other pairs) many =
    ap (λ (rest : List ℕ). number ∷ rest) (pairs_targets pairs numbers (omega (arith, many)))
jumping_targets (number ∷ numbers) (Return kind) many = absurd (omega (arith, many))
jumping_targets (number ∷ numbers) (GetStatic index) many = absurd (omega (arith, many))
jumping_targets (number ∷ numbers) (PutStatic index) many = absurd (omega (arith, many))
jumping_targets (number ∷ numbers) (GetField index) many = absurd (omega (arith, many))
jumping_targets (number ∷ numbers) (PutField index) many = absurd (omega (arith, many))
jumping_targets (number ∷ numbers) (Invoke opcode index count) many = absurd (omega (arith, many))
jumping_targets (number ∷ numbers) (Dynamic index) many = absurd (omega (arith, many))
jumping_targets (number ∷ numbers) (New index) many = absurd (omega (arith, many))
jumping_targets (number ∷ numbers) (NewArray code) many = absurd (omega (arith, many))
jumping_targets (number ∷ numbers) (NewRefArray index) many = absurd (omega (arith, many))
jumping_targets (number ∷ numbers) (NewMulti index dimensions) many = absurd (omega (arith, many))
jumping_targets (number ∷ numbers) Length many = absurd (omega (arith, many))
jumping_targets (number ∷ numbers) Throw many = absurd (omega (arith, many))
jumping_targets (number ∷ numbers) (Cast index) many = absurd (omega (arith, many))
jumping_targets (number ∷ numbers) (InstanceOf index) many = absurd (omega (arith, many))
jumping_targets (number ∷ numbers) Enter many = absurd (omega (arith, many))
jumping_targets (number ∷ numbers) Leave many = absurd (omega (arith, many))

pub jumping_form : (numbers : List ℕ) (instr : Instr) → length (targets instr) ≡ length numbers → HasForm instr → HasForm (jumping_to numbers instr)
jumping_form [] instr many form = form
jumping_form (number ∷ numbers) Nop many form = form
jumping_form (number ∷ numbers) (Const imm) many form = form
jumping_form (number ∷ numbers) (Ldc index) many form = form
jumping_form (number ∷ numbers) (Ldc2 index) many form = form
jumping_form (number ∷ numbers) (Load kind local) many form = form
jumping_form (number ∷ numbers) (Store kind local) many form = form
jumping_form (number ∷ numbers) (Iinc local by) many form = form
jumping_form (number ∷ numbers) (ArrayLoad opcode) many form = form
jumping_form (number ∷ numbers) (ArrayStore opcode) many form = form
jumping_form (number ∷ numbers) (Shuffle opcode) many form = form
jumping_form (number ∷ numbers) (Pure opcode) many form = form
jumping_form (number ∷ numbers) (Divide opcode) many form = form
jumping_form (number ∷ numbers) (FloatAsk opcode) many form = form
jumping_form (number ∷ numbers) (If opcode to) many form = form
jumping_form (number ∷ numbers) (If2 opcode to) many form = form
jumping_form (number ∷ numbers) (IfSame opcode to) many form = form
jumping_form (number ∷ numbers) (IfNull opcode to) many form = form
jumping_form (number ∷ numbers) (Goto to) many form = form
jumping_form (number ∷ numbers) (Table low other to) many form =
    subst (λ (n : ℕ). (1 ≤ n) × (n ≤ 65535) × FitsSigned w32 (low +ℤ pos (n - 1)))
    (length-map to (λ _. 0) ∙ same ∙ sym (length-map numbers (λ _. 0))) form where
      same : length to ≡ length numbers
      same = omega (arith, many)
jumping_form (number ∷ numbers) (Lookup other pairs) many form =
    subst (λ (found : List Pair). (length found ≤ 65535) × IsTrue (keys_increase found)) (sym (pairs_same pairs numbers (omega (arith, many)))) form
jumping_form (number ∷ numbers) (Return kind) many form = form
jumping_form (number ∷ numbers) (GetStatic index) many form = form
jumping_form (number ∷ numbers) (PutStatic index) many form = form
jumping_form (number ∷ numbers) (GetField index) many form = form
jumping_form (number ∷ numbers) (PutField index) many form = form
jumping_form (number ∷ numbers) (Invoke opcode index count) many form = form
jumping_form (number ∷ numbers) (Dynamic index) many form = form
jumping_form (number ∷ numbers) (New index) many form = form
jumping_form (number ∷ numbers) (NewArray code) many form = form
jumping_form (number ∷ numbers) (NewRefArray index) many form = form
jumping_form (number ∷ numbers) (NewMulti index dimensions) many form = form
jumping_form (number ∷ numbers) Length many form = form
jumping_form (number ∷ numbers) Throw many form = form
jumping_form (number ∷ numbers) (Cast index) many form = form
jumping_form (number ∷ numbers) (InstanceOf index) many form = form
jumping_form (number ∷ numbers) Enter many form = form
jumping_form (number ∷ numbers) Leave many form = form
