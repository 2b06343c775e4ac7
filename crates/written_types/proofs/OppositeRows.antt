-- The opposite of a conditional jump: it takes the same operands, and leads where its target says.
use Rattle.std.proofs.Common.{◌≡◌, ℕ, Bool, true, false, List, [], ◌∷◌, length, Some, if◌then◌else◌, refl, sym, ap, subst, ◌∙◌}
use Rattle.std.specs.Prelude.{◌==◌, ◌&&◌, nat_le}
use Rattle.std.proofs.lemmas.Bool.{eqb-true, false≢true}
use Rattle.std.proofs.lemmas.Option.{none-some, same_Some}
use Rattle.class_model.specs.Instructions.{targets}
use Rattle.class_model.specs.declared.descriptor.Kind.TheVariants as kinds
use Rattle.class_model.specs.declared.frame.Frame.{Frame}
use Rattle.class_model.specs.declared.instr.Instr.{Instr}
use Rattle.class_model.specs.declared.instr.Instr.TheVariants.{If, If2, IfSame, IfNull}
use Rattle.class_model.specs.declared.opcodes.TheConstants.{IFEQ, IFGE, IFGT, IFLE, IFLT, IFNE, IFNONNULL, IFNULL, IF_ACMPEQ, IF_ACMPNE, IF_ICMPEQ, IF_ICMPGE, IF_ICMPGT, IF_ICMPLE, IF_ICMPLT, IF_ICMPNE}
use Rattle.class_model.specs.Pool.{Constants}
use Rattle.making_code.specs.Opposites.{opposite, opposite_instr}
use Rattle.member_link.specs.Bodies.{falls_through}
use Rattle.member_link.specs.RowScope.{RowScope}
use Rattle.member_link.specs.Rows.Operands.{Need, of_kind}
use Rattle.member_link.specs.Rows.Row.{access_aside, plain}
use Rattle.member_link.specs.Rows.Table.{jump_row, row_of}
use Rattle.plan_flow.specs.PlanScope.{PlanScope}
use Rattle.plan_flow.specs.Written.WrittenCode.{jumping_to}
use Rattle.plan_flow.specs.Written.WrittenConstants.{carried_instr, with_index}
use Rattle.written_types.proofs.OperandRows.{Fit, no_operand}
use Rattle.written_types.specs.HeldRows.{RowFits}

-- ---- opcodes of a family

abbrev Keeps : (ℕ → Bool) → ℕ → ℕ → Type 0
Keeps known one other = known one ≡ true → known other ≡ true

pub record KeepsPairs (known : ℕ → Bool) : Type 0 where
  pub eq : Keeps known IFEQ IFNE
  pub ne : Keeps known IFNE IFEQ
  pub lt : Keeps known IFLT IFGE
  pub ge : Keeps known IFGE IFLT
  pub gt : Keeps known IFGT IFLE
  pub le : Keeps known IFLE IFGT
  pub icmp_eq : Keeps known IF_ICMPEQ IF_ICMPNE
  pub icmp_ne : Keeps known IF_ICMPNE IF_ICMPEQ
  pub icmp_lt : Keeps known IF_ICMPLT IF_ICMPGE
  pub icmp_ge : Keeps known IF_ICMPGE IF_ICMPLT
  pub icmp_gt : Keeps known IF_ICMPGT IF_ICMPLE
  pub icmp_le : Keeps known IF_ICMPLE IF_ICMPGT
  pub acmp_eq : Keeps known IF_ACMPEQ IF_ACMPNE
  pub acmp_ne : Keeps known IF_ACMPNE IF_ACMPEQ
  pub null : Keeps known IFNULL IFNONNULL
  pub nonnull : Keeps known IFNONNULL IFNULL

choose : (known : ℕ → Bool) (opcode one to other : ℕ) → known opcode ≡ true → Keeps known one to → known other ≡ true
    → known (if opcode == one then to else other) ≡ true
choose known opcode one to other is keeps rest = by (opcode == one) refl where
  by : (b : Bool) → (opcode == one) ≡ b → known (if b then to else other) ≡ true
  by true same = keeps (ap known (sym (eqb-true opcode one same)) ∙ is)
  by false differs = rest

opposite_known : (known : ℕ → Bool) → KeepsPairs known → (opcode : ℕ) → known opcode ≡ true → known (opposite opcode) ≡ true
opposite_known known k opcode is =
    choose known opcode IFEQ IFNE _ is k.eq (choose known opcode IFNE IFEQ _ is k.ne (choose known opcode IFLT IFGE _ is k.lt
    (choose known opcode IFGE IFLT _ is k.ge (choose known opcode IFGT IFLE _ is k.gt (choose known opcode IFLE IFGT _ is k.le
    (choose known opcode IF_ICMPEQ IF_ICMPNE _ is k.icmp_eq (choose known opcode IF_ICMPNE IF_ICMPEQ _ is k.icmp_ne
    (choose known opcode IF_ICMPLT IF_ICMPGE _ is k.icmp_lt (choose known opcode IF_ICMPGE IF_ICMPLT _ is k.icmp_ge
    (choose known opcode IF_ICMPGT IF_ICMPLE _ is k.icmp_gt (choose known opcode IF_ICMPLE IF_ICMPGT _ is k.icmp_le
    (choose known opcode IF_ACMPEQ IF_ACMPNE _ is k.acmp_eq (choose known opcode IF_ACMPNE IF_ACMPEQ _ is k.acmp_ne
    (choose known opcode IFNULL IFNONNULL _ is k.null (choose known opcode IFNONNULL IFNULL opcode is k.nonnull is)))))))))))))))

of_if : KeepsPairs (λ opcode. nat_le IFEQ opcode && nat_le opcode IFLE)
of_if = record {
  eq = λ is. refl;
  ne = λ is. refl;
  lt = λ is. refl;
  ge = λ is. refl;
  gt = λ is. refl;
  le = λ is. refl;
  icmp_eq = λ is. absurd (false≢true is);
  icmp_ne = λ is. absurd (false≢true is);
  icmp_lt = λ is. absurd (false≢true is);
  icmp_ge = λ is. absurd (false≢true is);
  icmp_gt = λ is. absurd (false≢true is);
  icmp_le = λ is. absurd (false≢true is);
  acmp_eq = λ is. absurd (false≢true is);
  acmp_ne = λ is. absurd (false≢true is);
  null = λ is. absurd (false≢true is);
  nonnull = λ is. absurd (false≢true is);
}

of_icmp : KeepsPairs (λ opcode. nat_le IF_ICMPEQ opcode && nat_le opcode IF_ICMPLE)
of_icmp = record {
  eq = λ is. absurd (false≢true is);
  ne = λ is. absurd (false≢true is);
  lt = λ is. absurd (false≢true is);
  ge = λ is. absurd (false≢true is);
  gt = λ is. absurd (false≢true is);
  le = λ is. absurd (false≢true is);
  icmp_eq = λ is. refl;
  icmp_ne = λ is. refl;
  icmp_lt = λ is. refl;
  icmp_ge = λ is. refl;
  icmp_gt = λ is. refl;
  icmp_le = λ is. refl;
  acmp_eq = λ is. absurd (false≢true is);
  acmp_ne = λ is. absurd (false≢true is);
  null = λ is. absurd (false≢true is);
  nonnull = λ is. absurd (false≢true is);
}

of_acmp : KeepsPairs (λ opcode. nat_le IF_ACMPEQ opcode && nat_le opcode IF_ACMPNE)
of_acmp = record {
  eq = λ is. absurd (false≢true is);
  ne = λ is. absurd (false≢true is);
  lt = λ is. absurd (false≢true is);
  ge = λ is. absurd (false≢true is);
  gt = λ is. absurd (false≢true is);
  le = λ is. absurd (false≢true is);
  icmp_eq = λ is. absurd (false≢true is);
  icmp_ne = λ is. absurd (false≢true is);
  icmp_lt = λ is. absurd (false≢true is);
  icmp_ge = λ is. absurd (false≢true is);
  icmp_gt = λ is. absurd (false≢true is);
  icmp_le = λ is. absurd (false≢true is);
  acmp_eq = λ is. refl;
  acmp_ne = λ is. refl;
  null = λ is. absurd (false≢true is);
  nonnull = λ is. absurd (false≢true is);
}

of_nulls : KeepsPairs (λ opcode. nat_le IFNULL opcode && nat_le opcode IFNONNULL)
of_nulls = record {
  eq = λ is. absurd (false≢true is);
  ne = λ is. absurd (false≢true is);
  lt = λ is. absurd (false≢true is);
  ge = λ is. absurd (false≢true is);
  gt = λ is. absurd (false≢true is);
  le = λ is. absurd (false≢true is);
  icmp_eq = λ is. absurd (false≢true is);
  icmp_ne = λ is. absurd (false≢true is);
  icmp_lt = λ is. absurd (false≢true is);
  icmp_ge = λ is. absurd (false≢true is);
  icmp_gt = λ is. absurd (false≢true is);
  icmp_le = λ is. absurd (false≢true is);
  acmp_eq = λ is. absurd (false≢true is);
  acmp_ne = λ is. absurd (false≢true is);
  null = λ is. refl;
  nonnull = λ is. refl;
}

-- ---- rows

-- a jump of a family whose row fits is known, and so is its opposite
jump_opposite : (s : RowScope) (f : Frame) (known : ℕ → Bool) (takes : List Need) (opcode : ℕ) → KeepsPairs known
    → RowFits s f (access_aside (jump_row f (known opcode) takes))
    → (jump_row f (known (opposite opcode)) takes ≡ plain f takes []) × (jump_row f (known opcode) takes ≡ plain f takes [])
jump_opposite s f known takes opcode keeps fits = by (known opcode) refl fits.operands where
  by : (b : Bool) → known opcode ≡ b → Fit s f (access_aside (jump_row f b takes))
      → (jump_row f (known (opposite opcode)) takes ≡ plain f takes []) × (jump_row f (known opcode) takes ≡ plain f takes [])
  by true is fit = (rw (opposite_known known keeps opcode is) refl, rw is refl)
  by false is fit = absurd (no_operand s f fit)

-- The opposite has the row of the jump, which goes on.
pub same_row : (s : RowScope) (f : Frame) (at new : ℕ) (instr other : Instr) → opposite_instr instr ≡ Some other
    → RowFits s f (access_aside (row_of s f at (with_index new instr)))
    → row_of s f at other ≡ row_of s f at (with_index new instr)
same_row s f at new (If opcode to) other is fits =
    let rows = jump_opposite s f (λ opcode. nat_le IFEQ opcode && nat_le opcode IFLE) (of_kind kinds.Int ∷ []) opcode of_if fits in
    ap (row_of s f at) (sym (same_Some _ other is)) ∙ rows.0 ∙ sym rows.1
same_row s f at new (If2 opcode to) other is fits =
    let rows = jump_opposite s f (λ opcode. nat_le IF_ICMPEQ opcode && nat_le opcode IF_ICMPLE) (of_kind kinds.Int ∷ of_kind kinds.Int ∷ []) opcode of_icmp fits in
    ap (row_of s f at) (sym (same_Some _ other is)) ∙ rows.0 ∙ sym rows.1
same_row s f at new (IfSame opcode to) other is fits =
    let rows = jump_opposite s f (λ opcode. nat_le IF_ACMPEQ opcode && nat_le opcode IF_ACMPNE) (of_kind kinds.Ref ∷ of_kind kinds.Ref ∷ []) opcode of_acmp fits in
    ap (row_of s f at) (sym (same_Some _ other is)) ∙ rows.0 ∙ sym rows.1
same_row s f at new (IfNull opcode to) other is fits =
    let rows = jump_opposite s f (λ opcode. nat_le IFNULL opcode && nat_le opcode IFNONNULL) (of_kind kinds.Ref ∷ []) opcode of_nulls fits in
    ap (row_of s f at) (sym (same_Some _ other is)) ∙ rows.0 ∙ sym rows.1
same_row s f at new instr other is fits = absurd (none-some other is)

-- ---- opposites

unnamed : (s : PlanScope) (pool : Constants) (class : ℕ) (instr : Instr) → ((index : ℕ) → with_index index instr ≡ instr)
    → carried_instr s pool class instr ≡ instr
unnamed s pool class instr same = by (class == s.flat.host.class) refl where
  by : (b : Bool) → (class == s.flat.host.class) ≡ b → carried_instr s pool class instr ≡ instr
  by true is = rw is refl
  by false is = rw is (same _)

-- it names no constant
pub opposite_carried : (s : PlanScope) (pool : Constants) (class : ℕ) (instr other : Instr) → opposite_instr instr ≡ Some other
    → carried_instr s pool class other ≡ other
opposite_carried s pool class (If opcode to) other is = subst (λ (x : Instr). carried_instr s pool class x ≡ x) (same_Some _ other is) (unnamed s pool class (If (opposite opcode) to) (λ index. refl))
opposite_carried s pool class (If2 opcode to) other is = subst (λ (x : Instr). carried_instr s pool class x ≡ x) (same_Some _ other is) (unnamed s pool class (If2 (opposite opcode) to) (λ index. refl))
opposite_carried s pool class (IfSame opcode to) other is = subst (λ (x : Instr). carried_instr s pool class x ≡ x) (same_Some _ other is) (unnamed s pool class (IfSame (opposite opcode) to) (λ index. refl))
opposite_carried s pool class (IfNull opcode to) other is = subst (λ (x : Instr). carried_instr s pool class x ≡ x) (same_Some _ other is) (unnamed s pool class (IfNull (opposite opcode) to) (λ index. refl))
opposite_carried s pool class instr other is = absurd (none-some other is)

-- it falls through, and jumps to one target
pub opposite_jumps : (number : ℕ) (instr other : Instr) → opposite_instr instr ≡ Some other
    → (targets (jumping_to (number ∷ []) other) ≡ number ∷ []) × (falls_through (jumping_to (number ∷ []) other) ≡ true)
opposite_jumps number (If opcode to) other is =
    subst (λ (x : Instr). (targets (jumping_to (number ∷ []) x) ≡ number ∷ []) × (falls_through (jumping_to (number ∷ []) x) ≡ true)) (same_Some _ other is) (refl, refl)
opposite_jumps number (If2 opcode to) other is =
    subst (λ (x : Instr). (targets (jumping_to (number ∷ []) x) ≡ number ∷ []) × (falls_through (jumping_to (number ∷ []) x) ≡ true)) (same_Some _ other is) (refl, refl)
opposite_jumps number (IfSame opcode to) other is =
    subst (λ (x : Instr). (targets (jumping_to (number ∷ []) x) ≡ number ∷ []) × (falls_through (jumping_to (number ∷ []) x) ≡ true)) (same_Some _ other is) (refl, refl)
opposite_jumps number (IfNull opcode to) other is =
    subst (λ (x : Instr). (targets (jumping_to (number ∷ []) x) ≡ number ∷ []) × (falls_through (jumping_to (number ∷ []) x) ≡ true)) (same_Some _ other is) (refl, refl)
opposite_jumps number instr other is = absurd (none-some other is)

pub opposite_falls : (instr other : Instr) → opposite_instr instr ≡ Some other → falls_through instr ≡ true
opposite_falls (If opcode to) other is = refl
opposite_falls (If2 opcode to) other is = refl
opposite_falls (IfSame opcode to) other is = refl
opposite_falls (IfNull opcode to) other is = refl
opposite_falls instr other is = absurd (none-some other is)

pub opposite_one : (instr other : Instr) → opposite_instr instr ≡ Some other → length (targets instr) ≡ 1
opposite_one (If opcode to) other is = refl
opposite_one (If2 opcode to) other is = refl
opposite_one (IfSame opcode to) other is = refl
opposite_one (IfNull opcode to) other is = refl
opposite_one instr other is = absurd (none-some other is)
