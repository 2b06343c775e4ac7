-- The opposite of a conditional jump has the same form.
use Rattle.std.proofs.Common.{◌≡◌, ◌==◌, ℕ, Bool, true, false, Option, Some, if◌then◌else◌, refl, sym, ap, subst}
use Rattle.std.proofs.lemmas.Bool.{eqb-true}
use Rattle.class_model.specs.Instructions.{Jump2, Operands}
use Rattle.class_model.specs.declared.instr.Instr.{Instr}
use Rattle.class_model.specs.declared.instr.Instr.TheVariants.{If, If2, IfNull, IfSame}
use Rattle.class_model.specs.declared.opcodes.TheConstants.{IFEQ, IFGE, IFGT, IFLE, IFLT, IFNE, IFNONNULL, IFNULL, IF_ACMPEQ, IF_ACMPNE, IF_ICMPEQ, IF_ICMPGE, IF_ICMPGT, IF_ICMPLE, IF_ICMPLT, IF_ICMPNE}
use Rattle.code_bytes.specs.Encoding.{OpcodeTakes}
use Rattle.making_code.specs.Opposites.{opposite}

-- what holds of each opcode's opposite where it holds of the opcode
record Opposed (P : ℕ → Type 0) : Type 0 where
  eq : P IFEQ → P IFNE
  ne : P IFNE → P IFEQ
  lt : P IFLT → P IFGE
  ge : P IFGE → P IFLT
  gt : P IFGT → P IFLE
  le : P IFLE → P IFGT
  eq2 : P IF_ICMPEQ → P IF_ICMPNE
  ne2 : P IF_ICMPNE → P IF_ICMPEQ
  lt2 : P IF_ICMPLT → P IF_ICMPGE
  ge2 : P IF_ICMPGE → P IF_ICMPLT
  gt2 : P IF_ICMPGT → P IF_ICMPLE
  le2 : P IF_ICMPLE → P IF_ICMPGT
  same : P IF_ACMPEQ → P IF_ACMPNE
  other : P IF_ACMPNE → P IF_ACMPEQ
  null : P IFNULL → P IFNONNULL
  some : P IFNONNULL → P IFNULL

module _ (P : ℕ → Type 0) (opcode : ℕ) (p : P opcode) where
  step : (known made rest : ℕ) → (P known → P made) → P rest → P (if opcode == known then made else rest)
  step known made rest turn left = by (opcode == known) refl where
    by : (is : Bool) → (opcode == known) ≡ is → P (if opcode == known then made else rest)
    by true told = subst (λ (b : Bool). P (if b then made else rest)) (sym told) (turn (subst P (eqb-true opcode known told) p))
    by false told = subst (λ (b : Bool). P (if b then made else rest)) (sym told) left

  of-opposite : Opposed P → P (opposite opcode)
  of-opposite o =
      step IFEQ IFNE _ o.eq (step IFNE IFEQ _ o.ne (step IFLT IFGE _ o.lt (step IFGE IFLT _ o.ge (step IFGT IFLE _ o.gt (step IFLE IFGT _ o.le
      (step IF_ICMPEQ IF_ICMPNE _ o.eq2 (step IF_ICMPNE IF_ICMPEQ _ o.ne2 (step IF_ICMPLT IF_ICMPGE _ o.lt2 (step IF_ICMPGE IF_ICMPLT _ o.ge2
      (step IF_ICMPGT IF_ICMPLE _ o.gt2 (step IF_ICMPLE IF_ICMPGT _ o.le2 (step IF_ACMPEQ IF_ACMPNE _ o.same (step IF_ACMPNE IF_ACMPEQ _ o.other
      (step IFNULL IFNONNULL _ o.null (step IFNONNULL IFNULL _ o.some p)))))))))))))))

-- ---- the four sorts

-- the instruction that is made of operands, jumping to 0
made_of : Operands → Option Instr
made_of (Jump2 makes) = Some (makes 0)
made_of operands = Option.None

abbrev Takes : (ℕ → ℕ → Instr) → ℕ → Type 0
Takes makes opcode = OpcodeTakes opcode (Jump2 (makes opcode))

differ : (one other : ℕ → Instr) → Option.Some (Jump2 one) ≡ Option.Some (Jump2 other) → one 0 ≡ other 0
unfolding made_of
differ one other same =
    let made : Option.Some (one 0) ≡ Option.Some (other 0) = ap made_in same in cc where
      made_in : Option Operands → Option Instr
      made_in Option.None = Option.None
      made_in (Option.Some operands) = made_of operands

no_If_If2 : (o : ℕ) → Option.Some (Jump2 (If o)) ≡ Option.Some (Jump2 (If2 o)) → ⊥
no_If_If2 o is = let d : If o 0 ≡ If2 o 0 = differ (If o) (If2 o) is in cc

no_If_IfSame : (o : ℕ) → Option.Some (Jump2 (If o)) ≡ Option.Some (Jump2 (IfSame o)) → ⊥
no_If_IfSame o is = let d : If o 0 ≡ IfSame o 0 = differ (If o) (IfSame o) is in cc

no_If_IfNull : (o : ℕ) → Option.Some (Jump2 (If o)) ≡ Option.Some (Jump2 (IfNull o)) → ⊥
no_If_IfNull o is = let d : If o 0 ≡ IfNull o 0 = differ (If o) (IfNull o) is in cc

no_If2_If : (o : ℕ) → Option.Some (Jump2 (If2 o)) ≡ Option.Some (Jump2 (If o)) → ⊥
no_If2_If o is = let d : If2 o 0 ≡ If o 0 = differ (If2 o) (If o) is in cc

no_If2_IfSame : (o : ℕ) → Option.Some (Jump2 (If2 o)) ≡ Option.Some (Jump2 (IfSame o)) → ⊥
no_If2_IfSame o is = let d : If2 o 0 ≡ IfSame o 0 = differ (If2 o) (IfSame o) is in cc

no_If2_IfNull : (o : ℕ) → Option.Some (Jump2 (If2 o)) ≡ Option.Some (Jump2 (IfNull o)) → ⊥
no_If2_IfNull o is = let d : If2 o 0 ≡ IfNull o 0 = differ (If2 o) (IfNull o) is in cc

no_IfSame_If : (o : ℕ) → Option.Some (Jump2 (IfSame o)) ≡ Option.Some (Jump2 (If o)) → ⊥
no_IfSame_If o is = let d : IfSame o 0 ≡ If o 0 = differ (IfSame o) (If o) is in cc

no_IfSame_If2 : (o : ℕ) → Option.Some (Jump2 (IfSame o)) ≡ Option.Some (Jump2 (If2 o)) → ⊥
no_IfSame_If2 o is = let d : IfSame o 0 ≡ If2 o 0 = differ (IfSame o) (If2 o) is in cc

no_IfSame_IfNull : (o : ℕ) → Option.Some (Jump2 (IfSame o)) ≡ Option.Some (Jump2 (IfNull o)) → ⊥
no_IfSame_IfNull o is = let d : IfSame o 0 ≡ IfNull o 0 = differ (IfSame o) (IfNull o) is in cc

no_IfNull_If : (o : ℕ) → Option.Some (Jump2 (IfNull o)) ≡ Option.Some (Jump2 (If o)) → ⊥
no_IfNull_If o is = let d : IfNull o 0 ≡ If o 0 = differ (IfNull o) (If o) is in cc

no_IfNull_If2 : (o : ℕ) → Option.Some (Jump2 (IfNull o)) ≡ Option.Some (Jump2 (If2 o)) → ⊥
no_IfNull_If2 o is = let d : IfNull o 0 ≡ If2 o 0 = differ (IfNull o) (If2 o) is in cc

no_IfNull_IfSame : (o : ℕ) → Option.Some (Jump2 (IfNull o)) ≡ Option.Some (Jump2 (IfSame o)) → ⊥
no_IfNull_IfSame o is = let d : IfNull o 0 ≡ IfSame o 0 = differ (IfNull o) (IfSame o) is in cc

pub if_opposite : (opcode : ℕ) → Takes If opcode → Takes If (opposite opcode)
if_opposite opcode takes = of-opposite (Takes If) opcode takes (record {
  eq = λ is. refl;
  ne = λ is. refl;
  lt = λ is. refl;
  ge = λ is. refl;
  gt = λ is. refl;
  le = λ is. refl;
  eq2 = λ is. absurd (no_If2_If IF_ICMPEQ is);
  ne2 = λ is. absurd (no_If2_If IF_ICMPNE is);
  lt2 = λ is. absurd (no_If2_If IF_ICMPLT is);
  ge2 = λ is. absurd (no_If2_If IF_ICMPGE is);
  gt2 = λ is. absurd (no_If2_If IF_ICMPGT is);
  le2 = λ is. absurd (no_If2_If IF_ICMPLE is);
  same = λ is. absurd (no_IfSame_If IF_ACMPEQ is);
  other = λ is. absurd (no_IfSame_If IF_ACMPNE is);
  null = λ is. absurd (no_IfNull_If IFNULL is);
  some = λ is. absurd (no_IfNull_If IFNONNULL is);
})

pub if2_opposite : (opcode : ℕ) → Takes If2 opcode → Takes If2 (opposite opcode)
if2_opposite opcode takes = of-opposite (Takes If2) opcode takes (record {
  eq = λ is. absurd (no_If_If2 IFEQ is);
  ne = λ is. absurd (no_If_If2 IFNE is);
  lt = λ is. absurd (no_If_If2 IFLT is);
  ge = λ is. absurd (no_If_If2 IFGE is);
  gt = λ is. absurd (no_If_If2 IFGT is);
  le = λ is. absurd (no_If_If2 IFLE is);
  eq2 = λ is. refl;
  ne2 = λ is. refl;
  lt2 = λ is. refl;
  ge2 = λ is. refl;
  gt2 = λ is. refl;
  le2 = λ is. refl;
  same = λ is. absurd (no_IfSame_If2 IF_ACMPEQ is);
  other = λ is. absurd (no_IfSame_If2 IF_ACMPNE is);
  null = λ is. absurd (no_IfNull_If2 IFNULL is);
  some = λ is. absurd (no_IfNull_If2 IFNONNULL is);
})

pub same_opposite : (opcode : ℕ) → Takes IfSame opcode → Takes IfSame (opposite opcode)
same_opposite opcode takes = of-opposite (Takes IfSame) opcode takes (record {
  eq = λ is. absurd (no_If_IfSame IFEQ is);
  ne = λ is. absurd (no_If_IfSame IFNE is);
  lt = λ is. absurd (no_If_IfSame IFLT is);
  ge = λ is. absurd (no_If_IfSame IFGE is);
  gt = λ is. absurd (no_If_IfSame IFGT is);
  le = λ is. absurd (no_If_IfSame IFLE is);
  eq2 = λ is. absurd (no_If2_IfSame IF_ICMPEQ is);
  ne2 = λ is. absurd (no_If2_IfSame IF_ICMPNE is);
  lt2 = λ is. absurd (no_If2_IfSame IF_ICMPLT is);
  ge2 = λ is. absurd (no_If2_IfSame IF_ICMPGE is);
  gt2 = λ is. absurd (no_If2_IfSame IF_ICMPGT is);
  le2 = λ is. absurd (no_If2_IfSame IF_ICMPLE is);
  same = λ is. refl;
  other = λ is. refl;
  null = λ is. absurd (no_IfNull_IfSame IFNULL is);
  some = λ is. absurd (no_IfNull_IfSame IFNONNULL is);
})

pub null_opposite : (opcode : ℕ) → Takes IfNull opcode → Takes IfNull (opposite opcode)
null_opposite opcode takes = of-opposite (Takes IfNull) opcode takes (record {
  eq = λ is. absurd (no_If_IfNull IFEQ is);
  ne = λ is. absurd (no_If_IfNull IFNE is);
  lt = λ is. absurd (no_If_IfNull IFLT is);
  ge = λ is. absurd (no_If_IfNull IFGE is);
  gt = λ is. absurd (no_If_IfNull IFGT is);
  le = λ is. absurd (no_If_IfNull IFLE is);
  eq2 = λ is. absurd (no_If2_IfNull IF_ICMPEQ is);
  ne2 = λ is. absurd (no_If2_IfNull IF_ICMPNE is);
  lt2 = λ is. absurd (no_If2_IfNull IF_ICMPLT is);
  ge2 = λ is. absurd (no_If2_IfNull IF_ICMPGE is);
  gt2 = λ is. absurd (no_If2_IfNull IF_ICMPGT is);
  le2 = λ is. absurd (no_If2_IfNull IF_ICMPLE is);
  same = λ is. absurd (no_IfSame_IfNull IF_ACMPEQ is);
  other = λ is. absurd (no_IfSame_IfNull IF_ACMPNE is);
  null = λ is. refl;
  some = λ is. refl;
})
