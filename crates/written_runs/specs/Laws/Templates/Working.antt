-- An operation on operands whose operands are known, as the step of the first run.
use Rattle.std.proofs.Common.{◌≡◌, List, [], ◌∷◌, length, refl, arith}
use Rattle.std.proofs.lemmas.Bool.{le-leb}
use Rattle.machine_values.specs.Frames.{MethodState}
use Rattle.machine_values.specs.declared.frame.RunFrame.{RunFrame}
use Rattle.machine_values.specs.declared.value.Value.{Value}
use Rattle.member_link.specs.Machine.Ops.{Op}
use Rattle.member_link.specs.Machine.Performing.{perform}
use Rattle.member_link.specs.Machine.Programs.{Program}
use Rattle.member_link.specs.Machine.Stepping.{work_step}
use Rattle.member_link.specs.Machine.Work.{arity, work}
use Rattle.member_link.specs.Machine.Worlds.{World, stuck}

module _ (P : Program) (w : World) (f : MethodState) (rest : List RunFrame) (op : Op) where
  pub one_operand : (value : Value) (below : List Value) → arity op ≡ 1 → f.stack ≡ value ∷ below
      → work_step P w f rest op ≡ perform P w f (record f { stack = below }) rest (work P w.memory op (value ∷ []))
  one_operand value below many is = rw (many, is, le-leb 1 (length (value ∷ below)) (omega arith)) refl

  pub two_operands : (upper lower : Value) (below : List Value) → arity op ≡ 2 → f.stack ≡ upper ∷ lower ∷ below
      → work_step P w f rest op ≡ perform P w f (record f { stack = below }) rest (work P w.memory op (lower ∷ upper ∷ []))
  two_operands upper lower below many is = rw (many, is, le-leb 2 (length (upper ∷ lower ∷ below)) (omega arith)) refl

  -- without operands the run ends
  pub no_operands : arity op ≡ 1 → f.stack ≡ [] → (work_step P w f rest op).halt ≡ stuck
  no_operands many is = rw (many, is) refl

  pub no_two_operands : arity op ≡ 2 → f.stack ≡ [] → (work_step P w f rest op).halt ≡ stuck
  no_two_operands many is = rw (many, is) refl

  pub one_of_two : (value : Value) → arity op ≡ 2 → f.stack ≡ value ∷ [] → (work_step P w f rest op).halt ≡ stuck
  one_of_two value many is = rw (many, is) refl
