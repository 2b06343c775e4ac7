-- Forms of instructions.
use Rattle.std.proofs.Common.{◌≡◌, ◌<◌, ◌≤◌, ◌&&◌, int_lt, ℕ, Bool, true, List, [], ◌∷◌, length, map, refl, sym, ap, subst, ◌∙◌, arith}
use Rattle.std.proofs.lemmas.List.{length-map}
use Rattle.class_model.specs.Instructions.{keys_increase}
use Rattle.class_model.specs.declared.instr.Instr.TheVariants.{IfNull, Lookup}
use Rattle.class_model.specs.declared.instr.Pair.{Pair}
use Rattle.member_link.specs.Targets.{pair_to, HasForm}

pub null_form : (opcode to : ℕ) → opcode ≡ 199 → HasForm (IfNull opcode to)
null_form opcode to is = subst (λ (one : ℕ). HasForm (IfNull one to)) (sym is) (refl, omega arith)

pub short_increases : (pairs : List Pair) → length pairs < 2 → keys_increase pairs ≡ true
short_increases [] few = refl
short_increases (first ∷ []) few = refl
short_increases (first ∷ second ∷ pairs) few = absurd (omega (arith, few))

keys_increase-map : (place : ℕ → ℕ) (pairs : List Pair) → keys_increase (map (pair_to place) pairs) ≡ keys_increase pairs
keys_increase-map place [] = refl
keys_increase-map place (first ∷ []) = refl
keys_increase-map place (first ∷ second ∷ pairs) = ap (λ (b : Bool). int_lt first.key second.key && b) (keys_increase-map place (second ∷ pairs))

pub lookup_form : (other : ℕ) (pairs : List Pair) → length pairs ≤ 65535 → keys_increase pairs ≡ true → HasForm (Lookup other pairs)
lookup_form other pairs few increase = (omega (arith, few, length-map pairs (pair_to (λ _. 0))), keys_increase-map (λ _. 0) pairs ∙ increase)
