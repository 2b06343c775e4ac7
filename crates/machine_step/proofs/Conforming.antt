-- Descriptors of what arrays hold conform by their front, or by what stands behind a bracket.
use Rattle.std.proofs.Common.{◌≡◌, ◌==◌, ◌&&◌, ◌||◌, ◌<◌, ◌+◌, ℕ, Bool, true, false, cond, List, [], ◌∷◌, length, Option, Some, None, refl, sym, ap, ◌∙◌, arith}
use Rattle.class_tree.specs.Headers.{Name}
use Rattle.member_link.specs.Machine.Programs.{Program}
use Rattle.member_link.specs.Machine.Shapes.{both_conform, component_named, components_conform}
use Rattle.machine_step.specs.Inner.QuestionWords.{behind_bracket}

-- what stands behind brackets
abbrev pub rests_conform : Program → Option (List ℕ) → Option (List ℕ) → Bool
rests_conform P (Some low) (Some high) = components_conform P low high
rests_conform P low high = false

none_conforms : (P : Program) (low : Option Name) → both_conform P low None ≡ false
none_conforms P None = refl
none_conforms P (Some low) = refl

no_rest_conforms : (P : Program) (low : Option (List ℕ)) → rests_conform P low None ≡ false
no_rest_conforms P None = refl
no_rest_conforms P (Some low) = refl

pub components_step :
    (P : Program) (low high : List ℕ)
    → components_conform P low high
    ≡ (both_conform P (component_named low) (component_named high)
    || rests_conform P (behind_bracket low) (behind_bracket high))
components_step P [] high = refl
components_step P (low ∷ lows) [] =
    sym (ap (λ (b : Bool). b || rests_conform P (behind_bracket (low ∷ lows)) None) (none_conforms P (component_named (low ∷ lows)))
    ∙ no_rest_conforms P (behind_bracket (low ∷ lows)))
components_step P (low ∷ lows) (high ∷ highs) =
    ap (λ (b : Bool). both_conform P (component_named (low ∷ lows)) (component_named (high ∷ highs)) || b) (by (low == 91) (high == 91))
  where
    by :
        (one other : Bool)
        → (one && (other && components_conform P lows highs))
        ≡ rests_conform P (cond one (Some lows) None) (cond other (Some highs) None)
    by true true = refl
    by true false = refl
    by false other = refl

-- where the fronts do not conform
pub by_rests :
    (P : Program) (low high : List ℕ)
    → both_conform P (component_named low) (component_named high) ≡ false
    → components_conform P low high ≡ rests_conform P (behind_bracket low) (behind_bracket high)
by_rests P low high front =
    components_step P low high
    ∙ ap (λ (b : Bool). b || rests_conform P (behind_bracket low) (behind_bracket high)) front

pub by_fronts :
    (P : Program) (low high : List ℕ)
    → both_conform P (component_named low) (component_named high) ≡ true
    → components_conform P low high ≡ true
by_fronts P low high front =
    components_step P low high
    ∙ ap (λ (b : Bool). b || rests_conform P (behind_bracket low) (behind_bracket high)) front

pub without_low : (P : Program) (low high : Option (List ℕ)) → low ≡ None → rests_conform P low high ≡ false
without_low P low high none = ap (λ (o : Option (List ℕ)). rests_conform P o high) none

pub without_high : (P : Program) (low high : Option (List ℕ)) → high ≡ None → rests_conform P low high ≡ false
without_high P low high none = ap (rests_conform P low) none ∙ no_rest_conforms P low

pub shorter : (bytes rest : List ℕ) → Some rest ≡ behind_bracket bytes → length rest < length bytes
shorter [] rest is = absurd cc
shorter (first ∷ bytes) rest is = by (first == 91) is
  where
    by : (bracket : Bool) → Some rest ≡ cond bracket (Some bytes) None → length rest < length (first ∷ bytes)
    by true is = let same : rest ≡ bytes = cc in let e = ap length same in omega arith
    by false is = absurd cc
