-- Methods among those of a list.
use Rattle.std.proofs.Common.{◌≡◌, ◌≢◌, ◌⊎◌, ℕ, zero, suc, ◌<◌, List, [], ◌∷◌, ◌++◌, length, Option, Some, None, get_or, refl, sym, subst, ◌∙◌, inl, inr, arith, Bool, true, is_some}
use Rattle.class_model.specs.declared.class_file.MethodAt.{MethodAt}
use Rattle.inline_expand.proofs.Walking.{same_method}
use Rattle.inline_expand.specs.Inner.MethodSets.{Adds, AddsAll}
use Rattle.inline_expand.specs.Inner.SeenMethods.{AreAmong}
use Rattle.inline_expand.specs.Inner.Stacks.{IsAmong}
use Rattle.inline_expand.specs.Inner.Verdicts.{AreSame, Judges, verdict}
use Rattle.inline_expand.specs.declared.verdicts.Verdicts.{Verdicts}

pub among_front : (methods more : List MethodAt) (at : MethodAt) → IsAmong methods at → IsAmong (methods ++ more) at
among_front [] more at none = elim none [ ]
among_front (first ∷ methods) more at (inl e) = inl e
among_front (first ∷ methods) more at (inr is) = inr (among_front methods more at is)

pub among_last : (methods : List MethodAt) (at : MethodAt) → IsAmong (methods ++ at ∷ []) at
among_last [] at = inl refl
among_last (first ∷ methods) at = inr (among_last methods at)

pub among_more : (methods : List MethodAt) (last at : MethodAt) → IsAmong (methods ++ last ∷ []) at → IsAmong methods at ⊎ (at ≡ last)
among_more [] last at (inl e) = inr e
among_more [] last at (inr none) = elim none [ ]
among_more (first ∷ methods) last at (inl e) = inl (inl e)
among_more (first ∷ methods) last at (inr is) = behind (among_more methods last at is) where
  behind : IsAmong methods at ⊎ (at ≡ last) → IsAmong (first ∷ methods) at ⊎ (at ≡ last)
  behind (inl among) = inl (inr among)
  behind (inr e) = inr e

-- ---- sets

pub adds_last : (before after : List MethodAt) (at : MethodAt) → after ≡ before ++ at ∷ [] → Adds before after at
adds_last before after at is =
    subst (λ (list : List MethodAt). Adds before list at) (sym is)
    (record { keeps = λ other among. among_front before (at ∷ []) other among; here = among_last before at; only = λ other among. among_more before at other among })

pub adds_none : (seen : Verdicts) (before : List MethodAt) (at : MethodAt) (found : Option Bool) → AreAmong seen before → found ≡ verdict seen at → is_some found ≡ true → Adds before before at
adds_none seen before at None are is some = absurd cc
adds_none seen before at (Some known) are is some = record {
  keeps = λ other among. among;
  here = are at (λ none. absurd (cc (is ∙ none)));
  only = λ other among. inl among;
}

pub stay_among : (seen after : Verdicts) (before methods : List MethodAt) (at : MethodAt) → AreAmong seen before → methods ≡ before ++ at ∷ [] → AreSame seen after → AreAmong after methods
stay_among seen after before methods at are is same =
    λ other known. subst (λ (list : List MethodAt). IsAmong list other) (sym is)
    (among_front before (at ∷ []) other (are other (λ none. known (same other ∙ none))))

pub come_among : (seen after : Verdicts) (before methods : List MethodAt) (at : MethodAt) → AreAmong seen before → methods ≡ before ++ at ∷ [] → Judges seen after at true → AreAmong after methods
come_among seen after before methods at are is judges =
    λ other known. subst (λ (list : List MethodAt). IsAmong list other) (sym is) (by other known (same_method other at)) where
      by : (other : MethodAt) → verdict after other ≢ None → (other ≡ at) ⊎ (other ≢ at) → IsAmong (before ++ at ∷ []) other
      by other known (inl e) = subst (λ (m : MethodAt). IsAmong (before ++ at ∷ []) m) (sym e) (among_last before at)
      by other known (inr apart) = among_front before (at ∷ []) other (are other (λ none. known (judges.apart other apart ∙ none)))

pub adds_one_more : (first before after methods more : List MethodAt) (at : MethodAt) → AddsAll first before methods → Adds before after at → more ≡ methods ++ at ∷ [] → AddsAll first after more
adds_one_more first before after methods more at all adds is =
    subst (AddsAll first after) (sym is) (record {
      keeps = λ other among. adds.keeps other (all.keeps other among);
      here = λ other among. here other (among_more methods at other among);
      only = λ other among. only other (adds.only other among);
    }) where
      here : (other : MethodAt) → IsAmong methods other ⊎ (other ≡ at) → IsAmong after other
      here other (inl among) = adds.keeps other (all.here other among)
      here other (inr e) = subst (IsAmong after) (sym e) adds.here

      front : (other : MethodAt) → IsAmong first other ⊎ IsAmong methods other → IsAmong first other ⊎ IsAmong (methods ++ at ∷ []) other
      front other (inl among) = inl among
      front other (inr among) = inr (among_front methods (at ∷ []) other among)

      only : (other : MethodAt) → IsAmong before other ⊎ (other ≡ at) → IsAmong first other ⊎ IsAmong (methods ++ at ∷ []) other
      only other (inl among) = front other (all.only other among)
      only other (inr e) = inr (subst (IsAmong (methods ++ at ∷ [])) (sym e) (among_last methods at))

pub among_at : (methods : List MethodAt) (number : ℕ) (other : MethodAt) → number < length methods → IsAmong methods (get_or methods number other)
among_at [] number other within = absurd (omega arith)
among_at (first ∷ methods) zero other within = inl refl
among_at (first ∷ methods) (suc number) other within = inr (among_at methods number other (omega (arith, within)))
