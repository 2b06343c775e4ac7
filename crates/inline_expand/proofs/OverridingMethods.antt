-- Methods of the folder that override a method.
use Rattle.std.proofs.Common.{◌≡◌, ◌+◌, ◌<◌, ◌≤◌, ℕ, List, length, slice_get, Some, sym, ap, subst, ◌∙◌, inl, inr, arith}
use Rattle.std.proofs.lemmas.Bool.{cases_eq}
use Rattle.std.proofs.lemmas.Option.{same_Some, slice_get_cases, slice_get_within}
use Rattle.class_model.specs.declared.header.Member.{Member}
use Rattle.class_tree.specs.Headers.{Headers}
use Rattle.expanded_code.specs.Callees.{IsOverriddenByNone}
use Rattle.inline_expand.specs.Inner.FolderMethods.{AreAlike}
use Rattle.member_link.specs.DeclaredMembers.{Declared}
use Rattle.member_link.specs.Found.{IsMethodFound}
use Rattle.member_link.specs.Overriding.{MayOverride, Overrides, overrides_in_package, overrides_open, overrides_through}
use Rattle.member_link.specs.declared.found.Found.{Found}

pub may_of : {headers : Headers} {low high : Declared} → Overrides headers low high → MayOverride headers low high
may_of (overrides_open low high may is_open) = may
may_of (overrides_in_package low high may access same) = may
may_of (overrides_through low middle high may is to from) = may

-- what is found at a place within a list
pub found_at : (lows : List Found) (index : ℕ) → index < length lows → (found : Found) × (slice_get lows index ≡ Some found)
found_at lows index within = elim (slice_get_cases lows index).1 [
  | inl here ↦ (here.0, here.2)
  | inr past ↦ absurd (omega (arith, within, past.0))
]

-- none of the first so many that are found overrides it
pub record NoneAmong (headers : Headers) (high : Declared) (lows : List Found) (count : ℕ) : Type 0 where
  pub none : (index : ℕ) (found : Found) (low : Declared) → index < count → slice_get lows index ≡ Some found → IsMethodFound headers found low → ¬ Overrides headers low high

module _ (headers : Headers) (high : Declared) (lows : List Found) where
  -- one more
  pub none_more : (count : ℕ) (found : Found) → slice_get lows count ≡ Some found → ((low : Declared) → IsMethodFound headers found low → ¬ Overrides headers low high) → NoneAmong headers high lows count → NoneAmong headers high lows (count + 1)
  none_more count found at not before = record {
    none = λ index other low below is low_is. elim (cases_eq index count) [
      | inl same ↦
          let one : other ≡ found = same_Some other found (sym is ∙ ap (slice_get lows) same ∙ at) in
          not low (subst (λ (f : Found). IsMethodFound headers f low) one low_is)
      | inr differs ↦ before.none index other low (omega (arith, differs, below)) is low_is
    ];
  }

  module _ (method : Member) (alike : AreAlike headers method lows) (same : method ≡ high.member) where
    -- where none of them does, no method of the folder does
    pub none_at_all : (count : ℕ) → length lows ≤ count → NoneAmong headers high lows count → IsOverriddenByNone headers high
    none_at_all count past before = λ low folder overrides.
        let may = may_of overrides in
        let among = alike.each low folder (may.same_name ∙ ap (λ (m : Member). m.name) (sym same)) (may.same_desc ∙ ap (λ (m : Member). m.desc) (sym same)) in
        let inside = slice_get_within lows among.index among.found among.at in
        before.none among.index among.found low (omega (arith, inside, past)) among.at among.is overrides

    -- and where one of them does, one does
    pub one_overrides : (index : ℕ) (found : Found) → slice_get lows index ≡ Some found → ((low : Declared) → IsMethodFound headers found low → Overrides headers low high) → ¬ IsOverriddenByNone headers high
    one_overrides index found at overrides none =
        let low = alike.found index found at in
        none low.method low.of_folder (overrides low.method low.is)
