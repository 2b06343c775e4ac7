-- What overriding comes to: the induction over what lies between, done once.
use Rattle.std.proofs.Common.{◌≡◌, ◌⊎◌, ◌↔◌, ◌&&◌, ◌||◌, not, Bool, true, false, IsTrue, refl, sym, ◌∙◌, inl, inr}
use Rattle.std.proofs.lemmas.Bool.{false≢true, both_ways, cases_Bool}
use Rattle.class_model.specs.Members.{has, PUBLIC, PRIVATE, PROTECTED, STATIC}
use Rattle.class_tree.specs.Headers.{Headers}
use Rattle.class_tree.specs.Laws.Above.{below_more}
use Rattle.member_link.specs.DeclaredMembers.{Declared, is_open}
use Rattle.member_link.specs.Found.{IsMethodFound}
use Rattle.member_link.specs.Inner.OpenMethods.{IsAbove, IsAnyOf, one_passes, none_passes, OpensPackage}
use Rattle.member_link.specs.declared.found.Found.{Found}
use Rattle.member_link.specs.Overriding.{MayOverride, Overrides, overrides_open, overrides_in_package, overrides_through, package_of}

-- a method above opens the package of another
abbrev pub IsOpened : Headers → Declared → Declared → Type 0
IsOpened headers low high = (middle : Declared) × IsAbove headers low middle × OpensPackage headers middle high

-- what one that may override another is asked besides
abbrev pub Reaches : Headers → Declared → Declared → Type 0
Reaches headers low high = IsTrue (is_open high.member) ⊎ ((package_of low.class ≡ package_of high.class) ⊎ IsOpened headers low high)

-- what is neither private nor open is of package access
package_access : (public protected private static : Bool) → (not private && not static) ≡ true → (public || protected) ≡ false → (not public && not protected && not private) ≡ true
package_access false false false static inherited closed = refl
package_access false false true static inherited closed = inherited
package_access false true private static inherited closed = absurd cc
package_access true protected private static inherited closed = absurd cc

module _ {headers : Headers} where
  pub may_of : {low high : Declared} → Overrides headers low high → MayOverride headers low high
  may_of (overrides_open low high may opens) = may
  may_of (overrides_in_package low high may access same) = may
  may_of (overrides_through low middle high may method one other) = may

  may_more : {low middle high : Declared} → MayOverride headers low middle → MayOverride headers middle high → MayOverride headers low high
  may_more one other = record {
    below = below_more one.below other.below;
    same_name = one.same_name ∙ other.same_name;
    same_desc = one.same_desc ∙ other.same_desc;
    low_inherited = one.low_inherited;
    high_inherited = other.high_inherited;
    no_init = other.no_init;
    no_clinit = other.no_clinit;
  }

  in_package : {low high : Declared} → MayOverride headers low high → package_of low.class ≡ package_of high.class → Overrides headers low high
  in_package {low} {high} may same =
      elim (cases_Bool (is_open high.member)) [
        | inl opens ↦ overrides_open low high may opens
        | inr closed ↦
            let flags = high.member.flags in
            overrides_in_package low high may (package_access (has flags PUBLIC) (has flags PROTECTED) (has flags PRIVATE) (has flags STATIC) may.high_inherited closed) same
      ]

  overrides_where : {low high : Declared} → MayOverride headers low high → Reaches headers low high → Overrides headers low high
  overrides_where {low} {high} may (inl opens) = overrides_open low high may opens
  overrides_where may (inr (inl same)) = in_package may same
  overrides_where {low} {high} may (inr (inr opened)) =
      let above = opened.1 in
      let middle = opened.2 in
      let through : MayOverride headers low opened.0 = record {
        below = above.below;
        same_name = sym above.same_name;
        same_desc = sym above.same_desc;
        low_inherited = may.low_inherited;
        high_inherited = middle.may.low_inherited;
        no_init = λ init. may.no_init (sym middle.may.same_name ∙ init);
        no_clinit = λ clinit. may.no_clinit (sym middle.may.same_name ∙ clinit);
      } in
      overrides_through low opened.0 high may above.method (overrides_open low opened.0 through middle.is_open) (in_package middle.may middle.same_package)

  reaches : {low high : Declared} → Overrides headers low high → Reaches headers low high
  reaches (overrides_open low high may opens) = inl opens
  reaches (overrides_in_package low high may access same) = inr (inl same)
  reaches (overrides_through low middle high may method one other) =
      let lower = may_of one in
      let upper = may_of other in
      elim (reaches other) [
        | inl opens ↦ inl opens
        | inr (inl same) ↦ elim (cases_Bool (is_open middle.member)) [
          | inl opens ↦ inr (inr (middle, record { method = method; below = lower.below; same_name = sym lower.same_name; same_desc = sym lower.same_desc }, record { may = upper; is_open = opens; same_package = same }))
          | inr closed ↦ elim (reaches one) [
            | inl opens ↦ absurd (both_ways (is_open middle.member) closed opens)
            | inr (inl also) ↦ inr (inl (also ∙ same))
            | inr (inr opened) ↦ inr (inr (opened.0, opened.1, record { may = may_more opened.2.may upper; is_open = opened.2.is_open; same_package = opened.2.same_package ∙ same }))
          ]
        ]
        | inr (inr opened) ↦
            let above = opened.1 in
            inr (inr (
              opened.0,
              record {
                method = above.method;
                below = below_more lower.below above.below;
                same_name = above.same_name ∙ sym lower.same_name;
                same_desc = above.same_desc ∙ sym lower.same_desc;
              },
              opened.2,
            ))
      ]

  -- a method overrides another where it may, and reaches it
  pub overriding_decided : {low high : Declared} → Overrides headers low high ↔ (MayOverride headers low high × Reaches headers low high)
  overriding_decided = (λ over. (may_of over, reaches over), λ both. overrides_where both.0 both.1)

-- whether a method above opens the package, by a test that tells of each
pub opened_by : {headers : Headers} {low high : Declared} (Answer : Found → Bool → Type 0) (result : Bool) → ((found : Found) (middle : Declared) (told : Bool) → IsMethodFound headers found middle → Answer found told → IsTrue told ↔ OpensPackage headers middle high) → IsAnyOf headers (IsAbove headers low) Answer result → IsTrue result ↔ IsOpened headers low high
opened_by Answer true tells (one_passes found middle is above answer) = (λ yes. (middle, above, (tells found middle true is answer).0 refl), λ opens. refl)
opened_by Answer false tells (none_passes none) = (
  λ yes. absurd (false≢true yes),
  λ opens. let met = none opens.0 opens.1 in (tells met.0 opens.0 false met.1 met.2).1 opens.2,
)
