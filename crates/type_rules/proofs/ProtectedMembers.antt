-- Protected members, decided part by part.
use Rattle.std.proofs.Common.{◌≡◌, ◌≢◌, ◌↔◌, Bool, true, false, not, IsTrue, ℕ, List, bytes_eq, Option, Some, None, refl, sym, subst, ◌∙◌}
use Rattle.std.proofs.lemmas.Bool.{false≢true}
use Rattle.std.proofs.lemmas.Slice.Eq.{bytes_eq-Decides}
use Rattle.class_model.specs.Members.{has, PROTECTED}
use Rattle.class_model.specs.declared.frame.VType.{VType}
use Rattle.class_model.specs.declared.frame.VType.TheVariants as types
use Rattle.member_link.specs.DeclaredMembers.{Declared}
use Rattle.member_link.specs.Overriding.{package_of}
use Rattle.member_link.specs.References.{Reference}
use Rattle.member_link.specs.RowScope.{RowScope}
use Rattle.member_link.specs.Rows.MemberRows.{PassesProtected}
use Rattle.type_rules.specs.Inner.Protected.{IsBound, IsForeign, Lends}

module _ (s : RowScope) (reference : Reference) (Finds : Option Declared → Type 0) where
  -- a foreign member that passes is lent
  lent : (receiver : VType) (member : Declared) → Finds (Some member) → IsForeign s (Some member) → IsBound s reference receiver → PassesProtected s reference Finds receiver → Lends s reference receiver
  lent (types.Object name) member finds foreign bound passes = passes member finds foreign.0 foreign.1 bound.1
  lent types.Top member finds foreign bound passes = passes member finds foreign.0 foreign.1 bound.1
  lent types.Int member finds foreign bound passes = passes member finds foreign.0 foreign.1 bound.1
  lent types.Float member finds foreign bound passes = passes member finds foreign.0 foreign.1 bound.1
  lent types.Long member finds foreign bound passes = passes member finds foreign.0 foreign.1 bound.1
  lent types.Double member finds foreign bound passes = passes member finds foreign.0 foreign.1 bound.1
  lent types.Null member finds foreign bound passes = passes member finds foreign.0 foreign.1 bound.1
  lent types.UninitThis member finds foreign bound passes = passes member finds foreign.0 foreign.1 bound.1
  lent (types.Uninit at) member finds foreign bound passes = passes member finds foreign.0 foreign.1 bound.1

  module _ (member : Option Declared) (finds : Finds member) (once : (one other : Option Declared) → Finds one → Finds other → one ≡ other) where
    not_foreign : (foreign : Bool) → (IsTrue foreign ↔ IsForeign s member) → IsTrue (not foreign) → ¬ IsForeign s member
    not_foreign true is e = absurd cc
    not_foreign false is e = λ h. absurd (cc (is.1 h))

    unlent : (receiver : VType) (found : Option Declared) → member ≡ found → IsForeign s found → IsBound s reference receiver → PassesProtected s reference Finds receiver → ⊥
    unlent receiver None e foreign bound passes = foreign
    unlent receiver (Some own) e foreign bound passes = bound.0 (lent receiver own (subst Finds e finds) foreign bound passes)

    known : (foreign : Bool) → (IsTrue foreign ↔ IsForeign s member) → (receiver : VType) → IsBound s reference receiver → PassesProtected s reference Finds receiver → IsTrue (not foreign)
    known true is receiver bound passes = absurd (unlent receiver member refl (is.0 refl) bound passes)
    known false is receiver bound passes = refl

    pub bound_passes : (foreign : Bool) → (IsTrue foreign ↔ IsForeign s member) → (receiver : VType) → IsBound s reference receiver → IsTrue (not foreign) ↔ PassesProtected s reference Finds receiver
    bound_passes foreign is receiver bound = (
      λ e own found protected other below. absurd (not_foreign foreign is e (subst (IsForeign s) (once (Some own) member found finds) (protected, other))),
      known foreign is receiver bound,
    )

    -- a member that is not foreign
    same_package : (one other : List ℕ) → ¬ (one ≢ other) → one ≡ other
    same_package one other h = by (bytes_eq one other) refl where
      by : (same : Bool) → bytes_eq one other ≡ same → one ≡ other
      by true e = (bytes_eq-Decides one other).0 e
      by false e = absurd (h (λ equal. false≢true (sym e ∙ (bytes_eq-Decides one other).1 equal)))

    no_foreign : (found : Option Declared) → member ≡ found → ((own : Declared) → Finds (Some own) → IsTrue (has own.member.flags PROTECTED) → package_of own.class ≡ package_of s.own.name) → ¬ IsForeign s found
    no_foreign None e own_package foreign = foreign
    no_foreign (Some own) e own_package foreign = foreign.1 (own_package own (subst Finds e finds) foreign.0)

    foreign_refused : (foreign : Bool) → (IsTrue foreign ↔ IsForeign s member) → ¬ IsForeign s member → IsTrue (not foreign)
    foreign_refused true is none = absurd (none (is.0 refl))
    foreign_refused false is none = refl

    pub own_package : (foreign : Bool) → (IsTrue foreign ↔ IsForeign s member)
        → IsTrue (not foreign) ↔ ((own : Declared) → Finds (Some own) → IsTrue (has own.member.flags PROTECTED) → package_of own.class ≡ package_of s.own.name)
    own_package foreign is = (
      λ e own found protected. same_package (package_of own.class) (package_of s.own.name) (λ differ. not_foreign foreign is e (subst (IsForeign s) (once (Some own) member found finds) (protected, differ))),
      λ h. foreign_refused foreign is (no_foreign member refl h),
    )
