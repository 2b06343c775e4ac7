-- The tests of which methods count on the way up.
use Rattle.std.proofs.Common.{◌≡◌, ◌≢◌, ◌↔◌, ◌&&◌, ◌⊎◌, not, ℕ, Bool, false, IsTrue, IsSome, sym, ap, subst, ◌∙◌, inl, inr}
use Rattle.std.proofs.lemmas.Bool.{both_ways, cases_Bool, not-true, not_from_false}
use Rattle.class_model.specs.Members.{has, PUBLIC, STATIC}
use Rattle.class_tree.specs.Headers.{Headers}
use Rattle.class_tree.specs.Hierarchy.{IsHierarchy}
use Rattle.class_tree.specs.Laws.Headers.{header_there}
use Rattle.class_tree.specs.Names.{object}
use Rattle.class_tree.specs.Order.{header_at}
use Rattle.class_tree.specs.declared.place.Place.{Place}
use Rattle.member_link.specs.Inner.Counting.{Counts}
use Rattle.member_link.specs.DeclaredMembers.{Declared}
use Rattle.member_link.specs.Found.{IsMethodFound}
use Rattle.member_link.specs.Overriding.{Overrides}
use Rattle.member_link.specs.declared.found.Found.{Found}
use Rattle.member_link.specs.declared.upwards.Counted.TheVariants.{OfInterface, Overriding, InstanceOfInterface}
use Rattle.member_link.proofs.SameFound.{one_place, one_find}

module _ (headers : Headers) (tree : IsHierarchy headers) (found : Found) (method : Declared) (is : IsMethodFound headers found method) where
  -- a method of another class than the interface
  pub of_interface : (place : Place) → IsSome (header_at headers place) → found.place ≢ place → (test : Bool) → test ≡ (has found.flags PUBLIC && not (has found.flags STATIC)) → IsTrue test ↔ Counts headers (OfInterface place) method
  of_interface place there differ test tests = (λ yes. inr (sym same ∙ yes), from)
    where
      same : test ≡ (has method.member.flags PUBLIC && not (has method.member.flags STATIC))
      same = tests ∙ ap (λ (flags : ℕ). has flags PUBLIC && not (has flags STATIC)) is.same_flags

      from : Counts headers (OfInterface place) method → IsTrue test
      from (inl own) =
          let class = header_there headers place there in
          absurd (differ (one_place headers tree found.place place is.header class.0 is.at class.1 (is.own_class ∙ own class.0 class.1)))
      from (inr visible) = same ∙ visible

  -- another method than the one that is resolved
  pub of_overriding : (resolved : Found) → (high : Declared) × IsMethodFound headers resolved high → found ≢ resolved → (test : Bool) → ((low high : Declared) → IsMethodFound headers found low → IsMethodFound headers resolved high → IsTrue test ↔ Overrides headers low high) → IsTrue test ↔ Counts headers (Overriding resolved) method
  of_overriding resolved high differ test tests = (λ yes. λ other other_is. inr ((tests method other is other_is).0 yes), λ counts. by (counts high.0 high.1))
    where
      by : (method ≡ high.0) ⊎ Overrides headers method high.0 → IsTrue test
      by (inl same) = absurd (differ (one_find headers tree (subst (IsMethodFound headers found) same is) high.1))
      by (inr over) = (tests method high.0 is high.1).1 over

  -- a method that is neither static nor public
  pub of_instance : (static : Bool) → static ≡ has found.flags STATIC → static ≡ false → (public : Bool) → public ≡ has found.flags PUBLIC → public ≡ false → (test : Bool) → (IsTrue test ↔ (method.class ≡ object)) → IsTrue (not test) ↔ Counts headers InstanceOfInterface method
  of_instance static static_is instance public public_is closed test tests = (to, λ counts. from counts.1)
    where
      to : IsTrue (not test) → Counts headers InstanceOfInterface method
      to other = (ap (λ (flags : ℕ). has flags STATIC) (sym is.same_flags) ∙ sym static_is ∙ instance, inl (λ same. both_ways test (not-true test other) (tests.1 same)))

      from : (method.class ≢ object) ⊎ IsTrue (has method.member.flags PUBLIC) → IsTrue (not test)
      from (inl differ) = elim (cases_Bool test) [ inl here ↦ absurd (differ (tests.0 here)) | inr elsewhere ↦ not_from_false test elsewhere ]
      from (inr visible) = absurd (both_ways public closed (public_is ∙ ap (λ (flags : ℕ). has flags PUBLIC) is.same_flags ∙ visible))
