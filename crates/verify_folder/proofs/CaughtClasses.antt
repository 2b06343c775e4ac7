-- Handlers that catch throwables, asked one after the other.
use Rattle.std.proofs.Common.{◌≡◌, ◌≢◌, ◌↔◌, ℕ, Bool, IsTrue, List, drop, map, Some, refl, sym, ap, subst, ◌∙◌, inl}
use Rattle.std.specs.Prelude.{if◌then◌else◌}
use Rattle.std.specs.List.{AllByRecursion}
use Rattle.std.proofs.lemmas.Bool.{ne_eqb}
use Rattle.std.proofs.lemmas.Option.{same_Some}
use Rattle.class_model.specs.PoolChecks.{class_at}
use Rattle.class_model.specs.declared.class_file.ClassFile.{ClassFile}
use Rattle.class_model.specs.declared.class_file.Handler.{Handler}
use Rattle.class_tree.specs.Headers.{Name, Headers}
use Rattle.class_tree.specs.Names.{throwable}
use Rattle.member_link.specs.Access.{IsAtOrBelow}
use Rattle.type_rules.specs.Handlers.{caught, caught_in}
use Rattle.type_rules.specs.Inner.Handlers.{CatchesThrowables}
use Rattle.member_link.specs.Scope.{Scope}
use Rattle.type_rules.specs.Typed.{CaughtIsThrowable, FailsInTable}

-- one for all that is thrown
pub catches_all : (s : Scope) (handler : Handler) → handler.catch_type ≡ 0 → CatchesThrowables s handler
catches_all s handler all = record { class = throwable; is_caught = rw all refl; is_throwable = inl refl }

-- one for the class of a name
module _ (s : Scope) (handler : Handler) (headers : Headers) (headers_are : headers ≡ s.headers) (class : ClassFile) (class_is : class ≡ s.class) where
  caught_is : handler.catch_type ≢ 0 → caught s handler ≡ class_at class.pool handler.catch_type
  caught_is some =
      ap (λ (all : Bool). if all then Some throwable else class_at s.class.pool handler.catch_type) (ne_eqb handler.catch_type 0 some)
      ∙ ap (λ (c : ClassFile). class_at c.pool handler.catch_type) (sym class_is)

  pub catches_class : (name bytes : Name) (test : Bool) → handler.catch_type ≢ 0 → Some name ≡ class_at class.pool handler.catch_type → bytes ≡ name → (IsTrue test ↔ IsAtOrBelow headers bytes throwable) → (IsTrue test ↔ CatchesThrowables s handler)
  catches_class name bytes test some found is told =
      let found_is : caught s handler ≡ Some name = caught_is some ∙ sym found in (
        λ yes. record {
          class = name;
          is_caught = found_is;
          is_throwable = subst (λ (h : Headers). IsAtOrBelow h name throwable) headers_are (subst (λ (n : Name). IsAtOrBelow headers n throwable) is (told.0 yes));
        },
        λ catches. told.1 (subst (λ (n : Name). IsAtOrBelow headers n throwable) (sym is) (subst (λ (h : Headers). IsAtOrBelow h name throwable) (sym headers_are)
            (subst (λ (n : Name). IsAtOrBelow s.headers n throwable) (same_Some catches.class name (sym catches.is_caught ∙ found_is)) catches.is_throwable))),
      )

-- Those below an index catch throwables.
pub record CatchBelow (s : Scope) (whole : List Handler) (i : ℕ) : Type 0 where
  pub hold : AllByRecursion (CaughtIsThrowable s.headers) (map (caught_in s) (drop i whole)) → AllByRecursion (CaughtIsThrowable s.headers) (map (caught_in s) whole)
  pub fail : (at : ℕ) → FailsInTable s.headers (map (caught_in s) (drop i whole)) at → FailsInTable s.headers (map (caught_in s) whole) at
