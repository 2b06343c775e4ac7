-- It is decided which classes may have field constructors of so many dimensions: so there is a function that gives their descriptors.
use Rattle.std.proofs.Common.{◌≡◌, ◌≢◌, ◌<◌, ◌≤◌, ℕ, List, [], leb, length, Option, Some, None, refl, sym, ap, ◌∙◌, inl, inr, arith}
use Rattle.std.proofs.lemmas.Bool.{cases_Bool, leb-false, leb-true}
use Rattle.std.proofs.lemmas.Option.{none-some, same_Some}
use Rattle.class_model.specs.Laws.Decisions.{Decision, both, denied, implied, mapped}
use Rattle.class_model.specs.Names.{init}
use Rattle.class_model.specs.declared.class_file.ClassFile.{ClassFile}
use Rattle.class_tree.specs.Headers.{Classes, Name, headers_of}
use Rattle.class_tree.specs.Laws.Decided.{same_bytes}
use Rattle.expanded_code.specs.Laws.Searches.{all_decided, at_most, below_decided, each_below_decided}
use Rattle.member_link.specs.DeclaredMembers.{Declared, own_method}
use Rattle.member_link.specs.FieldConstructors.{HandlesNone, HasDimensions, IsFree, constructor_descriptor, constructor_reference, handled}
use Rattle.member_link.specs.References.{Reference}
use Rattle.plan_flow.specs.Written.WrittenPrograms.{GivesConstructors}

-- ---- decided

nothing : (found : Option Declared) → Decision (found ≡ None)
nothing None = inl refl
nothing (Some item) = inr (λ e. none-some item (sym e))

same_reference : (one other : Reference) → Decision (one ≡ other)
same_reference one other =
    mapped (λ same i. record { class = same.0 i; name = same.1.0 i; desc = same.1.1 i })
    (λ e. (ap (λ (r : Reference). r.class) e, (ap (λ (r : Reference). r.name) e, ap (λ (r : Reference). r.desc) e)))
    (both (same_bytes one.class other.class) (both (same_bytes one.name other.name) (same_bytes one.desc other.desc)))

other_reference : (found : Option Reference) (member : Reference) → Decision (found ≢ Some member)
other_reference None member = inl (λ e. none-some member e)
other_reference (Some one) member = denied (mapped (λ (e : one ≡ member). ap (λ (r : Reference). Some r) e) (λ e. same_Some one member e) (same_reference one member))

module _ (classes : Classes) (class : Name) where
  free_decided : (dimensions : ℕ) → Decision (IsFree classes class dimensions)
  free_decided dimensions =
      mapped (λ h. record { undeclared = h.0; unhandled = h.1 }) (λ free. (free.undeclared, free.unhandled))
      (both (nothing (own_method (headers_of classes) class init (constructor_descriptor (headers_of classes) class dimensions)))
      (all_decided (HandlesNone (constructor_reference (headers_of classes) class dimensions)) (λ file. handles_none file) classes.folder)) where
        handles_none : (file : ClassFile) → Decision (HandlesNone (constructor_reference (headers_of classes) class dimensions) file)
        handles_none file =
            all_decided (λ constant. handled file.pool constant ≢ Some (constructor_reference (headers_of classes) class dimensions))
            (λ constant. other_reference (handled file.pool constant) (constructor_reference (headers_of classes) class dimensions)) file.pool

  dimensions_decided : (dimensions : ℕ) → Decision (HasDimensions classes class dimensions)
  dimensions_decided dimensions =
      mapped (λ h. record { some = h.0.0; few = h.0.1; free = h.1.0; fewest = λ fewer some low. h.1.1 fewer low some })
      (λ has. ((has.some, has.few), (has.free, λ fewer low some. has.fewest fewer some low)))
      (both (both (at_most 1 dimensions) (at_most dimensions 8))
      (both (free_decided dimensions)
      (each_below_decided (λ fewer. 1 ≤ fewer → ¬ IsFree classes class fewer) (λ fewer. implied (at_most 1 fewer) (denied (free_decided fewer))) dimensions)))

  record HasSome : Type 0 where
    number : ℕ
    has : HasDimensions classes class number

  some_decided : Decision HasSome
  some_decided =
      mapped (λ below. record { number = below.number; has = below.holds })
      (λ c. record { number = c.number; below = let few = c.has.few in omega (arith, few); holds = c.has })
      (below_decided (λ n. HasDimensions classes class n) (λ n. dimensions_decided n) 9)

  -- the fewest dimensions are these
  one_number : (one other : ℕ) → HasDimensions classes class one → HasDimensions classes class other → one ≡ other
  one_number one other has also = elim (cases_Bool (leb one other)) [
    | inl up ↦ elim (cases_Bool (leb other one)) [
      | inl down ↦
          let most = leb-true one other up in
          let least = leb-true other one down in
          omega (arith, most, least)
      | inr less ↦ absurd (also.fewest one has.some (leb-false other one less) has.free)
    ]
    | inr less ↦ absurd (has.fewest other also.some (leb-false one other less) also.free)
  ]

  text_of : Decision HasSome → List ℕ
  text_of (inl may) = constructor_descriptor (headers_of classes) class may.number
  text_of (inr never) = []

  text_is : (decided : Decision HasSome) (dimensions : ℕ) → HasDimensions classes class dimensions
      → text_of decided ≡ constructor_descriptor (headers_of classes) class dimensions
  unfolding text_of
  text_is (inl may) dimensions has = ap (constructor_descriptor (headers_of classes) class) (one_number may.number dimensions may.has has)
  text_is (inr never) dimensions has = absurd (never (record { number = dimensions; has = has }))

-- a function that gives them
pub descriptors_given : (classes : Classes) → (constructor : Name → List ℕ) × GivesConstructors classes constructor
descriptors_given classes = (
  λ class. text_of classes class (some_decided classes class),
  λ class dimensions has. text_is classes class (some_decided classes class) dimensions has,
)
