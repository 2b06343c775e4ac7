-- It is decided which classes may have a field constructor, and each has one at most: so there is a function that gives their descriptors.
use Rattle.std.proofs.Common.{◌≡◌, ◌≢◌, ◌≤◌, ℕ, List, [], leb, length, Option, Some, None, refl, sym, ap, ◌∙◌, inl, inr, arith}
use Rattle.std.proofs.lemmas.Bool.{cases_Bool, leb-false, leb-true}
use Rattle.std.proofs.lemmas.Option.{none-some, same_Some}
use Rattle.class_model.specs.Laws.Decisions.{Decision, both, denied, implied, mapped}
use Rattle.class_model.specs.Names.{init}
use Rattle.class_model.specs.declared.class_file.ClassFile.{ClassFile}
use Rattle.class_tree.specs.Headers.{Classes, Name, headers_of}
use Rattle.class_tree.specs.Laws.Decided.{same_bytes}
use Rattle.expanded_code.specs.Laws.Searches.{all_decided, at_most, below_decided, each_below_decided}
use Rattle.field_constructors.specs.Constructors.{IsConstructor}
use Rattle.materialise.specs.MadeCode.{DescribesConstructors}
use Rattle.member_link.specs.DeclaredMembers.{Declared, own_method}
use Rattle.member_link.specs.FieldConstructors.{HandlesNone, HasDimensions, HasFieldConstructor, IsFree, constructor_descriptor, constructor_reference, handled}
use Rattle.member_link.specs.References.{Reference}

-- ---- decided

nothing : (found : Option Declared) → Decision (found ≡ None)
nothing None = inl refl
nothing (Some item) = inr (λ e. none-some item (sym e))

same_reference : (one other : Reference) → Decision (one ≡ other)
same_reference one other =
    mapped (λ same i. record { class = same.0 i; name = same.1.0 i; desc = same.1.1 i })
    (λ e. (ap (λ (r : Reference). r.class) e, (ap (λ (r : Reference). r.name) e, ap (λ (r : Reference). r.desc) e)))
    (both (same_bytes one.class other.class) (both (same_bytes one.name other.name) (same_bytes one.desc other.desc)))

other_reference : (found : Option Reference) (member : Reference) → Decision (found ≢ Some member)
other_reference None member = inl (λ e. none-some member e)
other_reference (Some one) member = denied (mapped (λ (e : one ≡ member). ap (λ (r : Reference). Some r) e) (λ e. same_Some one member e) (same_reference one member))

module _ (classes : Classes) (class : Name) where
  free_decided : (dimensions : ℕ) → Decision (IsFree classes class dimensions)
  free_decided dimensions =
      mapped (λ h. record { undeclared = h.0; unhandled = h.1 }) (λ free. (free.undeclared, free.unhandled))
      (both (nothing (own_method (headers_of classes) class init (constructor_descriptor (headers_of classes) class dimensions)))
      (all_decided (HandlesNone (constructor_reference (headers_of classes) class dimensions)) (λ file. handles_none file) classes.folder)) where
        handles_none : (file : ClassFile) → Decision (HandlesNone (constructor_reference (headers_of classes) class dimensions) file)
        handles_none file =
            all_decided (λ constant. handled file.pool constant ≢ Some (constructor_reference (headers_of classes) class dimensions))
            (λ constant. other_reference (handled file.pool constant) (constructor_reference (headers_of classes) class dimensions)) file.pool

  dimensions_decided : (dimensions : ℕ) → Decision (HasDimensions classes class dimensions)
  dimensions_decided dimensions =
      mapped (λ h. record { some = h.0.0; few = h.0.1; free = h.1.0; fewest = λ fewer some low. h.1.1 fewer low some })
      (λ has. ((has.some, has.few), (has.free, λ fewer low some. has.fewest fewer some low)))
      (both (both (at_most 1 dimensions) (at_most dimensions 8))
      (both (free_decided dimensions)
      (each_below_decided (λ fewer. 1 ≤ fewer → ¬ IsFree classes class fewer) (λ fewer. implied (at_most 1 fewer) (denied (free_decided fewer))) dimensions)))

  constructor_decided : Decision (HasFieldConstructor classes class)
  constructor_decided =
      mapped (λ below. record { dimensions = below.number; has = below.holds.0; fits = below.holds.1 })
      (λ c. record { number = c.dimensions; below = let few = c.has.few in omega (arith, few); holds = (c.has, c.fits) })
      (below_decided (λ n. HasDimensions classes class n × (length (constructor_descriptor (headers_of classes) class n) ≤ 65535))
      (λ n. both (dimensions_decided n) (at_most (length (constructor_descriptor (headers_of classes) class n)) 65535)) 9)

  -- the fewest dimensions are these

  same_dimensions : (one other : HasFieldConstructor classes class) → one.dimensions ≡ other.dimensions
  same_dimensions one other = elim (cases_Bool (leb one.dimensions other.dimensions)) [
    | inl up ↦ elim (cases_Bool (leb other.dimensions one.dimensions)) [
      | inl down ↦
          let most = leb-true one.dimensions other.dimensions up in
          let least = leb-true other.dimensions one.dimensions down in
          omega (arith, most, least)
      | inr less ↦ absurd (other.has.fewest one.dimensions one.has.some (leb-false other.dimensions one.dimensions less) one.has.free)
    ]
    | inr less ↦ absurd (one.has.fewest other.dimensions other.has.some (leb-false one.dimensions other.dimensions less) other.has.free)
  ]

  text_of : Decision (HasFieldConstructor classes class) → List ℕ
  text_of (inl may) = constructor_descriptor (headers_of classes) class may.dimensions
  text_of (inr never) = []

  text_is : (decided : Decision (HasFieldConstructor classes class)) (desc : List ℕ) → IsConstructor classes class (Some desc) → text_of decided ≡ desc
  unfolding text_of
  text_is (inl may) desc found = ap (constructor_descriptor (headers_of classes) class) (same_dimensions may found.0) ∙ sym found.1
  text_is (inr never) desc found = absurd (never found.0)

-- ---- a function that describes them

pub descriptors : Classes → Name → List ℕ
descriptors classes class = text_of classes class (constructor_decided classes class)

pub descriptors_describe : (classes : Classes) → DescribesConstructors classes (descriptors classes)
unfolding descriptors
descriptors_describe classes = λ class desc found. text_is classes class (constructor_decided classes class) desc found
