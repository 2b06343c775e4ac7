use Rattle.std.proofs.Common.{◌≡◌, ◌&&◌, Bool, true, List, refl, sym, ap, ◌∙◌, rules}
use Rattle.std.proofs.lemmas.Bool.{and_parts}
use Rattle.std.proofs.lemmas.Slice.Eq.{slice_eq-Decides}
use Rattle.std.specs.Bool.{Decides}
use Rattle.std.specs.Cmp.Lexicographic.{pointwise}
use Rattle.class_model.specs.declared.frame.Frame.{Frame}
use Rattle.class_model.specs.declared.frame.VType.{VType}
use Rattle.class_model.proofs.frame.Frame.is_same.Goals as goal

-- a test of the types, one by one
same_types : (E : VType → VType → Bool) (a b : Frame) (r : Bool) → r ≡ (pointwise E a.locals b.locals && pointwise E a.stack b.stack) → ((x y : VType) → Decides (E x y) (x ≡ y)) → Decides r (a ≡ b)
same_types E a b r e each =
    let decides : (xs ys : List VType) → Decides (pointwise E xs ys) (xs ≡ ys) = λ xs ys. slice_eq-Decides each xs ys _ refl in (
      λ t.
          let tests = and_parts (pointwise E a.locals b.locals) (pointwise E a.stack b.stack) (sym e ∙ t) in
          let locals : a.locals ≡ b.locals = (decides _ _).0 tests.0 in
          let stack : a.stack ≡ b.stack = (decides _ _).0 tests.1 in
          λ i. record { locals = locals i; stack = stack i },
      λ same.
          let locals : pointwise E a.locals b.locals ≡ true = (decides _ _).1 (ap (λ (f : Frame). f.locals) same) in
          let stack : pointwise E a.stack b.stack ≡ true = (decides _ _).1 (ap (λ (f : Frame). f.stack) same) in
          e ∙ rw (locals, stack) refl,
    )

pub returns : goal.returns
returns c = same_types _ _ _ _ c.eq.ensures (λ x y. search rules)
