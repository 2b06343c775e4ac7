use Rattle.std.proofs.Common.{◌≡◌, Bool, List, rules}
use Rattle.std.proofs.lemmas.Slice.Eq.{slice_eq-Decides}
use Rattle.std.specs.Bool.{Decides}
use Rattle.std.specs.Cmp.Lexicographic.{pointwise}
use Rattle.class_model.specs.declared.frame.VType.{VType}
use Rattle.verify_folder.proofs.active.is_same.Goals as goal

-- a test of the types, one by one
same_types : (E : VType → VType → Bool) (a b : List VType) (r : Bool) → r ≡ pointwise E a b → ((x y : VType) → Decides (E x y) (x ≡ y)) → Decides r (a ≡ b)
same_types E a b r is each = slice_eq-Decides each a b r is

pub returns : goal.returns
returns c = (same_types _ _ _ _ c.eq.ensures (λ x y. search rules)).0
