-- Locals that become objects one after another.
use Rattle.std.proofs.Common.{◌≡◌, ◌+◌, ◌<◌, ℕ, List, length, get_or, slice_get, slice_set, Option, Some, None, refl, ap, sym, ◌∙◌}
use Rattle.std.proofs.Math.Numerals.{add-one}
use Rattle.std.proofs.lemmas.Option.{slice_get-get_or}
use Rattle.class_model.specs.declared.frame.VType.{VType}
use Rattle.class_model.specs.declared.frame.VType.TheVariants.{Top, Int, Float, Long, Double, Null, UninitThis, Object, Uninit}
use Rattle.class_tree.specs.Headers.{Name}
use Rattle.row_frames.proofs.MappedSoFar.{mapped_to, next_mapped, next_kept}
use Rattle.row_frames.specs.Inner.Becoming.{becomes, class_after, object_or}

pub top_stays : (own class : Name) (receiver : VType) → becomes own class receiver Top ≡ Top
top_stays own class Top = refl
top_stays own class Int = refl
top_stays own class Float = refl
top_stays own class Long = refl
top_stays own class Double = refl
top_stays own class Null = refl
top_stays own class UninitThis = refl
top_stays own class (Object name) = refl
top_stays own class (Uninit at) = refl

module _ (own class : Name) (receiver : VType) (locals after : List VType) (i : ℕ) (within : i < length locals) (so_far : after ≡ mapped_to (becomes own class receiver) i locals) where
  pub next_object : (name : Name) → Some name ≡ class_after own class receiver (get_or locals i Top) → slice_set after i (Object name) ≡ mapped_to (becomes own class receiver) (i + 1) locals
  next_object name is =
      let there : slice_get locals i ≡ Some (get_or locals i Top) = slice_get-get_or locals i Top within in
      let object : Object name ≡ becomes own class receiver (get_or locals i Top) = ap (λ (o : Option Name). object_or o (get_or locals i Top)) is in
      rw add-one (ap (slice_set after i) object ∙ next_mapped (becomes own class receiver) locals after i (get_or locals i Top) there so_far)

  pub next_same : None ≡ class_after own class receiver (get_or locals i Top) → after ≡ mapped_to (becomes own class receiver) (i + 1) locals
  next_same is =
      let there : slice_get locals i ≡ Some (get_or locals i Top) = slice_get-get_or locals i Top within in
      let stays : becomes own class receiver (get_or locals i Top) ≡ get_or locals i Top = ap (λ (o : Option Name). object_or o (get_or locals i Top)) (sym is) in
      rw add-one (next_kept (becomes own class receiver) locals after i (get_or locals i Top) there stays so_far)
