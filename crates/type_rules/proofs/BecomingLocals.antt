-- Locals that become objects one after another.
use Rattle.std.proofs.Common.{◌≡◌, ◌+◌, ◌<◌, ℕ, List, length, get_or, slice_get, slice_set, Some, ap, sym, ◌∙◌}
use Rattle.std.proofs.Math.Numerals.{add-one}
use Rattle.std.proofs.lemmas.Option.{slice_get-get_or}
use Rattle.class_model.specs.declared.frame.VType.{VType}
use Rattle.class_model.specs.declared.frame.VType.TheVariants.{Object, Top}
use Rattle.type_rules.proofs.MappedSoFar.{mapped_to, next_mapped, next_kept}

module _ (f : VType → VType) (locals after : List VType) (i : ℕ) (within : i < length locals) (so_far : after ≡ mapped_to f i locals) where
  local : VType
  local = get_or locals i Top

  there : slice_get locals i ≡ Some local
  unfolding local
  there = slice_get-get_or locals i Top within

  pub next_becomes : (name : List ℕ) → ((unit : VType) → slice_get locals i ≡ Some unit → f unit ≡ Object name) → slice_set after i (Object name) ≡ mapped_to f (i + 1) locals
  next_becomes name becomes = rw add-one (ap (λ (unit : VType). slice_set after i unit) (sym (becomes local there)) ∙ next_mapped f locals after i local there so_far)

  pub next_stays : ((unit : VType) → slice_get locals i ≡ Some unit → f unit ≡ unit) → after ≡ mapped_to f (i + 1) locals
  next_stays stays = rw add-one (next_kept f locals after i local there (stays local there) so_far)
