-- Marks of items, one for each: those to which a jump or a handler leads.
use Rattle.std.specs.Prelude.{◌≡◌, ◌==◌, ◌||◌, ◌<◌, ℕ, Bool, false, List, get_or, length}
use Rattle.std.specs.List.{list_any}
use Rattle.class_model.specs.declared.instr.Pair.{Pair}
use Rattle.code_layout.specs.PlainItems.{plain_item, plain_items}
use Rattle.code_layout.specs.declared.emitted.Catch.{Catch}
use Rattle.code_layout.specs.declared.emitted.EmitItem.{EmitItem}
use Rattle.plan_flow.specs.Written.FramedCode.{is_led_to, leads_to}

-- ---- what leads to the item of a number

abbrev pub are_targets : List ℕ → ℕ → Bool
are_targets numbers at = list_any (λ to. to == at) numbers

abbrev pub pairs_lead : List Pair → ℕ → Bool
pairs_lead pairs at = list_any (λ pair. pair.to == at) pairs

abbrev pub catches_lead : List Catch → ℕ → Bool
catches_lead catches at = list_any (λ catch. catch.to == at) catches

abbrev pub item_leads : EmitItem → ℕ → Bool
item_leads item at = leads_to at (plain_item item)

abbrev pub items_lead : List EmitItem → ℕ → Bool
items_lead items at = is_led_to (plain_items items) at

-- ---- marks

-- the items that a test says are marked too
pub record IsMarked (by : ℕ → Bool) (old new : List Bool) : Type 0 where
  pub many : length new ≡ length old
  pub each : (at : ℕ)
      → at < length old
      → get_or new at false ≡ (get_or old at false || by at)

-- they are, but for those that are left
pub record IsMarkedBut (left whole : ℕ → Bool) (old new : List Bool) : Type 0 where
  pub many : length new ≡ length old
  pub each : (at : ℕ)
      → at < length old
      → (get_or new at false || left at) ≡ (get_or old at false || whole at)

-- the marks are those of the items to which some item leads
abbrev pub AreLed : List EmitItem → List Bool → Type 0
AreLed items led =
    (at : ℕ) → at < length items → get_or led at false ≡ is_led_to (plain_items items) at
