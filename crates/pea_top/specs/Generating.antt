-- What is printed of generated work: the class files of its definition, optimised, and run before and after by its script.
use Rattle.std.specs.Prelude.{◌≡◌, ◌≢◌, ◌-◌, ℕ, List, [], ◌∷◌, ◌++◌, length, codes, decimal, slice_get, Option, Some, None}
use Rattle.class_rewrite.specs.Optimised.{IsOptimised}
use Rattle.class_rewrite.specs.Reports.{rewritten_count}
use Rattle.class_rewrite.specs.declared.folder.Optimised.{Optimised}
use Rattle.class_rewrite.specs.declared.report.Line.{Line}
use Rattle.class_tree.specs.Headers.{Classes}
use Rattle.class_tree.specs.Trees.{IsArranged}
use Rattle.host_tree.specs.Host.{Bytes}
use Rattle.machine_values.specs.declared.action.Action.{Action}
use Rattle.machine_values.specs.declared.event.End.TheVariants as ends
use Rattle.machine_values.specs.declared.event.Event.{Event}
use Rattle.machine_values.specs.declared.event.Shown.{Shown}
use Rattle.script_text.specs.Scripts.{IsScript}
use Rattle.type_rules.specs.Verified.{IsVerified}
use Rattle.work_gen.specs.BaseLibrary.{base_headers}
use Rattle.work_gen.specs.Generated.{choices, generated_folder, generated_script}
use Rattle.pea_top.specs.Both.{AreBothShown}
use Rattle.pea_top.specs.Lines.{line}

-- ---- whether two runs show the same

-- two events are equal but for the counts of allocations and of monitors entered
pub record IsLikeEvent (one other : Event) : Type 0 where
  pub kind : other.kind ≡ one.kind
  pub monitors : other.monitors ≡ one.monitors

abbrev pub AreLikeEvents : List Event → List Event → Type 0
AreLikeEvents [] [] = Unit {0}
AreLikeEvents (one ∷ ones) (other ∷ others) = IsLikeEvent one other × AreLikeEvents ones others
AreLikeEvents ones others = ⊥

pub record IsLikeShown (one other : Shown) : Type 0 where
  pub events : AreLikeEvents one.events other.events
  pub end : other.end ≡ one.end

-- the last word of the line
pub record SaysWhether (before after : Shown) (word : Bytes) : Type 0 where
  pub same : IsLikeShown before after → word ≡ codes "same"
  pub differ : ¬ IsLikeShown before after → word ≡ codes "differ"

-- ---- the line

-- the counts of allocations and of monitors entered at an event, and 0 where there is none
abbrev pub counts_of : Option Event → ℕ × ℕ
counts_of None = (0, 0)
counts_of (Some event) = (event.allocations, event.entries)

-- those at the last event
abbrev pub last_counts : List Event → ℕ × ℕ
last_counts events = counts_of (slice_get events (length events - 1))

unfoldable pub draws_text : ℕ → ℕ → Bytes
draws_text number size = codes "gen number=" ++ decimal number ++ codes " size=" ++ decimal size

-- how many methods were rewritten and kept, and how many events the first run shows
unfoldable pub methods_text : ℕ → ℕ → ℕ → Bytes
methods_text changed kept events =
    codes " rewritten=" ++ decimal changed ++ codes " kept=" ++ decimal kept
    ++ codes " events=" ++ decimal events

unfoldable pub counts_text : ℕ × ℕ → Bytes
counts_text counts = codes "a=" ++ decimal counts.0 ++ codes " m=" ++ decimal counts.1

-- of all these, and the counts of both runs
abbrev pub numbers_line : ℕ → ℕ → ℕ × ℕ → ℕ → ℕ × ℕ → ℕ × ℕ → Bytes → Bytes
numbers_line number size methods events before after word =
    line
    (draws_text number size ++ methods_text methods.0 methods.1 events
    ++ codes " before " ++ counts_text before ++ codes " after " ++ counts_text after
    ++ codes " " ++ word)

-- the counts of each run are those at its last event
abbrev pub generated_line : ℕ → ℕ → List Line → Shown → Shown → Bytes → Bytes
generated_line number size report before after word =
    numbers_line number size
    (rewritten_count report, length report - rewritten_count report)
    (length before.events) (last_counts before.events) (last_counts after.events) word

-- ---- what is printed

-- The line of generated work of this number and size. It verifies with the base library, and is run by its script in at most 1,000,000 steps;
-- so is its written folder. Where the steps of neither run are used up, the line says that both show the same.
pub record IsGeneratedText (number size : ℕ) (text : Bytes) : Type 0 where
  pub tree : Classes
  pub arranged : IsArranged (generated_folder (choices number size)) base_headers tree
  pub verified : IsVerified tree
  pub optimised : Optimised
  pub is_optimised : IsOptimised tree verified.typed optimised
  pub actions : List Action
  pub is_script : IsScript (generated_script (choices number size)) actions
  pub before : Shown
  pub after : Shown
  pub shown : AreBothShown tree optimised.classes actions 1000000 before after
  pub word : Bytes
  pub says : SaysWhether before after word
  pub same : before.end ≢ ends.Running → after.end ≢ ends.Running → word ≡ codes "same"
  pub is : text ≡ generated_line number size optimised.report before after word
