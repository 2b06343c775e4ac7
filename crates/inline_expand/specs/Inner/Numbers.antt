-- Words of the numbers of points.
use Rattle.std.specs.Prelude.{◌≡◌, ◌+◌, ◌≤◌, ◌<◌, ℕ, List, get_or, Option, Some, None, option_map}
use Rattle.class_model.specs.declared.class_file.Handler.{Handler}
use Rattle.expanded_code.specs.Alone.{handler_by, handlers_by, number_at}
use Rattle.flow_code.specs.declared.handlers.FlatHandler.{FlatHandler}
use Rattle.inline_expand.specs.declared.handlers.Around.{Around}
use Rattle.inline_expand.specs.declared.numbers.Numbers.{Numbers}

-- a number behind a base, by what stands at an index
abbrev pub placed_by : List ℕ → ℕ → ℕ → ℕ
placed_by starts base number = base + get_or starts number 0

abbrev pub numbers_by : Option (List ℕ) → ℕ → (ℕ → ℕ) → ℕ → ℕ
numbers_by None base number = number
numbers_by (Some starts) base number = λ at. placed_by starts base (number at)

-- the number of the point at an offset
abbrev pub number_by : Numbers → ℕ → ℕ
number_by numbers =
    numbers_by (option_map (λ starts. starts.now) numbers.starts) numbers.base
    (number_at numbers.host.now)

-- the handlers of an offset
abbrev pub handlers_for : Numbers → ℕ → List FlatHandler
handlers_for numbers at = handlers_by numbers.host.now (number_by numbers) at

abbrev pub handler_for : Numbers → Handler → List FlatHandler
handler_for numbers handler = handler_by numbers.host.now (number_by numbers) handler

-- the handlers between its two offsets
abbrev pub AreAround : Numbers → Around → Type 0
AreAround numbers around =
    (at : ℕ)
    → around.from ≤ at
    → at < around.until
    → handlers_for numbers at ≡ around.handlers
