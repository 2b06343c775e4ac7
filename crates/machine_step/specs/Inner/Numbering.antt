-- Values that are numbered one after the other.
use Rattle.std.specs.Prelude.{◌≡◌, ◌++◌, ℕ, List}
use Rattle.machine_values.specs.declared.event.Seen.{Seen}
use Rattle.machine_values.specs.declared.value.Value.{Value}
use Rattle.machine_values.specs.Heaps.{Heap}
use Rattle.member_link.specs.Machine.Programs.{Program}
use Rattle.member_link.specs.Machine.Showing.{Numbered, numbered_all}

-- values that are seen already, and others behind them
abbrev pub behind : List Seen → Numbered (List Seen) → Numbered (List Seen)
behind done others = record { seen = done ++ others.seen; known = others.known }

-- of all values those in front are seen, and the rest is numbered behind them
pub record NumbersOn (P : Program) (heap : Heap) (known : List ℕ) (values : List Value)
    (done : List Seen) (now : List ℕ) (rest : List Value)
    : Type 0 where
  pub same : numbered_all P heap known values ≡ behind done (numbered_all P heap now rest)
