-- Numbers of the texts of a pool, of which equal ones have one number.
use Rattle.std.specs.Map.{lookup}
use Rattle.std.specs.Borrow.{Bor}
use Rattle.std.specs.Prelude.{◌≡◌, ℕ, List, bytes_eq, slice_get, Option, Some, None}
use Rattle.class_model.specs.Pool.{Constants}
use Rattle.class_model.specs.PoolChecks.{utf8_at}

-- the pool, and the texts that have numbers, with these
pub record Numbers : Type 0 where
  pub pool : Constants
  pub entries : List (Bor (List ℕ) × ℕ)

-- the number of a text, if it has one
abbrev pub number_of : Numbers → List ℕ → Option ℕ
number_of all text = lookup (λ key. bytes_eq text key.now) all.entries

-- the number of the text at an index, which is there
pub record IsNumberAt (all : Numbers) (index n : ℕ) : Type 0 where
  pub text : List ℕ
  pub is : utf8_at all.pool index ≡ Some text
  pub numbered : number_of all text ≡ Some n

abbrev pub IfFilled : (ℕ → Type 0) → Option (Option ℕ) → Type 0
IfFilled Holds (Some (Some n)) = Holds n
IfFilled Holds other = Unit {0}

-- Each number is an index of its text, and each entry of a table, as far as it is filled, is the number of the text at its index.
pub record AreKnown (all : Numbers) (known : List (Option ℕ)) : Type 0 where
  pub indices : (text : List ℕ) (n : ℕ) → number_of all text ≡ Some n → utf8_at all.pool n ≡ Some text
  pub filled : (index : ℕ) → IfFilled (IsNumberAt all index) (slice_get known index)

-- that of the text, if one is there
abbrev pub IsNumber : Numbers → ℕ → Option ℕ → Type 0
IsNumber all index None = utf8_at all.pool index ≡ None
IsNumber all index (Some n) = IsNumberAt all index n

-- no text of this pool has a number
pub record IsNewIn (pool : Constants) (all : Numbers) : Type 0 where
  pub same : all.pool ≡ pool
  pub none : (text : List ℕ) → number_of all text ≡ None

-- Each text that has a number keeps it, and numbers are indices of their texts.
pub record Grows (old new : Numbers) : Type 0 where
  pub same : new.pool ≡ old.pool
  pub keeps : (text : List ℕ) (n : ℕ) → number_of old text ≡ Some n → number_of new text ≡ Some n
  pub indices : (text : List ℕ) (n : ℕ) → number_of new text ≡ Some n → utf8_at new.pool n ≡ Some text
