-- The members whose names and descriptors are kept.
use Rattle.std.specs.Prelude.{◌≡◌, ◌==◌, ◌&&◌, Bool, false, ℕ, List, Option, Some, IsTrue}
use Rattle.std.specs.List.{list_any}
use Rattle.class_model.specs.Members.{Signature, is_text}
use Rattle.class_model.specs.Pool.{Constants}
use Rattle.class_model.specs.PoolChecks.{utf8_at}
use Rattle.class_bytes.specs.Inner.TextNumbers.{Numbers, number_of}
use Rattle.class_bytes.specs.declared.signatures.Signatures.{Signatures}

-- a member has this name and this descriptor
abbrev pub has_texts : Constants → List ℕ → List ℕ → Signature → Bool
has_texts pool name desc member =
    is_text name (utf8_at pool member.name) && is_text desc (utf8_at pool member.desc)

-- two numbers, where they are there, are among pairs
abbrev pub has_pair : List (ℕ × ℕ) → Option ℕ → Option ℕ → Bool
has_pair pairs (Some name) (Some desc) = list_any (λ pair. (name == pair.0) && (desc == pair.1)) pairs
has_pair pairs name desc = false

-- a text has this number
pub record IsGiven (all : Numbers) (n : ℕ) : Type 0 where
  pub text : List ℕ
  pub is : number_of all text ≡ Some n

-- The numbers of a name and a descriptor are kept exactly where one of the members has these.
pub record KnowsPairs (pool : Constants) (members : List Signature) (all : Numbers) (pairs : List (ℕ × ℕ)) : Type 0 where
  pub same : all.pool ≡ pool
  pub knows : (name desc : List ℕ)
      → has_pair pairs (number_of all name) (number_of all desc)
      ≡ list_any (has_texts pool name desc) members
  pub given : (name desc : ℕ)
      → IsTrue (has_pair pairs (Some name) (Some desc))
      → IsGiven all name × IsGiven all desc

pub record Knows (pool : Constants) (members : List Signature) (kept : Signatures) : Type 0 where
  pub pairs : KnowsPairs pool members kept.numbers kept.pairs.keys
