-- Where a method stands in the code of a host.
use Rattle.std.specs.Prelude.{◌≡◌, ◌≤◌, List, [], ◌∷◌, length}
use Rattle.class_model.specs.declared.class_file.MethodAt.{MethodAt}
use Rattle.inline_expand.specs.Inner.ReadyCallees.{IsHostClass}
use Rattle.inline_expand.specs.declared.places.Place.{Place}

-- a host, and behind it a chain of callees
abbrev pub host_of : List MethodAt → MethodAt
host_of [] = record { class = 0; method = 0 }
host_of (host ∷ chain) = host

abbrev pub chain_of : List MethodAt → List MethodAt
chain_of [] = []
chain_of (host ∷ chain) = chain

-- the host is of this class, and the chain has at most six callees
pub record IsPlace (place : Place) : Type 0 where
  pub class : IsHostClass place.class
  pub of_host : (host_of place.line.now).class ≡ place.class.number
  pub some : 1 ≤ length place.line.now
  pub short : length place.line.now ≤ 7
