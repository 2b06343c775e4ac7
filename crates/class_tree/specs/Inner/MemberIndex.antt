-- An index of the members of a class by name and descriptor: the places of all members, in byte order of names, then of
-- descriptors, then by place.
use Rattle.std.specs.Prelude.{ℕ, List, [], ◌∷◌, length, slice_get, Option, Some, None, IsPermutation, IsSortedByKey}
use Rattle.std.specs.Cmp.Lexicographic.{slice_cmp}
use Rattle.std.specs.List.{range_with_len}
use Rattle.std.specs.Ordering.{nat_cmp}
use Rattle.class_model.specs.declared.header.Member.{Member}

-- what the place of a member is sorted by
abbrev pub key_at : List Member → ℕ → List (List ℕ)
key_at members place = of_member (slice_get members place) where
  of_member : Option Member → List (List ℕ)
  of_member (Some member) = member.name ∷ member.desc ∷ (place ∷ []) ∷ []
  of_member None = [] ∷ [] ∷ (place ∷ []) ∷ []

pub record IsMemberIndex (members : List Member) (index : List ℕ) : Type 0 where
  pub places : IsPermutation (range_with_len 0 (length members)) index
  pub sorted : IsSortedByKey (key_at members) (slice_cmp (slice_cmp nat_cmp)) index
