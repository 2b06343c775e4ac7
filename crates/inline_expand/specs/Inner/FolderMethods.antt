-- The methods of a folder in buckets: those of one name and descriptor are in one.
use Rattle.std.specs.Prelude.{◌≡◌, ◌+◌, ◌*◌, ◌%◌, ◌<◌, ℕ, List, [], ◌∷◌, length, take, slice_get, slice_index_or, Some}
use Rattle.std.specs.List.{AllByRecursion}
use Rattle.class_model.specs.declared.header.Header.{Header}
use Rattle.class_model.specs.declared.header.Member.{Member}
use Rattle.class_tree.specs.Headers.{Headers}
use Rattle.member_link.specs.Declarations.{IsFolderMethod}
use Rattle.member_link.specs.DeclaredMembers.{Declared, declared}
use Rattle.member_link.specs.Found.{IsMethodFound}
use Rattle.member_link.specs.declared.found.Found.{Found}

-- ---- keys

-- a key of bytes, which goes on from that of others
abbrev pub key : ℕ → List ℕ → ℕ
key start [] = start
key start (byte ∷ bytes) = key ((start * 31 + byte) % 4294967296) bytes

-- the bytes at the front of a descriptor, which make its key
abbrev pub front : List ℕ → List ℕ
front desc = take 1024 desc

-- the slot of a method among so many
abbrev pub slot_of : ℕ → Member → ℕ
slot_of count member = key (key 0 member.name) (front member.desc) % count

-- ---- buckets

-- the bucket of a slot, and of a method
abbrev pub bucket_at : List (List Found) → ℕ → List Found
bucket_at buckets slot = slice_index_or buckets slot []

abbrev pub bucket_of : List (List Found) → Member → List Found
bucket_of buckets member = bucket_at buckets (slot_of (length buckets) member)

-- the method is among those that are found
pub record IsAmong (headers : Headers) (lows : List Found) (low : Declared) : Type 0 where
  pub index : ℕ
  pub found : Found
  pub at : slice_get lows index ≡ Some found
  pub is : IsMethodFound headers found low

-- what is found is a method of the folder
pub record IsFolderFound (headers : Headers) (found : Found) : Type 0 where
  pub method : Declared
  pub is : IsMethodFound headers found method
  pub of_folder : IsFolderMethod headers method

abbrev pub AreFolderMethods : Headers → List (List Found) → Type 0
AreFolderMethods headers buckets =
    (slot index : ℕ) (found : Found)
    → slice_get (bucket_at buckets slot) index ≡ Some found
    → IsFolderFound headers found

-- the buckets of a folder
pub record AreBuckets (headers : Headers) (buckets : List (List Found)) : Type 0 where
  pub some : 0 < length buckets
  pub found : AreFolderMethods headers buckets
  pub each : (low : Declared)
      → IsFolderMethod headers low
      → IsAmong headers (bucket_of buckets low.member) low

-- methods of the folder, among them each of the name and descriptor of a method
pub record AreAlike (headers : Headers) (method : Member) (lows : List Found) : Type 0 where
  pub found : (index : ℕ) (found : Found)
      → slice_get lows index ≡ Some found
      → IsFolderFound headers found
  pub each : (low : Declared)
      → IsFolderMethod headers low
      → low.member.name ≡ method.name
      → low.member.desc ≡ method.desc
      → IsAmong headers lows low

-- ---- changes

-- buckets keep their places, and methods theirs in them
pub record Grows (before after : List (List Found)) : Type 0 where
  pub len : length after ≡ length before
  pub kept : (slot index : ℕ) (found : Found)
      → slice_get (bucket_at before slot) index ≡ Some found
      → slice_get (bucket_at after slot) index ≡ Some found

-- the method of a class with this header that has the name and descriptor of one is in its bucket
abbrev pub HasOwn : Headers → Header → List (List Found) → Member → Type 0
HasOwn headers header buckets member =
    (low : Declared)
    → low.class ≡ header.name
    → declared member.name member.desc header.methods ≡ Some low.member
    → IsAmong headers (bucket_of buckets member) low

-- after these methods of a class of the folder were put into their buckets
pub record AreKept (headers : Headers) (class : ℕ) (members : List Member)
    (before after : List (List Found))
    : Type 0 where
  pub grows : Grows before after
  pub found : AreFolderMethods headers before → AreFolderMethods headers after
  pub own : (header : Header)
      → slice_get headers.folder class ≡ Some header
      → AllByRecursion (HasOwn headers header after) members
