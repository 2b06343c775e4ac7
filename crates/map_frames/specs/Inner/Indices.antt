-- The indices of classes as a map by their names.
use Rattle.std.specs.Prelude.{◌≡◌, ◌==◌, ◌≤◌, ℕ, List}
use Rattle.std.specs.Cmp.Lexicographic.{pointwise}
use Rattle.std.specs.HashMap.{get, HashMap}
use Rattle.std.specs.declared.hash.BuildHasherDefault.{BuildHasherDefault}
use Rattle.std.specs.declared.hash.FoldHasher.{FoldHasher}
use Rattle.map_frames.specs.Writing.{index_of, or_zero}
use Rattle.map_frames.specs.declared.writing.NamedIndex.{NamedIndex}

-- each index fits two bytes
pub record AreShort (classes : List NamedIndex) : Type 0 where
  pub short : (name : List ℕ) → or_zero (index_of classes name) ≤ 65535

-- At each name the map has the index of the class, which fits two bytes.
pub record IsByName (classes : List NamedIndex)
    (by_name : HashMap (List ℕ) ℕ (BuildHasherDefault FoldHasher)) : Type 0 where
  pub found : (name : List ℕ) → get (pointwise ◌==◌) by_name name ≡ index_of classes name
  pub short : AreShort classes
