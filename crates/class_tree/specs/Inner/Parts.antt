-- Lists that stand in one list as parts of it.
use Rattle.std.specs.Prelude.{◌≡◌, ◌+◌, ◌≤◌, ℕ, List, length, take, drop}
use Rattle.class_tree.specs.declared.lists.Part.{Part}

-- the items of a part
abbrev pub part_of : {T : Type 0} → List T → Part → List T
part_of items part = take part.len (drop part.start items)

-- a part is inside
abbrev pub IsPartOf : {T : Type 0} → List T → Part → Type 0
IsPartOf items part = part.start + part.len ≤ length items

-- a list stands among items from a place on
pub record StandsFrom (items list : List ℕ) (start : ℕ) : Type 0 where
  pub inside : start + length list ≤ length items
  pub same : take (length list) (drop start items) ≡ list
