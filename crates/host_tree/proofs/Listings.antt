-- The first keys of a map, in order, are a listing of the names that it has.
use Rattle.std.proofs.Common.{◌≡◌, ℕ, ◌+◌, ◌≤◌, ◌<◌, inl, inr, Bool, true, false, cond, List, [], ◌∷◌, ◌++◌, length, map, String, BTreeMap, string_bytes, sym, refl, ap, ◌∙◌, arith}
use Rattle.std.specs.BTreeMap.{get_by_text, keys, IsOrdered, is_at}
use Rattle.std.specs.Map.{lookup, keys_of}
use Rattle.std.specs.List.{AllByRecursion}
use Rattle.std.specs.List.Sorted.{IsStrictlySortedBy}
use Rattle.std.specs.Ordering.{is_eq}
use Rattle.std.specs.declared.cmp.Ordering.TheVariants.{Less}
use Rattle.std.specs.String.{string_cmp}
use Rattle.std.specs.Str.{bytes_eq}
use Rattle.std.specs.Cmp.Lexicographic.{bytes_decides}
use Rattle.std.proofs.lemmas.Map.Keys.{sorted_head, sorted_tail}
use Rattle.std.proofs.lemmas.Map.Text.{is_eq-slice_cmp, text_cmp}
use Rattle.host_tree.specs.Host.{Bytes, Folder, times, held, IsListing}
use Rattle.host_tree.specs.Laws.Names.{times-cons, times-append}

-- a name stands in a list that it is the head of
at_head : (x : Bytes) (xs : List Bytes) → 0 < times x (x ∷ xs)
at_head x xs = rw (times-cons x x xs, (bytes_decides x x).1 refl) (omega arith)

module _ {Y : Type 0} where
  -- a name does not stand among greater ones
  not_among_greater : (k : String Y) (ks : List (String Y)) → AllByRecursion (λ y. string_cmp k y ≡ Less) ks → times (string_bytes k) (map string_bytes ks) ≡ 0
  not_among_greater k [] greater = refl
  not_among_greater k (y ∷ ys) greater =
      let differs = sym (is_eq-slice_cmp (string_bytes k) (string_bytes y)) ∙ ap is_eq greater.0 in
      times-cons (string_bytes k) (string_bytes y) (map string_bytes ys) ∙ rw (differs, not_among_greater k ys greater.1) refl

  -- what the entries of a map have at a name
  abbrev entry_at : List (String Y × Bytes) → Folder
  entry_at entries name = lookup (is_at (text_cmp name)) entries

  -- in order, each name that the entries have stands once, and no other
  each_once : (name : Bytes) (entries : List (String Y × Bytes)) → IsStrictlySortedBy string_cmp (keys_of entries) → times name (map string_bytes (keys_of entries)) ≡ held (entry_at entries) name
  each_once name [] sorted = refl
  each_once name (e ∷ es) sorted =
      times-cons name (string_bytes e.0) (map string_bytes (keys_of es)) ∙ by_head (bytes_eq name (string_bytes e.0)) refl (each_once name es (sorted_tail string_cmp e.0 (keys_of es) sorted))
    where
      by_head : (b : Bool) → bytes_eq name (string_bytes e.0) ≡ b → times name (map string_bytes (keys_of es)) ≡ held (entry_at es) name → cond (bytes_eq name (string_bytes e.0)) 1 0 + times name (map string_bytes (keys_of es)) ≡ held (entry_at (e ∷ es)) name
      by_head true same _ =
          let found = is_eq-slice_cmp name (string_bytes e.0) ∙ same in
          let here = (bytes_decides name (string_bytes e.0)).0 same in
          let none : times name (map string_bytes (keys_of es)) ≡ 0 = rw here (not_among_greater e.0 (keys_of es) (sorted_head string_cmp e.0 (keys_of es) sorted)) in
          rw (found, same, none) refl
      by_head false differs tail =
          let missed = is_eq-slice_cmp name (string_bytes e.0) ∙ differs in
          rw (missed, differs) (omega (arith, tail))

  module _ (m : BTreeMap (String Y) Bytes) (most : ℕ) (names rest : List Bytes) (ordered : IsOrdered string_cmp m) (split : names ++ rest ≡ map string_bytes (keys m)) (short : length names ≤ most) where
    -- a name that the map has stands once, among the first or in the rest
    parted : (name : Bytes) → times name names + times name rest ≡ held (get_by_text m) name
    parted name = sym (times-append name names rest) ∙ ap (times name) split ∙ each_once name m.entries ordered

    -- the first names are a listing where they are all
    pub listing_of_all : rest ≡ [] → IsListing (get_by_text m) most names
    listing_of_all all = record {
      none_twice = λ name. omega (arith, parted name);
      not_more = short;
      all_or_most = inl (λ name. omega (arith, parted name, ap (times name) all));
    }

    -- the first names are a listing where they are most
    pub listing_of_most : (x : Bytes) (xs : List Bytes) → rest ≡ x ∷ xs → length names ≡ most → IsListing (get_by_text m) most names
    listing_of_most x xs more full = record {
      none_twice = λ name. omega (arith, parted name);
      not_more = short;
      all_or_most = inr (full, record { name = x; lacked = omega (arith, parted x, ap (times x) more, at_head x xs) });
    }
