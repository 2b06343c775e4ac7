-- What an edit keeps, as constants are appended and taken away.
use Rattle.std.proofs.Common.{◌≡◌, ◌≢◌, ℕ, ◌+◌, ◌≤◌, List, [], ◌∷◌, ◌++◌, length, slice_get, take, drop, Some, None, refl, sym, ap, subst, ◌∙◌, append_assoc, arith}
use Rattle.std.specs.List.{flat_map}
use Rattle.std.specs.Map.{keys_of}
use Rattle.std.proofs.lemmas.List.{append-nil, length-append, take-append-drop}
use Rattle.std.proofs.lemmas.List.Concat.{flat_map-append}
use Rattle.std.proofs.lemmas.Option.{slice_get-map}
use Rattle.class_model.specs.Laws.Lists.{take_item}
use Rattle.class_model.specs.Pool.{Constants, entries_of}
use Rattle.class_model.specs.declared.pool.Const.{Const}
use Rattle.pool_edit.specs.Edits.{IsAbsent, IsFirstIndex, TakesBack, numbered}
use Rattle.pool_edit.specs.Inner.Kept.{EndsBelow, IsKept, StartsFrom}
use Rattle.pool_edit.specs.Inner.Known.{Indices}
use Rattle.pool_edit.proofs.Numbered.{first-entries, keys-push, keys-take, new-push, new-take, numbered-push, numbered-take}
use Rattle.pool_edit.proofs.Cuts.{cut-count}

-- the entries of constants and of one more
flat-push : (base : Constants) (constants : List Const) (constant : Const) → base ++ flat_map entries_of (constants ++ constant ∷ []) ≡ (base ++ flat_map entries_of constants) ++ (entries_of constant ++ [])
flat-push base constants constant = ap (λ (more : Constants). base ++ more) (flat_map-append entries_of constants (constant ∷ [])) ∙ sym (append_assoc base (flat_map entries_of constants) (entries_of constant ++ []))

module _ (base : Constants) (known : Indices) (entries : List (Const × ℕ)) (count : ℕ) (kept : IsKept base known entries count) where
  -- one more that no entry equals
  module _ (value : Const) (absent : IsAbsent (base ++ flat_map entries_of (keys_of entries)) value) where
    pub pushed-numbers : entries ++ (value, count) ∷ [] ≡ numbered (length base) (keys_of (entries ++ (value, count) ∷ []))
    pushed-numbers =
        rw (keys-push entries (value, count), numbered-push base (keys_of entries) value, ← kept.counts, ← kept.numbers) refl

    pub pushed-counts : count + length (entries_of value) ≡ length (base ++ flat_map entries_of (keys_of (entries ++ (value, count) ∷ [])))
    pushed-counts =
        rw (keys-push entries (value, count), flat-push base (keys_of entries) value, append-nil)
        (omega (arith, kept.counts, length-append (base ++ flat_map entries_of (keys_of entries)) (entries_of value)))

    pub kept-push : count + length (entries_of value) ≤ 65535 → IsKept base known (entries ++ (value, count) ∷ []) (count + length (entries_of value))
    kept-push fits = record {
      pool = kept.pool;
      knows = kept.knows;
      numbers = pushed-numbers;
      new = rw (keys-push entries (value, count)) (new-push base (keys_of entries) value kept.new absent);
      counts = pushed-counts;
      most = fits;
    }

    pub first-pushed : IsFirstIndex (base ++ flat_map entries_of (keys_of (entries ++ (value, count) ∷ []))) value count
    first-pushed =
        rw (keys-push entries (value, count), flat-push base (keys_of entries) value)
        (subst (λ (n : ℕ). IsFirstIndex ((base ++ flat_map entries_of (keys_of entries)) ++ (entries_of value ++ [])) value n) (sym kept.counts)
        (first-entries (base ++ flat_map entries_of (keys_of entries)) [] value absent))

  -- the first so many, up to a count
  module _ (k index : ℕ) (ends : EndsBelow index k entries) (starts : StartsFrom index k entries)
      (least : length base ≤ index) (most : index ≤ length (base ++ flat_map entries_of (keys_of entries))) (no_second : slice_get (base ++ flat_map entries_of (keys_of entries)) index ≢ Some None) where
    pub taken-counts : index ≡ length (base ++ flat_map entries_of (keys_of (take k entries)))
    taken-counts =
        rw (keys-take k entries)
        (sym (cut-count base (keys_of entries) k index least most no_second (subst (EndsBelow index k) kept.numbers ends) (subst (StartsFrom index k) kept.numbers starts)))

    taken-numbers : take k entries ≡ numbered (length base) (keys_of (take k entries))
    taken-numbers =
        ap (λ (all : List (Const × ℕ)). take k all) kept.numbers ∙ numbered-take (length base) k (keys_of entries) ∙ ap (numbered (length base)) (sym (keys-take k entries))

    pub kept-take : IsKept base known (take k entries) index
    kept-take = record {
      pool = kept.pool;
      knows = kept.knows;
      numbers = taken-numbers;
      new = rw (keys-take k entries) (new-take base k (keys_of entries) kept.new);
      counts = taken-counts;
      most = let c = kept.counts in let m = kept.most in omega arith;
    }

    pub takes-back : (limit : ℕ) → TakesBack (record { base = base; limit = limit; added = keys_of entries }) index (record { base = base; limit = limit; added = keys_of (take k entries) })
    takes-back limit = record {
      base = refl;
      limit = refl;
      counts = sym taken-counts;
      taken = drop k (keys_of entries);
      added = rw (keys-take k entries) (sym (take-append-drop k (keys_of entries)));
    }

-- ---- the pool that is finished

-- a constant among others, at its place
keys-at : (entries : List (Const × ℕ)) (at : ℕ) (constant : Const) (index : ℕ) → slice_get entries at ≡ Some (constant, index) → slice_get (keys_of entries) at ≡ Some constant
keys-at entries at constant index is = rw (slice_get-map (λ (e : Const × ℕ). e.0) entries at, is) refl

pub finish-step : (base pool : Constants) (entries : List (Const × ℕ)) (at : ℕ) (constant : Const) (index : ℕ) → slice_get entries at ≡ Some (constant, index)
    → pool ≡ base ++ flat_map entries_of (take at (keys_of entries)) → pool ++ entries_of constant ≡ base ++ flat_map entries_of (take (at + 1) (keys_of entries))
finish-step base pool entries at constant index is so_far =
    rw (take_item (keys_of entries) at constant (keys-at entries at constant index is), flat-push base (take at (keys_of entries)) constant, append-nil) (ap (λ (p : Constants). p ++ entries_of constant) so_far)

pub finish-fits : (base pool : Constants) (entries : List (Const × ℕ)) (at : ℕ) (constant : Const) (index : ℕ) → slice_get entries at ≡ Some (constant, index)
    → pool ≡ base ++ flat_map entries_of (take at (keys_of entries)) → length pool + length (entries_of constant) ≤ length (base ++ flat_map entries_of (keys_of entries))
finish-fits base pool entries at constant index is so_far =
    let step = finish-step base pool entries at constant index is so_far in
    let all : base ++ flat_map entries_of (keys_of entries) ≡ (pool ++ entries_of constant) ++ flat_map entries_of (drop (at + 1) (keys_of entries)) =
    ap (λ (cs : List Const). base ++ flat_map entries_of cs) (sym (take-append-drop (at + 1) (keys_of entries)))
    ∙ ap (λ (more : Constants). base ++ more) (flat_map-append entries_of (take (at + 1) (keys_of entries)) (drop (at + 1) (keys_of entries)))
    ∙ sym (append_assoc base (flat_map entries_of (take (at + 1) (keys_of entries))) (flat_map entries_of (drop (at + 1) (keys_of entries))))
    ∙ ap (λ (p : Constants). p ++ flat_map entries_of (drop (at + 1) (keys_of entries))) (sym step) in
    omega (arith, ap length all, length-append (pool ++ entries_of constant) (flat_map entries_of (drop (at + 1) (keys_of entries))), length-append pool (entries_of constant))
