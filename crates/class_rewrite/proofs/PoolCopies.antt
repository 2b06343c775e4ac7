-- A pool to which the constants of an edit are appended one by one is the pool of the edit.
use Rattle.std.proofs.Common.{◌≡◌, ℕ, ◌+◌, ◌≤◌, List, [], ◌∷◌, ◌++◌, length, slice_get, take, drop, Some, refl, sym, ap, ◌∙◌, append_assoc, arith, option_map}
use Rattle.std.specs.List.{flat_map}
use Rattle.std.specs.Map.{keys_of}
use Rattle.std.proofs.lemmas.List.{append-nil, length-append, take-append-drop}
use Rattle.std.proofs.lemmas.List.Concat.{flat_map-append}
use Rattle.std.proofs.lemmas.Option.{slice_get-map}
use Rattle.class_model.specs.Laws.Lists.{take_item}
use Rattle.class_model.specs.Pool.{Constants, entries_of}
use Rattle.class_model.specs.declared.pool.Const.{Const}
use Rattle.pool_edit.specs.Edits.{numbered}

flat_push : (base : Constants) (constants : List Const) (constant : Const)
    → base ++ flat_map entries_of (constants ++ constant ∷ []) ≡ (base ++ flat_map entries_of constants) ++ (entries_of constant ++ [])
flat_push base constants constant =
    ap (λ (more : Constants). base ++ more) (flat_map-append entries_of constants (constant ∷ []))
    ∙ sym (append_assoc base (flat_map entries_of constants) (entries_of constant ++ []))

keys_at : (entries : List (Const × ℕ)) (at : ℕ) (constant : Const) (index : ℕ) → slice_get entries at ≡ Some (constant, index)
    → slice_get (keys_of entries) at ≡ Some constant
keys_at entries at constant index is = rw (slice_get-map (λ (e : Const × ℕ). e.0) entries at, is) refl

pub copied_step : (base pool : Constants) (entries : List (Const × ℕ)) (at : ℕ) (constant : Const) (index : ℕ) → slice_get entries at ≡ Some (constant, index)
    → pool ≡ base ++ flat_map entries_of (take at (keys_of entries))
    → pool ++ entries_of constant ≡ base ++ flat_map entries_of (take (at + 1) (keys_of entries))
copied_step base pool entries at constant index is so_far =
    rw (take_item (keys_of entries) at constant (keys_at entries at constant index is), flat_push base (take at (keys_of entries)) constant, append-nil)
    (ap (λ (p : Constants). p ++ entries_of constant) so_far)

pub copied_fits : (base pool : Constants) (entries : List (Const × ℕ)) (at : ℕ) (constant : Const) (index : ℕ) → slice_get entries at ≡ Some (constant, index)
    → pool ≡ base ++ flat_map entries_of (take at (keys_of entries))
    → length pool + length (entries_of constant) ≤ length (base ++ flat_map entries_of (keys_of entries))
copied_fits base pool entries at constant index is so_far =
    let step = copied_step base pool entries at constant index is so_far in
    let all : base ++ flat_map entries_of (keys_of entries) ≡ (pool ++ entries_of constant) ++ flat_map entries_of (drop (at + 1) (keys_of entries)) =
    ap (λ (cs : List Const). base ++ flat_map entries_of cs) (sym (take-append-drop (at + 1) (keys_of entries)))
    ∙ ap (λ (more : Constants). base ++ more) (flat_map-append entries_of (take (at + 1) (keys_of entries)) (drop (at + 1) (keys_of entries)))
    ∙ sym (append_assoc base (flat_map entries_of (take (at + 1) (keys_of entries))) (flat_map entries_of (drop (at + 1) (keys_of entries))))
    ∙ ap (λ (p : Constants). p ++ flat_map entries_of (drop (at + 1) (keys_of entries))) (sym step) in
    omega (
      arith,
      ap length all,
      length-append (pool ++ entries_of constant) (flat_map entries_of (drop (at + 1) (keys_of entries))),
      length-append pool (entries_of constant),
    )

-- the constants of numbered ones
pub keys_numbered : (index : ℕ) (constants : List Const) → keys_of (numbered index constants) ≡ constants
keys_numbered index [] = refl
keys_numbered index (constant ∷ constants) =
    ap (λ (rest : List Const). constant ∷ rest) (keys_numbered (index + length (entries_of constant)) constants)
