-- Units that are kept in parts.
use Rattle.std.proofs.Common.{◌≡◌, ◌≢◌, ◌≤◌, ◌<◌, ◌+◌, ◌-◌, ◌*◌, ◌/◌, ◌%◌, ℕ, List, [], ◌∷◌, ◌++◌, length, get_or, sym, refl, ap, ◌∙◌, arith, inl, inr, Some, None}
use Rattle.std.proofs.lemmas.Bool.{cases_eq, cases_lt}
use Rattle.std.proofs.lemmas.List.{get_or_append_left, get_or_past, get_or_push, length_push}
use Rattle.std.proofs.lemmas.Option.{unwrap_or-slice_get, slice_get_within, get_or_from_slice_get}
use Rattle.std.specs.List.{slice_get}
use Rattle.std.specs.Option.{unwrap_or}
use Rattle.class_model.specs.LocalTypes.{type_in, unit_in}
use Rattle.class_model.specs.Inner.LocalTypes.{IsPut, IsKept, IsTopFrom}
use Rattle.class_model.specs.declared.frame.VType.{VType}
use Rattle.class_model.specs.declared.frame.VType.TheVariants.{Top}

-- an item that is not there
get_or_none : {X : Type 0} (xs : List X) (i : ℕ) (d : X) → slice_get xs i ≡ None → get_or xs i d ≡ d
get_or_none xs i d none = sym (unwrap_or-slice_get xs i d) ∙ ap (λ o. unwrap_or o d) none

-- a change after none
pub kept-put : {f g h : ℕ → VType} {at : ℕ} {unit : VType} → IsKept f g → IsPut g h at unit → IsPut f h at unit
kept-put kept put = record { here = put.here; others = λ other ne. put.others other ne ∙ kept.each other }

-- one more unit
pub put-push : (types : List VType) (at : ℕ) (unit : VType) → length types ≡ at → IsPut (type_in types) (type_in (types ++ unit ∷ [])) at unit
put-push types at unit many = record {
  here = get_or_push types unit Top at many;
  others = λ other ne. elim (cases_lt other at) [
    | inl before ↦ get_or_append_left types (unit ∷ []) Top other (omega arith)
    | inr from ↦ get_or_past (types ++ unit ∷ []) other Top (omega (arith, length_push types unit)) ∙ sym (get_or_past types other Top (omega arith))
  ];
}

-- a unit that is not listed is Top
pub top-unlisted : (parts : List (List VType)) (at : ℕ) → slice_get (get_or parts (at / 256) []) (at % 256) ≡ None → unit_in parts at ≡ Top
top-unlisted parts at none = get_or_none (get_or parts (at / 256) []) (at % 256) Top none

pub put-top : (parts : List (List VType)) (at : ℕ) → slice_get (get_or parts (at / 256) []) (at % 256) ≡ None → IsPut (unit_in parts) (unit_in parts) at Top
put-top parts at none = record { here = top-unlisted parts at none; others = λ other ne. refl }

-- the last part's end
tops-behind : (parts : List (List VType)) (last : List VType) (from : ℕ) → 0 < length parts → get_or parts (length parts - 1) [] ≡ last → (length parts - 1) * 256 + length last ≤ from → IsTopFrom from (unit_in parts)
tops-behind parts last from some is_last bound =
    let in_last : (at : ℕ) → from ≤ at → at / 256 ≡ length parts - 1 → unit_in parts at ≡ Top = λ at behind e.
    rw (e, is_last) (get_or_past last (at % 256) Top (omega arith)) in
    let past : (at : ℕ) → from ≤ at → at / 256 ≢ length parts - 1 → unit_in parts at ≡ Top = λ at behind ne.
    ap (λ part. type_in part (at % 256)) (get_or_past parts (at / 256) [] (omega arith)) in
    record { each = λ at behind. elim (cases_eq (at / 256) (length parts - 1)) [ inl e ↦ in_last at behind e | inr ne ↦ past at behind ne ] }

-- behind the last part's end, or the end of all
pub tops-from : (parts : List (List VType)) (last : List VType) (len from : ℕ) → IsTopFrom len (unit_in parts) → Some last ≡ slice_get parts (length parts - 1) → (from < len → (length parts - 1) * 256 + length last ≤ from) → IsTopFrom from (unit_in parts)
tops-from parts last len from tops is_last bound =
    let within : length parts - 1 < length parts = slice_get_within parts (length parts - 1) last (sym is_last) in
    let found : get_or parts (length parts - 1) [] ≡ last = get_or_from_slice_get parts (length parts - 1) last [] (sym is_last) in
    elim (cases_lt from len) [
      | inl under ↦ tops-behind parts last from (omega arith) found (bound under)
      | inr over ↦ record { each = λ at behind. tops.each at (omega arith) }
    ]
