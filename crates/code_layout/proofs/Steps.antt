-- Steps of the loops over items.
use Rattle.member_link.specs.Targets.{HasForm}
use Rattle.std.proofs.Common.{◌≡◌, ℕ, ◌+◌, ◌≤◌, ◌<◌, List, [], ◌∷◌, ◌++◌, length, map, drop, slice_get, get_or, Some, sym, ap, ◌∙◌, append_assoc, arith}
use Rattle.std.proofs.lemmas.Option.{slice_get-get_or}
use Rattle.class_model.specs.Laws.Lists.{at_index, drop_item}
use Rattle.class_model.specs.declared.class_file.Handler.{Handler}
use Rattle.code_layout.specs.Inner.Writing.{HaveForms}
use Rattle.code_layout.specs.Layout.{Spelled, end_from, item_ranges, item_starts, len_of, range_of, ranges_from, starts_from}
use Rattle.code_layout.specs.declared.emitted.EmitItem.{EmitItem}
use Rattle.code_layout.proofs.Written.{end-least}

-- the item that a loop reads
pub item-is : (items : List EmitItem) (i : ℕ) (item : EmitItem) → i < length items → item ≡ get_or items i item → slice_get items i ≡ Some item
item-is items i item within is = slice_get-get_or items i item within ∙ ap (λ (e : EmitItem). Some e) (sym is)

-- its form
pub form-at : (items : List EmitItem) (i : ℕ) (item : EmitItem) → slice_get items i ≡ Some item → HaveForms items → HasForm item.instr
form-at items i item is forms = at_index (λ (e : EmitItem). HasForm e.instr) items i item forms is

module _ (spelled : Spelled) where
  module _ (items : List EmitItem) (i : ℕ) (item : EmitItem) (is : slice_get items i ≡ Some item) where
    -- where the items end, behind this one
    pub end-step : (at end : ℕ) → end ≡ end_from spelled at (drop i items) → end ≡ end_from spelled (at + len_of spelled at item.instr) (drop (i + 1) items)
    end-step at end e = e ∙ ap (end_from spelled at) (drop_item items i item is)

    pub end-below : (at end : ℕ) → end ≡ end_from spelled at (drop i items) → at + len_of spelled at item.instr ≤ end
    end-below at end e =
        let low = end-least spelled (at + len_of spelled at item.instr) (drop (i + 1) items) in
        let s = end-step at end e in omega arith

    pub starts-step : (at : ℕ) (starts : List ℕ) → item_starts spelled items ≡ starts ++ starts_from spelled at (drop i items)
        → item_starts spelled items ≡ (starts ++ at ∷ []) ++ starts_from spelled (at + len_of spelled at item.instr) (drop (i + 1) items)
    starts-step at starts e =
        e ∙ ap (λ (left : List EmitItem). starts ++ starts_from spelled at left) (drop_item items i item is)
        ∙ sym (append_assoc starts (at ∷ []) (starts_from spelled (at + len_of spelled at item.instr) (drop (i + 1) items)))

    pub ranges-step : (place : ℕ → ℕ) (at : ℕ) (table more : List Handler) → item_ranges spelled items ≡ table ++ ranges_from spelled place at (drop i items)
        → more ≡ map (range_of place at (at + len_of spelled at item.instr)) item.catches
        → item_ranges spelled items ≡ (table ++ more) ++ ranges_from spelled place (at + len_of spelled at item.instr) (drop (i + 1) items)
    ranges-step place at table more e m =
        let rest = ranges_from spelled place (at + len_of spelled at item.instr) (drop (i + 1) items) in
        e ∙ ap (λ (left : List EmitItem). table ++ ranges_from spelled place at left) (drop_item items i item is)
        ∙ ap (λ (now : List Handler). table ++ (now ++ rest)) (sym m)
        ∙ sym (append_assoc table more rest)
