-- Items of either form can be spelled where they stand.
use Rattle.std.proofs.Common.{◌≡◌, ℕ, suc, ◌+◌, ◌≤◌, ◌<◌, List, [], ◌∷◌, ◌++◌, length, inl, inr, refl, sym, ap, subst, ◌∙◌, arith, append_assoc, length-append}
use Rattle.std.proofs.lemmas.Int.{ints}
use Rattle.std.specs.List.{AllByRecursion}
use Rattle.class_model.specs.Instructions.{targets}
use Rattle.class_model.specs.declared.instr.Imm.TheVariants as imms
use Rattle.class_model.specs.declared.instr.Instr.{Instr}
use Rattle.class_model.specs.declared.instr.Instr.TheVariants.{Const, Goto, If, If2, IfNull, IfSame, Throw}
use Rattle.code_bytes.specs.Encoding.{Reaches}
use Rattle.code_bytes.specs.Forms.{instr_bytes}
use Rattle.member_link.specs.Targets.{HasForm, with_targets}
use Rattle.code_layout.specs.Emitting.{IsEmitted, NamesItem}
use Rattle.code_layout.specs.Inner.Writing.{ArePlaced, CanBePlaced, CanBeSpelled, HaveForms}
use Rattle.code_layout.specs.Layout.{Spelled, end_from, item_starts, len_of, placed_from, short_spelled, start_in, starts_from, wide_spelled}
use Rattle.code_layout.specs.declared.emitted.EmitItem.{EmitItem}
use Rattle.code_layout.specs.declared.form.Form.TheVariants.{Short, Wide}
use Rattle.code_layout.proofs.Decoded.{all-items}
use Rattle.code_layout.proofs.Spellings.{all-reach, jump-len, kept-short, kept-wide, place_is, spelling}
use Rattle.code_layout.proofs.WideItems.{HoldOf, HoldsOf, IsClose, JumpsClose, over_a_goto, over_a_throw}
use Rattle.code_layout.proofs.Written.{end-least, start-most}

-- each item has a form
pub have-forms : (items : List EmitItem) → IsEmitted items → HaveForms items
have-forms items emitted = all-items (λ (item : EmitItem). HasForm item.instr) items (λ at item i. (emitted.each at item i).form)

-- ---- the short form

can-short : (place : ℕ → ℕ) → ((to : ℕ) → place to ≤ 32767) → (at : ℕ) (items : List EmitItem) → end_from short_spelled at items ≤ 32767 → HaveForms items
    → CanBePlaced Short (placed_from short_spelled place at items)
can-short place small at [] fits forms = tt
can-short place small at (item ∷ items) fits forms =
    let low = end-least short_spelled (at + len_of short_spelled at item.instr) items in (
      spelling at place (omega (arith, low)) (λ to. let s = small to in omega arith) item.instr forms.0 (all-reach at place (omega (arith, low)) small item.instr),
      can-short place small (at + len_of short_spelled at item.instr) items fits forms.1,
    )

pub placed-short : (items : List EmitItem) (starts : List ℕ) → HaveForms items → starts ≡ item_starts short_spelled items → end_from short_spelled 0 items ≤ 32767 → ArePlaced Short items starts
placed-short items starts forms are fits =
    let small : (to : ℕ) → start_in starts to ≤ 32767 = λ to. subst (λ (s : List ℕ). start_in s to ≤ 32767) (sym are) (start-most short_spelled 0 items 32767 fits to) in
    record {
      are = are;
      fits = omega arith;
      kept = λ at instr low. kept-short (start_in starts) small at instr (omega arith);
      can = can-short (start_in (item_starts short_spelled items)) (start-most short_spelled 0 items 32767 fits) 0 items fits forms;
    }

-- ---- the wide form

starts-behind : (spelled : Spelled) (from : ℕ) (done rest : List EmitItem) (k : ℕ)
    → start_in (starts_from spelled from (done ++ rest)) (length done + k) ≡ start_in (starts_from spelled (end_from spelled from done) rest) k
starts-behind spelled from [] rest k = let plus : 0 + k ≡ k = omega arith in ap (start_in (starts_from spelled from rest)) plus
starts-behind spelled from (item ∷ done) rest k =
    let plus : length (item ∷ done) + k ≡ suc (length done + k) = omega arith in
    ap (start_in (starts_from spelled from (item ∷ done ++ rest))) plus ∙ starts-behind spelled (from + len_of spelled from item.instr) done rest k

end-behind : (spelled : Spelled) (from : ℕ) (done rest : List EmitItem) → end_from spelled from (done ++ rest) ≡ end_from spelled (end_from spelled from done) rest
end-behind spelled from [] rest = refl
end-behind spelled from (item ∷ done) rest = end-behind spelled (from + len_of spelled from item.instr) done rest

null-len : (at : ℕ) (instr : Instr) → instr ≡ Const imms.Null → len_of wide_spelled at instr ≡ 1
unfolding instr_bytes
null-len at instr is = rw is refl

throw-len : (at : ℕ) (instr : Instr) → instr ≡ Throw → len_of wide_spelled at instr ≡ 1
unfolding instr_bytes
throw-len at instr is = rw is refl

goto-len : (at : ℕ) (instr : Instr) (to : ℕ) → instr ≡ Goto to → len_of wide_spelled at instr ≡ 5
goto-len at instr to is = rw is refl

module _ (items : List EmitItem) (fits : end_from wide_spelled 0 items ≤ 65535) where
  abbrev place : ℕ → ℕ
  place = start_in (item_starts wide_spelled items)

  small : (to : ℕ) → place to ≤ 65535
  small = start-most wide_spelled 0 items 65535 fits

  module _ (done : List EmitItem) (item : EmitItem) (rest : List EmitItem) (is : items ≡ done ++ item ∷ rest) where
    abbrev at : ℕ
    at = end_from wide_spelled 0 done

    here : at ≤ 65535
    here =
        let last = ap (end_from wide_spelled 0) is ∙ end-behind wide_spelled 0 done (item ∷ rest) in
        let low = end-least wide_spelled at (item ∷ rest) in omega arith

    start : (k : ℕ) → place (length done + k) ≡ start_in (starts_from wide_spelled at (item ∷ rest)) k
    start k = ap (λ (all : List EmitItem). start_in (starts_from wide_spelled 0 all) (length done + k)) is ∙ starts-behind wide_spelled 0 done (item ∷ rest) k

    long : length items ≡ length done + suc (length rest)
    long = ap length is ∙ length-append done (item ∷ rest)

    some : (from : ℕ) (more : List EmitItem) → 0 < length more → start_in (starts_from wide_spelled from more) 0 ≡ from
    some from [] few = absurd (omega arith)
    some from (one ∷ more) few = refl

    close-reaches : 3 ≡ len_of wide_spelled at item.instr → (to : ℕ) → to < length items → IsClose (length done) rest to → Reaches at (place to)
    close-reaches three to within (over_a_goto goto leads) =
        let count = ap length goto.is in
        let second = at + len_of wide_spelled at item.instr in
        let stands : place (length done + 2) ≡ start_in (starts_from wide_spelled (second + len_of wide_spelled second goto.goto.instr) goto.more) 0 =
        start 2 ∙ ap (λ (all : List EmitItem). start_in (starts_from wide_spelled at (item ∷ all)) 2) goto.is in
        let there = some (second + len_of wide_spelled second goto.goto.instr) goto.more (omega (arith, within, leads, long, count)) in
        let five = goto-len second goto.goto.instr goto.to goto.goes in
        let same : place to ≡ at + 8 = ap place leads ∙ stands ∙ there ∙ omega (arith, three, five) in
        omega (arith, ints, same)
    close-reaches three to within (over_a_throw throw leads) =
        let count = ap length throw.is in
        let second = at + len_of wide_spelled at item.instr in
        let third = second + len_of wide_spelled second throw.null.instr in
        let fourth = third + len_of wide_spelled third throw.throw.instr in
        let stands : place (length done + 3) ≡ start_in (starts_from wide_spelled fourth throw.more) 0 =
        start 3 ∙ ap (λ (all : List EmitItem). start_in (starts_from wide_spelled at (item ∷ all)) 3) throw.is in
        let there = some fourth throw.more (omega (arith, within, leads, long, count)) in
        let one = null-len second throw.null.instr throw.pushes in
        let also = throw-len third throw.throw.instr throw.throws in
        let same : place to ≡ at + 5 = ap place leads ∙ stands ∙ there ∙ omega (arith, three, one, also) in
        omega (arith, ints, same)

    can-item : (instr : Instr) → item.instr ≡ instr → HasForm instr → AllByRecursion (NamesItem (length items)) (targets instr) → JumpsClose (length done) rest instr
        → CanBeSpelled Wide at (with_targets place instr)
    can-item (If opcode to) same form names close =
        spelling at place here small (If opcode to) form (close-reaches (jump-len Wide at item.instr (inl (opcode, to, same))) to names.0 close)
    can-item (If2 opcode to) same form names close =
        spelling at place here small (If2 opcode to) form (close-reaches (jump-len Wide at item.instr (inr (inl (opcode, to, same)))) to names.0 close)
    can-item (IfSame opcode to) same form names close =
        spelling at place here small (IfSame opcode to) form (close-reaches (jump-len Wide at item.instr (inr (inr (inl (opcode, to, same))))) to names.0 close)
    can-item (IfNull opcode to) same form names close =
        spelling at place here small (IfNull opcode to) form (close-reaches (jump-len Wide at item.instr (inr (inr (inr (opcode, to, same))))) to names.0 close)
    can-item (Goto to) same form names close = place_is at place here small to
    can-item instr same form names close = spelling at place here small instr form tt

  can-wide : (done rest : List EmitItem) → items ≡ done ++ rest → HoldOf (length items) (length done) rest
      → CanBePlaced Wide (placed_from wide_spelled place (end_from wide_spelled 0 done) rest)
  can-wide done [] is hold = tt
  can-wide done (item ∷ rest) is hold =
      let holds : HoldsOf (length items) (length done) item rest = hold.0 in
      let next : items ≡ (done ++ item ∷ []) ++ rest = is ∙ sym (append_assoc done (item ∷ []) rest) in
      let one : suc (length done) ≡ length (done ++ item ∷ []) = omega (arith, length-append done (item ∷ [])) in
      let more = can-wide (done ++ item ∷ []) rest next (subst (λ (k : ℕ). HoldOf (length items) k rest) one hold.1) in
      let ends = end-behind wide_spelled 0 done (item ∷ []) in (
        can-item done item rest is item.instr refl holds.form holds.targets holds.close,
        subst (λ (from : ℕ). CanBePlaced Wide (placed_from wide_spelled place from rest)) ends more,
      )

pub placed-wide : (items : List EmitItem) (starts : List ℕ) → HoldOf (length items) 0 items → starts ≡ item_starts wide_spelled items → end_from wide_spelled 0 items ≤ 65535 → ArePlaced Wide items starts
placed-wide items starts hold are fits = record {
  are = are;
  fits = fits;
  kept = λ at instr low. kept-wide (start_in starts) (end_from wide_spelled 0 items) at instr low;
  can = can-wide items fits [] items refl hold;
}
