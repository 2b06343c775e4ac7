-- Blocks that are written one behind the other.
use Rattle.std.proofs.Common.{◌≡◌, ◌+◌, ◌-◌, ◌≤◌, ◌<◌, ℕ, suc, Bool, true, false, List, [], ◌∷◌, ◌++◌, drop, length, slice_get, take, Option, Some, None, unwrap_or, if◌then◌else◌, refl, sym, ap, subst, ◌∙◌, append_assoc, append-nil, arith}
use Rattle.std.proofs.lemmas.List.{drop_all, length-append}
use Rattle.class_model.specs.Laws.Lists.{drop_item}
use Rattle.code_drafts.specs.Inner.Parts.{Joins, JoinsPart, Part, end_drafts, first_start, firsts_in, leads_to, part_items, parts_of, start_at, start_in}
use Rattle.code_drafts.specs.declared.draft.DraftBlock.{DraftBlock}
use Rattle.code_drafts.specs.declared.draft.DraftItem.{DraftItem}
use Rattle.code_drafts.specs.declared.draft.Target.{Target}
use Rattle.code_drafts.specs.declared.finishing.DraftEnd.{DraftEnd}
use Rattle.code_drafts.specs.declared.placing.Joined.{Joined}

-- these parts were written, and those are left
pub record SoFar (all : List Part) (joined : Joined) (rest : List Part) : Type 0 where
  pub items : joined.items ++ part_items rest ≡ part_items all
  pub firsts : joined.firsts.items ++ firsts_in (length joined.items) rest ≡ firsts_in 0 all
  pub starts : (to : Target) → unwrap_or (start_at joined.starts to) (start_in to (length joined.items) rest) ≡ start_in to 0 all

pub none_joined : (all : List Part) (joined : Joined)
    → joined.items ≡ []
    → joined.firsts.items ≡ []
    → ((to : Target) → start_at joined.starts to ≡ None)
    → SoFar all joined all
none_joined all joined none no_firsts new = record {
  items = ap (λ (items : List DraftItem). items ++ part_items all) none;
  firsts =
      ap (λ (firsts : List ℕ). firsts ++ firsts_in (length joined.items) all) no_firsts
      ∙ ap (λ (items : List DraftItem). firsts_in (length items) all) none;
  starts = λ to.
      ap (λ (start : Option ℕ). unwrap_or start (start_in to (length joined.items) all)) (new to)
      ∙ ap (λ (items : List DraftItem). start_in to (length items) all) none;
}

first_or : (start : Option ℕ) (leads : Bool) (number more : ℕ)
    → unwrap_or (first_start start leads number) more ≡ unwrap_or start (if leads then number else more)
first_or (Some start) leads number more = refl
first_or None true number more = refl
first_or None false number more = refl

pub one_joined : (all : List Part) (block : DraftBlock) (end : DraftEnd) (blocks : List DraftBlock) (ends : List DraftEnd)
    (items left : List DraftItem) (old new : Joined)
    → SoFar all old (parts_of (block ∷ blocks) (end ∷ ends) items)
    → JoinsPart block end items left old new true
    → SoFar all new (parts_of blocks ends left)
one_joined all block end blocks ends items left old new joined one =
    let mine = take block.count items ++ end_drafts end in
    let rest = parts_of blocks ends (drop block.count items) in
    let same : parts_of blocks ends left ≡ rest = ap (parts_of blocks ends) one.1 in
    let long : length new.items ≡ length old.items + length mine = ap length one.0 ∙ length-append old.items mine in
    subst (λ (parts : List Part). SoFar all new parts) (sym same)
    (record {
      items =
          ap (λ (list : List DraftItem). list ++ part_items rest) one.0
          ∙ append_assoc old.items mine (part_items rest)
          ∙ joined.items;
      firsts =
          ap (λ (list : List ℕ). list ++ firsts_in (length new.items) rest) one.2
          ∙ append_assoc old.firsts.items (length old.items ∷ []) (firsts_in (length new.items) rest)
          ∙ ap (λ (n : ℕ). old.firsts.items ++ length old.items ∷ firsts_in n rest) long
          ∙ joined.firsts;
      starts = λ to.
          ap (λ (start : Option ℕ). unwrap_or start (start_in to (length new.items) rest)) (one.3 to)
          ∙ ap (λ (n : ℕ). unwrap_or (first_start (start_at old.starts to) (leads_to to block.of) (length old.items)) (start_in to n rest)) long
          ∙ first_or (start_at old.starts to) (leads_to to block.of) (length old.items) (start_in to (length old.items + length mine) rest)
          ∙ joined.starts to;
    })

pub block_joined : (all : List Part) (blocks : List DraftBlock) (ends : List DraftEnd) (at : ℕ) (block : DraftBlock) (end : DraftEnd)
    (items left : List DraftItem) (old new : Joined)
    → slice_get blocks at ≡ Some block
    → slice_get ends at ≡ Some end
    → SoFar all old (parts_of (drop at blocks) (drop at ends) items)
    → JoinsPart block end items left old new true
    → SoFar all new (parts_of (drop (at + 1) blocks) (drop (at + 1) ends) left)
block_joined all blocks ends at block end items left old new is ends_so joined one =
    one_joined all block end (drop (at + 1) blocks) (drop (at + 1) ends) items left old new
    (subst (λ (rest : List DraftBlock). SoFar all old (parts_of rest (end ∷ drop (at + 1) ends) items)) (drop_item blocks at block is)
    (subst (λ (rest : List DraftEnd). SoFar all old (parts_of (drop at blocks) rest items)) (drop_item ends at end ends_so) joined)) one

-- all of them
pub all_joined : (all : List Part) (joined : Joined) (blocks : List DraftBlock) (ends : List DraftEnd) (at : ℕ) (items : List DraftItem)
    → length blocks ≤ at
    → SoFar all joined (parts_of (drop at blocks) ends items)
    → length joined.items ≤ 65535
    → Joins all joined true
all_joined all joined blocks ends at items past so_far few =
    let end : SoFar all joined [] =
    subst (λ (rest : List DraftBlock). SoFar all joined (parts_of rest ends items)) (drop_all at blocks past) so_far in
    (sym (append-nil joined.items) ∙ end.items, few, sym (append-nil joined.firsts.items) ∙ end.firsts, end.starts)

-- there are too many already
pub joined_long : (all : List Part) (joined : Joined) (rest : List Part)
    → SoFar all joined rest
    → 65535 < length joined.items
    → Joins all joined false
joined_long all joined rest so_far long =
    let whole : length (part_items all) ≡ length joined.items + length (part_items rest) =
    sym (ap length so_far.items) ∙ length-append joined.items (part_items rest) in
    omega (arith, whole, long)

-- ---- items that are moved

pub one_moved : (front all back left : List DraftItem) (item : DraftItem) (count at : ℕ) (now after : List DraftItem)
    → at < count
    → now ++ take (count - at) left ≡ front ++ take count all
    → drop (count - at) left ≡ drop count all
    → left ≡ item ∷ back
    → after ≡ now ++ item ∷ []
    → (after ++ take (count - (at + 1)) back ≡ front ++ take count all)
    × (drop (count - (at + 1)) back ≡ drop count all)
one_moved front all back left item count at now after less taken dropped is pushed =
    let n = count - (at + 1) in
    let more : count - at ≡ suc n = omega arith in
    let first : take (count - at) left ≡ item ∷ take n back =
    ap (λ (m : ℕ). take m left) more ∙ ap (take (suc n)) is in
    let last : drop (count - at) left ≡ drop n back =
    ap (λ (m : ℕ). drop m left) more ∙ ap (drop (suc n)) is in (
      ap (λ (list : List DraftItem). list ++ take n back) pushed
          ∙ append_assoc now (item ∷ []) (take n back)
          ∙ ap (λ (list : List DraftItem). now ++ list) (sym first)
          ∙ taken,
      sym last ∙ dropped,
    )
