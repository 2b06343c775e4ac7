-- Items that are kept as they are written: how many there are, and that they stay too many.
use Rattle.std.proofs.Common.{◌≡◌, ◌≤◌, ◌<◌, ◌+◌, ◌++◌, ℕ, true, false, List, [], ◌∷◌, length, map, refl, sym, ap, ◌∙◌, arith, inl, inr}
use Rattle.std.proofs.lemmas.Bool.{false≢true}
use Rattle.std.proofs.lemmas.List.{length-append, length-map, map-append}
use Rattle.class_model.specs.Pool.{Constants}
use Rattle.class_tree.specs.Headers.{Name}
use Rattle.code_drafts.specs.Counts.{AreCounted, handlers_of}
use Rattle.code_drafts.specs.Counts.{AreTooMany, table_entries as entries_of}
use Rattle.code_drafts.specs.Drafts.{Keeps, Meant, catch_of, keeps_all, keeps_none, meaning, meant, meant_catch}
use Rattle.code_drafts.specs.declared.draft.DraftItem.{DraftItem}
use Rattle.making_code.specs.Items.{WItem}
use Rattle.plan_flow.specs.PlanScope.{PlanScope}

-- ---- counts

abbrev handlers_meant : List Meant → ℕ
handlers_meant [] = 0
handlers_meant (one ∷ others) = length one.catches + handlers_meant others

handlers_are : (drafts : List DraftItem) → handlers_of drafts ≡ handlers_meant (map meaning drafts)
handlers_are [] = refl
handlers_are (draft ∷ drafts) =
    let rest = handlers_are drafts in
    let here = length-map draft.catches catch_of in
    omega (arith, rest, here)

entries_are : (s : PlanScope) (constructor : Name → List ℕ) (pool : Constants) (items : List WItem)
    → entries_of items ≡ handlers_meant (map (meant s constructor pool) items)
entries_are s constructor pool [] = refl
entries_are s constructor pool (one ∷ items) =
    let rest = entries_are s constructor pool items in
    let here = length-map one.catches (meant_catch pool) in
    omega (arith, rest, here)

pub entries_both : (front back : List WItem) → entries_of (front ++ back) ≡ entries_of front + entries_of back
entries_both [] back = omega arith
entries_both (one ∷ front) back =
    let rest = entries_both front back in
    omega (arith, rest)

pub as_long : (s : PlanScope) (constructor : Name → List ℕ) (pool : Constants) (items : List WItem) (drafts : List DraftItem)
    → map meaning drafts ≡ map (meant s constructor pool) items
    → length drafts ≡ length items
as_long s constructor pool items drafts same =
    sym (length-map drafts meaning) ∙ ap length same ∙ length-map items (meant s constructor pool)

pub as_many : (s : PlanScope) (constructor : Name → List ℕ) (pool : Constants) (items : List WItem) (drafts : List DraftItem)
    → map meaning drafts ≡ map (meant s constructor pool) items
    → handlers_of drafts ≡ entries_of items
as_many s constructor pool items drafts same =
    handlers_are drafts ∙ ap handlers_meant same ∙ sym (entries_are s constructor pool items)

pub too_many_stay : (front back : List WItem) → AreTooMany front → AreTooMany (front ++ back)
too_many_stay front back many =
    let lengths = length-append front back in
    let entries = entries_both front back in
    elim many [
      | inl items ↦ inl (omega (arith, lengths, items))
      | inr handlers ↦ inr (omega (arith, entries, handlers))
    ]

-- all that are kept are not too many
pub few_kept : (s : PlanScope) (constructor : Name → List ℕ) (pool : Constants) (items : List WItem) (drafts : List DraftItem) (entries : ℕ)
    → AreCounted false drafts entries
    → map meaning drafts ≡ map (meant s constructor pool) items
    → ¬ AreTooMany items
few_kept s constructor pool items drafts entries counted same many =
    let few = counted.few refl in
    let few_entries = counted.few_entries refl in
    let count = counted.counted refl in
    let lengths = as_long s constructor pool items drafts same in
    let handlers = as_many s constructor pool items drafts same in
    elim many [
      | inl items ↦ absurd (omega (arith, few, lengths, items))
      | inr entries ↦ absurd (omega (arith, few_entries, count, handlers, entries))
    ]

-- ---- one more

module _ (s : PlanScope) (constructor : Name → List ℕ) (pool : Constants) (items : List WItem) (one : WItem) where
  pub stays_long : (drafts also : List DraftItem)
      → Keeps s constructor pool items true drafts
      → Keeps s constructor pool (items ++ one ∷ []) true also
  stays_long drafts also (keeps_all is same) = absurd (false≢true (sym is))
  stays_long drafts also (keeps_none is many) = keeps_none refl (too_many_stay items (one ∷ []) many)

  pub past_length : (drafts also : List DraftItem)
      → Keeps s constructor pool items false drafts
      → 65535 ≤ length drafts
      → Keeps s constructor pool (items ++ one ∷ []) true also
  past_length drafts also (keeps_none is many) past = absurd (false≢true is)
  past_length drafts also (keeps_all is same) past =
      let lengths = as_long s constructor pool items drafts same in
      let more = length-append items (one ∷ []) in
      keeps_none refl (inl (omega (arith, lengths, more, past)))

  pub past_entries : (drafts also : List DraftItem) (item : DraftItem)
      → Keeps s constructor pool items false drafts
      → meaning item ≡ meant s constructor pool one
      → 65535 < handlers_of drafts + length item.catches
      → Keeps s constructor pool (items ++ one ∷ []) true also
  past_entries drafts also item (keeps_none is many) here past = absurd (false≢true is)
  past_entries drafts also item (keeps_all is same) here past =
      let count = as_many s constructor pool items drafts same in
      let own : length item.catches ≡ length one.catches =
      sym (length-map item.catches catch_of) ∙ ap (λ (m : Meant). length m.catches) here ∙ length-map one.catches (meant_catch pool) in
      let more = entries_both items (one ∷ []) in
      keeps_none refl (inr (omega (arith, count, own, more, past)))

  pub keeps_one : (drafts also : List DraftItem) (item : DraftItem)
      → Keeps s constructor pool items false drafts
      → meaning item ≡ meant s constructor pool one
      → also ≡ drafts ++ item ∷ []
      → Keeps s constructor pool (items ++ one ∷ []) false also
  keeps_one drafts also item (keeps_none is many) here pushed = absurd (false≢true is)
  keeps_one drafts also item (keeps_all is same) here pushed =
      keeps_all refl
      (ap (map meaning) pushed
      ∙ map-append meaning drafts (item ∷ [])
      ∙ ap (λ (list : List Meant). list ++ meaning item ∷ []) same
      ∙ ap (λ (m : Meant). map (meant s constructor pool) items ++ m ∷ []) here
      ∙ sym (map-append (meant s constructor pool) items (one ∷ [])))

-- ---- the counts of one more

pub counted_more : (drafts also : List DraftItem) (item : DraftItem) (entries : ℕ)
    → AreCounted false drafts entries
    → also ≡ drafts ++ item ∷ []
    → length drafts < 65535
    → entries + length item.catches ≤ 65535
    → AreCounted false also (entries + length item.catches)
counted_more drafts also item entries counted pushed few few_entries = record {
  few = λ is.
      let lengths = ap length pushed ∙ length-append drafts (item ∷ []) in
      omega (arith, lengths, few);
  few_entries = λ is. few_entries;
  counted = λ is.
      let before = counted.counted refl in
      let more = ap handlers_of pushed ∙ handlers_both drafts (item ∷ []) in
      omega (arith, before, more);
} where
  handlers_both : (front back : List DraftItem) → handlers_of (front ++ back) ≡ handlers_of front + handlers_of back
  handlers_both [] back = omega arith
  handlers_both (one ∷ front) back =
      let rest = handlers_both front back in
      omega (arith, rest)
