-- The code of a method with the bytes and the exception table of a layout is that of the emitted items.
use Rattle.std.proofs.Common.{◌≡◌, ◌==◌, ◌&&◌, ℕ, zero, suc, ltb, leb, ◌+◌, ◌≤◌, ◌<◌, true, false, List, [], ◌∷◌, ◌++◌, length, map, Option, Ok, Some, refl, sym, ap, subst, ◌∙◌, arith, append-nil}
use Rattle.std.specs.List.{AllByRecursion, flat_map}
use Rattle.std.proofs.lemmas.Bool.{eq-eqb}
use Rattle.std.proofs.lemmas.List.{map-append}
use Rattle.std.proofs.lemmas.Grind.{flat_map-append}
use Rattle.class_model.specs.Instructions.{decoded, targets}
use Rattle.class_model.specs.Laws.Lists.{AllByRecursion-weaker}
use Rattle.class_model.specs.Pool.{Constants}
use Rattle.class_model.specs.declared.class_file.Handler.{Handler}
use Rattle.class_model.specs.declared.instr.Instr.{Instr}
use Rattle.class_model.specs.declared.instr.Placed.{Placed}
use Rattle.class_tree.specs.Headers.{Name}
use Rattle.member_link.specs.Laws.Renumbered.{IsSamePoint, op_renumbered}
use Rattle.member_link.specs.Machine.Codes.{CodePoint, catch_in, catches_at, code_points, instr_op, method_code, number_at, code_point, renumbered, run_point}
use Rattle.member_link.specs.Machine.Programs.{Code, Links, Point, number_of_first}
use Rattle.member_link.specs.Machine.Replaced.{map_numbered}
use Rattle.member_link.specs.RowScope.{RowScope}
use Rattle.member_link.specs.Scope.{Scope, instructions, row_scope}
use Rattle.member_link.specs.Targets.{with_targets}
use Rattle.code_layout.specs.Emitting.{IsEmitted, NamesItem}
use Rattle.code_bytes.specs.Consecutive.{AreConsecutive}
use Rattle.code_layout.specs.EmittedCode.{HasCodeOf, catch_of, item_point, item_points, items_code, items_scope}
use Rattle.code_layout.specs.Layout.{IsLaid, Spelled, end_from, item_starts, len_of, placed_from, placed_items, range_of, ranges_from, start_in, starts_from}
use Rattle.code_layout.specs.declared.emitted.Catch.{Catch as EmittedCatch}
use Rattle.code_layout.specs.declared.emitted.EmitItem.{EmitItem}
use Rattle.code_layout.specs.declared.laid.Laid.{Laid}
use Rattle.code_layout.specs.Inner.Writing.{AreSpelled}
use Rattle.code_layout.proofs.Decoded.{all-items, some-len}
use Rattle.code_layout.proofs.Kept.{KeepLens}
use Rattle.code_layout.proofs.Written.{end-least}

module _ (spelled : Spelled) where
  -- ---- each item takes a byte at least

  abbrev pub TakeBytes : ℕ → List EmitItem → Type 0
  TakeBytes at [] = Unit {0}
  TakeBytes at (item ∷ items) = (0 < len_of spelled at item.instr) × TakeBytes (at + len_of spelled at item.instr) items

  start-least : (at : ℕ) (items : List EmitItem) (to : ℕ) → to < length items → at ≤ start_in (starts_from spelled at items) to
  start-least at [] to within = absurd (omega arith)
  start-least at (item ∷ items) zero within = omega arith
  start-least at (item ∷ items) (suc to) within = let rest = start-least (at + len_of spelled at item.instr) items to (omega arith) in omega arith

  -- ---- numbers of points

  differ : (m n : ℕ) → m < n → (m == n) ≡ false
  differ m n less = grind (arith)

  -- the number of the point at the start of an item is that of the item
  number-placed : (f : Placed → CodePoint) → ((p : Placed) → (f p).place ≡ p.at) → (place : ℕ → ℕ) (at : ℕ) (items : List EmitItem) → TakeBytes at items → (to : ℕ) → to < length items
      → number_of_first (λ (point : CodePoint). point.place == start_in (starts_from spelled at items) to) (map f (placed_from spelled place at items)) ≡ Some to
  number-placed f stands place at [] take to within = absurd (omega arith)
  number-placed f stands place at (item ∷ items) take zero within = rw (stands (record { at = at; len = len_of spelled at item.instr; instr = with_targets place item.instr }), eq-eqb at at refl) refl
  number-placed f stands place at (item ∷ items) take (suc to) within =
      let next = at + len_of spelled at item.instr in
      let rest = number-placed f stands place next items take.1 to (omega arith) in
      let low = start-least next items to (omega arith) in
      rw (stands (record { at = at; len = len_of spelled at item.instr; instr = with_targets place item.instr }), differ at (start_in (starts_from spelled next items) to) (let more = take.0 in omega arith), rest) refl

  number-item : (s : RowScope) (first : ℕ) (items : List EmitItem) (to : ℕ) → to < length items
      → number_of_first (λ (point : CodePoint). point.place == first + to) (map_numbered (item_point s) first items) ≡ Some to
  number-item s first [] to within = absurd (omega arith)
  number-item s first (item ∷ items) zero within = rw (eq-eqb first (first + 0) (omega arith)) refl
  number-item s first (item ∷ items) (suc to) within =
      let same : suc first + to ≡ first + suc to = omega arith in
      let rest = subst (λ (n : ℕ). number_of_first (λ (point : CodePoint). point.place == n) (map_numbered (item_point s) (suc first) items) ≡ Some to) same (number-item s (suc first) items to (omega arith)) in
      rw (differ first (first + suc to) (omega arith), rest) refl

  -- ---- operations

  module _ (links : Links) (from to : ℕ → ℕ) (place : ℕ → ℕ) (n : ℕ) (same : (t : ℕ) → t < n → from (place t) ≡ to t) where
    -- an operation does not read where a new stands
    op-same : (s : RowScope) (news : ℕ → Option Name) (instr : Instr) → AllByRecursion (NamesItem n) (targets instr)
        → instr_op links from s (with_targets place instr) ≡ instr_op links to (record s { new_class = news }) instr
    op-same s news instr names =
        op_renumbered links from to place s news instr (AllByRecursion-weaker (NamesItem n) (IsSamePoint links from to place) same (targets instr) names)

    -- ---- handlers

    catch-same : (pool : Constants) (start end : ℕ) (catch : EmittedCatch) → catch.to < n
        → map (renumbered from) (catch_in pool (range_of place start end catch)) ≡ map (renumbered to) (catch_of pool catch)
    catch-same pool start end catch names = let e = same catch.to names in grind (arith, e)

    catches-same : (pool : Constants) (start end : ℕ) (catches : List EmittedCatch) → AllByRecursion (λ (catch : EmittedCatch). NamesItem n catch.to) catches
        → map (renumbered from) (flat_map (λ (catch : EmittedCatch). catch_in pool (range_of place start end catch)) catches) ≡ map (renumbered to) (flat_map (catch_of pool) catches)
    catches-same pool start end [] names = refl
    catches-same pool start end (catch ∷ catches) names =
        rw (map-append (renumbered from), map-append (renumbered to), catch-same pool start end catch names.0, catches-same pool start end catches names.1) refl

  module _ (pool : Constants) (place : ℕ → ℕ) where
    range-none : (start end at : ℕ) → (leb start at && ltb at end) ≡ false → (catches : List EmittedCatch) → catches_at pool (map (range_of place start end) catches) at ≡ []
    range-none start end at none [] = refl
    range-none start end at none (catch ∷ catches) = rw (none, range-none start end at none catches) refl

    range-all : (start end at : ℕ) → (leb start at && ltb at end) ≡ true → (catches : List EmittedCatch)
        → catches_at pool (map (range_of place start end) catches) at ≡ flat_map (λ (catch : EmittedCatch). catch_in pool (range_of place start end catch)) catches
    range-all start end at all [] = refl
    range-all start end at all (catch ∷ catches) = rw (all, range-all start end at all catches) refl

    catches-append : (one other : List Handler) (at : ℕ) → catches_at pool (one ++ other) at ≡ catches_at pool one at ++ catches_at pool other at
    catches-append one other at = flat_map-append _ one other

    -- ranges that begin behind a place do not cover it
    none-before : (before at : ℕ) (items : List EmitItem) → before < at → catches_at pool (ranges_from spelled place at items) before ≡ []
    none-before before at [] less = refl
    none-before before at (item ∷ items) less =
        let next = at + len_of spelled at item.instr in
        rw (
          catches-append (map (range_of place at next) item.catches) (ranges_from spelled place next items) before,
          range-none at next before (grind (arith)) item.catches,
          none-before before next items (omega arith),
        ) refl

    -- and those that end before it neither
    none-behind : (at : ℕ) (item : EmitItem) (items : List EmitItem) (behind : ℕ) → at + len_of spelled at item.instr ≤ behind
        → catches_at pool (ranges_from spelled place at (item ∷ items)) behind ≡ catches_at pool (ranges_from spelled place (at + len_of spelled at item.instr) items) behind
    none-behind at item items behind least =
        let next = at + len_of spelled at item.instr in
        rw (
          catches-append (map (range_of place at next) item.catches) (ranges_from spelled place next items) behind,
          range-none at next behind (grind (arith)) item.catches,
        ) refl

    -- so that an item has its own handlers
    own-catches : (at : ℕ) (item : EmitItem) (items : List EmitItem) → 0 < len_of spelled at item.instr
        → catches_at pool (ranges_from spelled place at (item ∷ items)) at ≡ flat_map (λ (catch : EmittedCatch). catch_in pool (range_of place at (at + len_of spelled at item.instr) catch)) item.catches
    own-catches at item items more =
        let next = at + len_of spelled at item.instr in
        rw (
          catches-append (map (range_of place at next) item.catches) (ranges_from spelled place next items) at,
          range-all at next at (grind (arith)) item.catches,
          none-before at next items (omega arith),
        ) (append-nil _)

  -- ---- points

  -- the targets and handlers of items name some of so many
  abbrev pub NameItems : ℕ → EmitItem → Type 0
  NameItems n item = AllByRecursion (NamesItem n) (targets item.instr) × AllByRecursion (λ (catch : EmittedCatch). NamesItem n catch.to) item.catches

  module _ (links : Links) (s : Scope) (news : ℕ → Option Name) (place from to : ℕ → ℕ) (n : ℕ) (same : (t : ℕ) → t < n → from (place t) ≡ to t) where
    abbrev items_row_scope : RowScope
    items_row_scope = record (row_scope s) { new_class = news }

    -- items from a number and a place on, whose handlers are those that are left from there on
    points-same : (number at : ℕ) (items : List EmitItem) → AllByRecursion (NameItems n) items → TakeBytes at items
        → ((behind : ℕ) → at ≤ behind → catches_at s.class.pool s.part.handlers behind ≡ catches_at s.class.pool (ranges_from spelled place at items) behind)
        → map (run_point links from) (map (code_point s) (placed_from spelled place at items)) ≡ map (run_point links to) (map_numbered (item_point items_row_scope) number items)
    points-same number at [] names take left = refl
    points-same number at (item ∷ items) names take left =
        let pool = s.class.pool in
        let next = at + len_of spelled at item.instr in
        let rest = points-same (suc number) next items names.1 take.1
        (λ behind least. left behind (omega arith) ∙ none-behind pool place at item items behind least) in
        let op = op-same links from to place n same (row_scope s) news item.instr names.0.0 in
        let own = left at (omega arith) ∙ own-catches pool place at item items take.0 in
        let caught = ap (map (renumbered from)) own ∙ catches-same links from to place n same pool at next item.catches names.0.1 in
        cc

  -- ---- the code

  module _ (links : Links) (s : Scope) (items : List EmitItem) (laid : Laid) (emitted : IsEmitted items) (is : IsLaid spelled items laid) (take : TakeBytes 0 items)
      (code : s.part.code ≡ laid.code) (handlers : s.part.handlers ≡ laid.handlers) where
    abbrev starts : ℕ → ℕ
    starts = start_in (item_starts spelled items)

    are : instructions s ≡ placed_items spelled items
    are = rw (code, is.decodes.covers) refl

    names-items : AllByRecursion (NameItems (length items)) items
    names-items = all-items (NameItems (length items)) items (λ at item i. let each = emitted.each at item i in (each.targets, each.catches))

    points-are : code_points s ≡ map (code_point s) (placed_items spelled items)
    points-are = ap (map (code_point s)) are

    number-same : (t : ℕ) → t < length items → number_at (code_points s) (starts t) ≡ number_at (item_points (items_scope s items) items) t
    number-same t within =
        let placed : number_at (map (code_point s) (placed_items spelled items)) (starts t) ≡ t = rw (number-placed (code_point s) (λ p. refl) starts 0 items take t within) refl in
        let points = item_points (items_scope s items) items in
        let zero-add : 0 + t ≡ t = omega arith in
        let item = subst (λ (m : ℕ). number_of_first (λ (point : CodePoint). point.place == m) points ≡ Some t) zero-add (number-item (items_scope s items) 0 items t within) in
        let numbered : number_at points t ≡ t = rw item refl in
        ap (λ (points : List CodePoint). number_at points (starts t)) points-are ∙ placed ∙ sym numbered

    pub code-same : method_code links s ≡ items_code links s items
    code-same =
        let from = number_at (code_points s) in
        let to = number_at (item_points (items_scope s items) items) in
        let pool = s.class.pool in
        let left : (behind : ℕ) → 0 ≤ behind → catches_at pool s.part.handlers behind ≡ catches_at pool (ranges_from spelled starts 0 items) behind =
        λ behind least. ap (λ (table : List Handler). catches_at pool table behind) (handlers ∙ is.handlers) in
        let points = ap (map (run_point links from)) points-are ∙ points-same links s (items_scope s items).new_class starts from to (length items) number-same 0 0 items names-items take left in
        let code_of : List Point → Code = λ all. record { locals = s.part.max_locals; points = all } in
        ap code_of points

  -- what is written of items takes a byte an item at least
  pub take-bytes : (place : ℕ → ℕ) (most : ℕ) → KeepLens spelled place most → (at : ℕ) (items : List EmitItem) → end_from spelled at items ≤ most → AreSpelled spelled (placed_from spelled place at items) → TakeBytes at items
  take-bytes place most kept at [] fits spells = tt
  take-bytes place most kept at (item ∷ items) fits spells =
      let instr = with_targets place item.instr in
      let next = at + len_of spelled at item.instr in
      let low : at ≤ most = let l = end-least spelled next items in omega arith in
      let long : length (spelled at instr) ≡ len_of spelled at item.instr = kept at item.instr low in
      let some = some-len at instr (spelled at instr) spells.0 in
      (omega arith, take-bytes place most kept next items fits spells.1)

  pub has-code : (items : List EmitItem) (laid : Laid) → IsEmitted items → IsLaid spelled items laid → KeepLens spelled (start_in (item_starts spelled items)) (end_from spelled 0 items)
      → AreSpelled spelled (placed_items spelled items) → HasCodeOf items laid
  has-code items laid emitted is kept spells =
      let take = take-bytes (start_in (item_starts spelled items)) (end_from spelled 0 items) kept 0 items (omega arith) spells in
      λ links s code handlers. code-same links s items laid emitted is take code handlers

  -- instructions of a code, one after the other, take a byte each at least
  one-after-other : (place : ℕ → ℕ) (at : ℕ) (items : List EmitItem) (end : ℕ) → AreConsecutive at (placed_from spelled place at items) end → TakeBytes at items
  one-after-other place at [] end consecutive = tt
  one-after-other place at (item ∷ items) end consecutive =
      (consecutive.1, one-after-other place (at + len_of spelled at item.instr) items end consecutive.2)

  -- so that a layout alone is enough
  pub laid-has-code : (items : List EmitItem) (laid : Laid) → IsEmitted items → IsLaid spelled items laid
      → ((code : List ℕ) (instrs : List Placed) → decoded code ≡ Ok instrs → AreConsecutive 0 instrs (length code))
      → HasCodeOf items laid
  laid-has-code items laid emitted is consecutive =
      let take = one-after-other (start_in (item_starts spelled items)) 0 items (length laid.code) (consecutive laid.code (placed_items spelled items) is.decodes.covers) in
      λ links s code handlers. code-same links s items laid emitted is take code handlers
