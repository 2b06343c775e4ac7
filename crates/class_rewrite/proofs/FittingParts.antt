-- The parts of a Code that has items laid out fit their items: its counts and numbers are those of two bytes.
use Rattle.std.proofs.Common.{◌≡◌, ◌⊎◌, ◌≤◌, ◌<◌, ◌+◌, ◌^◌, ◌∙◌, inl, inr, ltb, ℕ, zero, suc, Bool, true, false, List, [], ◌∷◌, ◌++◌, length, map, Option, Some, None, IsSome, option_and_then, refl, sym, ap, subst, arith, length-append}
use Rattle.std.specs.List.{AllByRecursion, flat_map}
use Rattle.std.proofs.lemmas.Bool.{false≢true, ltb-false}
use Rattle.std.proofs.lemmas.Bool.Decides.{nat_tests}
use Rattle.std.proofs.lemmas.List.{length-map}
use Rattle.std.proofs.lemmas.Option.{none-some}
use Rattle.class_bytes.specs.Counts.{FitsInners, FitsPart}
use Rattle.class_bytes.specs.Numbers.{HandlerNumbers, InnerNumber, PartNumbers}
use Rattle.class_model.specs.Frames.{Setting}
use Rattle.class_model.specs.Pool.{Constants, constant_at}
use Rattle.class_model.specs.PoolChecks.{IsClassAt, class_name_of, text_of}
use Rattle.class_model.specs.Spelling.{code_part_bytes, handler_bytes, inner_bytes, u2, u4}
use Rattle.class_model.specs.declared.class_file.CodePart.{CodePart}
use Rattle.class_model.specs.declared.class_file.Handler.{Handler}
use Rattle.class_model.specs.declared.class_file.InnerAttr.{InnerAttr}
use Rattle.class_model.specs.declared.frame.Frame.{Frame}
use Rattle.class_model.specs.declared.pool.Const.{Const}
use Rattle.class_rewrite.proofs.CheckedCodes.{AreReadAttrs, IsCheckedItem, none_there, one_there}
use Rattle.code_layout.specs.Layout.{Spelled, end_from, item_ranges, len_of, range_of, ranges_from, start_in, starts_from, table_len}
use Rattle.code_layout.specs.declared.emitted.Catch.{Catch}
use Rattle.code_layout.specs.declared.emitted.EmitItem.{EmitItem}

-- ---- indices

pub at_most : (limit n : ℕ) → (limit < n → ⊥) → n ≤ limit
at_most limit n apart = by (ltb limit n) refl where
  by : (b : Bool) → ltb limit n ≡ b → n ≤ limit
  by true e = absurd (apart (grind (arith, nat_tests)))
  by false e = ltb-false _ _ e

below : (pool : Constants) (index : ℕ) (constant : Const) → constant_at pool index ≡ Some constant → index < length pool
below [] index constant is = absurd (none-some constant is)
below (entry ∷ pool) zero constant is = omega arith
below (entry ∷ pool) (suc index) constant is = let rest = below pool index constant is in omega (arith, rest)

pub some_below : {X : Type 0} (pool : Constants) (index : ℕ) (f : Const → Option X) → IsSome (option_and_then f (constant_at pool index)) → index < length pool
some_below pool index f some = by (constant_at pool index) refl where
  by : (found : Option Const) → constant_at pool index ≡ found → index < length pool
  by None e = absurd (false≢true (subst (λ (c : Option Const). IsSome (option_and_then f c)) e some))
  by (Some constant) e = below pool index constant e

-- ---- the exception table

module _ (spelled : Spelled) (place : ℕ → ℕ) where
  pub table_long : (at : ℕ) (items : List EmitItem) → length (ranges_from spelled place at items) ≡ table_len items
  table_long at [] = refl
  table_long at (item ∷ items) =
      let next = at + len_of spelled at item.instr in
      let rest = table_long next items in
      let both = length-append (map (range_of place at next) item.catches) (ranges_from spelled place next items) in
      let own = length-map item.catches (range_of place at next) in
      omega (arith, rest, both, own)

  end_least : (at : ℕ) (items : List EmitItem) → at ≤ end_from spelled at items
  end_least at [] = omega arith
  end_least at (item ∷ items) = let rest = end_least (at + len_of spelled at item.instr) items in omega (arith, rest)

  -- where an item starts is before the end
  pub starts_low : (at : ℕ) (items : List EmitItem) (number : ℕ) → start_in (starts_from spelled at items) number ≤ end_from spelled at items
  starts_low at [] zero = omega arith
  starts_low at [] (suc number) = omega arith
  starts_low at (item ∷ items) zero = end_least at (item ∷ items)
  starts_low at (item ∷ items) (suc number) = starts_low (at + len_of spelled at item.instr) items number

  module _ (pool : Constants) (few : length pool ≤ 65535) (low : (to : ℕ) → place to ≤ 65535) where
    catches_small : (start end : ℕ) → end ≤ 65535 → start ≤ end → (catches : List Catch)
        → AllByRecursion (λ (catch : Catch). (catch.catch_type ≡ 0) ⊎ IsClassAt pool catch.catch_type) catches
        → (others : List Handler) → AllByRecursion HandlerNumbers others
        → AllByRecursion HandlerNumbers (map (range_of place start end) catches ++ others)
    catches_small start end last less [] types others rest = rest
    catches_small start end last less (catch ∷ catches) types others rest = (
      record { start = omega (arith, last, less); end = omega (arith, last); at = let l = low catch.to in omega (arith, l); catch_type = small types.0 },
      catches_small start end last less catches types.1 others rest,
    ) where
      small : (catch.catch_type ≡ 0) ⊎ IsClassAt pool catch.catch_type → catch.catch_type < 2 ^ 16
      small (inl none) = omega (arith, none)
      small (inr class) = let inside = some_below pool catch.catch_type class_name_of class in omega (arith, inside, few)

    pub ranges_small : (major locals at : ℕ) (items : List EmitItem) → end_from spelled at items ≤ 65535 → AllByRecursion (IsCheckedItem pool major locals) items
        → AllByRecursion HandlerNumbers (ranges_from spelled place at items)
    ranges_small major locals at [] last all = tt
    ranges_small major locals at (item ∷ items) last all =
        let next = at + len_of spelled at item.instr in
        let most = end_least next items in
        catches_small at next (omega (arith, most, last)) (omega arith) item.catches all.0.catches (ranges_from spelled place next items)
        (ranges_small major locals next items last all.1)

-- ---- the attributes

inners_fit : (s : Setting) (entry : Frame) (part : CodePart) → length (code_part_bytes part) < 2 ^ 32
    → (attrs : List InnerAttr) → part.attrs ≡ attrs → AreReadAttrs s entry attrs → FitsInners attrs
inners_fit s entry part short _ is none_there = record { count = omega arith; each = tt }
inners_fit s entry part short _ is (one_there attr frames name read) =
    let handlers = u2 (length part.handlers) ++ flat_map handler_bytes part.handlers in
    let front = u2 part.max_stack ++ u2 part.max_locals ++ (u4 (length part.code) ++ part.code) ++ handlers in
    let inners = u2 (length part.attrs) ++ flat_map inner_bytes part.attrs in
    let one = length-append front inners in
    let two : length (flat_map inner_bytes part.attrs) ≡ length (inner_bytes attr ++ []) = ap (λ (list : List InnerAttr). length (flat_map inner_bytes list)) is in
    let three = length-append (inner_bytes attr) [] in
    let four : length (inner_bytes attr) ≡ suc (suc (suc (suc (suc (suc (length attr.bytes)))))) = refl in
    record { count = omega arith; each = (omega (arith, short, one, two, three, four), tt) }

inners_small : (s : Setting) (entry : Frame) → length s.pool ≤ 65535 → (attrs : List InnerAttr) → AreReadAttrs s entry attrs → AllByRecursion InnerNumber attrs
inners_small s entry few _ none_there = tt
inners_small s entry few _ (one_there attr frames name read) =
    let inside = some_below s.pool attr.name text_of (subst IsSome (sym name) refl) in
    (omega (arith, inside, few), tt)

-- ---- the whole

module _ (part : CodePart) (spelled : Spelled) (items : List EmitItem) (s : Setting) (entry : Frame) where
  -- what is known of the parts
  pub record HasSmallParts (major : ℕ) : Type 0 where
    pub few_constants : length s.pool ≤ 65535
    pub code : length part.code ≤ 65535
    pub end : end_from spelled 0 items ≤ 65535
    pub table : table_len items ≤ 65535
    pub handlers : part.handlers ≡ item_ranges spelled items
    pub stack : part.max_stack ≤ 65535
    pub locals : part.max_locals ≤ 65535
    pub checked : AllByRecursion (IsCheckedItem s.pool major part.max_locals) items
    pub attrs : AreReadAttrs s entry part.attrs
    pub short : length (code_part_bytes part) < 2 ^ 32

  pub part_fits : (major : ℕ) → HasSmallParts major → FitsPart part
  part_fits major h =
      let long : length part.handlers ≡ table_len items = ap (λ (list : List Handler). length list) h.handlers ∙ table_long spelled (start_in (starts_from spelled 0 items)) 0 items in
      let table = h.table in
      let code = h.code in
      record {
        content = h.short;
        code = omega (arith, code);
        handlers = omega (arith, long, table);
        attrs = inners_fit s entry part h.short part.attrs refl h.attrs;
      }

  pub part_small : (major : ℕ) → HasSmallParts major → PartNumbers part
  part_small major h =
      let place = start_in (starts_from spelled 0 items) in
      let end = h.end in
      let stack = h.stack in
      let locals = h.locals in
      record {
        max_stack = omega (arith, stack);
        max_locals = omega (arith, locals);
        handlers = subst (AllByRecursion HandlerNumbers) (sym h.handlers)
            (ranges_small spelled place s.pool h.few_constants (λ to. let low = starts_low spelled place 0 items to in omega (arith, low, end)) major part.max_locals 0 items h.end h.checked);
        attrs = inners_small s entry h.few_constants part.attrs h.attrs;
      }
