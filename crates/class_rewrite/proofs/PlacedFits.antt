-- Stated frames can be written at the offsets of items that are laid out.
use Rattle.std.proofs.Common.{◌≡◌, ◌++◌, ◌+◌, ◌≤◌, ◌<◌, ◌∙◌, ℕ, zero, suc, Bool, true, false, List, [], ◌∷◌, bytes_eq, length, map, slice_get, slice_index_or, Option, Some, None, IsSome, IsTrue, refl, sym, ap, subst, arith}
use Rattle.std.specs.List.{AllByRecursion, flat_map}
use Rattle.std.proofs.lemmas.Bool.{false≢true}
use Rattle.std.proofs.lemmas.Grind.{flat_map-append}
use Rattle.std.proofs.lemmas.List.{length-map}
use Rattle.std.proofs.lemmas.Option.{none-some, same_Some}
use Rattle.std.proofs.lemmas.Slice.Eq.{bytes_eq-Decides}
use Rattle.class_model.specs.Frames.{is_wide}
use Rattle.class_model.specs.declared.frame.Frame.{Frame}
use Rattle.class_model.specs.declared.frame.PlacedFrame.{PlacedFrame}
use Rattle.class_model.specs.declared.frame.VType.{VType}
use Rattle.class_model.specs.declared.frame.VType.TheVariants as types
use Rattle.class_tree.specs.Headers.{Name}
use Rattle.code_bytes.specs.Consecutive.{AreConsecutive}
use Rattle.code_layout.specs.Layout.{Spelled, len_of, placed_from, starts_from}
use Rattle.code_layout.specs.declared.emitted.EmitItem.{EmitItem}
use Rattle.map_frames.specs.Writing.{FitsFrame, FitsType, PlacesIncrease, index_of, is_by_unit}
use Rattle.map_frames.specs.declared.writing.NamedIndex.{NamedIndex}
use Rattle.stackmap_emit.specs.FrameConstants.{frame_needs, type_needs}
use Rattle.stackmap_emit.specs.FramesAttribute.{CanBeWritten, IsNamed, placed_needs}
use Rattle.stackmap_emit.specs.PlacedFrames.{frame_at, placed_frames, stated_from, type_at}
use Rattle.stackmap_emit.specs.TypedMethods.{HasNew}
use Rattle.written_types.specs.FitsTypes.{BeginsWithTop, HavePairs}

-- ---- lists

all_first : {X : Type 0} (P : X → Type 0) (xs ys : List X) → AllByRecursion P (xs ++ ys) → AllByRecursion P xs
all_first P [] ys all = tt
all_first P (x ∷ xs) ys all = (all.0, all_first P xs ys all.1)

all_others : {X : Type 0} (P : X → Type 0) (xs ys : List X) → AllByRecursion P (xs ++ ys) → AllByRecursion P ys
all_others P [] ys all = all
all_others P (x ∷ xs) ys all = all_others P xs ys all.1

-- ---- classes that have an index

has_index : (names : List NamedIndex) (name : Name) (number : ℕ) (named : NamedIndex) → slice_get names number ≡ Some named → named.class ≡ name
    → IsSome (index_of names name)
has_index [] name number named is same = absurd (none-some named is)
has_index (entry ∷ names) name number named is same = by (bytes_eq entry.class name) refl number is (has_index names name) where
  by : (b : Bool) → bytes_eq entry.class name ≡ b → (n : ℕ) → slice_get (entry ∷ names) n ≡ Some named
      → ((m : ℕ) (other : NamedIndex) → slice_get names m ≡ Some other → other.class ≡ name → IsSome (index_of names name))
      → IsSome (index_of (entry ∷ names) name)
  by true e n there rest = rw e refl
  by false e zero there rest =
      absurd (false≢true (sym e ∙ (bytes_eq-Decides entry.class name).1 (ap (λ (one : NamedIndex). one.class) (same_Some entry named there) ∙ same)))
  by false e (suc n) there rest = rw e (rest n named there same)

-- ---- one frame

module _ (start : ℕ → ℕ) where
  wide_same : (type : VType) → is_wide (type_at start type) ≡ is_wide type
  wide_same (types.Uninit at) = refl
  wide_same types.Top = refl
  wide_same types.Int = refl
  wide_same types.Float = refl
  wide_same types.Long = refl
  wide_same types.Double = refl
  wide_same types.Null = refl
  wide_same types.UninitThis = refl
  wide_same (types.Object name) = refl

  by_unit : (all : List VType) → HavePairs all → IsTrue (is_by_unit (map (type_at start) all))
  by_unit [] pairs = refl
  by_unit (type ∷ []) pairs = by (is_wide type) refl pairs.0 where
    by : (b : Bool) → is_wide type ≡ b → (IsTrue (is_wide type) → BeginsWithTop []) → IsTrue (is_by_unit (map (type_at start) (type ∷ [])))
    by true e has = absurd (has e)
    by false e has = rw (wide_same type, e) refl
  by_unit (type ∷ next ∷ all) pairs = by (is_wide type) refl pairs.0 (by_unit (next ∷ all) pairs.1) (by_unit all pairs.1.1) where
    by : (b : Bool) → is_wide type ≡ b → (IsTrue (is_wide type) → BeginsWithTop (next ∷ all)) → IsTrue (is_by_unit (map (type_at start) (next ∷ all)))
        → IsTrue (is_by_unit (map (type_at start) all))
        → IsTrue (is_by_unit (map (type_at start) (type ∷ next ∷ all)))
    by true e has with_next without =
        let top : next ≡ types.Top = has e in
        rw (wide_same type, e, top) without
    by false e has with_next without = rw (wide_same type, e) with_next

  module _ (items : List EmitItem) (low : (number : ℕ) (item : EmitItem) → slice_get items number ≡ Some item → start number ≤ 65535)
      (names : List NamedIndex) where
    type_fits : (type : VType) → HasNew items type → AllByRecursion (IsNamed names) (type_needs (type_at start type)) → FitsType names (type_at start type)
    type_fits (types.Object name) new named = has_index names name named.1.0.0 named.1.0.1 named.1.0.2 named.1.0.3
    type_fits (types.Uninit number) new named = low number new.1.0 new.1.1
    type_fits types.Top new named = tt
    type_fits types.Int new named = tt
    type_fits types.Float new named = tt
    type_fits types.Long new named = tt
    type_fits types.Double new named = tt
    type_fits types.Null new named = tt
    type_fits types.UninitThis new named = tt

    types_fit : (all : List VType) → AllByRecursion (HasNew items) all → AllByRecursion (IsNamed names) (flat_map type_needs (map (type_at start) all))
        → AllByRecursion (FitsType names) (map (type_at start) all)
    types_fit [] new named = tt
    types_fit (type ∷ all) new named = (
      type_fits type new.0 (all_first (IsNamed names) (type_needs (type_at start type)) (flat_map type_needs (map (type_at start) all)) named),
      types_fit all new.1 (all_others (IsNamed names) (type_needs (type_at start type)) (flat_map type_needs (map (type_at start) all)) named),
    )

    frame_fits : (frame : Frame) → HavePairs frame.locals → length frame.locals ≤ 65535 → length frame.stack ≤ 65535
        → AllByRecursion (HasNew items) frame.locals
        → AllByRecursion (HasNew items) frame.stack
        → AllByRecursion (IsNamed names) (frame_needs (Some (frame_at start frame)))
        → FitsFrame names (frame_at start frame)
    frame_fits frame pairs few_locals few_stack locals stack named =
        let first = map (type_at start) frame.locals in
        let second = map (type_at start) frame.stack in
        let needs : AllByRecursion (IsNamed names) (flat_map type_needs first ++ flat_map type_needs second) =
        subst (AllByRecursion (IsNamed names)) (flat_map-append type_needs first second) named in
        record {
          by_unit = by_unit frame.locals pairs;
          few_locals = subst (λ (n : ℕ). n ≤ 65535) (sym (length-map frame.locals (type_at start))) few_locals;
          few_stack = subst (λ (n : ℕ). n ≤ 65535) (sym (length-map frame.stack (type_at start))) few_stack;
          locals = types_fit frame.locals locals (all_first (IsNamed names) (flat_map type_needs first) (flat_map type_needs second) needs);
          stack = types_fit frame.stack stack (all_others (IsNamed names) (flat_map type_needs first) (flat_map type_needs second) needs);
        }

-- ---- places

-- what is asked of each stated frame
pub record IsFitFrame (items : List EmitItem) (frame : Frame) : Type 0 where
  pub pairs : HavePairs frame.locals
  pub few_locals : length frame.locals ≤ 65535
  pub few_stack : length frame.stack ≤ 65535
  pub locals : AllByRecursion (HasNew items) frame.locals
  pub stack : AllByRecursion (HasNew items) frame.stack

module _ (spelled : Spelled) (place start : ℕ → ℕ) (state : ℕ → Option Frame) where
  -- items start here from the one of a number on
  abbrev StartHere : ℕ → ℕ → List EmitItem → Type 0
  StartHere number at items = (gap : ℕ) → start (number + gap) ≡ slice_index_or (starts_from spelled at items) gap 0

  next_start : (number at : ℕ) (item : EmitItem) (items : List EmitItem) → StartHere number at (item ∷ items)
      → StartHere (suc number) (at + len_of spelled at item.instr) items
  next_start number at item items here gap = ap start (next number gap) ∙ here (suc gap) where
    next : (n gap : ℕ) → suc n + gap ≡ n + suc gap
    next n gap = omega arith

  abbrev placed : ℕ → List EmitItem → List PlacedFrame
  placed number items = placed_frames start number (stated_from state number items)

  record ArePlacedHere (from at number : ℕ) (items : List EmitItem) (end : ℕ) : Type 0 where
    increase : PlacesIncrease from (placed number items)
    few : length (placed number items) + at ≤ end

  places : (from number at : ℕ) (items : List EmitItem) (end : ℕ) → from ≤ at → end ≤ 65535 → StartHere number at items
      → AreConsecutive at (placed_from spelled place at items) end
      → ArePlacedHere from at number items end
  places from number at [] end before low here stand = record { increase = tt; few = omega (arith, stand) }
  places from number at (item ∷ items) end before low here stand =
      by (state number) refl
      (λ next least. places next (suc number) (at + len_of spelled at item.instr) items end least low (next_start number at item items here) stand.2) where
        more : 0 < len_of spelled at item.instr
        more = stand.1

        by : (stated : Option Frame) → state number ≡ stated
            → ((next : ℕ) → next ≤ at + len_of spelled at item.instr
            → ArePlacedHere next (at + len_of spelled at item.instr) (suc number) items end)
            → ArePlacedHere from at number (item ∷ items) end
        by None is rest =
            let others = rest from (omega (arith, before)) in
            let count = others.few in
            record { increase = rw is (others.increase); few = rw is (omega (arith, count)) }
        by (Some frame) is rest =
            let first : start number ≡ at = ap start (none_more number) ∙ here 0 in
            let some = more in
            let others = rest (start number + 1) (omega (arith, first, some)) in
            let count = others.few in
            record {
              increase = rw is ((omega (arith, before, first), omega (arith, first, count, low, some), others.increase));
              few = rw is (omega (arith, count, some));
            }
          where
            none_more : (n : ℕ) → n ≡ n + 0
            none_more n = omega arith

  low_starts : (number at : ℕ) (items : List EmitItem) (end : ℕ) → StartHere number at items → AreConsecutive at (placed_from spelled place at items) end
      → (gap : ℕ) (item : EmitItem) → slice_get items gap ≡ Some item
      → start (number + gap) ≤ end
  low_starts number at [] end here stand gap item is = absurd (none-some item is)
  low_starts number at (first ∷ items) end here stand zero item is =
      let same = here 0 in
      let last = least (at + len_of spelled at first.instr) items end stand.2 in
      omega (arith, same, last) where
        least : (at : ℕ) (items : List EmitItem) (end : ℕ) → AreConsecutive at (placed_from spelled place at items) end → at ≤ end
        least at [] end stand = omega (arith, stand)
        least at (item ∷ items) end stand = let rest = least (at + len_of spelled at item.instr) items end stand.2 in omega (arith, rest)
  low_starts number at (first ∷ items) end here stand (suc gap) item is =
      subst (λ (n : ℕ). n ≤ end) (ap start (next number gap))
      (low_starts (suc number) (at + len_of spelled at first.instr) items end (next_start number at first items here) stand.2 gap item is) where
        next : (n gap : ℕ) → suc n + gap ≡ n + suc gap
        next n gap = omega arith

  -- Stated frames that fit can be written.
  module _ (items : List EmitItem) (end : ℕ) (short : end ≤ 65535) (here : StartHere 0 0 items)
      (stand : AreConsecutive 0 (placed_from spelled place 0 items) end)
      (fit : (number : ℕ) (frame : Frame) → state number ≡ Some frame → IsFitFrame items frame) where
    low : (number : ℕ) (item : EmitItem) → slice_get items number ≡ Some item → start number ≤ 65535
    low number item is =
        let at = low_starts 0 0 items end here stand number item is in
        let less : start number ≤ end = subst (λ (n : ℕ). start n ≤ end) (from_none number) at in
        omega (arith, less, short) where
          from_none : (n : ℕ) → 0 + n ≡ n
          from_none n = omega arith

    module _ (names : List NamedIndex) where
      each_fits : (number : ℕ) (rest : List EmitItem) → AllByRecursion (IsNamed names) (placed_needs (placed number rest))
          → AllByRecursion (λ (one : PlacedFrame). FitsFrame names one.frame) (placed number rest)
      each_fits number [] named = tt
      each_fits number (item ∷ rest) named = by (state number) refl (each_fits (suc number) rest) named where
        by : (stated : Option Frame) → state number ≡ stated
            → (AllByRecursion (IsNamed names) (placed_needs (placed (suc number) rest))
            → AllByRecursion (λ (one : PlacedFrame). FitsFrame names one.frame) (placed (suc number) rest))
            → AllByRecursion (IsNamed names) (placed_needs (placed_frames start number (state number ∷ stated_from state (suc number) rest)))
            → AllByRecursion (λ (one : PlacedFrame). FitsFrame names one.frame) (placed_frames start number (state number ∷ stated_from state (suc number) rest))
        by None is others named = rw is (others (rw is at named))
        by (Some frame) is others named =
            let all : AllByRecursion (IsNamed names) (frame_needs (Some (frame_at start frame)) ++ placed_needs (placed (suc number) rest)) =
            rw is at named in
            let one = fit number frame is in
            rw is ((
              frame_fits start items low names frame one.pairs one.few_locals one.few_stack one.locals one.stack
                  (all_first (IsNamed names) (frame_needs (Some (frame_at start frame))) (placed_needs (placed (suc number) rest)) all),
              others (all_others (IsNamed names) (frame_needs (Some (frame_at start frame))) (placed_needs (placed (suc number) rest)) all),
            ))

    pub can_be_written : CanBeWritten (placed 0 items)
    can_be_written names named =
        let there = places 0 0 0 items end (omega arith) short here stand in
        let count = there.few in
        record { few = omega (arith, count, short); places = there.increase; each = each_fits names 0 items named }
