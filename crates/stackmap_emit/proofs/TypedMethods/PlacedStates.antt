-- The frames that items state, by the offsets of the items.
use Rattle.std.proofs.Common.{◌≡◌, ◌==◌, ◌||◌, ◌++◌, ◌≤◌, ◌<◌, ◌+◌, ◌∙◌, ℕ, zero, suc, Bool, true, false, List, [], ◌∷◌, bytes_eq, length, map, slice_get, Option, Some, None, option_map, IsTrue, refl, sym, ap, subst, arith}
use Rattle.std.specs.List.{AllByRecursion, flat_map}
use Rattle.std.proofs.lemmas.Bool.{eq-eqb, false≢true}
use Rattle.std.proofs.lemmas.Grind.{flat_map-append}
use Rattle.std.proofs.lemmas.List.{length-map}
use Rattle.std.proofs.lemmas.Option.{none-some, same_Some, slice_get_within}
use Rattle.std.proofs.lemmas.Slice.Eq.{bytes_eq-Decides}
use Rattle.class_model.specs.Frames.{Setting, depth, is_new, is_new_at, units}
use Rattle.class_model.specs.Instructions.{is_start}
use Rattle.class_model.specs.Pool.{Constants}
use Rattle.class_model.specs.PoolChecks.{class_at}
use Rattle.class_model.specs.Stated.{frame_for}
use Rattle.class_model.specs.declared.frame.Frame.{Frame}
use Rattle.class_model.specs.declared.frame.PlacedFrame.{PlacedFrame}
use Rattle.class_model.specs.declared.frame.VType.{VType}
use Rattle.class_model.specs.declared.frame.VType.TheVariants.{Object, Uninit}
use Rattle.class_model.specs.declared.instr.Instr.TheVariants.{New}
use Rattle.class_tree.specs.Headers.{Name}
use Rattle.code_layout.specs.Layout.{Spelled, len_of, placed_from, start_in, starts_from}
use Rattle.code_layout.specs.declared.emitted.EmitItem.{EmitItem}
use Rattle.making_code.specs.Constants.{index_in, needs_class}
use Rattle.making_code.specs.Laws.AddedConstants.{IsNamed as IsNamedClass}
use Rattle.map_frames.specs.Writing.{HasFrame, HasFrames, HasType, index_of, or_zero}
use Rattle.map_frames.specs.declared.writing.NamedIndex.{NamedIndex}
use Rattle.member_link.specs.Targets.{with_targets}
use Rattle.row_frames.specs.Laws.RenumberedTypes.{units_same}
use Rattle.row_frames.specs.Laws.MorePools.{class_more}
use Rattle.stackmap_emit.proofs.TypedMethods.NamedClasses.{HasFrameClasses, HasTypeClass}
use Rattle.stackmap_emit.proofs.TypedMethods.Offsets.{TakeBytes, offset, offset_apart, offset_start}
use Rattle.stackmap_emit.specs.FrameConstants.{frame_needs, type_needs}
use Rattle.stackmap_emit.specs.FramesAttribute.{IsNamed, placed_needs}
use Rattle.stackmap_emit.specs.PlacedFrames.{frame_at, placed_frames, stated_from, type_at}
use Rattle.stackmap_emit.specs.TypedMethods.{HasNew, IsWhole}

-- ---- lists

all_first : {X : Type 0} (P : X → Type 0) (xs ys : List X) → AllByRecursion P (xs ++ ys) → AllByRecursion P xs
all_first P [] ys all = tt
all_first P (x ∷ xs) ys all = (all.0, all_first P xs ys all.1)

all_others : {X : Type 0} (P : X → Type 0) (xs ys : List X) → AllByRecursion P (xs ++ ys) → AllByRecursion P ys
all_others P [] ys all = all
all_others P (x ∷ xs) ys all = all_others P xs ys all.1

or_true : (b : Bool) → (b || true) ≡ true
or_true true = refl
or_true false = refl

-- ---- the index of a class

named_index : (pool : Constants) (names : List NamedIndex) (name : Name)
    → AllByRecursion (λ (named : NamedIndex). named.index ≡ index_in pool (needs_class named.class)) names
    → (number : ℕ) (named : NamedIndex)
    → slice_get names number ≡ Some named
    → named.class ≡ name
    → or_zero (index_of names name) ≡ index_in pool (needs_class name)
named_index pool [] name all number named is same = absurd (none-some named is)
named_index pool (entry ∷ names) name all number named is same =
    by (bytes_eq entry.class name) refl number is (named_index pool names name all.1) where
      decides : (bytes_eq entry.class name ≡ true → entry.class ≡ name) × (entry.class ≡ name → bytes_eq entry.class name ≡ true)
      decides = bytes_eq-Decides entry.class name

      by : (b : Bool) → bytes_eq entry.class name ≡ b → (n : ℕ) → slice_get (entry ∷ names) n ≡ Some named
          → ((m : ℕ) (other : NamedIndex) → slice_get names m ≡ Some other → other.class ≡ name
          → or_zero (index_of names name) ≡ index_in pool (needs_class name))
          → or_zero (index_of (entry ∷ names) name) ≡ index_in pool (needs_class name)
      by true e n there rest =
          let first : or_zero (index_of (entry ∷ names) name) ≡ entry.index = rw (e) refl in
          first ∙ all.0 ∙ ap (λ (class : Name). index_in pool (needs_class class)) (decides.0 e)
      by false e zero there rest =
          absurd (false≢true (sym e ∙ decides.1 (ap (λ (one : NamedIndex). one.class) (same_Some entry named there) ∙ same)))
      by false e (suc n) there rest =
          let later : or_zero (index_of (entry ∷ names) name) ≡ or_zero (index_of names name) = rw (e) refl in
          later ∙ rest n named there same

-- ---- starts

module _ (spelled : Spelled) (place : ℕ → ℕ) where
  -- an item starts where an instruction does
  pub start_there : (at : ℕ) (items : List EmitItem) (number : ℕ) → number < length items
      → is_start (placed_from spelled place at items) (start_in (starts_from spelled at items) number) ≡ true
  start_there at [] number within = absurd (omega (arith, within))
  start_there at (item ∷ items) zero within = rw (eq-eqb at at refl) refl
  start_there at (item ∷ items) (suc number) within =
      rw (start_there (at + len_of spelled at item.instr) items number (omega (arith, within)), or_true) refl

  -- and the new of an item is the new there
  pub new_there : (at : ℕ) (items : List EmitItem) (number : ℕ) (item : EmitItem) (index : ℕ) → slice_get items number ≡ Some item
      → item.instr ≡ New index
      → is_new_at (placed_from spelled place at items) (start_in (starts_from spelled at items) number) ≡ true
  new_there at [] number item index is new = absurd (none-some item is)
  new_there at (first ∷ items) zero item index is new =
      let same : with_targets place first.instr ≡ New index =
      ap (λ (one : EmitItem). with_targets place one.instr) (same_Some first item is) ∙ ap (with_targets place) new in
      let made : is_new (with_targets place first.instr) ≡ true = ap is_new same in
      rw (eq-eqb at at refl, made) refl
  new_there at (first ∷ items) (suc number) item index is new =
      rw (new_there (at + len_of spelled at first.instr) items number item index is new, or_true) refl

-- ---- frames at offsets

module _ (spelled : Spelled) (items : List EmitItem) (take : TakeBytes spelled 0 items) where
  abbrev place : ℕ → ℕ
  place = start_in (starts_from spelled 0 items)

  abbrev number : ℕ → ℕ
  number = offset spelled 0 items

  pub place_is : (n : ℕ) → n < length items → place n ≡ number n
  place_is n within = offset_start spelled 0 items n within

  places_apart : (m n : ℕ) → m < length items → n < length items → (place m == place n) ≡ (m == n)
  places_apart m n one other =
      rw (place_is m one, place_is n other) (offset_apart spelled 0 items take n m other)

  -- an uninitialised object that is an item's is named by the offset of an instruction
  type_placed : (type : VType) → HasNew items type → type_at place type ≡ type_at number type
  type_placed (Uninit n) has = ap Uninit (place_is n (slice_get_within items n has.1.0 has.1.1))
  type_placed type has = refl

  types_placed : (types : List VType) → AllByRecursion (HasNew items) types → map (type_at place) types ≡ map (type_at number) types
  types_placed [] all = refl
  types_placed (type ∷ types) all = rw (type_placed type all.0, types_placed types all.1) refl

  pub frame_placed : (max_locals : ℕ) (frame : Frame) → IsWhole max_locals items frame → frame_at place frame ≡ frame_at number frame
  frame_placed max_locals frame whole =
      ap (λ (locals : List VType). record { locals = locals; stack = map (type_at place) frame.stack })
      (types_placed frame.locals whole.locals)
      ∙ ap (λ (stack : List VType). record { locals = map (type_at number) frame.locals; stack = stack })
      (types_placed frame.stack whole.stack)

  -- ---- the frame that is stated for an offset

  module _ (state : ℕ → Option Frame) where
    abbrev from_item : ℕ → List EmitItem → List PlacedFrame
    from_item k rest = placed_frames place k (stated_from state k rest)

    unlike : (m n : ℕ) → m < n → (m == n) ≡ false
    unlike m n less = grind (arith)

    unlike_too : (m n : ℕ) → n < m → (m == n) ≡ false
    unlike_too m n less = grind (arith)

    -- none of the frames of later items is for an earlier one
    none_later : (k : ℕ) (rest : List EmitItem) (n : ℕ) → n < k → n < length items → k + length rest ≤ length items
        → frame_for (from_item k rest) (place n) ≡ None
    none_later k [] n less within fits = refl
    none_later k (item ∷ rest) n less within fits = by (state k) refl (none_later (suc k) rest n (omega (arith, less)) within (omega (arith, fits))) where
      by : (o : Option Frame) → state k ≡ o → frame_for (from_item (suc k) rest) (place n) ≡ None
          → frame_for (placed_frames place k (o ∷ stated_from state (suc k) rest)) (place n) ≡ None
      by None e later = later
      by (Some frame) e later =
          let apart : (place k == place n) ≡ false =
          places_apart k n (omega (arith, fits)) within ∙ unlike_too k n less in
          rw (apart) later

    stated_for : (k : ℕ) (rest : List EmitItem) (gap n : ℕ) → n ≡ k + gap → gap < length rest → k + length rest ≤ length items
        → frame_for (from_item k rest) (place n) ≡ option_map (frame_at place) (state n)
    stated_for k [] gap n is within fits = absurd (omega (arith, within))
    stated_for k (item ∷ rest) zero n is within fits =
        let same : k ≡ n = omega (arith, is) in
        by (state k) refl same (none_later (suc k) rest n (omega (arith, is)) (omega (arith, is, fits)) (omega (arith, fits))) where
          by : (o : Option Frame) → state k ≡ o → k ≡ n → frame_for (from_item (suc k) rest) (place n) ≡ None
              → frame_for (placed_frames place k (o ∷ stated_from state (suc k) rest)) (place n) ≡ option_map (frame_at place) (state n)
          by None e same later = later ∙ ap (option_map (frame_at place)) (sym e ∙ ap state same)
          by (Some frame) e same later =
              rw (eq-eqb (place k) (place n) (ap place same)) (ap (option_map (frame_at place)) (sym e ∙ ap state same))
    stated_for k (item ∷ rest) (suc gap) n is within fits =
        by (state k) refl (stated_for (suc k) rest gap n (omega (arith, is)) (omega (arith, within)) (omega (arith, fits))) where
          by : (o : Option Frame) → state k ≡ o
              → frame_for (from_item (suc k) rest) (place n) ≡ option_map (frame_at place) (state n)
              → frame_for (placed_frames place k (o ∷ stated_from state (suc k) rest)) (place n) ≡ option_map (frame_at place) (state n)
          by None e later = later
          by (Some frame) e later =
              let apart : (place k == place n) ≡ false =
              places_apart k n (omega (arith, fits)) (omega (arith, is, within, fits))
              ∙ unlike k n (omega (arith, is)) in
              rw (apart) later

    pub stated_at_item : (max_locals n : ℕ) → n < length items
        → ((frame : Frame) → state n ≡ Some frame → IsWhole max_locals items frame)
        → frame_for (from_item 0 items) (number n) ≡ option_map (frame_at number) (state n)
    stated_at_item max_locals n within whole =
        ap (frame_for (from_item 0 items)) (sym (place_is n within))
        ∙ stated_for 0 items n n (omega arith) within (omega arith)
        ∙ by (state n) refl
      where
        by : (o : Option Frame) → state n ≡ o → option_map (frame_at place) o ≡ option_map (frame_at number) o
        by None e = refl
        by (Some frame) e = ap Some (frame_placed max_locals frame (whole frame e))

    -- ---- where they are read

    module _ (pool more : Constants) (names : List NamedIndex)
        (indices : AllByRecursion (λ (named : NamedIndex). named.index ≡ index_in pool (needs_class named.class)) names)
        (max_locals max_stack : ℕ) where
      abbrev setting : Setting
      setting = record {
        pool = pool ++ more;
        max_locals = max_locals;
        max_stack = max_stack;
        code = placed_from spelled place 0 items;
      }

      class_read : (name : Name) → IsNamedClass pool name → IsNamed names (needs_class name) → HasType setting names (Object name)
      class_read name has (n, named, is, class) =
          class_more pool more (or_zero (index_of names name)) name
          (ap (class_at pool) (named_index pool names name indices n named is class) ∙ has)

      type_read : (type : VType) → HasTypeClass pool type → HasNew items type
          → AllByRecursion (IsNamed names) (type_needs (type_at place type))
          → HasType setting names (type_at place type)
      type_read (Object name) has new named = class_read name has named.1.0
      type_read (Uninit n) has new named =
          subst (λ (b : Bool). IsTrue b)
          (sym (new_there spelled place 0 items n new.1.0 new.0 new.1.1 new.1.2)) refl
      type_read type has new named = tt

      types_read : (types : List VType) → AllByRecursion (HasTypeClass pool) types → AllByRecursion (HasNew items) types
          → AllByRecursion (IsNamed names) (flat_map type_needs (map (type_at place) types))
          → AllByRecursion (HasType setting names) (map (type_at place) types)
      types_read [] has new named = tt
      types_read (type ∷ types) has new named = (
        type_read type has.0 new.0
            (all_first (IsNamed names) (type_needs (type_at place type)) (flat_map type_needs (map (type_at place) types)) named),
        types_read types has.1 new.1
            (all_others (IsNamed names) (type_needs (type_at place type)) (flat_map type_needs (map (type_at place) types)) named),
      )

      units_placed : (types : List VType) → depth (map (type_at place) types) ≡ depth types
      units_placed [] = refl
      units_placed (type ∷ types) =
          length-append-of (units (type_at place type)) (units type) (flat_map units (map (type_at place) types)) (flat_map units types)
          (ap length (units_same place type) ∙ length-map (units type) (type_at place)) (units_placed types)
        where
          length-append-of : (a b c d : List VType) → length a ≡ length b → length c ≡ length d → length (a ++ c) ≡ length (b ++ d)
          length-append-of [] [] c d e f = f
          length-append-of [] (y ∷ b) c d e f = absurd cc
          length-append-of (x ∷ a) [] c d e f = absurd cc
          length-append-of (x ∷ a) (y ∷ b) c d e f = ap suc (length-append-of a b c d (let tails : length a ≡ length b = cc e in tails) f)

      frame_read : (k : ℕ) (frame : Frame) → k < length items → IsWhole max_locals items frame → depth frame.stack ≤ max_stack
          → HasFrameClasses pool (Some frame)
          → AllByRecursion (IsNamed names) (frame_needs (Some (frame_at place frame)))
          → HasFrame setting names (record { at = place k; frame = frame_at place frame })
      frame_read k frame within whole deep has named =
          let locals = map (type_at place) frame.locals in
          let stack = map (type_at place) frame.stack in
          let needs : AllByRecursion (IsNamed names) (flat_map type_needs locals ++ flat_map type_needs stack) =
          subst (AllByRecursion (IsNamed names)) (flat_map-append type_needs locals stack) named in
          record {
            start = subst (λ (b : Bool). IsTrue b) (sym (start_there spelled place 0 items k within)) refl;
            all_locals = length-map frame.locals (type_at place) ∙ whole.all_locals;
            fits_stack = subst (λ (n : ℕ). n ≤ max_stack) (sym (units_placed frame.stack)) deep;
            locals = types_read frame.locals (all_first (HasTypeClass pool) frame.locals frame.stack has) whole.locals
                (all_first (IsNamed names) (flat_map type_needs locals) (flat_map type_needs stack) needs);
            stack = types_read frame.stack (all_others (HasTypeClass pool) frame.locals frame.stack has) whole.stack
                (all_others (IsNamed names) (flat_map type_needs locals) (flat_map type_needs stack) needs);
          }

      pub frames_read : (k : ℕ) (rest : List EmitItem) → k + length rest ≤ length items
          → ((n : ℕ) (frame : Frame) → n < length items → state n ≡ Some frame → IsWhole max_locals items frame)
          → ((n : ℕ) (frame : Frame) → n < length items → state n ≡ Some frame → depth frame.stack ≤ max_stack)
          → AllByRecursion (HasFrameClasses pool) (stated_from state k rest)
          → AllByRecursion (IsNamed names) (placed_needs (from_item k rest))
          → HasFrames setting names (from_item k rest)
      frames_read k [] fits whole deep has named = tt
      frames_read k (item ∷ rest) fits whole deep has named =
          by (state k) refl has.0 named (frames_read (suc k) rest (omega (arith, fits)) whole deep has.1) where
            by : (o : Option Frame) → state k ≡ o → HasFrameClasses pool o
                → AllByRecursion (IsNamed names) (placed_needs (placed_frames place k (o ∷ stated_from state (suc k) rest)))
                → (AllByRecursion (IsNamed names) (placed_needs (from_item (suc k) rest)) → HasFrames setting names (from_item (suc k) rest))
                → HasFrames setting names (placed_frames place k (o ∷ stated_from state (suc k) rest))
            by None e has named rest = rest named
            by (Some frame) e has named read = (
              frame_read k frame (omega (arith, fits)) (whole k frame (omega (arith, fits)) e) (deep k frame (omega (arith, fits)) e) has
                  (all_first (IsNamed names) (frame_needs (Some (frame_at place frame))) (placed_needs (from_item (suc k) rest)) named),
              read (all_others (IsNamed names) (frame_needs (Some (frame_at place frame))) (placed_needs (from_item (suc k) rest)) named),
            )
