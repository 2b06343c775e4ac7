-- The tables of blocks have the block of each item and the items of points.
use Rattle.std.proofs.Common.{◌≡◌, ◌==◌, ◌+◌, ◌<◌, ◌≤◌, ◌⊎◌, ℕ, zero, suc, Bool, true, false, List, [], ◌∷◌, length, map, Option, Some, None, option_map, refl, sym, ap, ◌∙◌, inl, inr, arith, length-append, if◌then◌else◌}
use Rattle.std.proofs.lemmas.Bool.{eq-eqb, ne_eqb}
use Rattle.class_model.specs.declared.frame.Frame.{Frame}
use Rattle.class_model.specs.declared.frame.VType.{VType}
use Rattle.class_model.specs.declared.frame.VType.TheVariants as types
use Rattle.flow_code.specs.FlatCode.{FlatCode}
use Rattle.making_code.specs.Items.{WItem}
use Rattle.plan_flow.specs.Written.Blocks.{BlockOf, before_point, handler_pad, jump_pad, of_point, on_next_edge}
use Rattle.plan_flow.specs.Written.Finish.{Finished, is_empty}
use Rattle.plan_flow.specs.Written.FramedCode.{block_from, frame_by_item, frame_of_item, is_of_point, type_by_item}
use Rattle.plan_flow.specs.Written.WrittenCode.{Form, block_items, start_from, start_of, written_items}
use Rattle.plan_flow.specs.Written.WrittenFrames.{written_frame}
use Rattle.stackmap_emit.specs.Inner.BlockTables.{AreStarts, first_item, frame_by, is_of, last_block, renumbered, starts_in}
use Rattle.stackmap_emit.specs.PlacedFrames.{frame_at, type_at}
use Rattle.written_frames.specs.BlockStarts.{point_of, start_of_block}
use Rattle.written_frames.specs.declared.starts.BlockStart.{BlockStart}

-- ---- numbers

pub same_or_other : (one other : ℕ) → (one ≡ other) ⊎ (one ≡ other → ⊥)
same_or_other zero zero = inl refl
same_or_other zero (suc other) = inr (λ same. absurd (omega (arith, same)))
same_or_other (suc one) zero = inr (λ same. absurd (omega (arith, same)))
same_or_other (suc one) (suc other) = elim (same_or_other one other) [
  | inl same ↦ inl (ap suc same)
  | inr differ ↦ inr (λ same. differ (omega (arith, same)))
]

abbrev pub itself : ℕ → ℕ
itself number = number

-- ---- numbers in the form

module _ (place : ℕ → ℕ) where
  -- tables by the numbers of the form
  block_renumbered : (flat : FlatCode) (by : ℕ → ℕ) (number : ℕ) (found other : Option BlockStart) (starts : List BlockStart)
      → frame_by flat by found ≡ frame_by flat by other
      → frame_by flat by (last_block place number found starts) ≡ frame_by flat by (last_block itself number other (map (renumbered place) starts))
  block_renumbered flat by number found other [] same = same
  block_renumbered flat by number found other (start ∷ starts) same =
      block_renumbered flat by number (if place start.item == number then Some start else found)
      (if place start.item == number then Some (renumbered place start) else other) starts (by_test (place start.item == number)) where
        by_test : (b : Bool)
            → frame_by flat by (if b then Some start else found) ≡ frame_by flat by (if b then Some (renumbered place start) else other)
        by_test true = refl
        by_test false = same

  pub first_renumbered : (end point : ℕ) (starts : List BlockStart)
      → first_item place end point starts ≡ first_item itself end point (map (renumbered place) starts)
  first_renumbered end point [] = refl
  first_renumbered end point (start ∷ starts) =
      ap (λ (n : ℕ). if is_of point start.of then place start.item else n) (first_renumbered end point starts)

-- ---- the block of an item

abbrev pub found_or : Option Finished → ℕ → Option BlockStart → Option BlockStart
found_or None number found = found
found_or (Some one) number found = Some (start_of_block number one)

module _ (form : Form) where
  -- a block that begins with another item, and one that begins with this one
  beside : (wanted number : ℕ) (found : Option BlockStart) (one : Finished) (others : List Finished) → (number ≡ wanted → ⊥)
      → last_block itself wanted found (starts_in form number (one ∷ others))
      ≡ last_block itself wanted found (starts_in form (number + length (block_items form one)) others)
  beside wanted number found one others differ =
      ap (λ (b : Bool). last_block itself wanted (if b then Some (start_of_block number one) else found)
      (starts_in form (number + length (block_items form one)) others)) (ne_eqb number wanted differ)

  here : (wanted number : ℕ) (found : Option BlockStart) (one : Finished) (others : List Finished) → number ≡ wanted
      → last_block itself wanted found (starts_in form number (one ∷ others))
      ≡ last_block itself wanted (Some (start_of_block number one)) (starts_in form (number + length (block_items form one)) others)
  here wanted number found one others same =
      ap (λ (b : Bool). last_block itself wanted (if b then Some (start_of_block number one) else found)
      (starts_in form (number + length (block_items form one)) others)) (eq-eqb number wanted same)

  -- behind the item of a number
  past : (wanted number : ℕ) (found : Option BlockStart) (blocks : List Finished) → wanted < number
      → last_block itself wanted found (starts_in form number blocks) ≡ found
  past wanted number found [] low = refl
  past wanted number found (one ∷ others) low =
      beside wanted number found one others (λ same. absurd (omega (arith, low, same)))
      ∙ past wanted (number + length (block_items form one)) found others (omega (arith, low))

  -- by a block that writes nothing, by one that begins elsewhere, and by one that begins here
  from_empty : (wanted number : ℕ) (one : Finished) (others : List Finished) → is_empty (block_items form one) ≡ true
      → block_from form wanted number (one ∷ others) ≡ block_from form wanted number others
  from_empty wanted number one others e =
      ap (λ (b : Bool). if b then block_from form wanted number others
      else if number == wanted then Some one
      else block_from form wanted (number + length (block_items form one)) others) e

  from_beside : (wanted number : ℕ) (one : Finished) (others : List Finished) → is_empty (block_items form one) ≡ false → (number ≡ wanted → ⊥)
      → block_from form wanted number (one ∷ others) ≡ block_from form wanted (number + length (block_items form one)) others
  from_beside wanted number one others e differ =
      ap (λ (b : Bool). if b then block_from form wanted number others
      else if number == wanted then Some one
      else block_from form wanted (number + length (block_items form one)) others) e
      ∙ ap (λ (b : Bool). if b then Some one else block_from form wanted (number + length (block_items form one)) others) (ne_eqb number wanted differ)

  from_here : (wanted number : ℕ) (one : Finished) (others : List Finished) → is_empty (block_items form one) ≡ false → number ≡ wanted
      → block_from form wanted number (one ∷ others) ≡ Some one
  from_here wanted number one others e same =
      ap (λ (b : Bool). if b then block_from form wanted number others
      else if number == wanted then Some one
      else block_from form wanted (number + length (block_items form one)) others) e
      ∙ ap (λ (b : Bool). if b then Some one else block_from form wanted (number + length (block_items form one)) others) (eq-eqb number wanted same)

  none_past : (wanted number : ℕ) (blocks : List Finished) → wanted < number → block_from form wanted number blocks ≡ None
  none_past wanted number [] low = refl
  none_past wanted number (one ∷ others) low =
      by (is_empty (block_items form one)) refl (none_past wanted number others low)
      (none_past wanted (number + length (block_items form one)) others (omega (arith, low))) where
        by : (b : Bool) → is_empty (block_items form one) ≡ b
            → block_from form wanted number others ≡ None
            → block_from form wanted (number + length (block_items form one)) others ≡ None
            → block_from form wanted number (one ∷ others) ≡ None
        by true e here behind = from_empty wanted number one others e ∙ here
        by false e here behind = from_beside wanted number one others e (λ same. absurd (omega (arith, low, same))) ∙ behind

  empty_long : (items : List WItem) → is_empty items ≡ true → length items ≡ 0
  empty_long [] is = refl
  empty_long (one ∷ items) is = absurd cc

  some_long : (items : List WItem) → is_empty items ≡ false → 0 < length items
  some_long [] is = absurd cc
  some_long (one ∷ items) is = omega arith

  all_long : (one : Finished) (others : List Finished)
      → length (written_items form (one ∷ others)) ≡ length (block_items form one) + length (written_items form others)
  all_long one others = length-append (block_items form one) (written_items form others)

  -- an item with which the blocks begin begins a block
  begins : (number : ℕ) (blocks : List Finished) → 0 < length (written_items form blocks)
      → (one : Finished) × (block_from form number number blocks ≡ Some one)
  begins number [] some = absurd (omega (arith, some))
  begins number (one ∷ others) some = by (is_empty (block_items form one)) refl (λ more. begins number others more) where
    by : (b : Bool) → is_empty (block_items form one) ≡ b
        → (0 < length (written_items form others) → (next : Finished) × (block_from form number number others ≡ Some next))
        → (next : Finished) × (block_from form number number (one ∷ others) ≡ Some next)
    by true e rest =
        let none = empty_long (block_items form one) e in
        let found = rest (omega (arith, some, none, all_long one others)) in
        (found.0, from_empty number number one others e ∙ found.1)
    by false e rest = (one, from_here number number one others e refl)

  less_or_more : (a b : ℕ) → (a < b) ⊎ (b ≤ a)
  less_or_more a zero = inr (omega arith)
  less_or_more zero (suc b) = inl (omega arith)
  less_or_more (suc a) (suc b) = elim (less_or_more a b) [
    | inl less ↦ inl (omega (arith, less))
    | inr more ↦ inr (omega (arith, more))
  ]

  -- that the last of blocks that begins with an item is the one that writes it, or the one that was found before
  abbrev LastWrites : ℕ → ℕ → Option BlockStart → List Finished → Type 0
  LastWrites wanted number found blocks =
      last_block itself wanted found (starts_in form number blocks) ≡ found_or (block_from form wanted number blocks) wanted found

  module _ (wanted number : ℕ) (found : Option BlockStart) (one : Finished) (others : List Finished)
      (low : number ≤ wanted) (high : wanted < number + length (written_items form (one ∷ others)))
      (rest : (from : ℕ) (more : Option BlockStart) → from ≤ wanted → wanted < from + length (written_items form others)
      → LastWrites wanted from more others) where
    abbrev next : ℕ
    next = number + length (block_items form one)

    at_some : is_empty (block_items form one) ≡ false → (number ≡ wanted) ⊎ (number ≡ wanted → ⊥) → (wanted < next) ⊎ (next ≤ wanted)
        → LastWrites wanted number found (one ∷ others)
    at_some e (inl same) where_next =
        here wanted number found one others same
        ∙ past wanted next (Some (start_of_block number one)) others (omega (arith, same, some_long (block_items form one) e))
        ∙ ap (λ (n : ℕ). Some (start_of_block n one)) same
        ∙ sym (ap (λ (o : Option Finished). found_or o wanted found) (from_here wanted number one others e same))
    at_some e (inr differ) (inl less) =
        beside wanted number found one others differ
        ∙ past wanted next found others less
        ∙ sym (ap (λ (o : Option Finished). found_or o wanted found) (from_beside wanted number one others e differ ∙ none_past wanted next others less))
    at_some e (inr differ) (inr more) =
        beside wanted number found one others differ
        ∙ rest next found more (omega (arith, high, all_long one others))
        ∙ sym (ap (λ (o : Option Finished). found_or o wanted found) (from_beside wanted number one others e differ))

    -- behind a block that writes nothing
    behind : is_empty (block_items form one) ≡ true → (more : Option BlockStart)
        → last_block itself wanted more (starts_in form next others) ≡ found_or (block_from form wanted number others) wanted more
    behind e more =
        let none = empty_long (block_items form one) e in
        rest next more (omega (arith, low, none)) (omega (arith, high, none, all_long one others))
        ∙ ap (λ (n : ℕ). found_or (block_from form wanted n others) wanted more) (omega (arith, none))

    at_none : is_empty (block_items form one) ≡ true → (number ≡ wanted) ⊎ (number ≡ wanted → ⊥) → LastWrites wanted number found (one ∷ others)
    at_none e (inr differ) =
        beside wanted number found one others differ
        ∙ behind e found
        ∙ sym (ap (λ (o : Option Finished). found_or o wanted found) (from_empty wanted number one others e))
    at_none e (inl same) =
        let none = empty_long (block_items form one) e in
        let begun = begins number others (omega (arith, same, high, none, all_long one others)) in
        let is : block_from form wanted number others ≡ Some begun.0 = ap (λ (n : ℕ). block_from form n number others) (sym same) ∙ begun.1 in
        here wanted number found one others same
        ∙ behind e (Some (start_of_block number one))
        ∙ ap (λ (o : Option Finished). found_or o wanted (Some (start_of_block number one))) is
        ∙ sym (ap (λ (o : Option Finished). found_or o wanted found) (from_empty wanted number one others e ∙ is))

    by_empty : (b : Bool) → is_empty (block_items form one) ≡ b → LastWrites wanted number found (one ∷ others)
    by_empty true e = at_none e (same_or_other number wanted)
    by_empty false e = at_some e (same_or_other number wanted) (less_or_more wanted next)

  pub last_writes : (wanted number : ℕ) (found : Option BlockStart) (blocks : List Finished)
      → number ≤ wanted
      → wanted < number + length (written_items form blocks)
      → LastWrites wanted number found blocks
  last_writes wanted number found [] low high = absurd (omega (arith, low, high))
  last_writes wanted number found (one ∷ others) low high =
      by_empty wanted number found one others low high (λ from more inside past. last_writes wanted from more others inside past)
      (is_empty (block_items form one)) refl

  -- ---- the items of points

  same_point : (point : ℕ) (of : BlockOf) → is_of point (point_of of) ≡ is_of_point point of
  same_point point (of_point at) = refl
  same_point point (before_point at) = refl
  same_point point (on_next_edge at) = refl
  same_point point (jump_pad at number) = refl
  same_point point (handler_pad at number) = refl

  pub first_of : (point number end : ℕ) (blocks : List Finished)
      → end ≡ number + length (written_items form blocks)
      → first_item itself end point (starts_in form number blocks) ≡ start_from form (is_of_point point) number blocks
  first_of point number end [] is = is ∙ omega arith
  first_of point number end (one ∷ others) is =
      let rest = first_of point (number + length (block_items form one)) end others (omega (arith, is, all_long one others)) in
      rw (same_point point one.block.of, rest) refl

  -- the table of points has the item with which the instruction of a point begins
  pub point_item : (point end : ℕ) (form_place : ℕ → ℕ) (starts : List BlockStart) (blocks : List Finished)
      → end ≡ length (written_items form blocks)
      → AreStarts form form_place starts blocks
      → first_item form_place end point starts ≡ start_of form blocks (is_of_point point)
  point_item point end form_place starts blocks is are =
      first_renumbered form_place end point starts
      ∙ ap (first_item itself end point) are
      ∙ first_of point 0 end blocks (omega (arith, is))

  -- ---- frames

  module _ (blocks : List Finished) (place : ℕ → ℕ) (is : (point : ℕ) → place point ≡ start_of form blocks (is_of_point point)) where
    type_same : (type : VType) → type_at place type ≡ type_by_item form blocks type
    type_same types.Top = refl
    type_same types.Int = refl
    type_same types.Float = refl
    type_same types.Long = refl
    type_same types.Double = refl
    type_same types.Null = refl
    type_same types.UninitThis = refl
    type_same (types.Object name) = refl
    type_same (types.Uninit at) = ap (λ (n : ℕ). types.Uninit n) (is at)

    types_same : (all : List VType) → map (type_at place) all ≡ map (type_by_item form blocks) all
    types_same [] = refl
    types_same (type ∷ all) = cc (type_same type, types_same all)

    pub frame_same : (frame : Frame) → frame_at place frame ≡ frame_by_item form blocks frame
    frame_same frame = cc (types_same frame.locals, types_same frame.stack)

    -- the frame of the block that writes an item first
    pub item_frame : (flat : FlatCode) (number : ℕ) (form_place : ℕ → ℕ) (starts : List BlockStart) (found : Option BlockStart)
        → number < length (written_items form blocks)
        → AreStarts form form_place starts blocks
        → found ≡ last_block form_place number None starts
        → frame_by flat place found ≡ frame_of_item flat form blocks number
    item_frame flat number form_place starts found inside are told =
        ap (frame_by flat place) told
        ∙ block_renumbered form_place flat place number None None starts refl
        ∙ ap (λ (all : List BlockStart). frame_by flat place (last_block itself number None all)) are
        ∙ ap (frame_by flat place) (last_writes number 0 None blocks (omega arith) (omega (arith, inside)))
        ∙ by (block_from form number 0 blocks) where
          by : (one : Option Finished)
              → frame_by flat place (found_or one number None)
              ≡ option_map (λ (one : Finished). frame_by_item form blocks (written_frame flat one.block)) one
          by None = refl
          by (Some one) = ap (λ (frame : Frame). Some frame) (frame_same (written_frame flat one.block))
