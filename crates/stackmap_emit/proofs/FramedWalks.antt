-- Where frames are those of written code, going over the items finds them.
use Rattle.std.proofs.Common.{◌≡◌, ◌+◌, ◌<◌, ℕ, zero, suc, Bool, max, List, [], ◌∷◌, length, slice_get, Option, Some, option_map, refl, sym, ap, subst, ◌∙◌, arith}
use Rattle.class_model.specs.Pool.{Constants}
use Rattle.class_model.specs.declared.frame.Frame.{Frame}
use Rattle.code_layout.specs.PlainItems.{plain_item, plain_items}
use Rattle.code_layout.specs.declared.emitted.EmitItem.{EmitItem}
use Rattle.flow_code.specs.FlatCode.{FlatCode}
use Rattle.member_link.specs.Bodies.{Body}
use Rattle.member_link.specs.Machine.Replaced.{map_numbered}
use Rattle.member_link.specs.RowScope.{RowScope}
use Rattle.member_link.specs.Scope.{Scope}
use Rattle.plan_flow.specs.Written.Finish.{Finished}
use Rattle.plan_flow.specs.Written.FramedCode.{IsFramed, flow_into, frame_had, frame_of_item, greatest_of, is_led_to, item_body, items_scope, stated_by}
use Rattle.plan_flow.specs.Written.WrittenCode.{Form}
use Rattle.stackmap_emit.specs.FramedItems.{AreTexts, items_body}
use Rattle.stackmap_emit.specs.Inner.Walking.{NamesAlong, NamesAt, Stating, depth_along, depth_at, goes_on, had_at, next_flow, stated_along, stated_at}
use Rattle.stackmap_emit.specs.PlacedFrames.{stated_from}

-- ---- lists

shifted : {A : Type 0} (all : List A) (number : ℕ) (first : A) (rest : List A)
    → ((k : ℕ) → slice_get all (number + k) ≡ slice_get (first ∷ rest) k)
    → (k : ℕ) → slice_get all (suc number + k) ≡ slice_get rest k
shifted all number first rest is k = ap (slice_get all) (omega arith) ∙ is (suc k)

numbered_at : {A B : Type 0} (f : ℕ → A → B) (number : ℕ) (items : List A) (k : ℕ)
    → slice_get (map_numbered f number items) k ≡ option_map (f (number + k)) (slice_get items k)
numbered_at f number [] zero = refl
numbered_at f number [] (suc k) = refl
numbered_at f number (item ∷ items) zero = ap (λ (n : ℕ). Some (f n item)) (omega arith)
numbered_at f number (item ∷ items) (suc k) =
    numbered_at f (suc number) items k ∙ ap (λ (n : ℕ). option_map (f n) (slice_get items k)) (omega arith)

plain_at : (items : List EmitItem) (k : ℕ) → slice_get (plain_items items) k ≡ option_map plain_item (slice_get items k)
plain_at [] zero = refl
plain_at [] (suc k) = refl
plain_at (item ∷ items) zero = refl
plain_at (item ∷ items) (suc k) = plain_at items k

-- ---- items

module _ (host : Scope) (flat : FlatCode) (form : Form) (blocks : List Finished) (pool : Constants) (items : List EmitItem)
    (state : ℕ → Option Frame) (frames : List Frame)
    (framed : IsFramed flat form blocks (plain_items items) (items_body host flat pool items state) frames)
    (texts : AreTexts host pool items frames)
    (w : Stating)
    (has_block : (number : ℕ) → number < length items → w.block number ≡ frame_of_item flat form blocks number)
    (has_led : (number : ℕ) → number < length items → w.led number ≡ is_led_to (plain_items items) number) where
  abbrev body : Body
  body = items_body host flat pool items state

  abbrev scope : RowScope
  scope = items_scope host pool 0 (plain_items items)

  point_at : (number : ℕ) (item : EmitItem) → slice_get items number ≡ Some item
      → slice_get body.points number ≡ Some (item_body pool scope number (plain_item item))
  point_at number item is =
      numbered_at (item_body pool scope) zero (plain_items items) number
      ∙ ap (λ (n : ℕ). option_map (item_body pool scope n) (slice_get (plain_items items) number)) (omega arith)
      ∙ ap (option_map (item_body pool scope number)) (plain_at items number ∙ ap (option_map plain_item) is)

  stated_is : (number : ℕ) (flow : Option Frame) → number < length items → flow ≡ flow_into body frames number
      → stated_at w number flow ≡ state number
  stated_is number flow inside flows =
      ap (λ (led : Bool). stated_by led flow (w.block number)) (has_led number inside)
      ∙ ap (stated_by (is_led_to (plain_items items) number) flow) (has_block number inside)
      ∙ ap (λ (from : Option Frame). stated_by (is_led_to (plain_items items) number) from (frame_of_item flat form blocks number)) flows
      ∙ sym (framed.stated number)

  had_is : (number : ℕ) (flow : Option Frame) (frame : Frame) → number < length items → flow ≡ flow_into body frames number
      → slice_get frames number ≡ Some frame
      → had_at w number flow ≡ Some frame
  had_is number flow frame inside flows is =
      ap (λ (stated : Option Frame). frame_had stated flow) (stated_is number flow inside flows)
      ∙ ap (frame_had (state number)) flows
      ∙ framed.had number frame is

  next_is : (number : ℕ) (flow : Option Frame) (item : EmitItem) (frame : Frame)
      → slice_get items number ≡ Some item
      → slice_get frames number ≡ Some frame
      → had_at w number flow ≡ Some frame
      → next_flow scope w number flow item ≡ flow_into body frames (suc number)
  next_is number flow item frame is there had =
      ap (goes_on scope number item.instr) had
      ∙ sym (rw (point_at number item is, there) refl)

  -- what going over the items from a number on finds
  pub record FindsFrom (number : ℕ) (flow : Option Frame) (rest : List EmitItem) (left : List Frame) : Type 0 where
    pub stated : stated_along scope w number flow rest ≡ stated_from state number rest
    pub names : NamesAlong scope w number flow rest
    pub depth : depth_along scope w number flow rest
        ≡ greatest_of (map_numbered (item_body pool scope) number (plain_items rest)) left

  pub finds_from : (number : ℕ) (flow : Option Frame) (rest : List EmitItem) (left : List Frame)
      → ((k : ℕ) → slice_get items (number + k) ≡ slice_get rest k)
      → ((k : ℕ) → slice_get frames (number + k) ≡ slice_get left k)
      → length left ≡ length rest
      → number + length rest ≡ length items
      → flow ≡ flow_into body frames number
      → FindsFrom number flow rest left
  finds_from number flow [] left are have many long flows = record { stated = refl; names = tt; depth = refl }
  finds_from number flow (item ∷ rest) [] are have many long flows = absurd (omega (arith, many))
  finds_from number flow (item ∷ rest) (frame ∷ left) are have many long flows =
      let inside : number < length items = omega (arith, long) in
      let plus : number ≡ number + 0 = omega arith in
      let is : slice_get items number ≡ Some item = ap (slice_get items) plus ∙ are 0 in
      let there : slice_get frames number ≡ Some frame = ap (slice_get frames) plus ∙ have 0 in
      let had = had_is number flow frame inside flows there in
      let next = next_flow scope w number flow item in
      let behind = finds_from (suc number) next rest left (shifted items number item rest are) (shifted frames number frame left have)
      (omega (arith, many)) (omega (arith, long)) (next_is number flow item frame is there had) in
      record {
        stated = cc (stated_is number flow inside flows, behind.stated);
        names = (subst (NamesAt scope number item.instr) (sym had) (texts number item frame is there), behind.names);
        depth =
            ap (λ (n : ℕ). max n (depth_along scope w (suc number) next rest)) (ap (depth_at scope number item.instr) had)
            ∙ ap (max (depth_at scope number item.instr (Some frame))) behind.depth;
      }

  pub finds_all : FindsFrom 0 (Some body.entry) items frames
  finds_all =
      finds_from 0 (Some body.entry) items frames (λ k. ap (slice_get items) (omega arith)) (λ k. ap (slice_get frames) (omega arith))
      (framed.many ∙ plain_many items) (omega arith) refl where
        plain_many : (all : List EmitItem) → length (plain_items all) ≡ length all
        plain_many [] = refl
        plain_many (item ∷ all) = ap suc (plain_many all)
