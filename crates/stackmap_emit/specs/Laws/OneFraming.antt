-- The items of written code have one list of frames, and one frame is stated before each or none.
use Rattle.std.proofs.Common.{◌≡◌, ◌<◌, ℕ, zero, suc, List, [], ◌∷◌, get_or, length, slice_get, Option, Some, None, refl, sym, ap, subst, ◌∙◌}
use Rattle.std.proofs.lemmas.Option.{none-some, same_Some, slice_get-get_or, slice_get_within}
use Rattle.class_model.specs.Pool.{Constants}
use Rattle.class_model.specs.declared.frame.Frame.{Frame}
use Rattle.class_model.specs.declared.frame.PlacedFrame.{PlacedFrame}
use Rattle.code_layout.specs.Layout.{start_in}
use Rattle.code_layout.specs.PlainItems.{plain_items}
use Rattle.code_layout.specs.declared.emitted.EmitItem.{EmitItem}
use Rattle.code_layout.specs.declared.laid.Laid.{Laid}
use Rattle.flow_code.specs.FlatCode.{FlatCode}
use Rattle.making_code.specs.IndexedItems.{IndexedItem}
use Rattle.member_link.specs.Bodies.{Body}
use Rattle.member_link.specs.Scope.{Scope}
use Rattle.plan_flow.specs.Written.Finish.{Finished}
use Rattle.plan_flow.specs.Written.FramedCode.{IsFramed, body_of_items, flow_into, frame_had, frame_of_item, is_led_to, stated_by}
use Rattle.plan_flow.specs.Written.WrittenCode.{Form}
use Rattle.stackmap_emit.specs.PlacedFrames.{ArePlaced, placed_frames, stated_from}

-- ---- lists

-- lists of one length with the same items in their places
lists_same : {A : Type 0} (xs ys : List A) → length xs ≡ length ys
    → ((n : ℕ) → slice_get xs n ≡ slice_get ys n)
    → xs ≡ ys
lists_same [] [] long same = refl
lists_same [] (y ∷ ys) long same = absurd (none-some y (same zero))
lists_same (x ∷ xs) [] long same = absurd (none-some x (sym (same zero)))
lists_same (x ∷ xs) (y ∷ ys) long same =
    let first : x ≡ y = same_Some x y (same zero) in
    let lengths : length xs ≡ length ys = cc long in
    let rest : xs ≡ ys = lists_same xs ys lengths (λ (n : ℕ). same (suc n)) in
    cc (first, rest)

-- ---- frames

module _ (host : Scope) (flat : FlatCode) (form : Form) (blocks : List Finished) (pool : Constants) (depth : ℕ) (items : List IndexedItem)
    (state other : ℕ → Option Frame) (frames others : List Frame) where
  abbrev one_body : Body
  one_body = body_of_items host flat pool depth items state

  abbrev other_body : Body
  other_body = body_of_items host flat pool depth items other

  module _ (framed : IsFramed flat form blocks items one_body frames) (also : IsFramed flat form blocks items other_body others) where
    same_length : length frames ≡ length others
    same_length = framed.many ∙ sym also.many

    -- what is stated, by what flows in
    same_stated : (n : ℕ) → flow_into one_body frames n ≡ flow_into other_body others n → state n ≡ other n
    same_stated n flows =
        framed.stated n
        ∙ ap (λ (flow : Option Frame). stated_by (is_led_to items n) flow (frame_of_item flat form blocks n)) flows
        ∙ sym (also.stated n)

    same_at : (n : ℕ) → flow_into one_body frames n ≡ flow_into other_body others n → slice_get frames n ≡ slice_get others n
    same_at n flows = by (slice_get frames n) refl (slice_get others n) refl where
      past : (xs ys : List Frame) (y : Frame) → length xs ≡ length ys → slice_get xs n ≡ None → slice_get ys n ≡ Some y → ⊥
      past xs ys y long none some =
          let within : n < length xs = subst (λ (m : ℕ). n < m) (sym long) (slice_get_within ys n y some) in
          none-some (get_or xs n y) (sym none ∙ slice_get-get_or xs n y within)

      by : (x : Option Frame) → slice_get frames n ≡ x → (y : Option Frame) → slice_get others n ≡ y
          → slice_get frames n ≡ slice_get others n
      by None e None f = e ∙ sym f
      by None e (Some y) f = absurd (past frames others y same_length e f)
      by (Some x) e None f = absurd (past others frames x (sym same_length) f e)
      by (Some x) e (Some y) f =
          let had : frame_had (state n) (flow_into one_body frames n) ≡ Some x = framed.had n x e in
          let had_also : frame_had (other n) (flow_into other_body others n) ≡ Some y = also.had n y f in
          let same : frame_had (state n) (flow_into one_body frames n) ≡ frame_had (other n) (flow_into other_body others n) =
          rw (same_stated n flows) (rw flows refl) in
          e ∙ sym had ∙ same ∙ had_also ∙ sym f

    flows_next : (n : ℕ) → slice_get frames n ≡ slice_get others n → flow_into one_body frames (suc n) ≡ flow_into other_body others (suc n)
    flows_next n same = rw same refl

    agree : (n : ℕ) → slice_get frames n ≡ slice_get others n
    agree zero = same_at zero refl
    agree (suc n) = same_at (suc n) (flows_next n (agree n))

    flows_agree : (n : ℕ) → flow_into one_body frames n ≡ flow_into other_body others n
    flows_agree zero = refl
    flows_agree (suc n) = flows_next n (agree n)

    pub frames_are_one : frames ≡ others
    frames_are_one = lists_same frames others same_length agree

    pub statements_are_one : (n : ℕ) → state n ≡ other n
    statements_are_one n = same_stated n (flows_agree n)

-- ---- what is stated

pub stated_alike : (state other : ℕ → Option Frame) (n : ℕ) (items : List EmitItem) → ((n : ℕ) → state n ≡ other n)
    → stated_from state n items ≡ stated_from other n items
stated_alike state other n [] same = refl
stated_alike state other n (item ∷ items) same =
    let first : state n ≡ other n = same n in
    let rest : stated_from state (suc n) items ≡ stated_from other (suc n) items = stated_alike state other (suc n) items same in
    cc (first, rest)

-- Written items, laid out, have one list of frames.
pub placed_are_one : (host : Scope) (flat : FlatCode) (form : Form) (blocks : List Finished) (pool : Constants) (items : List EmitItem)
    (laid : Laid) (placed also : List PlacedFrame)
    → ArePlaced host flat form blocks pool items laid placed
    → ArePlaced host flat form blocks pool items laid also
    → placed ≡ also
placed_are_one host flat form blocks pool items laid placed also one other =
    let same = statements_are_one host flat form blocks pool 0 (plain_items items) one.state other.state one.frames other.frames one.framed other.framed in
    one.is
    ∙ ap (placed_frames (start_in laid.starts) 0) (stated_alike one.state other.state 0 items same)
    ∙ sym other.is
