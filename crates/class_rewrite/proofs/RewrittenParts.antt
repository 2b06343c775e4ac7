-- The Code that is written of a method, or the reason why there is none, by its emitted code, its layout and its frames.
use Rattle.std.proofs.Common.{◌≡◌, ◌≢◌, ◌≤◌, ◌<◌, ◌^◌, ℕ, min, nat_le, Bool, true, false, List, [], length, Option, Some, refl, sym, ap, subst, ◌∙◌, inl, inr, arith, if◌then◌else◌, ◌⊎◌, zero, suc}
use Rattle.class_model.specs.Pool.{Constants}
use Rattle.class_model.specs.Spelling.{code_part_bytes}
use Rattle.class_model.specs.declared.class_file.CodePart.{CodePart}
use Rattle.class_model.specs.declared.class_file.InnerAttr.{InnerAttr}
use Rattle.class_model.specs.declared.frame.Frame.{Frame}
use Rattle.class_model.specs.declared.frame.PlacedFrame.{PlacedFrame}
use Rattle.class_rewrite.proofs.KeptMethods.{planned}
use Rattle.class_rewrite.proofs.StatedNeeds.{placed_needs_are}
use Rattle.class_rewrite.specs.Inner.LaidMethods.{AreLaidMethods, AreReady, AreSound, IsLaidMethod, framed_of}
use Rattle.class_rewrite.specs.Inner.Meanings.{AreSoundFrames, IsCode, IsEditOf, IsFullFor, IsMeant, IsPart, IsReady, IsReasonOf, Meaning, StatesFrames, frames_pool_of, rewriting, scope}
use Rattle.class_rewrite.specs.Rewriting.Methods.{FramesArePast, IsDeepCode, IsCoded, IsFramedIn, IsHugeCode, IsWholeCode, Rewritten, Rewriting}
use Rattle.code_drafts.specs.Emits.{Writing}
use Rattle.code_emit.specs.declared.emitting.WrittenCode.{WrittenCode}
use Rattle.code_layout.specs.ChosenForm.{IsLaidOut, IsLong, IsWithin, KeepsLong, chosen_items, chosen_len, chosen_spelled, is_short}
use Rattle.code_layout.specs.Layout.{IsLaid, end_from, start_in}
use Rattle.code_layout.specs.PlainItems.{plain_items}
use Rattle.code_layout.specs.declared.emitted.EmitItem.{EmitItem}
use Rattle.code_layout.specs.declared.laid.Laid.{Laid}
use Rattle.flow_code.specs.WrittenUnits.{written_units}
use Rattle.flow_code.specs.declared.reason.KeptFault.TheVariants.{Kept}
use Rattle.flow_code.specs.declared.reason.Reason.{Reason}
use Rattle.flow_code.specs.declared.reason.Reason.TheVariants as reasons
use Rattle.making_code.specs.Constants.{Need, grow}
use Rattle.member_link.specs.Bodies.{Body}
use Rattle.plan_flow.specs.Written.FramedCode.{body_of_items, greatest_of}
use Rattle.plan_flow.specs.Written.WrittenPrograms.{WrittenMethod}
use Rattle.pool_edit.specs.Edits.{Edit, grown}
use Rattle.stackmap_emit.specs.FrameConstants.{frames_pool, table_needs}
use Rattle.stackmap_emit.specs.FramedItems.{ArePlacedBy, entry_with, finished_by, form_of}
use Rattle.stackmap_emit.specs.FramesAttribute.{CanBeWritten, IsFramesAttribute, all_stated}
use Rattle.stackmap_emit.specs.PlacedFrames.{IsLaidIn, placed_frames, spelled_in, stated_from}

-- ---- the form

laid_in_form : (items : List EmitItem) (laid : Laid) → IsLaidOut items laid → IsLaidIn (form_of items) (chosen_items items) laid
laid_in_form items laid out = by (is_short items) refl where
  by : (b : Bool) → is_short items ≡ b → IsLaidIn (form_of items) (chosen_items items) laid
  by true is = rw (is) (let here : IsLaid (chosen_spelled items) (chosen_items items) laid = out.is in rw (is) at here)
  by false is = rw (is) (let here : IsLaid (chosen_spelled items) (chosen_items items) laid = out.is in rw (is) at here)

form_bytes : (items : List EmitItem) → end_from (spelled_in (form_of items)) 0 (chosen_items items) ≡ chosen_len items
form_bytes items = by (is_short items) refl where
  by : (b : Bool) → is_short items ≡ b → end_from (spelled_in (form_of items)) 0 (chosen_items items) ≡ chosen_len items
  by true is = rw (is) refl
  by false is = rw (is) refl

-- a layout is refused for one reason
keeps_long : (items : List EmitItem) (reason : Reason) → KeepsLong items (Kept reason) → (reason ≡ reasons.Long) × IsLong items
keeps_long items reasons.Long long = (refl, long)
keeps_long items other never = absurd never

least_is : (n m : ℕ) → m ≡ min n 65535 → n < 65535 → m ≡ n
least_is n m is few = omega (arith, is, few)

is_low : (n m : ℕ) → m ≡ min n 65535 → m ≢ 65535 → n < 65535
is_low n m is other = by (decide n 65535) where
  by : (n < 65535) ⊎ (65535 ≤ n) → n < 65535
  by (inl low) = low
  by (inr high) = absurd (other (omega (arith, is, high)))

  decide : (a b : ℕ) → (a < b) ⊎ (b ≤ a)
  decide zero zero = inr (omega arith)
  decide zero (suc b) = inl (omega arith)
  decide (suc a) zero = inr (omega arith)
  decide (suc a) (suc b) = more (decide a b) where
    more : (a < b) ⊎ (b ≤ a) → (suc a < suc b) ⊎ (suc b ≤ suc a)
    more (inl low) = inl (omega (arith, low))
    more (inr high) = inr (omega (arith, high))

is_high : (n m : ℕ) → m ≡ min n 65535 → m ≡ 65535 → ¬ (n < 65535)
is_high n m is same low = omega (arith, is, same, low)

module _ (laws : AreLaidMethods) (ready_of : AreReady) (of : Writing) (m : Meaning) (before middle : Edit) (code : WrittenCode)
    (meant : IsMeant of m) (edit : IsEditOf of.classes m.at before) (is_code : IsCode of before middle code) where
  abbrev r : Rewriting
  r = rewriting of m

  abbrev ready : IsReady of m
  ready = ready_of of m meant

  abbrev laid_method : IsLaidMethod of m before middle code ready
  laid_method = laws of m before middle code meant edit is_code ready

  abbrev items : List EmitItem
  items = chosen_items code.emitted

  abbrev one : WrittenMethod
  one = record { flat = of.flat; routes = ready.routes; form = form_of code.emitted }

  abbrev body : Body
  body = body_of_items ready.host of.flat (grown middle) 0 (plain_items items) laid_method.state

  abbrev stated : List (Option Frame)
  stated = stated_from laid_method.state 0 items

  abbrev w : Laid → Constants → CodePart → Rewritten
  w laid pool part = record {
    one = one;
    plan = of.plan;
    code_pool = grown middle;
    items = items;
    laid = laid;
    body = body;
    frames = laid_method.frames;
    stated = stated;
    pool = pool;
    part = part;
  }

  coded : (laid : Laid) (pool : Constants) (part : CodePart) → IsCoded r m.at (grown before) (w laid pool part)
  coded laid pool part = record {
    planned = planned of m meant ready (form_of code.emitted);
    gains = meant.gains;
    grows = laid_method.grows;
    chosen = record { items = code.emitted; are_items = laid_method.emitted.short_items; form = refl };
    items = laid_method.emitted.items;
  }

  abbrev no_laid : Laid
  no_laid = record { code = []; handlers = []; starts = [] }

  abbrev no_part : CodePart
  no_part = record { max_stack = 0; max_locals = 0; code = []; handlers = []; attrs = [] }

  -- no layout
  pub long_reason : (reason : Reason) → KeepsLong code.emitted (Kept reason) → IsReasonOf of m before reason
  long_reason reason keeps =
      let is = keeps_long code.emitted reason keeps in
      subst (IsReasonOf of m before) (sym is.0)
      (record {
        has = inl (record { w = w no_laid (grown middle) no_part; coded = coded no_laid (grown middle) no_part; long = laid_method.long is.1 });
        kept = λ same. absurd cc;
      })

  module _ (sound_of : AreSound) (laid : Laid) (out : IsLaidOut code.emitted laid) (within : IsWithin code.emitted) (placed : List PlacedFrame) (max_stack : ℕ)
      (by_frames : ArePlacedBy ready.host of.flat (form_of code.emitted) (finished_by (scope of m) ready.routes) (grown middle) items laid.starts placed max_stack) where
    sound : AreSoundFrames of (framed_of of m ready before middle code laid_method.state laid_method.frames)
    sound = sound_of of m (framed_of of m ready before middle code laid_method.state laid_method.frames) laid_method.framed

    laid_in : IsLaidIn (form_of code.emitted) items laid
    laid_in = laid_in_form code.emitted laid out

    placed_is : placed ≡ placed_frames (start_in laid.starts) 0 stated
    placed_is = by_frames.frames laid_method.state laid_method.frames laid_method.framed.framed sound.texts

    pub can_be_written : CanBeWritten placed
    can_be_written =
        let bytes = form_bytes code.emitted in
        let most = within.code in
        subst CanBeWritten (sym placed_is) (sound.written laid laid_in (omega (arith, bytes, most)))

    framed_in : (pool : Constants) (part : CodePart) → IsFramedIn r ready.host (w laid pool part)
    framed_in pool part = record {
      fits = laid_method.within within;
      laid = laid_in;
      state = laid_method.state;
      body = refl;
      framed = laid_method.framed.framed;
      stated = refl;
    }

    needs_are : table_needs (all_stated placed) ≡ table_needs stated
    needs_are = ap (λ (frames : List PlacedFrame). table_needs (all_stated frames)) placed_is ∙ placed_needs_are (start_in laid.starts) stated

    pool_is : frames_pool ready.host.class.major stated (grown middle) ≡ frames_pool_of ready.host.class.major middle (table_needs (all_stated placed))
    pool_is =
        ap (λ (needs : List Need). if nat_le 50 ready.host.class.major then grow 64535 (grown middle) needs else Some (grown middle)) (sym needs_are)
        ∙ ap (λ (limit : ℕ). if nat_le 50 ready.host.class.major then grow limit (grown middle) (table_needs (all_stated placed)) else Some (grown middle))
        (sym laid_method.limit)

    deepest : max_stack ≡ min (greatest_of body.points laid_method.frames) 65535
    deepest = by_frames.deepest laid_method.state laid_method.frames laid_method.framed.framed sound.texts

    -- a stack that is too deep
    pub deep_reason : max_stack ≡ 65535 → IsReasonOf of m before reasons.Long
    deep_reason most =
        let deep : IsDeepCode r m.at (grown before) = record {
          w = w laid (grown middle) no_part;
          coded = coded laid (grown middle) no_part;
          host = ready.host;
          is_host = ready.is_host;
          framed = framed_in (grown middle) no_part;
          deep = is_high (greatest_of body.points laid_method.frames) max_stack deepest most;
        } in
        record { has = inr (inl deep); kept = λ same. absurd cc }

    -- no room for the constants of its frames
    pub full_reason : max_stack ≢ 65535 → (reason : Reason) → IsFullFor ready.host.class.major middle (table_needs (all_stated placed)) reason → IsReasonOf of m before reason
    full_reason low reason full =
        let past : FramesArePast r m.at (grown before) = record {
          w = w laid (grown middle) no_part;
          coded = coded laid (grown middle) no_part;
          host = ready.host;
          is_host = ready.is_host;
          framed = framed_in (grown middle) no_part;
          shallow = is_low (greatest_of body.points laid_method.frames) max_stack deepest low;
          past = pool_is ∙ full.past;
        } in
        subst (IsReasonOf of m before) (sym full.is) (record { has = inr past; kept = λ same. absurd cc })

    -- the whole, where the number of its bytes is as is asked
    module _ (low : max_stack ≢ 65535) (after : Edit) (entry : Frame) (locals : ℕ) (attrs : List InnerAttr) (entry_is : entry ≡ entry_with ready.host of.flat)
        (locals_are : locals ≡ written_units of.flat) (states : StatesFrames ready.host.class.major middle after entry placed attrs) where
      abbrev part : CodePart
      part = record { max_stack = max_stack; max_locals = locals; code = laid.code; handlers = laid.handlers; attrs = attrs }

      attrs_are : IsFramesAttribute (grown after) (entry_with ready.host of.flat)
          (if nat_le 50 ready.host.class.major then placed_frames (start_in laid.starts) 0 stated else [])
          attrs
      attrs_are =
          subst (λ (frames : List PlacedFrame). IsFramesAttribute (grown after) (entry_with ready.host of.flat)
          (if nat_le 50 ready.host.class.major then frames else []) attrs) placed_is
          (subst (λ (frame : Frame). IsFramesAttribute (grown after) frame (if nat_le 50 ready.host.class.major then placed else []) attrs) entry_is
          states.attrs_are)

      whole : (asked : ℕ → Type 0) → asked (length (code_part_bytes part)) → IsWholeCode asked r m.at (grown before) (w laid (grown after) part)
      whole asked is = record {
        coded = coded laid (grown after) part;
        host = ready.host;
        is_host = ready.is_host;
        framed = framed_in (grown after) part;
        shallow = is_low (greatest_of body.points laid_method.frames) max_stack deepest low;
        grows = pool_is ∙ states.grows;
        max_stack =
            least_is (greatest_of body.points laid_method.frames) max_stack deepest
            (is_low (greatest_of body.points laid_method.frames) max_stack deepest low);
        max_locals = locals_are;
        code = refl;
        handlers = refl;
        attrs = attrs_are;
        short = is;
      }

      -- it has too many bytes
      pub huge_reason : 2 ^ 32 ≤ length (code_part_bytes part) → IsReasonOf of m before reasons.Long
      huge_reason many =
          let huge : IsHugeCode r m.at (grown before) = record { w = w laid (grown after) part; is = whole (λ (bytes : ℕ). 2 ^ 32 ≤ bytes) many } in
          record { has = inr (inr huge); kept = λ same. absurd cc }

      pub part_is : length (code_part_bytes part) < 2 ^ 32 → IsPart of m before middle after code part
      part_is few = record {
        w = w laid (grown after) part;
        is = whole (λ (bytes : ℕ). bytes < 2 ^ 32) few;
        routes = ready.routes;
        one = refl;
        of_items = record {
          routed = ready.routed;
          host = ready.host;
          is_host = ready.is_host;
          before = grown before;
          begins = laid_method.framed.begins;
          grows = laid_method.grows;
          items_are = laid_method.emitted.short_items;
        };
        items = refl;
        code_pool = refl;
        pool = refl;
        part_is = refl;
      }
