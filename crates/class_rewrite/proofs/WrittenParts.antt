-- The Code that is written of a method, whatever is meant by what it is written from.
use Rattle.std.proofs.Common.{◌≡◌, ◌≢◌, ◌≤◌, ◌<◌, ◌^◌, ◌∙◌, ℕ, List, length, Some, refl, sym, ap, subst}
use Rattle.std.proofs.lemmas.Option.{same_Some}
use Rattle.class_model.specs.Methods.{entry_of, home_of}
use Rattle.class_model.specs.Pool.{Constants}
use Rattle.class_model.specs.Spelling.{code_part_bytes}
use Rattle.class_model.specs.declared.class_file.CodePart.{CodePart}
use Rattle.class_model.specs.declared.class_file.InnerAttr.{InnerAttr}
use Rattle.class_model.specs.declared.class_file.MethodAt.{MethodAt}
use Rattle.class_model.specs.declared.frame.Frame.{Frame}
use Rattle.class_model.specs.declared.frame.PlacedFrame.{PlacedFrame}
use Rattle.class_rewrite.proofs.RewrittenParts.{can_be_written, deep_reason, full_reason, huge_reason, part_is}
use Rattle.class_rewrite.specs.Inner.LaidMethods.{AreLaidMethods, AreReady, AreSound}
use Rattle.class_rewrite.specs.Inner.Meanings.{IsCode, IsEditOf, IsFullFor, IsKnownCode, IsMeant, IsPart, IsReady, IsReasonOf, Meaning, StatesFrames, scope}
use Rattle.class_tree.specs.Headers.{Name}
use Rattle.code_drafts.specs.Emits.{Writing}
use Rattle.code_emit.specs.declared.emitting.WrittenCode.{WrittenCode}
use Rattle.code_layout.specs.ChosenForm.{IsLaidOut, IsWithin, chosen_items}
use Rattle.code_layout.specs.declared.laid.Laid.{Laid}
use Rattle.flow_code.specs.WrittenUnits.{written_units}
use Rattle.flow_code.specs.declared.reason.Reason.{Reason}
use Rattle.flow_code.specs.declared.reason.Reason.TheVariants as reasons
use Rattle.member_link.specs.Scope.{Scope, scope_at}
use Rattle.plan_flow.specs.PlanScope.{PlanScope}
use Rattle.plan_flow.specs.Written.Routes.{Routes}
use Rattle.pool_edit.specs.Edits.{Edit, grown}
use Rattle.stackmap_emit.specs.FrameConstants.{table_needs}
use Rattle.stackmap_emit.specs.FramedItems.{AreEmitted, ArePlacedBy, entry_with, finished_by, form_of}
use Rattle.stackmap_emit.specs.FramesAttribute.{CanBeWritten, all_stated}

-- what is given of the frames
abbrev pub GivesFrames : Writing → WrittenCode → Scope → Frame → Constants → Laid → List PlacedFrame → ℕ → Type 0
GivesFrames of code home entry pool laid placed max_stack =
    (s : PlanScope) (constructor : Name → List ℕ) (routes : Routes)
    → s.flat ≡ of.flat
    → entry ≡ entry_with home s.flat
    → AreEmitted s constructor routes pool code.emitted code.starts
    → ArePlacedBy home s.flat (form_of code.emitted) (finished_by s routes) pool (chosen_items code.emitted) laid.starts placed max_stack

module _ (laws : AreLaidMethods) (ready_of : AreReady) (sound_of : AreSound) (of : Writing) (middle : Edit) (code : WrittenCode) (home : Scope) (pool : Constants)
    (known : IsKnownCode of middle code home pool) (entry : Frame) (locals : ℕ)
    (entry_own : entry ≡ entry_of (home_of home.class) home.method (record home.part { max_locals = locals }))
    (locals_are : locals ≡ written_units of.flat) (laid : Laid) (out : IsLaidOut code.emitted laid) (within : IsWithin code.emitted)
    (placed : List PlacedFrame) (max_stack : ℕ) (gives : GivesFrames of code home entry pool laid placed max_stack) where
  entry_is : entry ≡ entry_with home of.flat
  entry_is = entry_own ∙ ap (λ (n : ℕ). entry_of (home_of home.class) home.method (record home.part { max_locals = n })) locals_are

  module _ (m : Meaning) (before : Edit) (meant : IsMeant of m) (edit : IsEditOf of.classes m.at before) (is_code : IsCode of before middle code) where
    abbrev ready : IsReady of m
    ready = ready_of of m meant

    -- any other meaning has the same host
    same_host : ready.host ≡ home
    same_host =
        let own = ready_of of known.m known.meant in
        let at : m.at ≡ known.m.at = sym ready.own ∙ own.own in
        same_Some ready.host home (sym ready.is_host ∙ ap (λ (at : MethodAt). scope_at of.classes at) at ∙ known.is_host)

    abbrev By : Scope → Constants → Type 0
    By host constants =
        ArePlacedBy host of.flat (form_of code.emitted) (finished_by (scope of m) ready.routes) constants (chosen_items code.emitted) laid.starts placed max_stack

    placed_by : By ready.host (grown middle)
    placed_by =
        let made = laws of m before middle code meant edit is_code ready in
        let emitted : AreEmitted (scope of m) m.constructor ready.routes pool code.emitted code.starts =
        subst (λ (constants : Constants). AreEmitted (scope of m) m.constructor ready.routes constants code.emitted code.starts) (sym known.is_pool) made.emitted in
        subst (λ (host : Scope). By host (grown middle)) (sym same_host)
        (subst (By home) known.is_pool (gives (scope of m) m.constructor ready.routes refl entry_is emitted))

    same_major : home.class.major ≡ ready.host.class.major
    same_major = ap (λ (host : Scope). host.class.major) (sym same_host)

    can : CanBeWritten placed
    can = can_be_written laws ready_of of m before middle code meant edit is_code sound_of laid out within placed max_stack placed_by

    pub written_deep : max_stack ≡ 65535 → IsReasonOf of m before reasons.Long
    written_deep most =
        deep_reason laws ready_of of m before middle code meant edit is_code sound_of laid out within placed max_stack placed_by most

    pub written_full : max_stack ≢ 65535 → (reason : Reason) → IsFullFor home.class.major middle (table_needs (all_stated placed)) reason → IsReasonOf of m before reason
    written_full low reason full =
        full_reason laws ready_of of m before middle code meant edit is_code sound_of laid out within placed max_stack placed_by low reason
        (subst (λ (major : ℕ). IsFullFor major middle (table_needs (all_stated placed)) reason) same_major full)

    module _ (low : max_stack ≢ 65535) (after : Edit) (attrs : List InnerAttr) (states : StatesFrames home.class.major middle after entry placed attrs) where
      abbrev part : CodePart
      part = record { max_stack = max_stack; max_locals = locals; code = laid.code; handlers = laid.handlers; attrs = attrs }

      entry_there : entry ≡ entry_with ready.host of.flat
      entry_there = entry_is ∙ ap (λ (host : Scope). entry_with host of.flat) (sym same_host)

      states_there : StatesFrames ready.host.class.major middle after entry placed attrs
      states_there = subst (λ (major : ℕ). StatesFrames major middle after entry placed attrs) same_major states

      pub written_huge : 2 ^ 32 ≤ length (code_part_bytes part) → IsReasonOf of m before reasons.Long
      written_huge many =
          huge_reason laws ready_of of m before middle code meant edit is_code sound_of laid out within placed max_stack placed_by low after entry locals attrs
          entry_there locals_are states_there many

      pub written_is : length (code_part_bytes part) < 2 ^ 32 → IsPart of m before middle after code part
      written_is few =
          part_is laws ready_of of m before middle code meant edit is_code sound_of laid out within placed max_stack placed_by low after entry locals attrs
          entry_there locals_are states_there few

  pub written_can : CanBeWritten placed
  written_can = can known.m known.before known.meant known.of_class known.is_code
