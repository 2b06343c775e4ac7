-- The table that is written of frames is one.
use Rattle.std.proofs.Common.{◌≡◌, ◌+◌, ℕ, List, [], ◌∷◌, ◌++◌, length, inl, inr, sym, ap, ◌∙◌}
use Rattle.class_model.specs.Frames.{listed}
use Rattle.class_model.specs.Spelling.{u2}
use Rattle.class_model.specs.declared.frame.Frame.{Frame}
use Rattle.class_model.specs.declared.frame.PlacedFrame.{PlacedFrame}
use Rattle.class_model.specs.declared.frame.VType.{VType}
use Rattle.map_frames.specs.Writing.{FrameKind, Listed, IsFirst, FitsFrameKind, frame_kinds, kind_bytes, IsFrame, AreFrames, IsTable}
use Rattle.map_frames.specs.declared.writing.NamedIndex.{NamedIndex}

one_kind : (fits : FrameKind → Type 0) (kinds : List FrameKind) (one other : FrameKind) → IsFirst fits kinds one → IsFirst fits kinds other → one ≡ other
one_kind fits [] one other a b = absurd a
one_kind fits (kind ∷ kinds) one other (inl a) (inl b) = a.0 ∙ sym b.0
one_kind fits (kind ∷ kinds) one other (inl a) (inr b) = absurd (b.0 a.1)
one_kind fits (kind ∷ kinds) one other (inr a) (inl b) = absurd (a.0 b.1)
one_kind fits (kind ∷ kinds) one other (inr a) (inr b) = one_kind fits kinds one other a.1 b.1

one_frame : (classes : List NamedIndex) (before : List VType) (frame : Listed) (one other : List ℕ) → IsFrame classes before frame one → IsFrame classes before frame other → one ≡ other
one_frame classes before frame one other a b =
    a.spelled ∙ ap (kind_bytes classes before frame) (one_kind (FitsFrameKind before frame) frame_kinds a.kind b.kind a.first b.first) ∙ sym b.spelled

one_list : (classes : List NamedIndex) (from : ℕ) (before : List VType) (frames : List PlacedFrame) (one other : List ℕ) → AreFrames classes from before frames one → AreFrames classes from before frames other → one ≡ other
one_list classes from before [] one other a b = a ∙ sym b
one_list classes from before (placed ∷ frames) one other a b =
    let first = one_frame classes before _ a.0 b.0 a.3 b.3 in
    let rest = one_list classes (placed.at + 1) (listed placed.frame) frames a.1 b.1 a.4 b.4 in
    a.2 ∙ ap (λ (t : List ℕ). t ++ a.1) first ∙ ap (λ (t : List ℕ). b.0 ++ t) rest ∙ sym b.2

pub one_table : (classes : List NamedIndex) (entry : Frame) (frames : List PlacedFrame) (one other : List ℕ) → IsTable classes entry frames one → IsTable classes entry frames other → one ≡ other
one_table classes entry frames one other a b =
    a.counted ∙ ap (λ (t : List ℕ). u2 (length frames) ++ t) (one_list classes 0 (listed entry) frames a.inside b.inside a.are_frames b.are_frames) ∙ sym b.counted
