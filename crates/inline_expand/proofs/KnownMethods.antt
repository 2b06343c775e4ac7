-- A method more of which it is known whether its frames have an uninitialised this.
use Rattle.std.proofs.Common.{◌≡◌, ◌≢◌, ◌⊎◌, ◌↔◌, Bool, List, Some, IsTrue, inl, inr, sym, subst, ap, ◌∙◌}
use Rattle.std.proofs.lemmas.Option.{same_Some}
use Rattle.class_model.specs.declared.class_file.MethodAt.{MethodAt}
use Rattle.class_model.specs.declared.frame.Frame.{Frame}
use Rattle.flow_code.specs.TypedFrames.{FolderFrames, typed_frames_at}
use Rattle.inline_expand.proofs.Walking.{same_method}
use Rattle.inline_expand.specs.Inner.KnownFrames.{AreKnown, AreWithoutThis}
use Rattle.inline_expand.specs.Inner.Verdicts.{Judges, verdict}
use Rattle.inline_expand.specs.declared.verdicts.Verdicts.{Verdicts}

pub judged_known : (typed : FolderFrames) (before after : Verdicts) (at : MethodAt) (is_without : Bool) (frames : List Frame)
    → AreKnown typed before
    → typed_frames_at typed at ≡ Some frames
    → IsTrue is_without ↔ AreWithoutThis frames
    → Judges before after at is_without
    → AreKnown typed after
judged_known typed before after at is_without frames known are told judges = record { right = λ other said own is own_are. by other said own is own_are (same_method other at) }
  where
    by : (other : MethodAt) (said : Bool) (own : List Frame) → verdict after other ≡ Some said → typed_frames_at typed other ≡ Some own → (other ≡ at) ⊎ (other ≢ at) → IsTrue said ↔ AreWithoutThis own
    by other said own is own_are (inl same) =
        let one : is_without ≡ said = same_Some is_without said (sym judges.here ∙ ap (verdict after) (sym same) ∙ is) in
        let two : frames ≡ own = same_Some frames own (sym are ∙ ap (typed_frames_at typed) (sym same) ∙ own_are) in
        subst (λ (b : Bool). IsTrue b ↔ AreWithoutThis own) one (subst (λ (fs : List Frame). IsTrue is_without ↔ AreWithoutThis fs) two told)
    by other said own is own_are (inr apart) = known.right other said own (sym (judges.apart other apart) ∙ is) own_are
