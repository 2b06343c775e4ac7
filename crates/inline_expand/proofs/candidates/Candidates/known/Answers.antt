use Rattle.std.proofs.Common.{◌≡◌, List, ℕ, Option, Some, IfSome, slice_get, sym, ap, subst, ◌∙◌}
use Rattle.std.specs.Option.{option_copied}
use Rattle.class_tree.specs.Headers.{Classes, headers_of}
use Rattle.class_tree.specs.Order.{place_of}
use Rattle.class_tree.specs.declared.place.Place.{Place}
use Rattle.class_tree.specs.declared.place.Place.TheVariants.{Folder}
use Rattle.inline_expand.specs.Inner.CandidateWords.{AreKept, IsJudged, IsKept}
use Rattle.inline_expand.specs.declared.candidates.Judged.{Judged}
use Rattle.inline_expand.specs.declared.candidates.Judged.TheVariants.{Sound, Unsound}
use Rattle.inline_expand.proofs.candidates.Candidates.known.Goals as goal

pub returns-in_ok-copy_of-in-Some-Sound : goal.returns-in_ok-copy_of-in-Some-Sound
returns-in_ok-copy_of-in-Some-Sound c = λ name placed.
    let classes = c.args.self.now in
    let kept = subst (λ (k : Classes). AreKept k c.self.inside.judged.items) c.self.view_is c.self.invariant.1 in
    let there : place_of (headers_of classes) name ≡ Some (Folder c.in-Folder.number) = subst (λ (p : Place). place_of (headers_of classes) name ≡ Some p) c.in-Folder.is placed in
    let at : slice_get c.self.inside.judged.items c.in-Folder.number ≡ Some (Sound c.in-Some-Sound.fields) =
    ap (λ (l : List Judged). slice_get l c.in-Folder.number) (sym c.as_slice.ensures.value) ∙ sym c.judged_at.ensures ∙ ap option_copied c.in-Some-Sound.is ∙ ap Some c.in-Some-Sound.field-0-is in
    let judged : IsJudged classes name (Some c.in-Some-Sound.fields) = subst (λ (o : Option Judged). IfSome o (IsKept classes name)) at (kept name c.in-Folder.number there) in
    subst (λ (l : List (List ℕ)). IsJudged classes name (Some l)) (sym c.as_slice-in-Some-Sound.ensures ∙ sym c.in_ok-copy_of-in-Some-Sound.ensures) judged

pub returns-in-Some-Unsound : goal.returns-in-Some-Unsound
returns-in-Some-Unsound c = λ name placed.
    let classes = c.args.self.now in
    let kept = subst (λ (k : Classes). AreKept k c.self.inside.judged.items) c.self.view_is c.self.invariant.1 in
    let there : place_of (headers_of classes) name ≡ Some (Folder c.in-Folder.number) = subst (λ (p : Place). place_of (headers_of classes) name ≡ Some p) c.in-Folder.is placed in
    let at : slice_get c.self.inside.judged.items c.in-Folder.number ≡ Some Unsound =
    ap (λ (l : List Judged). slice_get l c.in-Folder.number) (sym c.as_slice.ensures.value) ∙ sym c.judged_at.ensures ∙ ap option_copied c.in-Some-Unsound.is ∙ ap Some c.in-Some-Unsound.field-0-is in
    subst (λ (o : Option Judged). IfSome o (IsKept classes name)) at (kept name c.in-Folder.number there)
