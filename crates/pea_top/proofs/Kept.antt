use Rattle.std.proofs.Common.{◌≡◌, refl, subst}
use Rattle.std.specs.Prelude.{Option, None, Some, IsSome}
use Rattle.class_tree.specs.Headers.{Classes}
use Rattle.flow_code.specs.TypedFrames.{FolderFrames}
use Rattle.pea_top.specs.Inner.Verifying.{IsKept}
use Rattle.pea_top.specs.declared.work.Work.{Work}
use Rattle.pea_top.specs.declared.work.Work.TheVariants as works
use Rattle.type_rules.specs.Verified.{TypesFolder}

-- frames type a folder for whatever is left to do
pub kept_types : (classes : Classes) (work : Work) (kept : Option FolderFrames) → IsKept classes work kept
    → (typed : FolderFrames) × TypesFolder classes typed
kept_types classes (works.Optimise folder names) None is = absurd is
kept_types classes (works.Optimise folder names) (Some typed) is = (typed, is)
kept_types classes works.Plan None is = absurd is
kept_types classes works.Plan (Some typed) is = (typed, is)
kept_types classes (works.Print line) kept is = is
kept_types classes (works.Run actions most) None is = absurd is
kept_types classes (works.Both actions most) None is = absurd is
kept_types classes (works.Run actions most) (Some typed) is = (typed, is)
kept_types classes (works.Both actions most) (Some typed) is = (typed, is)

-- the work needs the frames
abbrev pub NeedsFrames : Work → Type 0
NeedsFrames (works.Print line) = ⊥
NeedsFrames work = Unit {0}

-- they are there where the work needs them
pub frames_there : (classes : Classes) (work : Work) (kept : Option FolderFrames) → IsKept classes work kept → NeedsFrames work → IsSome kept
frames_there classes (works.Optimise folder names) None is needs = absurd is
frames_there classes (works.Optimise folder names) (Some typed) is needs = refl
frames_there classes works.Plan None is needs = absurd is
frames_there classes works.Plan (Some typed) is needs = refl
frames_there classes (works.Print line) kept is needs = absurd needs
frames_there classes (works.Run actions most) None is needs = absurd is
frames_there classes (works.Both actions most) None is needs = absurd is
frames_there classes (works.Run actions most) (Some typed) is needs = refl
frames_there classes (works.Both actions most) (Some typed) is needs = refl

-- and they type the folder
pub frames_type : (classes : Classes) (work : Work) (kept : Option FolderFrames) (typed : FolderFrames) → IsKept classes work kept → NeedsFrames work → kept ≡ Some typed → TypesFolder classes typed
frames_type classes (works.Optimise folder names) None typed is needs same = absurd is
frames_type classes (works.Optimise folder names) (Some own) typed is needs same = subst (TypesFolder classes) (cc same) is
frames_type classes works.Plan None typed is needs same = absurd is
frames_type classes works.Plan (Some own) typed is needs same = subst (TypesFolder classes) (cc same) is
frames_type classes (works.Print line) kept typed is needs same = absurd needs
frames_type classes (works.Run actions most) None typed is needs same = absurd is
frames_type classes (works.Both actions most) None typed is needs same = absurd is
frames_type classes (works.Run actions most) (Some own) typed is needs same = subst (TypesFolder classes) (cc same) is
frames_type classes (works.Both actions most) (Some own) typed is needs same = subst (TypesFolder classes) (cc same) is
