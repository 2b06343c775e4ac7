-- A table is written frame by frame.
use Rattle.std.proofs.Common.{◌≡◌, ℕ, suc, ◌+◌, ◌<◌, List, [], ◌∷◌, ◌++◌, length, drop, get_or, refl, sym, ap, subst, append_assoc, add-one, arith}
use Rattle.std.proofs.Math.Seq.{drop-cons}
use Rattle.std.proofs.lemmas.List.{append-nil}
use Rattle.std.specs.List.{AllByRecursion}
use Rattle.class_model.specs.Frames.{listed}
use Rattle.class_model.specs.declared.frame.PlacedFrame.{PlacedFrame}
use Rattle.class_model.specs.declared.frame.VType.{VType}
use Rattle.map_frames.specs.Inner.Listing.{FitsListed}
use Rattle.map_frames.specs.Writing.{Listed, FitsType, FitsFrame, IsFrame, AreFrames, listed_at, PlacesIncrease}
use Rattle.map_frames.specs.declared.writing.NamedIndex.{NamedIndex}
use Rattle.map_frames.proofs.FrameUnits.{all_listed, few_listed}

-- Behind what is done the frames that are left make the whole table.
pub record AreLeft (classes : List NamedIndex) (entry : List VType) (frames : List PlacedFrame) (from : ℕ) (before : List VType) (left : List PlacedFrame) (done : List ℕ) : Type 0 where
  pub whole : (rest : List ℕ) → AreFrames classes from before left rest → AreFrames classes 0 entry frames (done ++ rest)
  pub places : PlacesIncrease from left
  pub each : AllByRecursion (λ placed. FitsFrame classes placed.frame) left

pub all_done : (classes : List NamedIndex) (entry : List VType) (frames : List PlacedFrame) (from : ℕ) (before : List VType) (left : List PlacedFrame) (done : List ℕ) → AreLeft classes entry frames from before left done → left ≡ [] → AreFrames classes 0 entry frames done
all_done classes entry frames from before left done are none =
    let last : AreFrames classes from before left [] = rw none refl in
    rw (append-nil done) at (are.whole [] last)

next_is : (frames : List PlacedFrame) (i : ℕ) (placed : PlacedFrame) → i < length frames → placed ≡ get_or frames i placed → drop i frames ≡ placed ∷ drop (i + 1) frames
next_is frames i placed lt is = rw (add-one, drop-cons frames i placed) (ap (λ (one : PlacedFrame). one ∷ drop (suc i) frames) (sym is))

module _ (classes : List NamedIndex) (entry : List VType) (frames : List PlacedFrame) (from : ℕ) (before : List VType) (done : List ℕ) (i : ℕ) (placed : PlacedFrame)
    (are : AreLeft classes entry frames from before (drop i frames) done) (lt : i < length frames) (is : placed ≡ get_or frames i placed) where
  pub next_left : AreLeft classes entry frames from before (placed ∷ drop (i + 1) frames) done
  next_left = rw (next_is frames i placed lt is) at are

  pub next_fits : (frame : Listed) → frame ≡ listed_at from placed → FitsListed classes frame
  next_fits frame same =
      let fits = next_left.each.0 in
      rw same (record {
        few_locals = omega (arith, few_listed placed.frame, fits.few_locals);
        few_stack = fits.few_stack;
        locals = all_listed (FitsType classes) placed.frame fits.locals;
        stack = fits.stack;
      })

  pub next_done : (frame : Listed) (locals : List VType) (bytes : List ℕ) → frame ≡ listed_at from placed → locals ≡ listed placed.frame → IsFrame classes before frame bytes → AreLeft classes entry frames (placed.at + 1) locals (drop (i + 1) frames) (done ++ bytes)
  next_done frame locals bytes same locals_are written = record {
    whole = λ rest others.
        let all : AreFrames classes from before (placed ∷ drop (i + 1) frames) (bytes ++ rest) =
        (bytes, rest, refl, rw same at written, subst (λ (l : List VType). AreFrames classes (placed.at + 1) l (drop (i + 1) frames) rest) locals_are others) in
        rw (append_assoc done bytes rest) (next_left.whole (bytes ++ rest) all);
    places = next_left.places.2;
    each = next_left.each.1;
  }
