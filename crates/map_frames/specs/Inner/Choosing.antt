-- The first kind that fits, by counts alone.
use Rattle.std.specs.Prelude.{◌==◌, ◌&&◌, nat_le, ℕ, Bool, true, List, [], ◌∷◌, if◌then◌else◌}
use Rattle.class_model.specs.declared.frame_tags.TheConstants.{SAME_FRAME_LAST}
use Rattle.map_frames.specs.Writing.{FrameKind, Same, SameItem, SameItemExtended, Chop, SameExtended, Append, Full}
use Rattle.map_frames.specs.declared.kinds.Change.{Change}
use Rattle.map_frames.specs.declared.kinds.Kind.{Kind}
use Rattle.map_frames.specs.declared.kinds.Kind.TheVariants as kinds

abbrev pub kind_meant : Kind → FrameKind
kind_meant kinds.Same = Same
kind_meant kinds.SameItem = SameItem
kind_meant kinds.SameItemExtended = SameItemExtended
kind_meant kinds.Chop = Chop
kind_meant kinds.SameExtended = SameExtended
kind_meant kinds.Append = Append
kind_meant kinds.Full = Full

-- one to three
abbrev pub is_few : ℕ → Bool
is_few count = nat_le 1 count && nat_le count 3

-- the locals are those of the frame before
abbrev pub keeps_locals : Change → Bool
keeps_locals change = (change.gone == 0) && (change.more == 0)

-- A frame with this offset delta and this change has a spelling of the kind.
abbrev pub passes : ℕ → Change → FrameKind → Bool
passes delta change Same =
    keeps_locals change && (change.stack == 0) && nat_le delta SAME_FRAME_LAST
passes delta change SameItem =
    keeps_locals change && (change.stack == 1) && nat_le delta SAME_FRAME_LAST
passes delta change SameItemExtended = keeps_locals change && (change.stack == 1)
passes delta change Chop = (change.stack == 0) && ((change.more == 0) && is_few change.gone)
passes delta change SameExtended = keeps_locals change && (change.stack == 0)
passes delta change Append = (change.stack == 0) && ((change.gone == 0) && is_few change.more)
passes delta change Full = true

-- the first of some kinds that passes a test, and full if none does
abbrev pub first_passing : (FrameKind → Bool) → List FrameKind → FrameKind
first_passing test [] = Full
first_passing test (kind ∷ kinds) = if test kind then kind else first_passing test kinds
