-- The frame behind a row whose names may be made.
use Rattle.std.specs.Prelude.{◌≡◌, Option}
use Rattle.class_model.specs.declared.frame.Frame.{Frame}
use Rattle.member_link.specs.Rows.Row.{Row, row_frame}
use Rattle.row_frames.specs.Behind.{GivesTexts}

-- where what is pushed has names that are texts, this is the frame with which control goes on
abbrev pub IsBehindRow : Frame → Row → Option Frame → Type 0
IsBehindRow before row frame = GivesTexts row → frame ≡ row_frame before row
