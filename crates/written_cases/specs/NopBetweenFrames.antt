-- The frames of the items of NopBetween, and those that are stated.
use Rattle.std.specs.Prelude.{ℕ, List, [], ◌∷◌, codes, slice_set}
use Rattle.class_model.specs.declared.frame.Frame.{Frame}
use Rattle.class_model.specs.declared.frame.VType.{VType}
use Rattle.class_model.specs.declared.frame.VType.TheVariants.{Int, Object, Top}
use Rattle.written_cases.specs.CaseFrames.{Framed, having}
use Rattle.written_cases.specs.NopBetween.{file, this, wanted}

abbrev Text : VType
Text = Object (codes "java/lang/String")

abbrev Any : VType
Any = Object (codes "java/lang/Object")

-- ---- local units

abbrev at_start : List VType
at_start = Int ∷ Top ∷ Top ∷ Top ∷ Top ∷ Top ∷ Top ∷ Top ∷ Top ∷ Top ∷ Top ∷ Top ∷ Top ∷ []

abbrev x_cleared : List VType
x_cleared = slice_set at_start 6 Int

abbrev cleared : List VType
cleared = slice_set x_cleared 7 Int

abbrev with_y : List VType
with_y = slice_set cleared 5 Int

abbrev with_both : List VType
with_both = slice_set with_y 4 Int

abbrev x_set : List VType
x_set = slice_set with_both 2 Text

abbrev fields_set : List VType
fields_set = slice_set cleared 2 Text

abbrev with_text : List VType
with_text = slice_set fields_set 2 Any

-- ---- frames

abbrev pub frames : List Frame
frames =
    having at_start []
    ∷ having at_start (Int ∷ [])
    ∷ having x_cleared []
    ∷ having x_cleared (Int ∷ [])
    ∷ having cleared []
    ∷ having cleared (Int ∷ [])
    ∷ having cleared (Int ∷ Int ∷ [])
    ∷ having with_y (Int ∷ [])
    ∷ having with_both []
    ∷ having with_both (Int ∷ [])
    ∷ having with_both []
    ∷ having with_both (Int ∷ [])
    ∷ having with_both []
    ∷ having with_both (Text ∷ [])
    ∷ having x_set []
    ∷ having x_set (Int ∷ [])
    ∷ having x_set []
    ∷ having fields_set []
    ∷ having with_text []
    ∷ having with_text (Int ∷ [])
    ∷ []

abbrev pub stated : List (ℕ × Frame)
stated =
    (17, having fields_set [])
    ∷ (18, having with_text [])
    ∷ []

abbrev pub framed : Framed
framed = record {
  case = this;
  file = file;
  method = record { flags = 8; name = 22; desc = 17; attrs = [] };
  wanted = wanted;
  max_stack = 2;
  frames = frames;
  stated = stated;
}
