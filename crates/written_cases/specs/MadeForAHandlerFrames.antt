-- The frames of the items of MadeForAHandler, and those that are stated.
use Rattle.std.specs.Prelude.{ℕ, List, [], ◌∷◌, codes, slice_set}
use Rattle.class_model.specs.declared.frame.Frame.{Frame}
use Rattle.class_model.specs.declared.frame.VType.{VType}
use Rattle.class_model.specs.declared.frame.VType.TheVariants.{Int, Null, Object, Top, Uninit}
use Rattle.written_cases.specs.CaseFrames.{Framed, having}
use Rattle.written_cases.specs.MadeForAHandler.{file, this, wanted}

abbrev P : VType
P = Object (codes "P")

abbrev Arithmetic : VType
Arithmetic = Object (codes "java/lang/ArithmeticException")

abbrev Fresh_21 : VType
Fresh_21 = Uninit 21

abbrev Fresh_38 : VType
Fresh_38 = Uninit 38

-- ---- local units

abbrev at_start : List VType
at_start = Int ∷ Top ∷ Top ∷ Top ∷ Top ∷ Top ∷ Top ∷ Top ∷ Top ∷ Top ∷ Top ∷ Top ∷ Top ∷ Top ∷ []

abbrev x_cleared : List VType
x_cleared = slice_set at_start 7 Int

abbrev cleared : List VType
cleared = slice_set x_cleared 8 Int

abbrev with_y : List VType
with_y = slice_set cleared 6 Int

abbrev with_both : List VType
with_both = slice_set with_y 5 Int

abbrev with_quotient : List VType
with_quotient = slice_set cleared 2 Int

abbrev made : List VType
made = slice_set with_quotient 9 P

abbrev with_point : List VType
with_point = slice_set made 1 P

abbrev in_handler : List VType
in_handler = slice_set at_start 1 P

abbrev with_thrown : List VType
with_thrown = slice_set in_handler 3 Arithmetic

abbrev made_in_pad : List VType
made_in_pad = slice_set made 2 Top

abbrev with_point_in_pad : List VType
with_point_in_pad = slice_set made_in_pad 1 P

-- ---- frames

abbrev pub frames : List Frame
frames =
    having at_start []
    ∷ having at_start (Int ∷ [])
    ∷ having x_cleared []
    ∷ having x_cleared (Int ∷ [])
    ∷ having cleared []
    ∷ having cleared (Int ∷ [])
    ∷ having cleared (Int ∷ Int ∷ [])
    ∷ having with_y (Int ∷ [])
    ∷ having with_both []
    ∷ having with_both (Int ∷ [])
    ∷ having with_both []
    ∷ having with_both (Int ∷ [])
    ∷ having with_both []
    ∷ having with_both (Int ∷ [])
    ∷ having with_both (Int ∷ Int ∷ [])
    ∷ having with_both []
    ∷ having with_both (Int ∷ [])
    ∷ having cleared []
    ∷ having cleared (Int ∷ [])
    ∷ having cleared (Int ∷ Int ∷ [])
    ∷ having cleared (Int ∷ [])
    ∷ having with_quotient []
    ∷ having with_quotient (Fresh_21 ∷ [])
    ∷ having with_quotient (Fresh_21 ∷ Fresh_21 ∷ [])
    ∷ having with_quotient (Fresh_21 ∷ Fresh_21 ∷ Int ∷ [])
    ∷ having with_quotient (Fresh_21 ∷ Fresh_21 ∷ Int ∷ Int ∷ [])
    ∷ having with_quotient (Fresh_21 ∷ Fresh_21 ∷ Int ∷ Int ∷ Null ∷ [])
    ∷ having with_quotient (P ∷ [])
    ∷ having made []
    ∷ having made (P ∷ [])
    ∷ having with_point []
    ∷ having with_point (P ∷ [])
    ∷ having with_point []
    ∷ having with_point (Int ∷ [])
    ∷ having in_handler (Arithmetic ∷ [])
    ∷ having with_thrown []
    ∷ having with_thrown (P ∷ [])
    ∷ having with_thrown (Int ∷ [])
    ∷ having cleared (Arithmetic ∷ [])
    ∷ having cleared (Arithmetic ∷ Fresh_38 ∷ [])
    ∷ having cleared (Arithmetic ∷ Fresh_38 ∷ Fresh_38 ∷ [])
    ∷ having cleared (Arithmetic ∷ Fresh_38 ∷ Fresh_38 ∷ Int ∷ [])
    ∷ having cleared (Arithmetic ∷ Fresh_38 ∷ Fresh_38 ∷ Int ∷ Int ∷ [])
    ∷ having cleared (Arithmetic ∷ Fresh_38 ∷ Fresh_38 ∷ Int ∷ Int ∷ Null ∷ [])
    ∷ having cleared (Arithmetic ∷ P ∷ [])
    ∷ having made_in_pad (Arithmetic ∷ [])
    ∷ having made_in_pad (Arithmetic ∷ P ∷ [])
    ∷ having with_point_in_pad (Arithmetic ∷ [])
    ∷ []

abbrev pub stated : List (ℕ × Frame)
stated =
    (17, having cleared [])
    ∷ (34, having in_handler (Arithmetic ∷ []))
    ∷ (38, having cleared (Arithmetic ∷ []))
    ∷ []

abbrev pub framed : Framed
framed = record {
  case = this;
  file = file;
  method = record { flags = 8; name = 10; desc = 11; attrs = [] };
  wanted = wanted;
  max_stack = 6;
  frames = frames;
  stated = stated;
}
