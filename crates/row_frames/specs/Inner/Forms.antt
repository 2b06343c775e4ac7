-- What the code's forms of instructions that move stack entries mean.
use Rattle.std.specs.Prelude.{map}
use Rattle.member_link.specs.Rows.ShuffleRows as meant
use Rattle.row_frames.specs.declared.shuffles.Form.{Form}
use Rattle.row_frames.specs.declared.shuffles.Width.{Width}
use Rattle.row_frames.specs.declared.shuffles.Width.TheVariants as widths

abbrev pub width_meant : Width → meant.Width
width_meant widths.One = meant.one
width_meant widths.Two = meant.two

abbrev pub form_meant : Form → meant.Form
form_meant form = record { takes = map width_meant form.takes.now; gives = form.gives.now }
