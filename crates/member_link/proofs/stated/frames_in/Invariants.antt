use Rattle.std.proofs.Common.{◌≡◌, drop}
use Rattle.class_model.specs.Methods.{home_of}
use Rattle.class_model.specs.Stated.{stated_in}
use Rattle.member_link.proofs.stated.frames_in.Given as goal

abbrev pub invariant-loop-attr : goal.invariant-loop-attr
invariant-loop-attr l = let of = stated_in (home_of l.code.class.now) l.code.method.now l.code.part.now in
    of l.attrs ≡ of (drop l.attr-index l.attrs)
