use Rattle.std.proofs.Common.{◌≡◌, drop}
use Rattle.class_model.specs.MethodCode.{code_of}
use Rattle.machine_code.proofs.translating.code_in.code_of.Given as goal

abbrev pub invariant-loop-attr : goal.invariant-loop-attr
invariant-loop-attr l = code_of l.attrs ≡ code_of (drop l.attr-index l.attrs)
