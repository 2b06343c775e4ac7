-- What is asked of a flat code so that what is written from it can be spelled. It is this project's profile.
use Rattle.std.specs.List.{AllByRecursion}
use Rattle.flow_code.specs.FlatCode.{FlatCode}
use Rattle.flow_code.specs.declared.point.FlatInstr.{FlatInstr}
use Rattle.flow_code.specs.declared.point.FlatInstr.TheVariants.{Of, NullTest}
use Rattle.member_link.specs.Targets.{HasForm}

abbrev pub IsFormed : FlatInstr → Type 0
IsFormed (Of class instr) = HasForm instr
IsFormed (NullTest local) = Unit {0}

-- Each instruction, reached or not, has its form: its opcode, count, code and numbers are such that it has a spelling.
abbrev pub AreFormed : FlatCode → Type 0
AreFormed flat = AllByRecursion (λ point. IsFormed point.instr) flat.points
