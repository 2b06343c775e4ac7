-- How long instructions are does not depend on their targets.
use Rattle.std.specs.Prelude.{◌≡◌, ℕ, ◌≤◌, length}
use Rattle.class_model.specs.declared.instr.Instr.{Instr}
use Rattle.member_link.specs.Targets.{with_targets}
use Rattle.code_layout.specs.Layout.{Spelled, len_of}

-- so of those that stand up to an offset, with these targets
abbrev pub KeepLens : Spelled → (ℕ → ℕ) → ℕ → Type 0
KeepLens spelled place most =
    (at : ℕ) (instr : Instr) → at ≤ most → length (spelled at (with_targets place instr)) ≡ len_of spelled at instr
