use Rattle.std.proofs.Common.{◌≡◌, ℕ, IfOk, sym, ap, subst, ◌∙◌}
use Rattle.class_model.specs.declared.instr.Instr.{Instr}
use Rattle.expanded_code.specs.Expanded.{set_instr}
use Rattle.inline_expand.proofs.SettingParts.{kept-unit}
use Rattle.inline_expand.proofs.expanded.settings.Setting.instr.Goals as goal
use Rattle.inline_expand.specs.Inner.Numbers.{number_by}
use Rattle.inline_expand.specs.Inner.Settings.{number_in, setting_of}
use Rattle.member_link.specs.Targets.{with_targets}

pub returns-in_default : goal.returns-in_default
returns-in_default c =
    let s = c.args.self.now in
    let instr = c.args.instr.now in
    let same : with_targets (number_by c.numbers.result) instr ≡ set_instr (setting_of s) instr =
    ap (λ (number : ℕ → ℕ). with_targets number instr) c.numbers.ensures.numbers
    ∙ ap (with_targets (number_in s)) (sym (kept-unit s.unit instr c.in_default.not-Load c.in_default.not-Store c.in_default.not-Iinc)) in
    subst (λ (i : Instr). IfOk c.renumbered.result (λ set. set ≡ i)) same c.renumbered.ensures
