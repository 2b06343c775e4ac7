use Rattle.std.proofs.Common.{◌≡◌, ◌-◌, ◌+◌, ◌∙◌, ℕ, sym, subst, arith}
use Rattle.class_model.specs.declared.instr.Instr.{Instr}
use Rattle.member_link.specs.Rows.Operands.{lowest_of}
use Rattle.member_link.specs.Rows.Table.{row_of}
use Rattle.type_rules.specs.Changes.{AreSameBut}
use Rattle.type_rules.proofs.LeftLocals.{locals_left}
use Rattle.type_rules.proofs.ChangedLocals.{store_changes}
use Rattle.type_rules.proofs.keeping.local_changes.Goals as goal

pub returns-in-Store : goal.returns-in-Store
returns-in-Store c = λ s before at.
    let local : ℕ = c.in-Store.local in
    let from : c.saturating_sub.result ≡ local - 1 = omega (arith, c.saturating_sub.ensures, c.from.ensures) in
    let end : c.from-in-Store.result + 2 ≡ local + 2 = omega (arith, c.from-in-Store.ensures) in
    rw (from, end) (subst (λ (instr : Instr). AreSameBut (local - 1) (local + 2) before.locals (row_of s before at instr).locals) (sym c.in-Store.is)
    (store_changes local (lowest_of 1 before.stack) before.locals))

pub returns-in_default : goal.returns-in_default
returns-in_default c = λ s before at. locals_left c.args.instr.now (sym c.is_known_to_leave.ensures ∙ c.if-is_known_to_leave.true) s before at
