use Rattle.std.proofs.Common.{◌≡◌, Bool, true, List, ℕ, Option, IfOk, bytes_eq, ap, sym, subst, ◌∙◌}
use Rattle.class_model.specs.Names.{init}
use Rattle.class_model.specs.declared.frame.Frame.{Frame}
use Rattle.member_link.specs.MemberRefs.{reference_meant}
use Rattle.member_link.specs.RowScope.{RowScope}
use Rattle.member_link.specs.Rows.MemberRows.{init_row, special_row}
use Rattle.member_link.specs.Rows.Row.{either}
use Rattle.row_frames.proofs.calls.call_named.Goals as goal
use Rattle.row_frames.specs.Inner.Rows.{IsBehindRow}
use Rattle.row_frames.specs.Inner.Scopes.{scope_with}

pub returns-then-eq : goal.returns-then-eq
returns-then-eq c =
    let step = c.args.step.now in
    let f = step.before.now in
    let r = reference_meant c.args.reference.now in
    let is_init : bytes_eq r.name init ≡ true = sym (ap (λ (t : List ℕ). bytes_eq t init) c.bytes.ensures.same) ∙ sym c.eq.ensures ∙ c.if-eq.true in
    subst (λ (b : Bool). IfOk c.initialise.result (λ (frame : Option Frame). (s : RowScope)
    → IsBehindRow f (either b (init_row (scope_with s step.pool.now step.own.now) f r) (special_row (scope_with s step.pool.now step.own.now) f r)) frame)) (sym is_init) c.initialise.ensures
