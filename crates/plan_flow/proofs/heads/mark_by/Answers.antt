use Rattle.std.proofs.Common.{option_map, refl, sym, ap, subst, ◌∙◌}
use Rattle.std.specs.Option.{option_copied}
use Rattle.std.proofs.lemmas.Bool.{both_ways}
use Rattle.std.proofs.lemmas.Option.{none-some, same_Some}
use Rattle.flow_code.specs.declared.point.Point.{Point}
use Rattle.plan_flow.specs.Inner.Blocks.{branches}
use Rattle.plan_flow.specs.Inner.Sharing.{AreTargetsOf}
use Rattle.plan_flow.proofs.HeadMarks.{branches_alike, caught_alike, marked_by}
use Rattle.plan_flow.proofs.Narrows.{narrow_targets}
use Rattle.plan_flow.proofs.heads.mark_by.Goals as goal

pub returns-in_default : goal.returns-in_default
returns-in_default c = λ point is.
    absurd (none-some point.instr (ap option_copied (sym c.in_default.is) ∙ c.instr.ensures ∙ ap (option_map (λ (p : Point). p.instr)) is))

pub mark_targets-requires : goal.mark_targets-requires
mark_targets-requires c =
    narrow_targets c.args.flat.now c.args.at c.in-Some.instr.now c.requires.narrow (sym c.instr.ensures ∙ ap option_copied c.in-Some.is)

pub returns-then-branches : goal.returns-then-branches
returns-then-branches c = λ point is.
    let instr = c.in-Some.instr.now in
    let caught = c.caught_by-caught.result.now in
    let same = same_Some point.instr instr (sym (ap (option_map (λ (p : Point). p.instr)) is) ∙ sym c.instr.ensures ∙ ap option_copied c.in-Some.is) in
    let are = subst (AreTargetsOf point.handlers) (sym c.at.ensures) (c.requires.targets.each c.args.at point is) in
    let alike = caught_alike point instr c.at.result.now caught same are c.caught_by-caught.ensures in
    let told = branches_alike point instr caught c.branches.result same alike c.branches.ensures in
    marked_by c.args.at point instr c.args.heads.now.items c.mark_targets.new.heads.items c.mark_all.new.heads.items c.mark.new.heads.items caught
    same c.mark_targets.ensures c.mark_all.ensures alike (λ goes. c.mark.ensures)
    (λ stays. absurd (both_ways (branches point) stays (sym told ∙ c.if-branches.true)))

pub returns-else-branches : goal.returns-else-branches
returns-else-branches c = λ point is.
    let instr = c.in-Some.instr.now in
    let caught = c.caught_by-caught.result.now in
    let same = same_Some point.instr instr (sym (ap (option_map (λ (p : Point). p.instr)) is) ∙ sym c.instr.ensures ∙ ap option_copied c.in-Some.is) in
    let are = subst (AreTargetsOf point.handlers) (sym c.at.ensures) (c.requires.targets.each c.args.at point is) in
    let alike = caught_alike point instr c.at.result.now caught same are c.caught_by-caught.ensures in
    let told = branches_alike point instr caught c.branches.result same alike c.branches.ensures in
    marked_by c.args.at point instr c.args.heads.now.items c.mark_targets.new.heads.items c.mark_all.new.heads.items c.mark_all.new.heads.items
    caught same c.mark_targets.ensures c.mark_all.ensures alike
    (λ goes. absurd (both_ways (branches point) (sym told ∙ c.if-branches.false) goes)) (λ stays. refl)
