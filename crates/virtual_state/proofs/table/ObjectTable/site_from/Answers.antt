use Rattle.std.proofs.Common.{rules, ◌≡◌, ℕ, Some, sym, subst, arith}
use Rattle.virtual_state.specs.Laws.Objects.{found_site, present_found}
use Rattle.virtual_state.specs.States.{is_present, object_of}
use Rattle.virtual_state.proofs.table.ObjectTable.site_from.Goals as goal

pub returns-in-Some : goal.returns-in-Some
returns-in-Some c =
    let objects = c.args.self.now in
    let object = c.get-in-Some.result.now in
    let found : object_of objects c.loop-at.at ≡ Some object = search rules in
    let same = found_site objects c.loop-at.at object found in (
      omega (arith, same),
      subst (λ (site : ℕ). is_present objects site ≡ _) (sym same) (present_found objects c.loop-at.at object found),
      λ other low below. c.loop-at.invariant other low (omega (arith, same)),
    )
