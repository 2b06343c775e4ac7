-- The rule of a row, from what its parts answer.
use Rattle.std.proofs.Common.{◌≡◌, ◌-◌, Bool, true, List, [], length, Some, None, Result, Ok, Err, if◌then◌else◌, refl, ap, sym, subst, ◌∙◌, inl, inr, arith}
use Rattle.std.proofs.lemmas.List.{drop_all}
use Rattle.class_model.specs.declared.frame.Frame.{Frame}
use Rattle.class_model.specs.declared.frame.VType.{VType}
use Rattle.member_link.specs.RowScope.{RowScope}
use Rattle.member_link.specs.Rows.Operands.{AllFit, topmost}
use Rattle.member_link.specs.Rows.Row.{Row, stack_behind}
use Rattle.type_rules.specs.Rule.{RowRules, ruled}
use Rattle.type_rules.specs.Inner.Steps.{EndsWith, Concludes, thrown}
use Rattle.type_rules.specs.declared.fault.RuleFault.{RuleFault}
use Rattle.type_rules.specs.declared.fault.RuleFault.TheVariants as faults
use Rattle.type_rules.specs.declared.fault.TypeRule.TheVariants as rules
use Rattle.type_rules.specs.declared.ruled.Ruled.{Ruled}

-- ---- another further condition that holds where the one does

pub same_further : (s : RowScope) (stack : List VType) (One Other : Type 0) (wanted : Ruled) (result : Result Ruled RuleFault) → (One → Other) → (Other → One) → EndsWith s stack One wanted result → EndsWith s stack Other wanted result
same_further s stack One Other wanted (Ok ruled) to from ends = (ends.0, to ends.1, ends.2)
same_further s stack One Other wanted (Err (faults.Fails rules.Depth)) to from deep = deep
same_further s stack One Other wanted (Err (faults.Fails rules.Kind)) to from fails = (fails.0, λ holds. fails.1 (from holds))
same_further s stack One Other wanted (Err (faults.Fails other)) to from fails = absurd fails
same_further s stack One Other wanted (Err faults.NoMemory) to from ends = tt

-- ---- a row, from what follows once the operands fit

pub ends_row : (s : RowScope) (f : Frame) (row : Row) (result : Result Ruled RuleFault) → AllFit s row.takes (topmost (length row.takes) f.stack) → row.local → EndsWith s (stack_behind f row) (row.further × row.access) (ruled f row) result → RowRules s f row result
ends_row s f row (Ok ruled) fits held ends = ((fits, (held, (ends.0, (ends.1, tt)))), ends.2)
ends_row s f row (Err (faults.Fails rules.Depth)) fits held deep = inr (fits, inr (held, inl (deep, refl)))
ends_row s f row (Err (faults.Fails rules.Kind)) fits held fails = inr (fits, inr (held, inr (fails.0, inl (fails.1, refl))))
ends_row s f row (Err (faults.Fails other)) fits held fails = absurd fails
ends_row s f row (Err faults.NoMemory) fits held ends = tt

-- ---- what is left when no operand is taken

pub no_needs : (s : RowScope) (stack : List VType) → AllFit s [] (topmost 0 stack)
no_needs s stack = subst (λ (entries : List VType). AllFit s [] entries) (sym none) tt
  where
    none : topmost 0 stack ≡ []
    none = drop_all (length stack - 0) stack (omega arith)

-- ---- a row, from the frames that a step concludes or ends with

abbrev going_on : Frame → List VType → List VType → Ruled
going_on f locals stack = record { next = Some (record { locals = locals; stack = stack }); thrown = thrown f }

pub concluded_row : (s : RowScope) (f : Frame) (row : Row) (stack locals : List VType) (Further Access : Type 0) (result : Result Ruled RuleFault) → AllFit s row.takes (topmost (length row.takes) f.stack) → row.local → row.goes_on ≡ true → stack ≡ stack_behind f row → locals ≡ row.locals → (Further × Access → row.further × row.access) → (row.further × row.access → Further × Access) → Concludes s f stack locals Further Access result → RowRules s f row result
concluded_row s f row stack locals Further Access result fits held on stack_is locals_is to from ends =
    ends_row s f row result fits held (same_further s (stack_behind f row) (Further × Access) (row.further × row.access) (ruled f row) result to from moved)
  where
    is_ruled : going_on f locals stack ≡ ruled f row
    is_ruled =
        ap (λ (list : List VType). going_on f list stack) locals_is
        ∙ ap (λ (list : List VType). going_on f row.locals list) stack_is
        ∙ ap (λ (b : Bool). record { next = if b then Some (record { locals = row.locals; stack = stack_behind f row }) else None; thrown = thrown f }) (sym on)

    moved : EndsWith s (stack_behind f row) (Further × Access) (ruled f row) result
    moved = subst (λ (list : List VType). EndsWith s list (Further × Access) (ruled f row) result) stack_is (subst (λ (wanted : Ruled). EndsWith s stack (Further × Access) wanted result) is_ruled ends)
