-- The rule of an instance initialiser, from what its parts answer.
use Rattle.std.proofs.Common.{◌≡◌, ◌↔◌, ◌+◌, ℕ, Bool, List, ◌++◌, length, map, Option, Result, IsTrue, refl, sym, ap, subst, ◌∙◌}
use Rattle.class_model.specs.Descriptors.{parameters_of}
use Rattle.class_model.specs.declared.descriptor.FieldType.{FieldType}
use Rattle.class_model.specs.declared.frame.Frame.{Frame}
use Rattle.class_model.specs.declared.frame.VType.{VType}
use Rattle.member_link.specs.References.{Reference}
use Rattle.member_link.specs.RowScope.{RowScope}
use Rattle.member_link.specs.Rows.MemberRows.{MayInitialise, PassesInitialiser, init_row, initialised_type, result_types}
use Rattle.member_link.specs.Rows.Operands.{AllFit, lowest_of, topmost, under}
use Rattle.member_link.specs.Rows.Row.{Row}
use Rattle.member_link.specs.Signatures.{result_of}
use Rattle.type_rules.proofs.RowSteps.{concluded_row}
use Rattle.type_rules.specs.Inner.Calls.{init_signature}
use Rattle.type_rules.specs.Rule.{RowRules}
use Rattle.type_rules.specs.Inner.Steps.{Concludes}
use Rattle.type_rules.specs.declared.fault.RuleFault.{RuleFault}
use Rattle.type_rules.specs.declared.ruled.Ruled.{Ruled}

module _ (s : RowScope) (f : Frame) (r : Reference) (answer : Result Ruled RuleFault) where
  pub by_descriptor : (params : List FieldType) (result : Option FieldType) → parameters_of r.desc ≡ params → result_of r.desc ≡ result → RowRules s f (init_signature s f r params result) answer → RowRules s f (init_row s f r) answer
  by_descriptor params result params_are result_is rules =
      subst (λ (types : List FieldType). RowRules s f (init_signature s f r types (result_of r.desc)) answer) (sym params_are)
      (subst (λ (type : Option FieldType). RowRules s f (init_signature s f r params type) answer) (sym result_is) rules)

  pub by_parts : (params : List FieldType) (result : Option FieldType) (count : ℕ) (receiver : VType) (stack locals gives : List VType) (may passes : Bool)
      → let row = init_signature s f r params result in
      AllFit s row.takes (topmost (length row.takes) f.stack) → count ≡ length row.takes → receiver ≡ lowest_of (length params + 1) f.stack → gives ≡ result_types result
      → stack ≡ map (initialised_type s r receiver) (under count f.stack) ++ gives → locals ≡ map (initialised_type s r receiver) f.locals → (IsTrue may ↔ MayInitialise s r receiver) → (IsTrue passes ↔ PassesInitialiser s r receiver) → Concludes s f stack locals (IsTrue may) (IsTrue passes) answer
      → RowRules s f row answer
  by_parts params result count receiver stack locals gives may passes fits counted receiver_is gives_are stack_is locals_are may_is passes_is concludes =
      let row : Row = init_signature s f r params result in
      let wanted : VType = lowest_of (length params + 1) f.stack in
      let becoming : VType → List VType → List VType = λ object entries. map (initialised_type s r object) entries in
      let stack_wanted : stack ≡ becoming wanted (under (length row.takes) f.stack) ++ result_types result =
      stack_is ∙ ap (λ (object : VType). becoming object (under count f.stack) ++ gives) receiver_is
      ∙ ap (λ (n : ℕ). becoming wanted (under n f.stack) ++ gives) counted
      ∙ ap (λ (given : List VType). becoming wanted (under (length row.takes) f.stack) ++ given) gives_are in
      let locals_wanted : locals ≡ becoming wanted f.locals = locals_are ∙ ap (λ (object : VType). becoming object f.locals) receiver_is in
      let may_wanted : IsTrue may ↔ MayInitialise s r wanted = subst (λ (object : VType). IsTrue may ↔ MayInitialise s r object) receiver_is may_is in
      let passes_wanted : IsTrue passes ↔ PassesInitialiser s r wanted = subst (λ (object : VType). IsTrue passes ↔ PassesInitialiser s r object) receiver_is passes_is in
      concluded_row s f row stack locals (IsTrue may) (IsTrue passes) answer fits tt refl stack_wanted locals_wanted (λ h. (may_wanted.0 h.0, passes_wanted.0 h.1)) (λ h. (may_wanted.1 h.0, passes_wanted.1 h.1)) concludes
