-- What the parts of a rule answer.
use Rattle.std.specs.Prelude.{◌≡◌, ◌≤◌, ℕ, Bool, List, [], ◌∷◌, length, Option, Some, None, Result, Ok, Err, IsTrue}
use Rattle.class_model.specs.Frames.{depth}
use Rattle.class_model.specs.declared.frame.Frame.{Frame}
use Rattle.class_model.specs.declared.frame.VType.{VType}
use Rattle.member_link.specs.RowScope.{RowScope}
use Rattle.member_link.specs.Rows.Operands.{Need, AllFit, topmost}
use Rattle.type_rules.specs.declared.fault.RuleFault.{RuleFault}
use Rattle.type_rules.specs.declared.fault.RuleFault.TheVariants as faults
use Rattle.type_rules.specs.declared.fault.TypeRule.TheVariants as rules
use Rattle.type_rules.specs.declared.ruled.Ruled.{Ruled}

-- a value that is pushed, or none
abbrev pub given : Option VType → List VType
given None = []
given (Some type) = type ∷ []

abbrev pub TakesNeeds : RowScope → Frame → List Need → Result Unit RuleFault → Type 0
TakesNeeds s f needs (Ok done) = AllFit s needs (topmost (length needs) f.stack)
TakesNeeds s f needs (Err (faults.Fails rules.Stack)) =
    ¬ AllFit s needs (topmost (length needs) f.stack)
TakesNeeds s f needs (Err other) = ⊥

-- a stack is no deeper than it may be, and the further conditions hold, or the first of these fails
abbrev pub EndsWith : RowScope → List VType → Type 0 → Ruled → Result Ruled RuleFault → Type 0
EndsWith s stack Further wanted (Ok result) =
    (depth stack ≤ s.max_stack) × Further × (result ≡ wanted)
EndsWith s stack Further wanted (Err (faults.Fails rules.Depth)) = ¬ (depth stack ≤ s.max_stack)
EndsWith s stack Further wanted (Err (faults.Fails rules.Kind)) =
    (depth stack ≤ s.max_stack) × (¬ Further)
EndsWith s stack Further wanted (Err (faults.Fails other)) = ⊥
EndsWith s stack Further wanted (Err faults.NoMemory) = Unit {0}

abbrev pub thrown : Frame → Frame
thrown f = record { locals = f.locals; stack = [] }

-- the further condition and that of access are asked together
abbrev pub Concludes :
    RowScope → Frame → List VType → List VType → Type 0 → Type 0 → Result Ruled RuleFault → Type 0
Concludes s f stack locals Further Access result =
    EndsWith s stack (Further × Access)
    (record { next = Some (record { locals = locals; stack = stack }); thrown = thrown f })
    result

abbrev pub Ends : RowScope → Frame → List VType → Type 0 → Result Ruled RuleFault → Type 0
Ends s f stack Further result =
    EndsWith s stack (Further × Unit {0}) (record { next = None; thrown = thrown f }) result

-- a stack takes so many units at most, and two tests answer true, or the first of these fails
abbrev pub Holds : ℕ → List VType → Bool → Bool → Result Unit RuleFault → Type 0
Holds most stack further access (Ok done) = (depth stack ≤ most) × IsTrue further × IsTrue access
Holds most stack further access (Err (faults.Fails rules.Depth)) = ¬ (depth stack ≤ most)
Holds most stack further access (Err (faults.Fails rules.Kind)) =
    (depth stack ≤ most) × (¬ (IsTrue further × IsTrue access))
Holds most stack further access (Err other) = ⊥
