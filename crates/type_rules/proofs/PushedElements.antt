-- What loads of elements push, and the counts of arrays of arrays.
use Rattle.std.proofs.Common.{◌≡◌, List, ℕ, zero, suc, length, map, replicate, Result, Ok, Err, refl, ap, subst, ◌∷◌, inl, inr}
use Rattle.class_model.specs.declared.frame.Frame.{Frame}
use Rattle.class_model.specs.declared.frame.VType.{VType}
use Rattle.member_link.specs.RowScope.{RowScope}
use Rattle.member_link.specs.Rows.Operands.{Need, AllFit, topmost}
use Rattle.member_link.specs.Rows.Row.{plain}
use Rattle.type_rules.specs.Rule.{RowRules}
use Rattle.type_rules.specs.declared.fault.RuleFault.{RuleFault}
use Rattle.type_rules.specs.declared.fault.RuleFault.TheVariants as faults
use Rattle.type_rules.specs.declared.ruled.Ruled.{Ruled}

-- a row pushes another list that is the same where the operands fit
pub gives_where_fit : (s : RowScope) (f : Frame) (takes : List Need) (gives wanted : List VType) (result : Result Ruled RuleFault)
    → (AllFit s takes (topmost (length takes) f.stack) → gives ≡ wanted)
    → RowRules s f (plain f takes gives) result → RowRules s f (plain f takes wanted) result
gives_where_fit s f takes gives wanted (Ok ruled) same answers = subst (λ (g : List VType). RowRules s f (plain f takes g) (Ok ruled)) (same answers.0.0) answers
gives_where_fit s f takes gives wanted (Err (faults.Fails rule)) same (inl unfit) = inl unfit
gives_where_fit s f takes gives wanted (Err (faults.Fails rule)) same (inr (fits, fails)) =
    let answers : RowRules s f (plain f takes gives) (Err (faults.Fails rule)) = inr (fits, fails) in
    subst (λ (g : List VType). RowRules s f (plain f takes g) (Err (faults.Fails rule))) (same fits) answers
gives_where_fit s f takes gives wanted (Err faults.NoMemory) same answers = tt

-- so many equal items
pub map_replicate : {A B : Type 0} (f : A → B) (count : ℕ) (x : A) → map f (replicate count x) ≡ replicate count (f x)
map_replicate f zero x = refl
map_replicate f (suc count) x = ap (λ rest. f x ∷ rest) (map_replicate f count x)
