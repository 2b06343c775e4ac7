-- What linking answers, check by check.
use Rattle.std.proofs.Common.{◌≡◌, ◌↔◌, Bool, true, List, [], ◌∷◌, ◌++◌, Result, Ok, Err, inl, inr}
use Rattle.class_model.specs.Checks.{Check}
use Rattle.class_model.specs.Laws.Checks.{first_before, Remain}
use Rattle.class_tree.specs.Answers.{Answers}
use Rattle.class_tree.specs.Problems.{Problem}
use Rattle.class_tree.specs.declared.fault.LinkFault.{LinkFault}
use Rattle.class_tree.specs.declared.fault.LinkFault.TheVariants.{Unlinked, NoMemory}

-- one of the first is refused
pub refused :
    {whole : List (Check Problem)} (a b : List (Check Problem)) (e : LinkFault)
    → Remain whole (a ++ b)
    → Answers {X = Unit {0}} a (Err e)
    → Answers {X = Unit {0}} whole (Err e)
refused a b (Unlinked class member rule) left told = left.fail (record { class = class; member = member; rule = rule }) (first_before a b (record { class = class; member = member; rule = rule }) told)
refused a b NoMemory left told = tt

-- what is left is answered
pub answered :
    {whole left : List (Check Problem)} (result : Result (Unit {0}) LinkFault)
    → Remain whole left
    → Answers left result
    → Answers whole result
answered (Ok x) left told = left.hold told
answered (Err (Unlinked class member rule)) left told = left.fail _ told
answered (Err NoMemory) left told = tt

-- ---- one check, by a test that decides it

pub fails :
    {whole rest : List (Check Problem)} {problem : Problem} {P : Type 0} (test : Bool)
    (e : LinkFault)
    → Remain whole ((record { fault = problem; holds = P }) ∷ rest)
    → (test ≡ true ↔ P)
    → Answers {X = Unit {0}} ((record { fault = problem; holds = test ≡ true }) ∷ []) (Err e)
    → Answers {X = Unit {0}} whole (Err e)
fails test NoMemory left same told = tt
fails test (Unlinked at member broken) left same (inl here) = left.fail _ (inl (λ h. here.0 (same.1 h), here.1))
fails test (Unlinked at member broken) left same (inr later) = absurd later.1

pub ends :
    {whole : List (Check Problem)} {problem : Problem} {P : Type 0} (test : Bool)
    (result : Result (Unit {0}) LinkFault)
    → Remain whole ((record { fault = problem; holds = P }) ∷ [])
    → (test ≡ true ↔ P)
    → Answers ((record { fault = problem; holds = test ≡ true }) ∷ []) result
    → Answers whole result
ends test (Ok x) left same told = left.hold (same.0 told.0, tt)
ends test (Err e) left same told = fails test e left same told
