-- The targets of a code's instructions, asked one after the other.
use Rattle.std.proofs.Common.{◌≡◌, inl, inr, ℕ, ◌+◌, ◌<◌, ◌≤◌, Bool, true, false, ◌&&◌, List, [], ◌∷◌, length, get_or, drop, Ok, refl, sym, ap, ◌∙◌, zero-add, add-one, drop-cons}
use Rattle.std.specs.Prelude.{IsTrue}
use Rattle.std.specs.List.{list_all, AllByRecursion}
use Rattle.std.proofs.lemmas.Bool.{false≢true}
use Rattle.std.proofs.lemmas.List.{drop_all}
use Rattle.class_model.specs.Checks.{Fault, fault, AllHold, IsFirstFault}
use Rattle.class_model.specs.Code.{jump_checks}
use Rattle.class_model.specs.Instructions.{is_start, targets, decoded, CodeOf}
use Rattle.class_model.specs.declared.fault.FileRule.TheVariants as rules
use Rattle.class_model.specs.declared.instr.Placed.{Placed}

-- What is told of the instructions from an index on is told of the code: those before are as asked.
pub record Passes (code : List Placed) (index : ℕ) : Type 0 where
  pub all : AllHold (jump_checks 0 code (drop index code)) → AllHold (jump_checks 0 code code)
  pub first : (f : Fault) → IsFirstFault (jump_checks 0 code (drop index code)) f → IsFirstFault (jump_checks 0 code code) f

pub passes_none : (code : List Placed) → Passes code 0
passes_none code = record { all = λ h. h; first = λ f h. h }

next_is : (code : List Placed) (index : ℕ) (placed : Placed) → index < length code → placed ≡ get_or code index placed → drop index code ≡ placed ∷ drop (index + 1) code
next_is code index placed inside is = drop-cons code index placed inside ∙ rw (← is, add-one) refl

pub passes_more : (code : List Placed) (index : ℕ) (placed : Placed) (answer : Bool) → index < length code → placed ≡ get_or code index placed
    → answer ≡ list_all (is_start code) (targets placed.instr) → answer ≡ true → Passes code index → Passes code (index + 1)
passes_more code index placed answer inside is_at is good passes =
    let holds : IsTrue (list_all (is_start code) (targets placed.instr)) = sym is ∙ good in
    let next = next_is code index placed inside is_at in
    record {
      all = λ h. passes.all (rw next (holds, h));
      first = λ f h. passes.first f (rw next (inr (holds, h)));
    }

pub fails_here : (code : List Placed) (index : ℕ) (placed : Placed) (answer : Bool) → index < length code → placed ≡ get_or code index placed
    → answer ≡ list_all (is_start code) (targets placed.instr) → answer ≡ false → Passes code index → IsFirstFault (jump_checks 0 code code) (fault placed.at rules.Jump)
fails_here code index placed answer inside is_at is bad passes =
    let fails : ¬ IsTrue (list_all (is_start code) (targets placed.instr)) = λ holds. false≢true (sym bad ∙ is ∙ holds) in
    let next = next_is code index placed inside is_at in
    passes.first (fault placed.at rules.Jump) (rw next (inl (fails, ap (λ (at : ℕ). fault at rules.Jump) (sym (zero-add placed.at)))))

pub all_pass : (code : List Placed) (index : ℕ) → length code ≤ index → Passes code index → AllHold (jump_checks 0 code code)
all_pass code index past passes = passes.all (rw (drop_all index code past) tt)

-- ---- what a code is

both_true : (a b : Bool) → a && b ≡ true → (a ≡ true) × (b ≡ true)
both_true true b e = (refl, e)
both_true false b e = absurd (false≢true e)

each_true : (p : ℕ → Bool) (xs : List ℕ) → list_all p xs ≡ true → AllByRecursion (λ x. IsTrue (p x)) xs
each_true p [] all = tt
each_true p (x ∷ xs) all = let parts = both_true (p x) (list_all p xs) all in (parts.0, each_true p xs parts.1)

each_start : (code instrs : List Placed) → AllHold (jump_checks 0 code instrs) → AllByRecursion (λ p. AllByRecursion (λ to. IsTrue (is_start code to)) (targets p.instr)) instrs
each_start code [] all = tt
each_start code (p ∷ instrs) all = (each_true (is_start code) (targets p.instr) all.0, each_start code instrs all.1)

pub code_of : (code : List ℕ) (instrs : List Placed) → 0 < length code → length code ≤ 65535 → decoded code ≡ Ok instrs → AllHold (jump_checks 0 instrs instrs) → CodeOf code instrs
code_of code instrs some few covers jumps = record { some = some; few = few; covers = covers; starts = each_start instrs instrs jumps }
