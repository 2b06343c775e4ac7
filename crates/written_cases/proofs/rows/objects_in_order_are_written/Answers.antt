use Rattle.std.proofs.Common.{◌≤◌, ℕ, zero, suc, [], ◌∷◌, IsTrue, IsFalse, refl, sym, arith}
use Rattle.std.proofs.lemmas.Bool.{false≢true}
use Rattle.class_model.specs.Descriptors.{types_before}
use Rattle.code_bytes.specs.Forms.{instr_bytes}
use Rattle.making_code.specs.MakeOrder.{all_made, names_one, one_next}
use Rattle.virtual_state.specs.Sites.{has}
use Rattle.written_cases.specs.MadeInOrder.{objects}
use Rattle.written_cases.proofs.rows.objects_in_order_are_written.Goals as goal

pub returns-clause-written : goal.returns-clause-written
unfolding types_before
returns-clause-written c = record { pool = refl; items = refl; places = refl; units = refl }

pub returns-clause-bytes : goal.returns-clause-bytes
unfolding instr_bytes
returns-clause-bytes c = refl

second_first : (other : ℕ) → IsTrue (has (1 ∷ 2 ∷ []) other) → IsFalse (names_one objects (1 ∷ 2 ∷ []) other) → 2 ≤ other
second_first zero left ready = absurd (false≢true left)
second_first (suc zero) left ready = absurd (false≢true (sym ready))
second_first (suc (suc other)) left ready = omega arith

first_then : (other : ℕ) → IsTrue (has (1 ∷ []) other) → IsFalse (names_one objects (1 ∷ []) other) → 1 ≤ other
first_then zero left ready = absurd (false≢true left)
first_then (suc other) left ready = omega arith

pub returns-clause-order : goal.returns-clause-order
returns-clause-order c =
    one_next (1 ∷ 2 ∷ []) (1 ∷ []) 2 (record { left_over = refl; ready = refl; least = second_first })
    (one_next (1 ∷ []) [] 1 (record { left_over = refl; ready = refl; least = first_then }) all_made)
