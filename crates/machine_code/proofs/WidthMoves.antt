-- The moves of dup2_x2 and dup2_x1 are the forms that the widths of the topmost entries choose.
use Rattle.std.proofs.Common.{◌≡◌, ℕ, Bool, true, false, Option, Some, None, List, [], ◌∷◌, option_map, refl, ap, sym, ◌∙◌, arith}
use Rattle.machine_values.specs.Values.{is_wide_value}
use Rattle.class_model.specs.declared.opcodes.TheConstants.{DUP2_X1, DUP2_X2}
use Rattle.machine_values.specs.declared.value.Value.{Value}
use Rattle.member_link.specs.Machine.Locals.{shuffled}
use Rattle.machine_code.specs.Inner.Moves.{moved_by, wide_at, dup2_x1_move, dup2_x2_move}
use Rattle.machine_code.specs.declared.shuffles.Move.{Move}

by_four :
    (a b c d : Value) (rest : List Value) (w x y z : Bool)
    → is_wide_value a ≡ w → is_wide_value b ≡ x → is_wide_value c ≡ y → is_wide_value d ≡ z
    → shuffled DUP2_X2 (a ∷ b ∷ c ∷ d ∷ rest)
    ≡ option_map (λ how. moved_by how (a ∷ b ∷ c ∷ d ∷ rest))
    (dup2_x2_move (Some (is_wide_value a)) (Some (is_wide_value b)) (Some (is_wide_value c)) (Some (is_wide_value d)))
by_four a b c d rest true true true true wa wb wc wd = rw (wa, wb, wc, wd) refl
by_four a b c d rest true true true false wa wb wc wd = rw (wa, wb, wc, wd) refl
by_four a b c d rest true true false true wa wb wc wd = rw (wa, wb, wc, wd) refl
by_four a b c d rest true true false false wa wb wc wd = rw (wa, wb, wc, wd) refl
by_four a b c d rest true false true true wa wb wc wd = rw (wa, wb, wc, wd) refl
by_four a b c d rest true false true false wa wb wc wd = rw (wa, wb, wc, wd) refl
by_four a b c d rest true false false true wa wb wc wd = rw (wa, wb, wc, wd) refl
by_four a b c d rest true false false false wa wb wc wd = rw (wa, wb, wc, wd) refl
by_four a b c d rest false true true true wa wb wc wd = rw (wa, wb, wc, wd) refl
by_four a b c d rest false true true false wa wb wc wd = rw (wa, wb, wc, wd) refl
by_four a b c d rest false true false true wa wb wc wd = rw (wa, wb, wc, wd) refl
by_four a b c d rest false true false false wa wb wc wd = rw (wa, wb, wc, wd) refl
by_four a b c d rest false false true true wa wb wc wd = rw (wa, wb, wc, wd) refl
by_four a b c d rest false false true false wa wb wc wd = rw (wa, wb, wc, wd) refl
by_four a b c d rest false false false true wa wb wc wd = rw (wa, wb, wc, wd) refl
by_four a b c d rest false false false false wa wb wc wd = rw (wa, wb, wc, wd) refl

by_three_of_four :
    (a b c : Value) (w x y : Bool)
    → is_wide_value a ≡ w → is_wide_value b ≡ x → is_wide_value c ≡ y
    → shuffled DUP2_X2 (a ∷ b ∷ c ∷ [])
    ≡ option_map (λ how. moved_by how (a ∷ b ∷ c ∷ []))
    (dup2_x2_move (Some (is_wide_value a)) (Some (is_wide_value b)) (Some (is_wide_value c)) None)
by_three_of_four a b c true true true wa wb wc = rw (wa, wb, wc) refl
by_three_of_four a b c true true false wa wb wc = rw (wa, wb, wc) refl
by_three_of_four a b c true false true wa wb wc = rw (wa, wb, wc) refl
by_three_of_four a b c true false false wa wb wc = rw (wa, wb, wc) refl
by_three_of_four a b c false true true wa wb wc = rw (wa, wb, wc) refl
by_three_of_four a b c false true false wa wb wc = rw (wa, wb, wc) refl
by_three_of_four a b c false false true wa wb wc = rw (wa, wb, wc) refl
by_three_of_four a b c false false false wa wb wc = rw (wa, wb, wc) refl

by_widths :
    (stack : List Value)
    → shuffled DUP2_X2 stack
    ≡ option_map (λ how. moved_by how stack)
    (dup2_x2_move (wide_at stack 0) (wide_at stack 1) (wide_at stack 2) (wide_at stack 3))
by_widths [] = grind arith
by_widths (a ∷ []) = grind arith
by_widths (a ∷ b ∷ []) = grind arith
by_widths (a ∷ b ∷ c ∷ []) =
    by_three_of_four a b c (is_wide_value a) (is_wide_value b) (is_wide_value c) refl refl refl
by_widths (a ∷ b ∷ c ∷ d ∷ rest) =
    by_four a b c d rest (is_wide_value a) (is_wide_value b) (is_wide_value c) (is_wide_value d) refl refl refl refl

pub dup2_x2_is :
    (opcode : ℕ) (stack : List Value) (a b c d : Option Bool) (how : Option Move)
    → opcode ≡ DUP2_X2 → a ≡ wide_at stack 0 → b ≡ wide_at stack 1 → c ≡ wide_at stack 2
    → d ≡ wide_at stack 3 → how ≡ dup2_x2_move a b c d
    → shuffled opcode stack ≡ option_map (λ how. moved_by how stack) how
dup2_x2_is opcode stack a b c d how opcode_is a_is b_is c_is d_is how_is =
    ap (λ opcode. shuffled opcode stack) opcode_is
    ∙ by_widths stack
    ∙ ap (option_map (λ how. moved_by how stack))
    (sym
    (how_is
    ∙ ap (λ a. dup2_x2_move a b c d) a_is
    ∙ ap (λ b. dup2_x2_move (wide_at stack 0) b c d) b_is
    ∙ ap (λ c. dup2_x2_move (wide_at stack 0) (wide_at stack 1) c d) c_is
    ∙ ap (dup2_x2_move (wide_at stack 0) (wide_at stack 1) (wide_at stack 2)) d_is))

-- ---- dup2_x1

by_three :
    (a b c : Value) (rest : List Value) (w x y : Bool)
    → is_wide_value a ≡ w → is_wide_value b ≡ x → is_wide_value c ≡ y
    → shuffled DUP2_X1 (a ∷ b ∷ c ∷ rest)
    ≡ option_map (λ how. moved_by how (a ∷ b ∷ c ∷ rest))
    (dup2_x1_move (Some (is_wide_value a)) (Some (is_wide_value b)) (Some (is_wide_value c)))
by_three a b c rest true true true wa wb wc = rw (wa, wb, wc) refl
by_three a b c rest true true false wa wb wc = rw (wa, wb, wc) refl
by_three a b c rest true false true wa wb wc = rw (wa, wb, wc) refl
by_three a b c rest true false false wa wb wc = rw (wa, wb, wc) refl
by_three a b c rest false true true wa wb wc = rw (wa, wb, wc) refl
by_three a b c rest false true false wa wb wc = rw (wa, wb, wc) refl
by_three a b c rest false false true wa wb wc = rw (wa, wb, wc) refl
by_three a b c rest false false false wa wb wc = rw (wa, wb, wc) refl

by_three_widths :
    (stack : List Value)
    → shuffled DUP2_X1 stack
    ≡ option_map (λ how. moved_by how stack)
    (dup2_x1_move (wide_at stack 0) (wide_at stack 1) (wide_at stack 2))
by_three_widths [] = grind arith
by_three_widths (a ∷ []) = grind arith
by_three_widths (a ∷ b ∷ []) = grind arith
by_three_widths (a ∷ b ∷ c ∷ rest) =
    by_three a b c rest (is_wide_value a) (is_wide_value b) (is_wide_value c) refl refl refl

pub dup2_x1_is :
    (opcode : ℕ) (stack : List Value) (a b c : Option Bool) (how : Option Move)
    → opcode ≡ DUP2_X1 → a ≡ wide_at stack 0 → b ≡ wide_at stack 1 → c ≡ wide_at stack 2
    → how ≡ dup2_x1_move a b c
    → shuffled opcode stack ≡ option_map (λ how. moved_by how stack) how
dup2_x1_is opcode stack a b c how opcode_is a_is b_is c_is how_is =
    ap (λ opcode. shuffled opcode stack) opcode_is
    ∙ by_three_widths stack
    ∙ ap (option_map (λ how. moved_by how stack))
    (sym
    (how_is
    ∙ ap (λ a. dup2_x1_move a b c) a_is
    ∙ ap (λ b. dup2_x1_move (wide_at stack 0) b c) b_is
    ∙ ap (dup2_x1_move (wide_at stack 0) (wide_at stack 1)) c_is))
