-- What moves stack entries, form by form, and which conditional jumps are taken. A stack has its topmost value first.
use Rattle.std.specs.Prelude.{◌≡◌, ℕ, Bool, true, false, pos, negsuc, List, [], ◌∷◌, Option, Some, None}
use Rattle.class_model.specs.declared.opcodes.TheConstants.{POP, POP2, DUP, DUP_X1, DUP_X2, DUP2, DUP2_X1, DUP2_X2, SWAP, IFEQ, IFNE, IFLT, IFGE, IFGT, IFLE, IF_ICMPEQ, IF_ICMPNE, IF_ICMPLT, IF_ICMPGE, IF_ICMPGT, IF_ICMPLE, IF_ACMPEQ, IF_ACMPNE, IFNULL, IFNONNULL}
use Rattle.machine_values.specs.declared.value.Value.{Value}
use Rattle.machine_values.specs.declared.value.Value.TheVariants as values
use Rattle.member_link.specs.Machine.Locals.{jump_of_int, jump_of_ints, jump_of_null, jump_of_references, shuffled}

abbrev first : Value
first = values.Int (pos 1)

abbrev second : Value
second = values.Int (pos 2)

abbrev third : Value
third = values.Null

abbrev fourth : Value
fourth = values.Float 4

abbrev first_long : Value
first_long = values.Long (pos 1)

abbrev second_long : Value
second_long = values.Double 2

-- a value that stays where it is
abbrev under : Value
under = values.Long (pos 9)

-- the stack behind an instruction, or that it has no form for this stack
abbrev pub leaves : ℕ → List Value → List Value → Type 0
leaves opcode before behind = shuffled opcode before ≡ Some behind

abbrev pub has_no_form : ℕ → List Value → Type 0
has_no_form opcode stack = shuffled opcode stack ≡ None

-- whether a jump is taken
abbrev pub by_int : ℕ → Value → Bool → Type 0
by_int opcode value taken = jump_of_int opcode (value ∷ under ∷ []) ≡ Some (taken, under ∷ [])

-- of two ints, the first of which was pushed first
abbrev pub by_ints : ℕ → Value → Value → Bool → Type 0
by_ints opcode one other taken =
    jump_of_ints opcode (other ∷ one ∷ under ∷ []) ≡ Some (taken, under ∷ [])

abbrev pub by_references : ℕ → Value → Value → Bool → Type 0
by_references opcode one other taken =
    jump_of_references opcode (other ∷ one ∷ under ∷ []) ≡ Some (taken, under ∷ [])

abbrev pub by_null : ℕ → Value → Bool → Type 0
by_null opcode value taken = jump_of_null opcode (value ∷ under ∷ []) ≡ Some (taken, under ∷ [])

-- each form of the instructions that move stack entries
pub record MoveEntries : Type 0 where
  pub pop : leaves POP (first ∷ under ∷ []) (under ∷ [])
  pub pop2 : leaves POP2 (first ∷ second ∷ under ∷ []) (under ∷ [])
  pub pop2_long : leaves POP2 (first_long ∷ under ∷ []) (under ∷ [])
  pub dup : leaves DUP (first ∷ under ∷ []) (first ∷ first ∷ under ∷ [])
  pub dup_x1 : leaves DUP_X1 (first ∷ second ∷ under ∷ []) (first ∷ second ∷ first ∷ under ∷ [])
  pub dup_x2 : leaves DUP_X2 (first ∷ second ∷ third ∷ under ∷ []) (first ∷ second ∷ third ∷ first ∷ under ∷ [])
  pub dup_x2_long : leaves DUP_X2 (first ∷ first_long ∷ under ∷ []) (first ∷ first_long ∷ first ∷ under ∷ [])
  pub dup2 : leaves DUP2 (first ∷ second ∷ under ∷ []) (first ∷ second ∷ first ∷ second ∷ under ∷ [])
  pub dup2_long : leaves DUP2 (first_long ∷ under ∷ []) (first_long ∷ first_long ∷ under ∷ [])
  pub dup2_x1 : leaves DUP2_X1 (first ∷ second ∷ third ∷ under ∷ []) (first ∷ second ∷ third ∷ first ∷ second ∷ under ∷ [])
  pub dup2_x1_long : leaves DUP2_X1 (first_long ∷ first ∷ under ∷ []) (first_long ∷ first ∷ first_long ∷ under ∷ [])
  pub dup2_x2 : leaves DUP2_X2 (first ∷ second ∷ third ∷ fourth ∷ under ∷ []) (first ∷ second ∷ third ∷ fourth ∷ first ∷ second ∷ under ∷ [])
  pub dup2_x2_long : leaves DUP2_X2 (first_long ∷ first ∷ second ∷ under ∷ []) (first_long ∷ first ∷ second ∷ first_long ∷ under ∷ [])
  pub dup2_x2_over_long : leaves DUP2_X2 (first ∷ second ∷ first_long ∷ under ∷ []) (first ∷ second ∷ first_long ∷ first ∷ second ∷ under ∷ [])
  pub dup2_x2_longs : leaves DUP2_X2 (first_long ∷ second_long ∷ under ∷ []) (first_long ∷ second_long ∷ first_long ∷ under ∷ [])
  pub swap : leaves SWAP (first ∷ second ∷ under ∷ []) (second ∷ first ∷ under ∷ [])
  -- a long or double is one entry, which no form takes a half of
  pub pop_of_long : has_no_form POP (first_long ∷ under ∷ [])
  pub pop2_of_half : has_no_form POP2 (first ∷ first_long ∷ under ∷ [])
  pub dup_of_long : has_no_form DUP (first_long ∷ under ∷ [])
  pub dup_x1_of_long : has_no_form DUP_X1 (first_long ∷ first ∷ under ∷ [])
  pub dup_x1_over_long : has_no_form DUP_X1 (first ∷ first_long ∷ under ∷ [])
  pub dup_x2_over_half : has_no_form DUP_X2 (first ∷ second ∷ first_long ∷ under ∷ [])
  pub dup2_of_half : has_no_form DUP2 (first ∷ first_long ∷ under ∷ [])
  pub dup2_x1_over_long : has_no_form DUP2_X1 (first ∷ second ∷ first_long ∷ under ∷ [])
  pub dup2_x2_over_half : has_no_form DUP2_X2 (first ∷ second ∷ third ∷ first_long ∷ under ∷ [])
  pub swap_of_long : has_no_form SWAP (first ∷ first_long ∷ under ∷ [])
  pub swap_of_one : has_no_form SWAP (first ∷ [])

-- each conditional jump, taken and not taken
pub record TakeJumps : Type 0 where
  pub ifeq_negative : by_int IFEQ (values.Int (negsuc 0)) false
  pub ifeq_zero : by_int IFEQ (values.Int (pos 0)) true
  pub ifeq_positive : by_int IFEQ (values.Int (pos 1)) false
  pub ifne_negative : by_int IFNE (values.Int (negsuc 0)) true
  pub ifne_zero : by_int IFNE (values.Int (pos 0)) false
  pub ifne_positive : by_int IFNE (values.Int (pos 1)) true
  pub iflt_negative : by_int IFLT (values.Int (negsuc 0)) true
  pub iflt_zero : by_int IFLT (values.Int (pos 0)) false
  pub iflt_positive : by_int IFLT (values.Int (pos 1)) false
  pub ifge_negative : by_int IFGE (values.Int (negsuc 0)) false
  pub ifge_zero : by_int IFGE (values.Int (pos 0)) true
  pub ifge_positive : by_int IFGE (values.Int (pos 1)) true
  pub ifgt_negative : by_int IFGT (values.Int (negsuc 0)) false
  pub ifgt_zero : by_int IFGT (values.Int (pos 0)) false
  pub ifgt_positive : by_int IFGT (values.Int (pos 1)) true
  pub ifle_negative : by_int IFLE (values.Int (negsuc 0)) true
  pub ifle_zero : by_int IFLE (values.Int (pos 0)) true
  pub ifle_positive : by_int IFLE (values.Int (pos 1)) false
  pub if_icmpeq_less : by_ints IF_ICMPEQ (values.Int (pos 1)) (values.Int (pos 2)) false
  pub if_icmpeq_same : by_ints IF_ICMPEQ (values.Int (pos 2)) (values.Int (pos 2)) true
  pub if_icmpeq_more : by_ints IF_ICMPEQ (values.Int (pos 2)) (values.Int (pos 1)) false
  pub if_icmpne_less : by_ints IF_ICMPNE (values.Int (pos 1)) (values.Int (pos 2)) true
  pub if_icmpne_same : by_ints IF_ICMPNE (values.Int (pos 2)) (values.Int (pos 2)) false
  pub if_icmpne_more : by_ints IF_ICMPNE (values.Int (pos 2)) (values.Int (pos 1)) true
  pub if_icmplt_less : by_ints IF_ICMPLT (values.Int (pos 1)) (values.Int (pos 2)) true
  pub if_icmplt_same : by_ints IF_ICMPLT (values.Int (pos 2)) (values.Int (pos 2)) false
  pub if_icmplt_more : by_ints IF_ICMPLT (values.Int (pos 2)) (values.Int (pos 1)) false
  pub if_icmpge_less : by_ints IF_ICMPGE (values.Int (pos 1)) (values.Int (pos 2)) false
  pub if_icmpge_same : by_ints IF_ICMPGE (values.Int (pos 2)) (values.Int (pos 2)) true
  pub if_icmpge_more : by_ints IF_ICMPGE (values.Int (pos 2)) (values.Int (pos 1)) true
  pub if_icmpgt_less : by_ints IF_ICMPGT (values.Int (pos 1)) (values.Int (pos 2)) false
  pub if_icmpgt_same : by_ints IF_ICMPGT (values.Int (pos 2)) (values.Int (pos 2)) false
  pub if_icmpgt_more : by_ints IF_ICMPGT (values.Int (pos 2)) (values.Int (pos 1)) true
  pub if_icmple_less : by_ints IF_ICMPLE (values.Int (pos 1)) (values.Int (pos 2)) true
  pub if_icmple_same : by_ints IF_ICMPLE (values.Int (pos 2)) (values.Int (pos 2)) true
  pub if_icmple_more : by_ints IF_ICMPLE (values.Int (pos 2)) (values.Int (pos 1)) false
  pub if_acmpeq_null : by_references IF_ACMPEQ values.Null values.Null true
  pub if_acmpeq_null_and_one : by_references IF_ACMPEQ values.Null (values.Ref 1) false
  pub if_acmpeq_one_and_null : by_references IF_ACMPEQ (values.Ref 1) values.Null false
  pub if_acmpeq_one : by_references IF_ACMPEQ (values.Ref 1) (values.Ref 1) true
  pub if_acmpeq_two : by_references IF_ACMPEQ (values.Ref 1) (values.Ref 2) false
  pub if_acmpne_null : by_references IF_ACMPNE values.Null values.Null false
  pub if_acmpne_null_and_one : by_references IF_ACMPNE values.Null (values.Ref 1) true
  pub if_acmpne_one_and_null : by_references IF_ACMPNE (values.Ref 1) values.Null true
  pub if_acmpne_one : by_references IF_ACMPNE (values.Ref 1) (values.Ref 1) false
  pub if_acmpne_two : by_references IF_ACMPNE (values.Ref 1) (values.Ref 2) true
  pub ifnull_null : by_null IFNULL values.Null true
  pub ifnull_one : by_null IFNULL (values.Ref 1) false
  pub ifnonnull_null : by_null IFNONNULL values.Null false
  pub ifnonnull_one : by_null IFNONNULL (values.Ref 1) true
