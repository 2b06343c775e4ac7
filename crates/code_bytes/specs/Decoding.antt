-- What a code by itself is asked (JVM Specification SE 8, 4.7.3, 4.9.1). Places are offsets of the code.
use Rattle.std.specs.Prelude.{◌∷◌, ◌&&◌, nat_lt, ℕ, List, length, IsTrue}
use Rattle.class_model.specs.Checks.{Check, check, asked_of, Fault}
use Rattle.class_model.specs.Code.{jump_checks}
use Rattle.class_model.specs.Instructions.{decoded}
use Rattle.class_model.specs.declared.fault.FileRule.TheVariants as rules

-- its length, then its instructions by offset, then their targets by offset
abbrev pub decoding_checks : List ℕ → List (Check Fault)
decoding_checks code =
    check 0 rules.CodeLength (IsTrue (nat_lt 0 (length code) && nat_lt (length code) 65536))
    ∷ asked_of (decoded code) (λ instrs. jump_checks 0 instrs instrs)
