-- What is left of the code is read behind what was read.
use Rattle.std.proofs.Common.{◌≡◌, ◌+◌, ◌++◌, ◌∷◌, [], ◌<◌, ℕ, List, length, sym, subst, arith}
use Rattle.std.proofs.lemmas.Bool.Decides.{nat_tests}
use Rattle.std.proofs.lemmas.Result.{err_from_is_err_and}
use Rattle.std.proofs.lemmas.Slice.{between_to_end}
use Rattle.code_bytes.proofs.Sequences.{Reads, reads_none, reads_more, reads_given, reads_all}
use Rattle.code_bytes.proofs.decoding.instrs_of.Goals as goal

pub loop-bytes-init : goal.loop-bytes-init
loop-bytes-init c = rw c.in_ok-instrs.ensures (reads_none c.args.code.now)

pub loop-bytes-preserved : goal.loop-bytes-preserved
loop-bytes-preserved c =
    let l = c.loop-bytes in
    let read = c.in_ok-instr in
    let rest = between_to_end l.bytes.now read.len (length l.bytes.now) (omega arith) in
    rw c.in_ok-push.ensures.ok
    (subst (λ (bytes : List ℕ). Reads c.args.code.now (l.instrs ++ record { at = l.at; len = read.len; instr = read.instr } ∷ []) (l.at + read.len) bytes) (sym rest)
    (reads_more c.args.code.now l.instrs l.at l.bytes.now read.instr read.len l.invariant (omega (arith, read.ensures.size.0)) read.ensures.size.1 read.ensures.read))

pub returns : goal.returns
returns c =
    let none : length c.loop-bytes.bytes.now ≡ 0 = grind (arith, nat_tests) in
    reads_all c.args.code.now c.loop-bytes.instrs c.loop-bytes.at c.loop-bytes.bytes.now c.loop-bytes.invariant none

pub returns-in_err-instr : goal.returns-in_err-instr
returns-in_err-instr c =
    let err = err_from_is_err_and c.from_residual-in_err-instr.result c.from_residual-in_err-instr.ensures.1 in
    let some : 0 < length c.loop-bytes.bytes.now = grind (arith, nat_tests) in
    rw (err.1, err.2) (reads_given c.args.code.now c.loop-bytes.instrs c.loop-bytes.at c.loop-bytes.bytes.now c.in_err-instr.field-0.0 c.loop-bytes.invariant some c.in_err-instr.ensures.read)
