-- The last digit and those before it.
use Rattle.std.proofs.Common.{◌-◌, ◌≤◌, length, take, arith}
use Rattle.script_text.proofs.HexTexts.{front_unspelled, by_last, by_last_length, room}
use Rattle.script_text.proofs.numbers.+bits_of.Goals as goal

pub returns-in_err-high-in-len1-up : goal.returns-in_err-high-in-len1-up
returns-in_err-high-in-len1-up t c =
    let word = c.args.word.now in
    let some = c.in-len1-up.len_at_least in
    rw c.from_residual.ensures (front_unspelled _ word _ _ (by_last_length word some) (by_last word some) c.in_err-high-in-len1-up.ensures)

pub overflow_mul-result : goal.overflow_mul-result
overflow_mul-result t c =
    let word = c.args.word.now in
    let few : length (take (length word - 1) word) ≤ 15 = omega (arith, c.requires, by_last_length word c.in-len1-up.len_at_least) in
    let high = room _ c.in_ok-high-in-len1-up.high few c.in_ok-high-in-len1-up.ensures.fits in
    omega (arith, high)

pub overflow_add-result : goal.overflow_add-result
overflow_add-result t c =
    let word = c.args.word.now in
    let few : length (take (length word - 1) word) ≤ 15 = omega (arith, c.requires, by_last_length word c.in-len1-up.len_at_least) in
    let high = room _ c.in_ok-high-in-len1-up.high few c.in_ok-high-in-len1-up.ensures.fits in
    let digit = c.in_ok-digit-in-len1-up.ensures.some.0 in
    omega (arith, high, digit, c.from.ensures)
