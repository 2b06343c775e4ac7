-- A class that is begun if it is not.
use Rattle.std.proofs.Common.{◌≡◌, Bool, true, false, cond, ℕ, Option, Some, sym, ap, ◌∙◌}
use Rattle.member_link.specs.Machine.Acting.{beginning_of_number}
use Rattle.member_link.specs.Machine.Beginnings.{begun_on}
use Rattle.member_link.specs.Machine.Programs.{Program}
use Rattle.member_link.specs.Machine.Worlds.{World, is_begun}

pub stays :
    (P : Program) (w : World) (class : ℕ) (number : Option ℕ)
    → is_begun w.memory class ≡ true
    → number ≡ Some class
    → w ≡ beginning_of_number P w number
stays P w class number begun is =
    sym (ap (beginning_of_number P w) is ∙ ap (λ (b : Bool). cond b w (begun_on P class w w.frames)) begun)

pub begins :
    (P : Program) (w : World) (class : ℕ) (number : Option ℕ)
    → is_begun w.memory class ≡ false
    → number ≡ Some class
    → begun_on P class w w.frames ≡ beginning_of_number P w number
begins P w class number begun is =
    sym (ap (beginning_of_number P w) is ∙ ap (λ (b : Bool). cond b w (begun_on P class w w.frames)) begun)
