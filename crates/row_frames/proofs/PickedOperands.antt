-- What an instruction that moves stack entries pushes, number by number.
use Rattle.std.proofs.Common.{◌≡◌, ◌<◌, ◌+◌, List, [], ◌∷◌, ◌++◌, ℕ, length, take, slice_get, get_or, Some, None, ◌∙◌, refl}
use Rattle.std.proofs.lemmas.Grind.{flat_map-append}
use Rattle.std.proofs.lemmas.List.{take_more, append-nil}
use Rattle.class_model.specs.declared.frame.VType.{VType}
use Rattle.member_link.specs.Rows.ShuffleRows.{picked}

picked-append : (operands : List VType) (numbers more : List ℕ) → picked operands (numbers ++ more) ≡ picked operands numbers ++ picked operands more
picked-append operands numbers more = flat_map-append _ numbers more

-- one number more, at which an operand is or none
pub picked_some : (operands : List VType) (numbers : List ℕ) (i : ℕ) (type : VType) → i < length numbers → slice_get operands (get_or numbers i 0) ≡ Some type → picked operands (take (i + 1) numbers) ≡ picked operands (take i numbers) ++ type ∷ []
picked_some operands numbers i type within is =
    rw (take_more numbers i 0 within) (picked-append operands (take i numbers) (get_or numbers i 0 ∷ []) ∙ rw is refl)

pub picked_none : (operands : List VType) (numbers : List ℕ) (i : ℕ) → i < length numbers → slice_get operands (get_or numbers i 0) ≡ None → picked operands (take (i + 1) numbers) ≡ picked operands (take i numbers)
picked_none operands numbers i within is =
    rw (take_more numbers i 0 within) (picked-append operands (take i numbers) (get_or numbers i 0 ∷ []) ∙ rw is (append-nil _))
