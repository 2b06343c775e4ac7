-- The numbers of a command are within their bounds.
use Rattle.std.proofs.Common.{ℕ, List, [], ◌∷◌, ◌≤◌}
use Rattle.pea_top.specs.Inner.Generating.{IsBounded}
use Rattle.pea_top.specs.Words.{Command, Generated, HasNumber, Listing, OnFolder, Spells, Word, number_option, size_option}

at_most : (low high number : ℕ) (values : List Word) → HasNumber low high number values → number ≤ high
at_most low high number [] has = absurd has
at_most low high number (word ∷ []) has = has.most
at_most low high number (first ∷ second ∷ values) has = absurd has

pub is_bounded : (command : Command) (words : List Word) → Spells command words → IsBounded command
is_bounded (OnFolder input library task) words spelled = tt
is_bounded (Listing input name) words spelled = tt
is_bounded (Generated number size) words spelled =
    (at_most 0 2147483647 number _ (spelled.values number_option), at_most 1 1000 size _ (spelled.values size_option))
