-- Appending items one after the other.
use Rattle.std.proofs.Common.{◌≡◌, ◌+◌, ◌<◌, ◌≤◌, ℕ, List, ◌++◌, length, take, get_or, sym, ap, ◌∙◌}
use Rattle.std.specs.List.{flat_map}
use Rattle.std.proofs.lemmas.List.{flat_map_more, take_all, take_more}

pub one_pushed : {X : Type 0} (bytes_of : X → List ℕ) (start before after : List ℕ) (xs : List X) (i : ℕ) (d : X) → before ≡ start ++ flat_map bytes_of (take i xs) → i < length xs → after ≡ before ++ bytes_of (get_or xs i d) → after ≡ start ++ flat_map bytes_of (take (i + 1) xs)
one_pushed bytes_of start before after xs i d pushed within item =
    let x = get_or xs i d in
    item ∙ ap (λ bytes. bytes ++ bytes_of x) pushed ∙ flat_map_more bytes_of start (take i xs) x ∙ ap (λ ys. start ++ flat_map bytes_of ys) (sym (take_more xs i d within))

pub all_pushed : {X : Type 0} (bytes_of : X → List ℕ) (start after : List ℕ) (xs : List X) (i : ℕ) → after ≡ start ++ flat_map bytes_of (take i xs) → length xs ≤ i → after ≡ start ++ flat_map bytes_of xs
all_pushed bytes_of start after xs i pushed all = pushed ∙ ap (λ ys. start ++ flat_map bytes_of ys) (take_all i xs all)
