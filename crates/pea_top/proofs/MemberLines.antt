-- Lines that name a member of a class, from the left and from the right.
use Rattle.std.proofs.Common.{◌≡◌, List, ◌++◌, ℕ, codes, append_assoc}
use Rattle.pea_top.specs.Lines.{printed_text}

-- what stands before and with the names of a member
abbrev pub names_behind : List ℕ → List ℕ → List ℕ → List ℕ → List ℕ
names_behind front class name desc = front ++ printed_text class ++ codes " " ++ printed_text name ++ codes " " ++ printed_text desc

pub two_behind : (front a b c : List ℕ) → front ++ (a ++ (b ++ c)) ≡ front ++ a ++ b ++ c
two_behind front a b c = simp append_assoc

pub four_behind : (front a b c d e : List ℕ) → front ++ (a ++ (b ++ (c ++ (d ++ e)))) ≡ front ++ a ++ b ++ c ++ d ++ e
four_behind front a b c d e = simp append_assoc
