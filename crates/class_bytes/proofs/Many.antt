-- Parts cut one after the other, as many as a count says, each seen as the value that it stands for.
use Rattle.std.proofs.Common.{◌≡◌, ℕ, suc, List, [], ◌∷◌, ◌++◌, map, Ok, Err, refl, ap, subst, ◌∙◌}
use Rattle.std.proofs.lemmas.List.{append-nil, map-append}
use Rattle.class_model.specs.Answers.{Takes}
use Rattle.class_model.specs.Checks.{Fault, fault}
use Rattle.class_model.specs.Cutting.{Rest, Cut, many_at}
use Rattle.class_model.specs.Laws.Cuts.{in_front, in_front-append}
use Rattle.class_model.specs.declared.fault.ClassFault.{ClassFault}
use Rattle.class_model.specs.declared.fault.ClassFault.TheVariants.{Malformed, Version, NoMemory}

-- these parts were cut, so many are left, and they are at this rest
pub record SoFar {X : Type 0} (part : Rest → Cut X) (whole : Cut (List X)) (left : ℕ) (got : List X) (rest : Rest) : Type 0 where
  pub is : whole ≡ in_front got (many_at part left rest)

one_more : {X : Type 0} {part : Rest → Cut X} {whole : Cut (List X)} (next : ℕ) (got : List X) (rest : Rest) → SoFar part whole (suc next) got rest → (x : X) (after : Rest) → part rest ≡ Ok (x, after) → SoFar part whole next (got ++ x ∷ []) after
unfolding many_at
one_more {part = part} next got rest so_far x after cut = record { is = so_far.is ∙ rw cut (in_front-append got (x ∷ []) (many_at part next after)) }

-- one part more
pub goes_on : {A X : Type 0} (f : A → X) {part : Rest → Cut X} {whole : Cut (List X)} {left : ℕ} (next : ℕ) (got : List A) {rest : Rest} → SoFar part whole left (map f got) rest → left ≡ suc next → (x : A) (after : Rest) → part rest ≡ Ok (f x, after) → SoFar part whole next (map f (got ++ x ∷ [])) after
goes_on f {part = part} {whole = whole} next got {rest = rest} so_far e x after cut =
    rw (map-append f got (x ∷ [])) (one_more next (map f got) rest (subst (λ n. SoFar part whole n (map f got) rest) e so_far) (f x) after cut)

fails : {X : Type 0} {part : Rest → Cut X} {whole : Cut (List X)} (next : ℕ) (got : List X) (rest : Rest) → SoFar part whole (suc next) got rest → (f : Fault) → part rest ≡ Err f → whole ≡ Err f
unfolding many_at
fails next got rest so_far f cut = so_far.is ∙ rw cut refl

-- the same where the value is seen as it is
pub goes_on_plain : {X : Type 0} {part : Rest → Cut X} {whole : Cut (List X)} {left : ℕ} (next : ℕ) {got : List X} {rest : Rest} → SoFar part whole left got rest → left ≡ suc next → (x : X) (after : Rest) → part rest ≡ Ok (x, after) → SoFar part whole next (got ++ x ∷ []) after
goes_on_plain {part = part} {whole = whole} next {got = got} {rest = rest} so_far e x after cut =
    one_more next got rest (subst (λ n. SoFar part whole n got rest) e so_far) x after cut

-- a part that is refused
pub stops : {X : Type 0} {part : Rest → Cut X} {whole : Cut (List X)} {left : ℕ} (next : ℕ) {got : List X} {rest : Rest} → SoFar part whole left got rest → left ≡ suc next → (e : ClassFault) (after : Rest) → Takes (part rest) after (Err e) → Takes whole after (Err e)
stops {part = part} {whole = whole} next {got = got} {rest = rest} so_far e (Malformed at rule) after cut =
    fails next got rest (subst (λ n. SoFar part whole n got rest) e so_far) (fault at rule) cut
stops next so_far e NoMemory after cut = tt
stops next so_far e (Version major minor) after cut = cut

done : {X : Type 0} {part : Rest → Cut X} {whole : Cut (List X)} (got : List X) (rest : Rest) → SoFar part whole 0 got rest → whole ≡ Ok (got, rest)
unfolding many_at
done got rest so_far = so_far.is ∙ ap (λ all. Ok (all, rest)) (append-nil got)

-- all parts
pub is_done : {X : Type 0} {part : Rest → Cut X} {whole : Cut (List X)} {left : ℕ} {got : List X} {rest : Rest} → SoFar part whole left got rest → left ≡ 0 → whole ≡ Ok (got, rest)
is_done {part = part} {whole = whole} {got = got} {rest = rest} so_far e = done got rest (subst (λ n. SoFar part whole n got rest) e so_far)
