-- A list of words, one by one.
use Rattle.std.proofs.Common.{◌≡◌, ◌++◌, ◌∷◌, [], List, sym, subst, append_assoc}
use Rattle.std.proofs.lemmas.List.{append-nil}
use Rattle.script_text.specs.Scripts.{Word, SpellsEach, none_spelled, more_spelled}

-- what was read: it goes on with what is left, and whatever is spelled ends in what is left
pub record EachSoFar {X : Type 0} (Spells : X → Word → Type 0) (words : List Word) (done : List X) (left : List Word) : Type 0 where
  pub ahead : (more : List X) → SpellsEach Spells more left → SpellsEach Spells (done ++ more) words
  pub others : (all : List X) → SpellsEach Spells all words → (more : List X) × SpellsEach Spells more left

pub each_begun : {X : Type 0} (Spells : X → Word → Type 0) (words : List Word) → EachSoFar Spells words [] words
each_begun Spells words = record { ahead = λ more spelled. spelled; others = λ all spelled. (all, spelled) }

tail_spelled : {X : Type 0} {Spells : X → Word → Type 0} {word : Word} {rest : List Word} {all : List X} → SpellsEach Spells all (word ∷ rest) → (more : List X) × SpellsEach Spells more rest
tail_spelled (more_spelled first others) = (_, others)

head_spelled : {X : Type 0} {Spells : X → Word → Type 0} {word : Word} {rest : List Word} {all : List X} → SpellsEach Spells all (word ∷ rest) → (found : X) × Spells found word
head_spelled (more_spelled first others) = (_, first)

pub each_more : {X : Type 0} (Spells : X → Word → Type 0) (words : List Word) (done : List X) (left : List Word) (word : Word) (rest : List Word) (found : X) → EachSoFar Spells words done left → left ≡ word ∷ rest → Spells found word → EachSoFar Spells words (done ++ found ∷ []) rest
each_more Spells words done left word rest found so is spelled = record {
  ahead = λ more others. subst (λ t. SpellsEach Spells t words) (sym (append_assoc done (found ∷ []) more)) (so.ahead (found ∷ more) (subst (λ t. SpellsEach Spells (found ∷ more) t) (sym is) (more_spelled spelled others)));
  others = λ all each. let more = so.others all each in tail_spelled (subst (λ t. SpellsEach Spells more.0 t) is more.1);
}

pub each_done : {X : Type 0} (Spells : X → Word → Type 0) (words : List Word) (done : List X) (left : List Word) → EachSoFar Spells words done left → left ≡ [] → SpellsEach Spells done words
each_done Spells words done left so is = subst (λ t. SpellsEach Spells t words) (append-nil done) (so.ahead [] (subst (λ t. SpellsEach Spells [] t) (sym is) none_spelled))

pub each_stuck : {X : Type 0} (Spells : X → Word → Type 0) (words : List Word) (done : List X) (left : List Word) (word : Word) (rest : List Word) → EachSoFar Spells words done left → left ≡ word ∷ rest → ((found : X) → ¬ Spells found word) → (all : List X) → ¬ SpellsEach Spells all words
each_stuck Spells words done left word rest so is never all each =
    let more = so.others all each in
    let head = head_spelled (subst (λ t. SpellsEach Spells more.0 t) is more.1) in
    never head.0 head.1
