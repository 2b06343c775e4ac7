-- A word that is taken from the front, and the last one.
use Rattle.std.proofs.Common.{◌≡◌, ◌≢◌, ◌∷◌, [], List, Option, Some, None, sym, refl, subst}
use Rattle.script_text.specs.Scripts.{Word}
use Rattle.std.specs.Borrow.{Bor}
use Rattle.std.specs.Option.{option_copied}
use Rattle.script_text.specs.PrintedTexts.{Bytes}
use Rattle.script_text.specs.Inner.Reading.{IsRead, Takes, takes_word, TakesOne, words_left}

pub taken : {X : Type 0} (Spells : X → Word → Type 0) (words : List Word) (word : Word) (rest : List Word) (found : X) → words ≡ word ∷ rest → Spells found word → Takes Spells words found rest
taken Spells words word rest found is spelled = subst (λ (w : List Word). Takes Spells w found rest) (sym is) (takes_word spelled)

spelled_by : {X : Type 0} {Spells : X → Word → Type 0} {word : Word} {rest others : List Word} {found : X} → Takes Spells (word ∷ rest) found others → Spells found word
spelled_by (takes_word spelled) = spelled

pub last_read : {X : Type 0} (Spells : X → Word → Type 0) (words : List Word) (word : Word) (r : Option X) → words ≡ word ∷ [] → IsRead (λ x. Spells x word) r → IsRead (λ x. Takes Spells words x []) r
last_read Spells words word (Some found) is read = taken Spells words word [] found is read
last_read Spells words word None is never = λ found takes. never found (spelled_by (subst (λ (w : List Word). Takes Spells w found []) is takes))

pub no_last : {X : Type 0} (Spells : X → Word → Type 0) (words : List Word) → ((word : Word) → words ≢ word ∷ []) → (found : X) → ¬ Takes Spells words found []
no_last Spells words never found (takes_word {word = word} spelled) = never word refl

pub no_next : {X : Type 0} (Spells : X → Word → Type 0) (words : List Word) → words ≡ [] → (found : X) (rest : List Word) → ¬ Takes Spells words found rest
no_next Spells words is found rest (takes_word spelled) = absurd (none_there is) where
  none_there : {word : Word} → word ∷ rest ≡ [] → ⊥
  none_there h = cc

pub not_next : {X : Type 0} (Spells : X → Word → Type 0) (words : List Word) (word : Word) (others : List Word) → words ≡ word ∷ others → ((found : X) → ¬ Spells found word) → (found : X) (rest : List Word) → ¬ Takes Spells words found rest
not_next Spells words word others is never found rest takes = never found (spelled_by (subst (λ (w : List Word). Takes Spells w found rest) is takes))

-- ---- by what was answered

pub took : {X : Type 0} (Spells : X → Word → Type 0) (words : List Word) (answer : Option (X × Option (Bor Bytes))) (found : X × Option (Bor Bytes)) → TakesOne Spells words answer → answer ≡ Some found → Takes Spells words found.0 (words_left (option_copied found.1))
took Spells words answer found takes is = subst (λ o. TakesOne Spells words o) is takes

pub took_none : {X : Type 0} (Spells : X → Word → Type 0) (words : List Word) (answer : Option (X × Option (Bor Bytes))) → TakesOne Spells words answer → answer ≡ None → (found : X) (rest : List Word) → ¬ Takes Spells words found rest
took_none Spells words answer takes is = subst (λ o. TakesOne Spells words o) is takes

pub was_read : {X : Type 0} (Spells : X → Type 0) (answer : Option X) (found : X) → IsRead Spells answer → answer ≡ Some found → Spells found
was_read Spells answer found read is = subst (λ o. IsRead Spells o) is read

pub was_none : {X : Type 0} (Spells : X → Type 0) (answer : Option X) → IsRead Spells answer → answer ≡ None → (found : X) → ¬ Spells found
was_none Spells answer read is = subst (λ o. IsRead Spells o) is read
