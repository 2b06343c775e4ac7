-- What prints as a word is one text, or none.
use Rattle.std.proofs.Common.{ℕ, List, Option, subst, sym, refl}
use Rattle.class_model.specs.ModifiedUtf8.{IsText}
use Rattle.script_text.specs.Inner.Reading.{IsRead, PrintsText}
use Rattle.script_text.proofs.PrintedTexts.{text_prints, no_such_text}
use Rattle.script_text.proofs.texts.text_of.Goals as goal

pub returns-in_default : goal.returns-in_default
returns-in_default c = λ text spells.
    let word = c.args.word.now in
    let never : (bytes : List ℕ) → ¬ PrintsText word bytes = subst (λ (o : Option (List ℕ)). IsRead (PrintsText word) o) c.in_default.is c.in_ok-bytes.ensures in
    never text (text_prints text word spells)

pub returns-in-Err-BadText : goal.returns-in-Err-BadText
returns-in-Err-BadText c = λ text spells.
    let word = c.args.word.now in
    let prints : PrintsText word c.in-Some.bytes = subst (λ (o : Option (List ℕ)). IsRead (PrintsText word) o) c.in-Some.is c.in_ok-bytes.ensures in
    let bad = c.in-Err-BadText.ensures.bad_text (rw c.in-Err-BadText.field-0-is refl) in
    no_such_text word c.in-Some.bytes prints (λ is_text. bad (subst (λ (t : List ℕ). IsText t) (sym c.as_slice.ensures) is_text)) text spells
