-- The checks of the texts of a pool, constant by constant.
use Rattle.std.proofs.Common.{◌≡◌, ℕ, ◌+◌, [], ◌∷◌, ◌++◌, length, Some, None, refl}
use Rattle.class_model.specs.Checks.{AllHold}
use Rattle.class_model.specs.Pool.{Constants}
use Rattle.class_model.specs.Spelling.{constant_bytes}
use Rattle.class_model.specs.declared.pool.Const.{Const}
use Rattle.class_model.specs.declared.pool.Const.TheVariants.{Utf8, Integer, Float, Long, Double, Class, String, Fieldref, Methodref, InterfaceMethodref, NameAndType, MethodHandle, MethodType, InvokeDynamic}
use Rattle.class_model.specs.Header.{texts_checks}
use Rattle.pool_bytes.specs.Inner.TextChecks.{text_checks}
use Rattle.pool_bytes.specs.Texts.{HasTexts}
use Rattle.pool_bytes.proofs.AnswerParts.{ByConstant}

by_text : (at : ℕ) (constant : Const) (rest : Constants) → texts_checks at (Some constant ∷ rest) ≡ text_checks at constant ++ texts_checks (at + length (constant_bytes constant)) rest
by_text at (Utf8 text) rest = refl
by_text at (Integer number) rest = refl
by_text at (Float bits) rest = refl
by_text at (Long number) rest = refl
by_text at (Double bits) rest = refl
by_text at (Class name) rest = refl
by_text at (String text) rest = refl
by_text at (Fieldref class member) rest = refl
by_text at (Methodref class member) rest = refl
by_text at (InterfaceMethodref class member) rest = refl
by_text at (NameAndType name descriptor) rest = refl
by_text at (MethodHandle kind reference) rest = refl
by_text at (MethodType descriptor) rest = refl
by_text at (InvokeDynamic bootstrap member) rest = refl

pub texts_by_constant : ByConstant texts_checks text_checks
texts_by_constant = record { nil = λ at. refl; none = λ at rest. refl; some = by_text }

-- where the checks hold, the texts are texts
pub have_texts : (at : ℕ) (entries : Constants) → AllHold (texts_checks at entries) → HasTexts entries
have_texts at [] all = tt
have_texts at (None ∷ entries) all = (tt, have_texts at entries all)
have_texts at (Some (Utf8 text) ∷ entries) all = (all.0, have_texts (at + length (constant_bytes (Utf8 text))) entries all.1)
have_texts at (Some constant ∷ entries) all = (tt, have_texts (at + length (constant_bytes constant)) entries all)
