-- Values that the library gives, one by one.
use Rattle.std.proofs.Common.{◌≡◌, ℕ, List, [], ◌∷◌, ◌++◌, Option, Some, None, option_map, refl, sym, ap, ◌∙◌, append_assoc}
use Rattle.std.proofs.lemmas.List.{append-nil}
use Rattle.machine_values.specs.declared.action.Given.{Given}
use Rattle.machine_values.specs.declared.value.Value.{Value}
use Rattle.member_link.specs.Machine.Acting.{given_value, given_values}

-- these are found, and the rest is left
pub record Gives (known : List ℕ) (given rest : List Given) (values : List Value) : Type 0 where
  pub same : given_values known given ≡ option_map (λ more. values ++ more) (given_values known rest)

kept : (o : Option (List Value)) → o ≡ option_map (λ more. [] ++ more) o
kept None = refl
kept (Some values) = refl

pub gives_none : (known : List ℕ) (given : List Given) → Gives known given given []
gives_none known given = record { same = kept (given_values known given) }

pub gives_more :
    (known : List ℕ) (given : List Given) (one : Given) (rest : List Given) (values : List Value) (value : Value)
    → given_value known one ≡ Some value
    → Gives known given (one ∷ rest) values
    → Gives known given rest (values ++ value ∷ [])
gives_more known given one rest values value is so = by (given_values known rest) refl where
  by : (o : Option (List Value)) → given_values known rest ≡ o → Gives known given rest (values ++ value ∷ [])
  by None e = record { same = so.same ∙ rw (is, e) refl }
  by (Some more) e = record { same = so.same ∙ rw (is, e) (ap Some (sym (append_assoc values (value ∷ []) more))) }

pub gives_no :
    (known : List ℕ) (given : List Given) (one : Given) (rest : List Given) (values : List Value)
    → given_value known one ≡ None
    → Gives known given (one ∷ rest) values
    → None ≡ given_values known given
gives_no known given one rest values is so = sym (so.same ∙ rw is refl)

pub gives_all :
    (known : List ℕ) (given : List Given) (values : List Value)
    → Gives known given [] values
    → Some values ≡ given_values known given
gives_all known given values so = ap Some (sym (append-nil values)) ∙ sym so.same
