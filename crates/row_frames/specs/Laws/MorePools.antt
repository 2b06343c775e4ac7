-- What an index names in a pool it names where the pool has more constants at its end.
use Rattle.std.proofs.Common.{◌≡◌, ◌++◌, ◌∙◌, ℕ, zero, suc, List, [], ◌∷◌, Option, Some, None, refl, sym, ap}
use Rattle.std.specs.Prelude.{option_and_then}
use Rattle.std.proofs.lemmas.Option.{none-some}
use Rattle.class_model.specs.Pool.{Constants, constant_at}
use Rattle.class_model.specs.PoolChecks.{class_at, class_name_of, descriptor_at, name_and_type_of, name_at, text_of, utf8_at}
use Rattle.class_model.specs.declared.pool.Const.{Const}
use Rattle.class_model.specs.declared.pool.Const.TheVariants as consts
use Rattle.class_tree.specs.Headers.{Name}
use Rattle.member_link.specs.References.{Reference, reference_at}
use Rattle.member_link.specs.Signatures.{reference_of}

pub constant_more : (pool more : Constants) (index : ℕ) (c : Const) → constant_at pool index ≡ Some c → constant_at (pool ++ more) index ≡ Some c
constant_more [] more index c is = absurd (none-some c is)
constant_more (entry ∷ pool) more zero c is = is
constant_more (entry ∷ pool) more (suc index) c is = constant_more pool more index c is

module _ (pool more : Constants) where
  abbrev grown : Constants
  grown = pool ++ more

  part_more : {Y : Type 0} (part : Const → Option Y) (index : ℕ) (y : Y) → option_and_then part (constant_at pool index) ≡ Some y
      → option_and_then part (constant_at grown index) ≡ Some y
  part_more {Y} part index y is = by (constant_at pool index) refl where
    by : (o : Option Const) → constant_at pool index ≡ o → option_and_then part (constant_at grown index) ≡ Some y
    by None e = absurd (none-some y (sym (ap (option_and_then part) e) ∙ is))
    by (Some c) e =
        ap (option_and_then part) (constant_more pool more index c e) ∙ sym (ap (option_and_then part) e) ∙ is

  pub text_more : (index : ℕ) (text : List ℕ) → utf8_at pool index ≡ Some text → utf8_at grown index ≡ Some text
  text_more index text is = part_more text_of index text is

  pub class_more : (index : ℕ) (name : Name) → class_at pool index ≡ Some name → class_at grown index ≡ Some name
  class_more index name is = by (option_and_then class_name_of (constant_at pool index)) refl where
    by : (o : Option ℕ) → option_and_then class_name_of (constant_at pool index) ≡ o → class_at grown index ≡ Some name
    by None e = absurd (none-some name (sym (ap (option_and_then (utf8_at pool)) e) ∙ is))
    by (Some text) e =
        ap (option_and_then (utf8_at grown)) (part_more class_name_of index text e)
        ∙ text_more text name (sym (ap (option_and_then (utf8_at pool)) e) ∙ is)

  -- the name or the descriptor of a NameAndType
  member_more : (side : ℕ × ℕ → ℕ) (index : ℕ) (text : List ℕ)
      → option_and_then (λ n. utf8_at pool (side n)) (option_and_then name_and_type_of (constant_at pool index)) ≡ Some text
      → option_and_then (λ n. utf8_at grown (side n)) (option_and_then name_and_type_of (constant_at grown index)) ≡ Some text
  member_more side index text is = by (option_and_then name_and_type_of (constant_at pool index)) refl where
    by : (o : Option (ℕ × ℕ)) → option_and_then name_and_type_of (constant_at pool index) ≡ o
        → option_and_then (λ n. utf8_at grown (side n)) (option_and_then name_and_type_of (constant_at grown index)) ≡ Some text
    by None e = absurd (none-some text (sym (ap (option_and_then (λ n. utf8_at pool (side n))) e) ∙ is))
    by (Some both) e =
        ap (option_and_then (λ n. utf8_at grown (side n))) (part_more name_and_type_of index both e)
        ∙ text_more (side both) text (sym (ap (option_and_then (λ n. utf8_at pool (side n))) e) ∙ is)

  pub name_more : (index : ℕ) (text : List ℕ) → name_at pool index ≡ Some text → name_at grown index ≡ Some text
  name_more index text is = member_more (λ n. n.0) index text is

  pub descriptor_more : (index : ℕ) (text : List ℕ) → descriptor_at pool index ≡ Some text → descriptor_at grown index ≡ Some text
  descriptor_more index text is = member_more (λ n. n.1) index text is

  -- ---- references

  parts_more : (class member : ℕ) (r : Reference) → reference_at pool class member ≡ Some r → reference_at grown class member ≡ Some r
  parts_more class member r is =
      by (class_at pool class) refl (name_at pool member) refl (descriptor_at pool member) refl where
        by : (c : Option Name) → class_at pool class ≡ c
            → (n : Option (List ℕ)) → name_at pool member ≡ n
            → (d : Option (List ℕ)) → descriptor_at pool member ≡ d
            → reference_at grown class member ≡ Some r
        by None ce n ne d de =
            let none : reference_at pool class member ≡ None = rw (ce) refl in
            absurd (none-some r (sym none ∙ is))
        by (Some c) ce None ne d de =
            let none : reference_at pool class member ≡ None = rw (ce, ne) refl in
            absurd (none-some r (sym none ∙ is))
        by (Some c) ce (Some n) ne None de =
            let none : reference_at pool class member ≡ None = rw (ce, ne, de) refl in
            absurd (none-some r (sym none ∙ is))
        by (Some c) ce (Some n) ne (Some d) de =
            let parts : Reference = record { class = c; name = n; desc = d } in
            let here : reference_at pool class member ≡ Some parts = rw (ce, ne, de) refl in
            let there : reference_at grown class member ≡ Some parts =
            rw (class_more class c ce, name_more member n ne, descriptor_more member d de) refl in
            there ∙ sym here ∙ is

  pub reference_more : (index : ℕ) (r : Reference) → reference_of pool (constant_at pool index) ≡ Some r
      → reference_of grown (constant_at grown index) ≡ Some r
  reference_more index r is = by (constant_at pool index) refl where
    by : (o : Option Const) → constant_at pool index ≡ o → reference_of grown (constant_at grown index) ≡ Some r
    by (Some (consts.Fieldref class member)) e =
        ap (reference_of grown) (constant_more pool more index (consts.Fieldref class member) e)
        ∙ parts_more class member r (sym (ap (reference_of pool) e) ∙ is)
    by (Some (consts.Methodref class member)) e =
        ap (reference_of grown) (constant_more pool more index (consts.Methodref class member) e)
        ∙ parts_more class member r (sym (ap (reference_of pool) e) ∙ is)
    by (Some (consts.InterfaceMethodref class member)) e =
        ap (reference_of grown) (constant_more pool more index (consts.InterfaceMethodref class member) e)
        ∙ parts_more class member r (sym (ap (reference_of pool) e) ∙ is)
    by (Some other) e = absurd (none-some r (sym (ap (reference_of pool) e) ∙ is))
    by None e = absurd (none-some r (sym (ap (reference_of pool) e) ∙ is))
