-- How many dimensions bytes have.
use Rattle.std.proofs.Common.{◌≡◌, ◌==◌, ◌↔◌, ℕ, ◌-◌, ◌≤◌, Bool, true, false, List, [], ◌++◌, length, replicate, ap, sym, subst, ◌∙◌, arith}
use Rattle.std.proofs.lemmas.Bool.{eqb-true, eq-eqb}
use Rattle.std.proofs.lemmas.List.{append-nil, length-append, length-replicate, nil_from_length}
use Rattle.class_model.specs.Code.{HasDimensions}
use Rattle.class_model.specs.Inner.DescriptorParts.{BracketsAt, ElementAt}
use Rattle.class_model.specs.Descriptors.{field_type_text}
use Rattle.class_model.proofs.DescriptorGrammar.{LacksBracket, one_count, element_lacks, one_element}

-- the brackets and the element are those that stand there
same : (bytes element : List ℕ) (at : BracketsAt bytes element) (least : ℕ) (d : HasDimensions bytes least) → (d.dimensions ≡ at.count) × (field_type_text d.element ≡ element)
same bytes element at least d =
    let text = field_type_text d.element in
    let lacks : LacksBracket text = subst LacksBracket (append-nil text) (element_lacks d.element [] d.is_element) in
    one_count d.dimensions at.count text element lacks at.no_more (sym d.spelled ∙ at.spelled)

count_is : (bytes element : List ℕ) (at : BracketsAt bytes element) → length bytes - length element ≡ at.count
count_is bytes element at = omega (arith, ap length at.spelled, length-append (replicate at.count 91) element, length-replicate {A = ℕ} at.count 91)

pub has_dimensions : (bytes element rest : List ℕ) → BracketsAt bytes element → ElementAt element rest → rest ≡ [] → (least : ℕ) → HasDimensions bytes least ↔ (least ≤ length bytes - length element)
has_dimensions bytes element rest at is nothing least =
    let e = count_is bytes element at in
    let whole : element ≡ field_type_text is.element = is.spelled ∙ ap (λ (t : List ℕ). field_type_text is.element ++ t) nothing ∙ append-nil (field_type_text is.element) in (
      (λ (d : HasDimensions bytes least). omega (arith, e, d.enough, (same bytes element at least d).0)),
      (λ (enough : least ≤ length bytes - length element). record {
        dimensions = at.count;
        element = is.element;
        is_element = is.is_element;
        enough = omega (arith, e, enough);
        spelled = at.spelled ∙ ap (λ (t : List ℕ). replicate at.count 91 ++ t) whole;
      }),
    )

pub no_dimensions : (bytes element : List ℕ) → BracketsAt bytes element → ¬ ElementAt element [] → (least : ℕ) → ¬ HasDimensions bytes least
no_dimensions bytes element at none least d =
    none (record { element = d.element; is_element = d.is_element; spelled = sym (same bytes element at least d).1 ∙ sym (append-nil (field_type_text d.element)) })

pub nothing_left : (rest : List ℕ) (empty : Bool) → empty ≡ (length rest == 0) → empty ≡ true → rest ≡ []
nothing_left rest empty is e = nil_from_length rest (eqb-true _ _ (sym is ∙ e))

pub no_whole : (element rest : List ℕ) (empty : Bool) → ElementAt element rest → empty ≡ (length rest == 0) → empty ≡ false → ¬ ElementAt element []
no_whole element rest empty at is some whole =
    let none = (one_element at.element whole.element rest [] at.is_element whole.is_element (sym at.spelled ∙ whole.spelled)).1 in
    absurd (cc (some, is, eq-eqb (length rest) 0 (ap length none)))
