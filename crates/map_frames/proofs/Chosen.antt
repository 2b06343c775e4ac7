-- The kind that is chosen by counts is the first that fits.
use Rattle.std.proofs.Common.{◌≡◌, inl, inr, ◌==◌, ◌&&◌, ℕ, ◌≤◌, Bool, leb, List, [], ◌∷◌, ◌++◌, length, refl, sym, ap, subst, ◌∙◌, append_assoc, arith}
use Rattle.std.proofs.lemmas.Bool.{cases_Bool}
use Rattle.std.proofs.lemmas.Bool.Decides.{nat_tests, Decides-eqb, Decides-and, Decides-like, not_from_Decides}
use Rattle.std.proofs.lemmas.List.{append-nil, append_cancel_left, nil_from_length}
use Rattle.std.specs.Bool.{Decides}
use Rattle.class_model.specs.declared.frame.VType.{VType}
use Rattle.map_frames.specs.Inner.Change.{AreApart, IsChange}
use Rattle.map_frames.specs.Inner.Choosing.{is_few, keeps_locals, passes, first_passing}
use Rattle.map_frames.specs.Writing.{Listed, FrameKind, Same, SameItem, SameItemExtended, Chop, SameExtended, Append, Full, frame_kinds, FitsFrameKind, IsFew, IsFirst}
use Rattle.map_frames.specs.declared.kinds.Change.{Change}

-- ---- the first of some

-- the first that passes is the first that fits, where the last fits
pub first_is : (test : FrameKind → Bool) (fits : FrameKind → Type 0) → ((kind : FrameKind) → Decides (test kind) (fits kind)) → fits Full → (front : List FrameKind) → IsFirst fits (front ++ Full ∷ []) (first_passing test (front ++ Full ∷ []))
first_is test fits decides last [] = rw ((decides Full).1 last) (inl (refl, last))
first_is test fits decides last (kind ∷ front) =
    elim (cases_Bool (test kind)) [
      | inl here ↦ rw here (inl (refl, (decides kind).0 here))
      | inr later ↦ rw later (inr (not_from_Decides (test kind) (decides kind) later, first_is test fits decides last front))
    ]

pub first_fits : (fits : FrameKind → Type 0) (kinds : List FrameKind) (kind : FrameKind) → IsFirst fits kinds kind → fits kind
first_fits fits [] kind is = absurd is
first_fits fits (one ∷ others) kind is =
    elim is [ inl here ↦ subst fits (sym here.0) here.1 | inr later ↦ first_fits fits others kind later.1 ]

-- ---- lists that are apart

none_more : (gone more others : List VType) → AreApart gone more → gone ≡ more ++ others → more ≡ []
none_more gone [] others apart is = refl
none_more [] (one ∷ more) others apart is = absurd cc
none_more (first ∷ gone) (one ∷ more) others apart is = absurd (apart cc)

none_gone : (gone more others : List VType) → AreApart gone more → more ≡ gone ++ others → gone ≡ []
none_gone [] more others apart is = refl
none_gone (first ∷ gone) [] others apart is = absurd cc
none_gone (first ∷ gone) (one ∷ more) others apart is = absurd (apart cc)

Decides-leb : (a b : ℕ) → Decides (leb a b) (a ≤ b)
Decides-leb a b = (λ t. grind (arith, nat_tests), λ h. grind (arith, nat_tests))

Decides-none : (items : List VType) → Decides (length items == 0) (items ≡ [])
Decides-none items = Decides-like (length items == 0) (λ e. nil_from_length items e) (λ e. ap length e) (Decides-eqb (length items) 0)

Decides-few : (items : List VType) → Decides (is_few (length items)) (IsFew items)
Decides-few items = Decides-and (leb 1 (length items)) (leb (length items) 3) (Decides-leb 1 (length items)) (Decides-leb (length items) 3)

-- ---- each kind

-- the counts of a change
abbrev pub counts : List VType → List VType → List VType → Change
counts gone more stack = record { gone = length gone; more = length more; stack = length stack }

module _ (before : List VType) (frame : Listed) (gone more : List VType) (change : IsChange before frame.locals gone more) where
  keeps_decides : Decides (keeps_locals (counts gone more frame.stack)) (frame.locals ≡ before)
  keeps_decides = Decides-like (keeps_locals (counts gone more frame.stack))
      (λ none. change.locals_is ∙ ap (λ (items : List VType). change.common ++ items) (none.1 ∙ sym none.0) ∙ sym change.before_is)
      (λ same.
      let is : gone ≡ more = append_cancel_left change.common gone more (sym change.before_is ∙ sym same ∙ change.locals_is) in
      (none_gone gone more [] change.apart (sym is ∙ sym (append-nil gone)), none_more gone more [] change.apart (is ∙ sym (append-nil more))))
      (Decides-and (length gone == 0) (length more == 0) (Decides-none gone) (Decides-none more))

  chop_decides : Decides ((length more == 0) && is_few (length gone)) ((others : List VType) × (before ≡ frame.locals ++ others) × IsFew others)
  chop_decides = Decides-like ((length more == 0) && is_few (length gone))
      (λ have. (gone, change.before_is ∙ ap (λ (items : List VType). items ++ gone) (sym (append-nil change.common) ∙ ap (λ (items : List VType). change.common ++ items) (sym have.0) ∙ sym change.locals_is), have.1))
      (λ fits.
      let others = fits.0 in
      let is : gone ≡ more ++ others = append_cancel_left change.common gone (more ++ others) (sym change.before_is ∙ fits.1 ∙ ap (λ (items : List VType). items ++ others) change.locals_is ∙ append_assoc change.common more others) in
      let none = none_more gone more others change.apart is in
      let same : gone ≡ others = is ∙ ap (λ (items : List VType). items ++ others) none in
      (none, subst IsFew (sym same) fits.2))
      (Decides-and (length more == 0) (is_few (length gone)) (Decides-none more) (Decides-few gone))

  append_decides : Decides ((length gone == 0) && is_few (length more)) ((others : List VType) × (frame.locals ≡ before ++ others) × IsFew others)
  append_decides = Decides-like ((length gone == 0) && is_few (length more))
      (λ have. (more, change.locals_is ∙ ap (λ (items : List VType). items ++ more) (sym (append-nil change.common) ∙ ap (λ (items : List VType). change.common ++ items) (sym have.0) ∙ sym change.before_is), have.1))
      (λ fits.
      let others = fits.0 in
      let is : more ≡ gone ++ others = append_cancel_left change.common more (gone ++ others) (sym change.locals_is ∙ fits.1 ∙ ap (λ (items : List VType). items ++ others) change.before_is ∙ append_assoc change.common gone others) in
      let none = none_gone gone more others change.apart is in
      let same : more ≡ others = is ∙ ap (λ (items : List VType). items ++ others) none in
      (none, subst IsFew (sym same) fits.2))
      (Decides-and (length gone == 0) (is_few (length more)) (Decides-none gone) (Decides-few more))

  passes_decides : (kind : FrameKind) → Decides (passes frame.delta (counts gone more frame.stack) kind) (FitsFrameKind before frame kind)
  passes_decides Same =
      Decides-like (keeps_locals (counts gone more frame.stack) && (length frame.stack == 0) && leb frame.delta 63) (λ h. (h.0.0, h.0.1, h.1)) (λ h. ((h.0, h.1), h.2))
      (Decides-and (keeps_locals (counts gone more frame.stack) && (length frame.stack == 0)) (leb frame.delta 63)
      (Decides-and (keeps_locals (counts gone more frame.stack)) (length frame.stack == 0) keeps_decides (Decides-none frame.stack)) (Decides-leb frame.delta 63))
  passes_decides SameItem =
      Decides-like (keeps_locals (counts gone more frame.stack) && (length frame.stack == 1) && leb frame.delta 63) (λ h. (h.0.0, h.0.1, h.1)) (λ h. ((h.0, h.1), h.2))
      (Decides-and (keeps_locals (counts gone more frame.stack) && (length frame.stack == 1)) (leb frame.delta 63)
      (Decides-and (keeps_locals (counts gone more frame.stack)) (length frame.stack == 1) keeps_decides (Decides-eqb (length frame.stack) 1)) (Decides-leb frame.delta 63))
  passes_decides SameItemExtended = Decides-and (keeps_locals (counts gone more frame.stack)) (length frame.stack == 1) keeps_decides (Decides-eqb (length frame.stack) 1)
  passes_decides Chop = Decides-and (length frame.stack == 0) ((length more == 0) && is_few (length gone)) (Decides-none frame.stack) chop_decides
  passes_decides SameExtended = Decides-and (keeps_locals (counts gone more frame.stack)) (length frame.stack == 0) keeps_decides (Decides-none frame.stack)
  passes_decides Append = Decides-and (length frame.stack == 0) ((length gone == 0) && is_few (length more)) (Decides-none frame.stack) append_decides
  passes_decides Full = (λ e. tt, λ h. refl)

  pub kind_first : IsFirst (FitsFrameKind before frame) frame_kinds (first_passing (passes frame.delta (counts gone more frame.stack)) frame_kinds)
  kind_first = first_is (passes frame.delta (counts gone more frame.stack)) (FitsFrameKind before frame) passes_decides tt (Same ∷ SameItem ∷ SameItemExtended ∷ Chop ∷ SameExtended ∷ Append ∷ [])

  pub chop_adds_none : FitsFrameKind before frame Chop → more ≡ []
  chop_adds_none fits =
      let have = (Decides-and (length more == 0) (is_few (length gone)) (Decides-none more) (Decides-few gone)).0 (chop_decides.1 fits.1) in
      have.0

  pub append_takes_none : FitsFrameKind before frame Append → gone ≡ []
  append_takes_none fits =
      let have = (Decides-and (length gone == 0) (is_few (length more)) (Decides-none gone) (Decides-few more)).0 (append_decides.1 fits.1) in
      have.0
