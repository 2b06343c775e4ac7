-- What is appended for a frame is the frame in the kind that was chosen.
use Rattle.std.proofs.Common.{◌≡◌, ℕ, ◌+◌, ◌-◌, List, [], ◌∷◌, ◌++◌, length, drop, Result, Ok, Err, OnOk, refl, sym, ap, subst, ◌∙◌, append_assoc, arith}
use Rattle.std.proofs.Math.Seq.{drop-append_seam}
use Rattle.std.proofs.lemmas.List.{append-nil, length-append}
use Rattle.class_model.specs.Spelling.{u2}
use Rattle.class_model.specs.declared.frame.VType.{VType}
use Rattle.map_frames.specs.Inner.Change.{IsChange}
use Rattle.map_frames.specs.Inner.Choosing.{passes, first_passing}
use Rattle.map_frames.specs.Writing.{Listed, FrameKind, Chop, Append, frame_kinds, FitsFrameKind, IsFirst, IsFrame, types_bytes, kind_bytes}
use Rattle.map_frames.specs.declared.kinds.Change.{Change}
use Rattle.map_frames.specs.declared.writing.NamedIndex.{NamedIndex}
use Rattle.map_frames.proofs.Chosen.{counts, kind_first, first_fits, chop_adds_none, append_takes_none}

-- two parts were appended, the second if the call succeeded
pub then_appended : {E : Type 0} (r : Result (Unit {0}) E) (old mid new a b : List ℕ) → mid ≡ old ++ a → OnOk r (new ≡ mid ++ b) → OnOk r (new ≡ old ++ (a ++ b))
then_appended (Ok done) old mid new a b first second = second ∙ ap (λ (bytes : List ℕ). bytes ++ b) first ∙ append_assoc old a b
then_appended (Err fault) old mid new a b first second = tt

-- What is appended in each kind, by the counts and by the entries that are new.
abbrev pub changed_bytes : List NamedIndex → Listed → Change → List VType → FrameKind → List ℕ
changed_bytes classes frame found more Chop = (251 - found.gone) ∷ u2 frame.delta
changed_bytes classes frame found more Append = (251 + found.more) ∷ (u2 frame.delta ++ types_bytes classes more)
changed_bytes classes frame found more other = kind_bytes classes [] frame other

module _ (classes : List NamedIndex) (before : List VType) (frame : Listed) (gone more : List VType) (change : IsChange before frame.locals gone more) where
  bytes_are : (kind : FrameKind) → FitsFrameKind before frame kind → kind_bytes classes before frame kind ≡ changed_bytes classes frame (counts gone more frame.stack) more kind
  bytes_are Chop fits =
      let none = chop_adds_none before frame gone more change fits in
      let count : length before - length frame.locals ≡ length gone = omega (arith, ap length none, ap length change.before_is, ap length change.locals_is, length-append change.common gone, length-append change.common more) in
      rw count
  bytes_are Append fits =
      let none = append_takes_none before frame gone more change fits in
      let before_is : before ≡ change.common = change.before_is ∙ ap (λ (items : List VType). change.common ++ items) none ∙ append-nil change.common in
      let locals_is : frame.locals ≡ before ++ more = change.locals_is ∙ ap (λ (items : List VType). items ++ more) (sym before_is) in
      let count : length frame.locals - length before ≡ length more = omega (arith, ap length locals_is, length-append before more) in
      let behind : drop (length before) frame.locals ≡ more = ap (drop (length before)) locals_is ∙ drop-append_seam before more in
      rw (count, behind)
  bytes_are other fits = refl

  -- the kind is the first that passes, by these counts
  abbrev pub IsChosen : Change → FrameKind → Type 0
  IsChosen found kind = kind ≡ first_passing (passes frame.delta found) frame_kinds

  is_first : (kind : FrameKind) → IsChosen (counts gone more frame.stack) kind → IsFirst (FitsFrameKind before frame) frame_kinds kind
  is_first kind chosen = subst (IsFirst (FitsFrameKind before frame) frame_kinds) (sym chosen) (kind_first before frame gone more change)

  with_counts : (kind : FrameKind) → IsChosen (counts gone more frame.stack) kind → IsFrame classes before frame (changed_bytes classes frame (counts gone more frame.stack) more kind)
  with_counts kind chosen = record {
    kind = kind;
    first = is_first kind chosen;
    spelled = sym (bytes_are kind (first_fits (FitsFrameKind before frame) frame_kinds kind (is_first kind chosen)));
  }

  pub is_written : (gone_count more_count : ℕ) → gone_count ≡ length gone → more_count ≡ length more → (kind : FrameKind)
      → IsChosen (record { gone = gone_count; more = more_count; stack = length frame.stack }) kind → {E : Type 0} (r : Result (Unit {0}) E) (old new : List ℕ)
      → OnOk r (new ≡ old ++ changed_bytes classes frame (record { gone = gone_count; more = more_count; stack = length frame.stack }) more kind)
      → OnOk r ((bytes : List ℕ) × (new ≡ old ++ bytes) × IsFrame classes before frame bytes)
  is_written gone_count more_count gone_is more_is kind chosen (Ok done) old new appended =
      let found : Change = record { gone = gone_count; more = more_count; stack = length frame.stack } in
      let same : counts gone more frame.stack ≡ found = λ i. record { gone = sym gone_is i; more = sym more_is i; stack = length frame.stack } in (
        changed_bytes classes frame found more kind,
        appended,
        subst (λ (f : Change). IsFrame classes before frame (changed_bytes classes frame f more kind)) same (with_counts kind (subst (λ (f : Change). IsChosen f kind) (sym same) chosen)),
      )
  is_written gone_count more_count gone_is more_is kind chosen (Err fault) old new appended = tt
