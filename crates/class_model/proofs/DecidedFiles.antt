-- Bytes whose version and checks are decided have a value, or are of a version that is not read, or have a first fault.
use Rattle.std.proofs.Common.{◌≡◌, ◌⊎◌, inl, inr, ℕ, List, Result, Ok, Err, refl, subst, sym}
use Rattle.class_model.specs.Checks.{Check, Fault, AllHold, IsFirstFault, asked_of}
use Rattle.class_model.specs.Cutting.{Rest, Cut, Version, version_at, class_file_at, uncut}
use Rattle.class_model.specs.Laws.Decisions.{Decision}
use Rattle.class_model.specs.declared.class_file.ClassFile.{ClassFile}
use Rattle.class_model.proofs.Decisions.{AllDecided, settled}

-- which versions are read, what is asked of a file, and what each of the three cases gives
module _ (bytes : List ℕ)
    (IsRead : Version → Type 0) (read : (version : Version) → Decision (IsRead version))
    (checks : ClassFile → List (Check Fault)) (decided : (c : ClassFile) → AllDecided (checks c))
    (Value Other : Type 0) (First : Fault → Type 0)
    (value : (version : Version) (rest : Rest) (cut : ClassFile) → version_at (uncut bytes) ≡ Ok (version, rest) → IsRead version → class_file_at version rest ≡ Ok cut → AllHold (checks cut) → Value)
    (other : (version : Version) (rest : Rest) → version_at (uncut bytes) ≡ Ok (version, rest) → ¬ IsRead version → Other)
    (in_head : (f : Fault) → version_at (uncut bytes) ≡ Err f → First f)
    (behind : (version : Version) (rest : Rest) (f : Fault) → version_at (uncut bytes) ≡ Ok (version, rest) → IsRead version → IsFirstFault (asked_of (class_file_at version rest) checks) f → First f) where
  abbrev Told : Type 0
  Told = Value ⊎ (Other ⊎ ((f : Fault) × First f))

  first_told : (version : Version) (rest : Rest) → version_at (uncut bytes) ≡ Ok (version, rest) → IsRead version → (r : Result ClassFile Fault) → class_file_at version rest ≡ r → (f : Fault) → IsFirstFault (asked_of r checks) f → Told
  first_told version rest head is_read r e f first =
      inr (inr (f, behind version rest f head is_read (subst (λ (r : Result ClassFile Fault). IsFirstFault (asked_of r checks) f) (sym e) first)))

  cut_told : (version : Version) (rest : Rest) → version_at (uncut bytes) ≡ Ok (version, rest) → IsRead version → (r : Result ClassFile Fault) → class_file_at version rest ≡ r → Told
  cut_told version rest head is_read (Ok cut) e = elim (settled (checks cut) (decided cut)) [
    | inl holds ↦ inl (value version rest cut head is_read e holds)
    | inr first ↦ first_told version rest head is_read (Ok cut) e first.0 first.1
  ]
  cut_told version rest head is_read (Err f) e = first_told version rest head is_read (Err f) e f (inl (λ h. h, refl))

  head_told : (r : Cut Version) → version_at (uncut bytes) ≡ r → Told
  head_told (Ok head) e = elim (read head.0) [
    | inl is_read ↦ cut_told head.0 head.1 e is_read (class_file_at head.0 head.1) refl
    | inr not ↦ inr (inl (other head.0 head.1 e not))
  ]
  head_told (Err f) e = inr (inr (f, in_head f e))

  pub told_as : Told
  told_as = head_told (version_at (uncut bytes)) refl
