-- An instruction of so many bytes is read where there are so many, and only there.
use Rattle.std.proofs.Common.{◌≡◌, ℕ, ◌≤◌, ltb, Bool, true, false, cond, List, length, Ok, Err, refl, ap}
use Rattle.std.proofs.lemmas.Bool.{le-ltb, ltb-false}
use Rattle.class_model.specs.Checks.{Fault, fault}
use Rattle.class_model.specs.declared.fault.FileRule.TheVariants as rules
use Rattle.class_model.specs.Instructions.{Read, sized, sized_if}
use Rattle.class_model.specs.declared.instr.Instr.{Instr}

pub sized_long : (at : ℕ) (bytes : List ℕ) (len : ℕ) (instr : Instr) → len ≤ length bytes → sized at bytes len instr ≡ Ok (instr, len)
sized_long at bytes len instr h = let e = le-ltb (length bytes) len h in rw e

pub sized_if_long : (allowed : Bool) (at : ℕ) (bytes : List ℕ) (len : ℕ) (instr : Instr) → allowed ≡ true → len ≤ length bytes → sized_if allowed at bytes len instr ≡ Ok (instr, len)
sized_if_long allowed at bytes len instr is_allowed h = let e = le-ltb (length bytes) len h in rw (e, is_allowed)

-- a fault where a test holds
pub not_fault : (test : Bool) (f : Fault) (read : Read) (got : Instr × ℕ) → cond test (Err f) read ≡ Ok got → (test ≡ false) × (read ≡ Ok got)
not_fault true f read got e = absurd (cc)
not_fault false f read got e = (refl, e)

-- a fault where a test fails
pub not_other_fault : (test : Bool) (f : Fault) (read : Read) (got : Instr × ℕ) → cond test read (Err f) ≡ Ok got → (test ≡ true) × (read ≡ Ok got)
not_other_fault true f read got e = (refl, e)
not_other_fault false f read got e = absurd (cc)

pub no_fault : (test : Bool) (f : Fault) (read : Read) → test ≡ false → cond test (Err f) read ≡ read
no_fault test f read e = rw e

-- what was read, of how many bytes
pub record IsRead (bytes : List ℕ) (len : ℕ) (made instr : Instr) (count : ℕ) : Type 0 where
  pub long : len ≤ length bytes
  pub made_is : instr ≡ made
  pub count_is : count ≡ len

pub ok_parts : (a b : Instr × ℕ) (read : Read) → read ≡ Ok a → read ≡ Ok b → (b.0 ≡ a.0) × (b.1 ≡ a.1)
ok_parts a b read d e = let same : b ≡ a = cc in (ap (λ (r : Instr × ℕ). r.0) same, ap (λ (r : Instr × ℕ). r.1) same)

pub sized_is : (at : ℕ) (bytes : List ℕ) (len : ℕ) (made instr : Instr) (count : ℕ) → sized at bytes len made ≡ Ok (instr, count) → IsRead bytes len made instr count
sized_is at bytes len made instr count e =
    let read = not_fault _ _ _ _ e in
    let parts = ok_parts (made, len) (instr, count) (Ok (made, len)) refl read.1 in
    record { long = ltb-false _ _ read.0; made_is = parts.0; count_is = parts.1 }

pub sized_if_is : (allowed : Bool) (at : ℕ) (bytes : List ℕ) (len : ℕ) (made instr : Instr) (count : ℕ) → sized_if allowed at bytes len made ≡ Ok (instr, count) → (allowed ≡ true) × IsRead bytes len made instr count
sized_if_is true at bytes len made instr count e = (refl, sized_is at bytes len made instr count e)
sized_if_is false at bytes len made instr count e =
    let faulty : ◌≡◌ {A = Read} (Err (fault at rules.Operand)) (Ok (instr, count)) = (not_fault (ltb (length bytes) len) (fault at rules.Operand) (Err (fault at rules.Operand)) (instr, count) e).1 in
    absurd (cc)
