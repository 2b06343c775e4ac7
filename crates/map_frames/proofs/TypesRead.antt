-- Numbers and verification types that are written are read back.
use Rattle.std.proofs.Common.{◌≡◌, ℕ, ◌+◌, ◌≤◌, List, [], ◌∷◌, ◌++◌, length, Some, Ok, true, refl, append_assoc, arith, rules}
use Rattle.std.specs.List.{AllByRecursion}
use Rattle.std.proofs.lemmas.Bool.Decides.{nat_tests}
use Rattle.class_model.specs.Checks.{◌>>=◌}
use Rattle.class_model.specs.Cutting.{Rest, Cut}
use Rattle.class_model.specs.Frames.{Setting, is_new_at, verification_type_at, verification_types_at, table_u2_at}
use Rattle.class_model.specs.Laws.Cuts.{u2_front}
use Rattle.class_model.specs.PoolChecks.{class_at}
use Rattle.class_model.specs.Spelling.{u2}
use Rattle.class_model.specs.declared.frame.VType.{VType}
use Rattle.class_model.specs.declared.frame.VType.TheVariants.{Top, Int, Float, Long, Double, Null, UninitThis, Object, Uninit}
use Rattle.map_frames.specs.Inner.Indices.{AreShort}
use Rattle.map_frames.specs.Writing.{FitsType, HasType, type_bytes, types_bytes, index_of, or_zero}
use Rattle.map_frames.specs.declared.writing.NamedIndex.{NamedIndex}

-- These bytes, wherever they stand and whatever follows, are read as a value.
pub record Reads {X : Type 0} (part : Rest → Cut X) (bytes : List ℕ) (x : X) : Type 0 where
  pub read : (at : ℕ) (rest : List ℕ) → (after : ℕ) × (part (record { at = at; bytes = bytes ++ rest }) ≡ Ok (x, record { at = after; bytes = rest }))

-- a part, and then another
pub then_read : {X Y : Type 0} {part : Rest → Cut X} {bytes : List ℕ} {x : X} → Reads part bytes x → (next : X × Rest → Cut Y) (more : List ℕ) (y : Y) → Reads (λ rest. next (x, rest)) more y → Reads (λ rest. part rest >>= next) (bytes ++ more) y
then_read {part = part} {bytes = bytes} {x = x} first next more y second = record {
  read = λ at rest.
      let one = first.read at (more ++ rest) in
      let two = second.read one.0 rest in
      (two.0, rw (append_assoc bytes more rest, one.1) two.1);
}

-- a part, of which a value is made
pub made_read : {X Y : Type 0} {part : Rest → Cut X} {bytes : List ℕ} {x : X} → Reads part bytes x → (make : X → Y) → Reads (λ rest. part rest >>= λ got. Ok (make got.0, got.1)) bytes (make x)
made_read {bytes = bytes} first make = record {
  read = λ at rest.
      let one = first.read at rest in
      (one.0, rw one.1);
}

pub number_read : (n : ℕ) → n ≤ 65535 → Reads table_u2_at (u2 n) n
number_read n h = record { read = λ at rest. (at + 2, grind (arith, nat_tests, u2_front n rest (omega arith))) }

object_read : (s : Setting) (frame index : ℕ) (name : List ℕ) → index ≤ 65535 → class_at s.pool index ≡ Some name → Reads (verification_type_at s frame) (7 ∷ u2 index) (Object name)
object_read s frame index name fits has = record {
  read = λ at rest. (at + 3, grind (arith, nat_tests, u2_front index rest (omega arith)));
}

uninit_read : (s : Setting) (frame at : ℕ) → at ≤ 65535 → is_new_at s.code at ≡ true → Reads (verification_type_at s frame) (8 ∷ u2 at) (Uninit at)
uninit_read s frame new fits has = record {
  read = λ at rest. (at + 3, grind (arith, nat_tests, u2_front new rest (omega arith)));
}

module _ (s : Setting) (classes : List NamedIndex) (short : AreShort classes) (frame : ℕ) where
  pub type_read : (type : VType) → FitsType classes type → HasType s classes type → Reads (verification_type_at s frame) (type_bytes classes type) type
  type_read Top fits has = record { read = λ at rest. (at + 1, search (rules, nat_tests)) }
  type_read Int fits has = record { read = λ at rest. (at + 1, search (rules, nat_tests)) }
  type_read Float fits has = record { read = λ at rest. (at + 1, search (rules, nat_tests)) }
  type_read Long fits has = record { read = λ at rest. (at + 1, search (rules, nat_tests)) }
  type_read Double fits has = record { read = λ at rest. (at + 1, search (rules, nat_tests)) }
  type_read Null fits has = record { read = λ at rest. (at + 1, search (rules, nat_tests)) }
  type_read UninitThis fits has = record { read = λ at rest. (at + 1, search (rules, nat_tests)) }
  type_read (Object name) fits has = object_read s frame (or_zero (index_of classes name)) name (short.short name) has
  type_read (Uninit at) fits has = uninit_read s frame at fits has

  pub types_read : (types : List VType) → AllByRecursion (FitsType classes) types → AllByRecursion (HasType s classes) types
      → Reads (verification_types_at s frame (length types)) (types_bytes classes types) types
  unfolding verification_types_at
  types_read [] fits has = record { read = λ at rest. (at, refl) }
  types_read (type ∷ types) fits has =
      then_read (type_read type fits.0 has.0) _ (types_bytes classes types) (type ∷ types)
      (made_read (types_read types fits.1 has.1) (λ (others : List VType). type ∷ others))
