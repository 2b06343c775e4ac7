-- A header is read pass by pass.
use Rattle.std.proofs.Common.{◌≡◌, ◌+◌, ◌≤◌, ℕ, List, ◌++◌, length, Result, Ok, Err, inl, refl, sym, ap, subst, ◌∙◌, length-append, arith}
use Rattle.std.specs.List.{flat_map}
use Rattle.class_model.specs.Answers.{Answers, Gives, Takes, Tells}
use Rattle.class_model.specs.Checks.{Check, Fault, fault, AllHold, IsFirstFault, asked_of}
use Rattle.class_model.specs.Cutting.{Rest, Version, version_at, pool_at, class_file_at, uncut}
use Rattle.class_model.specs.Header.{FirstHeaderFault, IsLibraryVersion, header_checks, texts_checks}
use Rattle.class_model.specs.Header.FirstHeaderFault.{in_head, behind}
use Rattle.class_model.specs.Laws.Answers.{goes_on, stops}
use Rattle.class_model.specs.Laws.Checks.{both_hold}
use Rattle.class_model.specs.Pool.{Constants}
use Rattle.class_model.specs.Spelling.{u2, entry_bytes, pool_bytes, class_bytes}
use Rattle.class_model.specs.declared.class_file.ClassFile.{ClassFile}
use Rattle.class_model.specs.declared.fault.ClassFault.{ClassFault}
use Rattle.class_model.specs.declared.fault.ClassFault.TheVariants as faults
use Rattle.class_model.specs.declared.header.Header.{Header}
use Rattle.class_bytes.specs.Inner.HeaderParts.{cut_header_at, cut_header, header_len, cut_header_checks, header_in}
use Rattle.class_bytes.specs.Reading.{IsHeaderReadOf}
use Rattle.class_bytes.specs.declared.header_cutting.CutHeader.{CutHeader}
use Rattle.class_bytes.proofs.Bodies.{behind_pool, no_pool}
use Rattle.class_bytes.proofs.HeaderCuts.{Whole, no_body, whole}
use Rattle.class_bytes.proofs.WholeFiles.{class_len}
use Rattle.class_bytes.proofs.HeaderSame.{flags_at, header_within, asked_of_parts, kept_of_parts}

-- the flags stand behind the magic, the version and the pool
pub flags_place : (pool : Constants) (rest after : Rest) → rest.at ≡ 8 → after.at ≡ rest.at + length (pool_bytes pool) → after.at ≡ flags_at pool
flags_place pool rest after eight ends = omega (arith, eight, ends, length-append (u2 (length pool)) (flat_map entry_bytes pool))

-- in the magic and version
pub head_refused : (bytes : List ℕ) (after : Rest) (e : ClassFault) → Takes {X = Version} (version_at (uncut bytes)) after (Err e) → IsHeaderReadOf bytes (Err e)
head_refused bytes after (faults.Malformed at rule) cut = in_head (fault at rule) cut
head_refused bytes after faults.NoMemory cut = tt
head_refused bytes after (faults.Version major minor) cut = absurd cut

module _ (bytes : List ℕ) (version : Version) (rest : Rest) (begins : version_at (uncut bytes) ≡ Ok (version, rest)) (is : IsLibraryVersion version) where
  cut_refused : (f : Fault) → class_file_at version rest ≡ Err f → FirstHeaderFault bytes f
  cut_refused f cut = behind version rest f begins is (subst (λ (r : Result ClassFile Fault). IsFirstFault (asked_of r header_checks) f) (sym cut) (inl ((λ x. x), refl)))

  -- in the pool
  pub pool_refused : (after : Rest) (e : ClassFault) → Takes {X = Constants} (pool_at version.major rest) after (Err e) → IsHeaderReadOf bytes (Err e)
  pool_refused after (faults.Malformed at rule) cut = cut_refused (fault at rule) (no_pool version rest (fault at rule) cut)
  pool_refused after faults.NoMemory cut = tt
  pool_refused after (faults.Version major minor) cut = absurd cut

  module _ (pool : Constants) (after : Rest) (cut : pool_at version.major rest ≡ Ok (pool, after)) where
    -- behind the pool
    pub body_refused : (e : ClassFault) → Gives {X = CutHeader} (cut_header_at after) (Err e) → IsHeaderReadOf bytes (Err e)
    body_refused (faults.Malformed at rule) none = cut_refused (fault at rule) (behind_pool version rest pool after cut ∙ no_body version pool after (fault at rule) none)
    body_refused faults.NoMemory none = tt
    body_refused (faults.Version major minor) none = absurd none

    -- a class file that was cut
    module _ (head : CutHeader) (all : cut_header_at after ≡ Ok head) where
      pub of : Whole version pool after head
      of = whole version pool after head all

      pub is_cut : class_file_at version rest ≡ Ok of.class
      unfolding of
      is_cut = behind_pool version rest pool after cut ∙ of.cut

      -- it stands within the bytes
      pub within : bytes ≡ class_bytes of.class → flags_at pool + header_len head ≤ length bytes
      within spelled =
          let entries : length (flat_map entry_bytes of.class.pool) ≡ length (flat_map entry_bytes pool) = ap (λ (p : Constants). length (flat_map entry_bytes p)) of.pool_is in
          let len : header_len head ≡ header_len (cut_header of.class) = ap header_len of.head_is in
          omega (arith, ap length spelled, class_len of.class, header_within of.class, entries, len)

      abbrev asked : List (Check Fault)
      asked = texts_checks 10 pool ++ cut_header_checks pool (flags_at pool) head

      same_asked : asked ≡ header_checks of.class
      same_asked = asked_of_parts pool head of.class of.pool_is of.head_is

      refused : (e : ClassFault) → Tells asked (λ (header : Header). header ≡ header_in pool head) (Err e) → IsHeaderReadOf bytes (Err e)
      refused (faults.Malformed at rule) told =
          let first : IsFirstFault (header_checks of.class) (fault at rule) = subst (λ (checks : List (Check Fault)). IsFirstFault checks (fault at rule)) same_asked told in
          behind version rest (fault at rule) begins is (subst (λ (r : Result ClassFile Fault). IsFirstFault (asked_of r header_checks) (fault at rule)) (sym is_cut) first)
      refused faults.NoMemory told = tt
      refused (faults.Version major minor) told = absurd told

      abbrev IsHeader : Header → Type 0
      IsHeader header = header ≡ header_in pool head

      -- in a text
      pub text_refused : (e : ClassFault) → Answers {X = Unit {0}} (texts_checks 10 pool) (Err e) → IsHeaderReadOf bytes (Err e)
      text_refused e told = refused e (stops (texts_checks 10 pool) (cut_header_checks pool (flags_at pool) head) (λ (done : Unit {0}). Unit {0}) IsHeader e told)

      -- behind the texts
      pub told : AllHold (texts_checks 10 pool) → (result : Result Header ClassFault) → Tells (cut_header_checks pool (flags_at pool) head) IsHeader result → IsHeaderReadOf bytes result
      told texts (Err e) tells = refused e (goes_on (texts_checks 10 pool) (cut_header_checks pool (flags_at pool) head) IsHeader (Err e) texts tells)
      told texts (Ok header) tells = record {
        version = version;
        rest = rest;
        head = begins;
        is_read = is;
        cut = of.class;
        is_cut = is_cut;
        holds = subst AllHold same_asked (both_hold (texts_checks 10 pool) (cut_header_checks pool (flags_at pool) head) texts tells.0);
        is = tells.1 ∙ kept_of_parts pool head of.class of.pool_is of.head_is;
      }
