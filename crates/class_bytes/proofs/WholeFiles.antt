-- A class file is read pass by pass.
use Rattle.std.proofs.Common.{◌≡◌, ◌+◌, ◌*◌, ℕ, List, [], ◌∷◌, ◌++◌, length, Result, Ok, Err, inl, refl, sym, subst, ◌∙◌, arith, length-append}
use Rattle.std.specs.List.{flat_map}
use Rattle.class_model.specs.Answers.{Gives, Takes, Tells}
use Rattle.class_model.specs.Checks.{Fault, fault, AllHold, IsFirstFault, asked_of}
use Rattle.class_model.specs.ClassOf.{ClassOf, FirstFault, in_head, behind, IsReadVersion, class_file_checks, entered}
use Rattle.class_model.specs.Cutting.{Rest, Version, version_at, pool_at, class_file_at, uncut, body_at}
use Rattle.class_model.specs.Pool.{Constants}
use Rattle.class_model.specs.Spelling.{u2, u4, u2s, magic, entry_bytes, pool_bytes, field_bytes, method_bytes, attr_bytes, attrs_bytes, class_bytes}
use Rattle.class_model.specs.declared.class_file.ClassFile.{ClassFile}
use Rattle.class_model.specs.declared.fault.ClassFault.{ClassFault}
use Rattle.class_model.specs.declared.fault.ClassFault.TheVariants as faults
use Rattle.class_bytes.specs.Inner.Parts.{behind_len}
use Rattle.class_bytes.specs.Reading.{IsReadOf}
use Rattle.class_bytes.proofs.Bodies.{behind_pool, no_pool}

-- ---- refusals

-- in the magic and version
pub head_refused : (bytes : List ℕ) (after : Rest) (e : ClassFault) → Takes {X = Version} (version_at (uncut bytes)) after (Err e) → IsReadOf bytes (Err e)
head_refused bytes after (faults.Malformed at rule) cut = in_head (fault at rule) cut
head_refused bytes after faults.NoMemory cut = tt
head_refused bytes after (faults.Version major minor) cut = absurd cut

module _ (bytes : List ℕ) (version : Version) (rest : Rest) (head : version_at (uncut bytes) ≡ Ok (version, rest)) (is : IsReadVersion version) where
  cut_refused : (f : Fault) → class_file_at version rest ≡ Err f → FirstFault bytes f
  cut_refused f cut = behind version rest f head is (subst (λ (r : Result ClassFile Fault). IsFirstFault (asked_of r class_file_checks) f) (sym cut) (inl ((λ x. x), refl)))

  -- in the pool
  pub pool_refused : (after : Rest) (e : ClassFault) → Takes {X = Constants} (pool_at version.major rest) after (Err e) → IsReadOf bytes (Err e)
  pool_refused after (faults.Malformed at rule) cut = cut_refused (fault at rule) (no_pool version rest (fault at rule) cut)
  pool_refused after faults.NoMemory cut = tt
  pool_refused after (faults.Version major minor) cut = absurd cut

  module _ (pool : Constants) (after : Rest) (cut : pool_at version.major rest ≡ Ok (pool, after)) where
    -- behind the pool
    pub body_refused : (e : ClassFault) → Gives {X = ClassFile} (body_at version pool after) (Err e) → IsReadOf bytes (Err e)
    body_refused (faults.Malformed at rule) none = cut_refused (fault at rule) (behind_pool version rest pool after cut ∙ none)
    body_refused faults.NoMemory none = tt
    body_refused (faults.Version major minor) none = absurd none

    module _ (class : ClassFile) (whole : body_at version pool after ≡ Ok class) where
      pub is_cut : class_file_at version rest ≡ Ok class
      is_cut = behind_pool version rest pool after cut ∙ whole

      -- in a check
      pub check_refused : {X : Type 0} (Is : X → Type 0) (e : ClassFault) → Tells (class_file_checks class) Is (Err e) → IsReadOf bytes (Err e)
      check_refused Is (faults.Malformed at rule) told =
          behind version rest (fault at rule) head is (subst (λ (r : Result ClassFile Fault). IsFirstFault (asked_of r class_file_checks) (fault at rule)) (sym is_cut) told)
      check_refused Is faults.NoMemory told = tt
      check_refused Is (faults.Version major minor) told = absurd told

      pub is_class : AllHold (class_file_checks class) → (read : ClassFile) → read ≡ entered class → ClassOf bytes read
      is_class holds read same = record { version = version; rest = rest; head = head; is_read = is; cut = class; is_cut = is_cut; holds = holds; is = same }

-- ---- places

u2s_len : (numbers : List ℕ) → length (u2s numbers) ≡ 2 * length numbers
u2s_len [] = refl
u2s_len (number ∷ numbers) = omega (arith, u2s_len numbers, length-append (u2 number) (u2s numbers))

sums : (a b c p f t s i x m r : List ℕ) → length (a ++ b ++ c ++ p ++ f ++ t ++ s ++ i ++ x ++ m ++ r)
    ≡ length a + length b + length c + length p + length f + length t + length s + length i + length x + length m + length r
sums a b c p f t s i x m r = simp length-append

pub class_len : (c : ClassFile) → length (class_bytes c) ≡ 10 + length (flat_map entry_bytes c.pool) + behind_len c
class_len c =
    let interfaces = u2 (length c.interfaces) ++ u2s c.interfaces in
    let fields = u2 (length c.fields) ++ flat_map field_bytes c.fields in
    let methods = u2 (length c.methods) ++ flat_map method_bytes c.methods in
    let all = sums (u4 magic) (u2 c.minor) (u2 c.major) (pool_bytes c.pool) (u2 c.flags) (u2 c.this_class) (u2 c.super_class) interfaces fields methods (attrs_bytes c.attrs) in
    omega (
      arith,
      all,
      u2s_len c.interfaces,
      length-append (u2 (length c.pool)) (flat_map entry_bytes c.pool),
      length-append (u2 (length c.interfaces)) (u2s c.interfaces),
      length-append (u2 (length c.fields)) (flat_map field_bytes c.fields),
      length-append (u2 (length c.methods)) (flat_map method_bytes c.methods),
      length-append (u2 (length c.attrs)) (flat_map attr_bytes c.attrs),
    )
