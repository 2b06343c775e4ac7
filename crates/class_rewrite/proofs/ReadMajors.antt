-- A class file has the version that was read: 50 to 52.
use Rattle.std.proofs.Common.{◌≡◌, ◌≤◌, ◌==◌, ◌∙◌, if◌then◌else◌, inl, inr, ℕ, nat_le, Bool, true, false, List, length, Result, Ok, Err, refl, sym, ap, arith}
use Rattle.std.proofs.lemmas.Bool.{le-leb}
use Rattle.class_model.specs.Checks.{Fault, fault, ◌>>=◌}
use Rattle.class_model.specs.ClassOf.{IsReadVersion}
use Rattle.class_model.specs.Cutting.{Rest, Version, attr_at, body_at, class_file_at, counted_at, field_at, method_at, pool_at, u2_at}
use Rattle.class_model.specs.Pool.{Constants}
use Rattle.class_model.specs.declared.class_file.Attr.{Attr}
use Rattle.class_model.specs.declared.class_file.ClassFile.{ClassFile}
use Rattle.class_model.specs.declared.class_file.Field.{Field}
use Rattle.class_model.specs.declared.class_file.Method.{Method}
use Rattle.class_model.specs.declared.fault.FileRule.TheVariants as rules
use Rattle.class_tree.specs.Headers.{IsClassFile}

made : (b : Bool) (one : ClassFile) (major : ℕ) (other : Fault) → one.major ≡ major
    → (class : ClassFile)
    → (if b then Ok one else Err other) ≡ Ok class
    → class.major ≡ major
made true one major other same class is = let equal : one ≡ class = cc is in sym (ap (λ (c : ClassFile). c.major) equal) ∙ same
made false one major other same class is = absurd cc

through : {A : Type 0} (r : Result A Fault) (f : A → Result ClassFile Fault) (major : ℕ)
    → ((x : A) (class : ClassFile) → f x ≡ Ok class → class.major ≡ major)
    → (class : ClassFile)
    → (r >>= f) ≡ Ok class
    → class.major ≡ major
through (Ok x) f major each class is = each x class is
through (Err e) f major each class is = absurd cc

body_major : (version : Version) (pool : Constants) (rest : Rest) (class : ClassFile) → body_at version pool rest ≡ Ok class → class.major ≡ version.major
body_major version pool rest =
    through {A = ℕ × Rest} (u2_at rest) _ version.major (λ flags.
    through {A = ℕ × Rest} (u2_at flags.1) _ version.major (λ this.
    through {A = ℕ × Rest} (u2_at this.1) _ version.major (λ super.
    through {A = List ℕ × Rest} (counted_at u2_at super.1) _ version.major (λ interfaces.
    through {A = List Field × Rest} (counted_at field_at interfaces.1) _ version.major (λ fields.
    through {A = List Method × Rest} (counted_at method_at fields.1) _ version.major (λ methods.
    through {A = List Attr × Rest} (counted_at attr_at methods.1) _ version.major (λ attrs.
    made (length attrs.1.bytes == 0) (record {
      major = version.major;
      minor = version.minor;
      pool = pool;
      flags = flags.0;
      this_class = this.0;
      super_class = super.0;
      interfaces = interfaces.0;
      fields = fields.0;
      methods = methods.0;
      attrs = attrs.0;
    }) version.major (fault attrs.1.at rules.Extra) refl)))))))

file_major : (version : Version) (rest : Rest) (class : ClassFile) → class_file_at version rest ≡ Ok class → class.major ≡ version.major
file_major version rest = through {A = Constants × Rest} (pool_at version.major rest) _ version.major (λ pool. body_major version pool.0 pool.1)

read_major : (version : Version) → IsReadVersion version → 50 ≤ version.major
read_major version (inl is) = omega (arith, is)
read_major version (inr (inl is)) = omega (arith, is)
read_major version (inr (inr is)) = let e = is.0 in omega (arith, e)

-- It states frames.
pub states_frames : (file : ClassFile) → IsClassFile file → nat_le 50 file.major ≡ true
states_frames file is =
    let same : file.major ≡ is.version.major = ap (λ (c : ClassFile). c.major) is.is ∙ file_major is.version is.rest is.cut is.is_cut in
    let least = read_major is.version is.is_read in
    le-leb 50 file.major (omega (arith, same, least))
