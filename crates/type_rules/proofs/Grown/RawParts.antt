-- The methods of a class file are cut with their attributes as bytes.
use Rattle.std.proofs.Common.{◌≡◌, ◌==◌, ℕ, zero, suc, Bool, true, false, cond, List, [], ◌∷◌, length, None, Ok, Err, refl, subst}
use Rattle.std.specs.List.{AllByRecursion}
use Rattle.class_model.specs.Checks.{Fault, fault}
use Rattle.class_model.specs.Cutting.{Rest, Version, Cut, attr_at, bytes_at, class_file_at, counted_at, entries_at, field_at, many_at, method_at, pool_at, u2_at, u4_at}
use Rattle.class_model.specs.Laws.Cuts.{bind_ok, same_done}
use Rattle.class_model.specs.Pool.{Constants}
use Rattle.class_model.specs.declared.class_file.Attr.{Attr}
use Rattle.class_model.specs.declared.class_file.Attr.TheVariants.{Raw, Code}
use Rattle.class_model.specs.declared.class_file.ClassFile.{ClassFile}
use Rattle.class_model.specs.declared.class_file.Method.{Method}
use Rattle.class_model.specs.declared.fault.FileRule.TheVariants as rules

same_behind : {Y : Type 0} (test : Bool) (d : Fault) (x y : Y) → cond test (Ok x) (Err d) ≡ Ok y → x ≡ y
same_behind true d x y e = cc
same_behind false d x y e = absurd cc

-- What a part cuts has a property.
record Cuts {X : Type 0} (part : Rest → Cut X) (Holds : X → Type 0) : Type 0 where
  each : (rest : Rest) (x : X × Rest) → part rest ≡ Ok x → Holds x.0

many_cut : {X : Type 0} {part : Rest → Cut X} {Holds : X → Type 0} → Cuts part Holds → (count : ℕ) → Cuts (many_at part count) (AllByRecursion Holds)
unfolding many_at
many_cut {X = X} {Holds = Holds} cuts zero = record { each = λ rest x e. subst (λ (y : List X × Rest). AllByRecursion Holds y.0) (same_done ([], rest) x e) tt }
many_cut {X = X} {part = part} {Holds = Holds} cuts (suc count) = record {
  each = λ rest x e.
      let first = bind_ok (part rest) _ x e in
      let others = bind_ok (many_at part count first.0.1) _ x first.2 in
      subst (λ (y : List X × Rest). AllByRecursion Holds y.0) (same_done (first.0.0 ∷ others.0.0, others.0.1) x others.2)
      (cuts.each rest first.0 first.1, (many_cut cuts count).each first.0.1 others.0 others.1);
}

counted_cut : {X : Type 0} {part : Rest → Cut X} {Holds : X → Type 0} → Cuts part Holds → Cuts (counted_at part) (AllByRecursion Holds)
counted_cut cuts = record {
  each = λ rest x e.
      let count = bind_ok (u2_at rest) _ x e in
      (many_cut cuts count.0.0).each count.0.1 x count.2;
}

abbrev pub IsRaw : Attr → Type 0
IsRaw (Raw name bytes) = Unit {0}
IsRaw (Code name part) = ⊥

attr_cut : Cuts attr_at IsRaw
attr_cut = record {
  each = λ rest x e.
      let name = bind_ok (u2_at rest) _ x e in
      let len = bind_ok (u4_at name.0.1) _ x name.2 in
      let content = bind_ok (bytes_at len.0.0 len.0.1) _ x len.2 in
      let attr : Attr = Raw name.0.0 content.0.0 in
      subst (λ (y : Attr × Rest). IsRaw y.0) (same_done (attr, content.0.1) x content.2) tt;
}

abbrev pub AreRaw : Method → Type 0
AreRaw method = AllByRecursion IsRaw method.attrs

method_cut : Cuts method_at AreRaw
method_cut = record {
  each = λ rest x e.
      let flags = bind_ok (u2_at rest) _ x e in
      let name = bind_ok (u2_at flags.0.1) _ x flags.2 in
      let desc = bind_ok (u2_at name.0.1) _ x name.2 in
      let attrs = bind_ok (counted_at attr_at desc.0.1) _ x desc.2 in
      let method : Method = record { flags = flags.0.0; name = name.0.0; desc = desc.0.0; attrs = attrs.0.0 } in
      subst (λ (y : Method × Rest). AreRaw y.0) (same_done (method, attrs.0.1) x attrs.2) ((counted_cut attr_cut).each desc.0.1 attrs.0 attrs.1);
}

-- index 0 of a pool has no constant
pub record BeginsWithNone (pool : Constants) : Type 0 where
  pub others : Constants
  pub is : pool ≡ None ∷ others

pool_cut : (major : ℕ) → Cuts (pool_at major) BeginsWithNone
pool_cut major = record {
  each = λ rest x e.
      let count = bind_ok (u2_at rest) _ x e in
      let some = bind_ok (cond (count.0.0 == 0) (Err (fault rest.at rules.Tag)) (Ok count.0.1)) _ x count.2 in
      let entries = bind_ok (entries_at count.0.0 major 1 count.0.0 some.0) _ x some.2 in
      subst (λ (y : Constants × Rest). BeginsWithNone y.0) (same_done (None ∷ entries.0.0, entries.0.1) x entries.2) (record { others = entries.0.0; is = refl });
}

-- how a class file that was cut stands
pub record IsCutClass (class : ClassFile) : Type 0 where
  pub pool : BeginsWithNone class.pool
  pub methods : AllByRecursion AreRaw class.methods

pub class_cut : (version : Version) (rest : Rest) (class : ClassFile) → class_file_at version rest ≡ Ok class → IsCutClass class
class_cut version rest class e =
    let pool = bind_ok (pool_at version.major rest) _ class e in
    let flags = bind_ok (u2_at pool.0.1) _ class pool.2 in
    let this = bind_ok (u2_at flags.0.1) _ class flags.2 in
    let super = bind_ok (u2_at this.0.1) _ class this.2 in
    let interfaces = bind_ok (counted_at u2_at super.0.1) _ class super.2 in
    let fields = bind_ok (counted_at field_at interfaces.0.1) _ class interfaces.2 in
    let methods = bind_ok (counted_at method_at fields.0.1) _ class fields.2 in
    let attrs = bind_ok (counted_at attr_at methods.0.1) _ class methods.2 in
    subst IsCutClass (same_behind (length attrs.0.1.bytes == 0) (fault attrs.0.1.at rules.Extra) (record {
      major = version.major;
      minor = version.minor;
      pool = pool.0.0;
      flags = flags.0.0;
      this_class = this.0.0;
      super_class = super.0.0;
      interfaces = interfaces.0.0;
      fields = fields.0.0;
      methods = methods.0.0;
      attrs = attrs.0.0;
    }) class attrs.2) (record {
      pool = (pool_cut version.major).each rest pool.0 pool.1;
      methods = (counted_cut method_cut).each fields.0.1 methods.0 methods.1;
    })
