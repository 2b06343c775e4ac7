-- What a class file is asked holds too where its pool has grown at its end.
use Rattle.std.proofs.Common.{◌≡◌, ℕ, ◌+◌, ◌*◌, List, [], ◌∷◌, ◌++◌, length, Option, Some, None, refl, sym, ap, subst, ◌∙◌}
use Rattle.std.specs.Prelude.{IsTrue}
use Rattle.std.specs.List.{flat_map}
use Rattle.class_model.specs.Checks.{Check, check, Fault, AllHold}
use Rattle.class_model.specs.ClassOf.{class_file_checks, fields_checks, methods_checks, bootstrap_index_checks}
use Rattle.class_model.specs.Laws.Checks.{both_hold, first_holds, others_hold}
use Rattle.class_model.specs.Laws.ClassFiles.{flags_place, fields_place, methods_place, attrs_place}
use Rattle.class_model.specs.Members.{fits_class, class_name_checks, super_checks, interfaces_checks, attrs_checks}
use Rattle.class_model.specs.Methods.{Home, class_attr_checks, bootstrap_count, home_of}
use Rattle.class_model.specs.Pool.{Constants}
use Rattle.class_model.specs.PoolChecks.{class_at, constant_checks, entries_checks}
use Rattle.class_model.specs.Spelling.{constant_bytes}
use Rattle.class_model.specs.declared.class_file.ClassFile.{ClassFile}
use Rattle.class_model.specs.declared.fault.FileRule.TheVariants as rules
use Rattle.class_model.specs.declared.pool.Const.{Const}
use Rattle.class_model.specs.declared.pool.Const.TheVariants.{InvokeDynamic}
use Rattle.class_model.proofs.KeptMembers.{fields_kept, methods_kept, class_attrs_kept, class_attrs_known, count_same}
use Rattle.class_model.proofs.KeptPools.{Keeps, keeps_itself, grown_keeps, entries_kept, dynamics_moved, class_kept, class_name_kept, super_kept, interfaces_kept}

-- ---- nine lists of checks

record NineHold (a b c d e f g h i : List (Check Fault)) : Type 0 where
  pool : AllHold a
  flags : AllHold b
  this_class : AllHold c
  super_class : AllHold d
  interfaces : AllHold e
  fields : AllHold f
  methods : AllHold g
  attrs : AllHold h
  dynamics : AllHold i

apart : (a b c d e f g h i : List (Check Fault)) → AllHold (a ++ b ++ c ++ d ++ e ++ f ++ g ++ h ++ i) → NineHold a b c d e f g h i
apart a b c d e f g h i all =
    let eight = first_holds (a ++ b ++ c ++ d ++ e ++ f ++ g ++ h) i all in
    let seven = first_holds (a ++ b ++ c ++ d ++ e ++ f ++ g) h eight in
    let six = first_holds (a ++ b ++ c ++ d ++ e ++ f) g seven in
    let five = first_holds (a ++ b ++ c ++ d ++ e) f six in
    let four = first_holds (a ++ b ++ c ++ d) e five in
    let three = first_holds (a ++ b ++ c) d four in
    let two = first_holds (a ++ b) c three in
    record {
      pool = first_holds a b two;
      flags = others_hold a b two;
      this_class = others_hold (a ++ b) c three;
      super_class = others_hold (a ++ b ++ c) d four;
      interfaces = others_hold (a ++ b ++ c ++ d) e five;
      fields = others_hold (a ++ b ++ c ++ d ++ e) f six;
      methods = others_hold (a ++ b ++ c ++ d ++ e ++ f) g seven;
      attrs = others_hold (a ++ b ++ c ++ d ++ e ++ f ++ g) h eight;
      dynamics = others_hold (a ++ b ++ c ++ d ++ e ++ f ++ g ++ h) i all;
    }

joined : (a b c d e f g h i : List (Check Fault)) → NineHold a b c d e f g h i → AllHold (a ++ b ++ c ++ d ++ e ++ f ++ g ++ h ++ i)
joined a b c d e f g h i n =
    both_hold (a ++ b ++ c ++ d ++ e ++ f ++ g ++ h) i
    (both_hold (a ++ b ++ c ++ d ++ e ++ f ++ g) h
    (both_hold (a ++ b ++ c ++ d ++ e ++ f) g
    (both_hold (a ++ b ++ c ++ d ++ e) f
    (both_hold (a ++ b ++ c ++ d) e
    (both_hold (a ++ b ++ c) d
    (both_hold (a ++ b) c (both_hold a b n.pool n.flags) n.this_class)
    n.super_class) n.interfaces) n.fields) n.methods) n.attrs) n.dynamics

-- ---- constants behind others, each asked at another place

entries_append : (major : ℕ) (pool : Constants) (at from : ℕ) (entries more : Constants) → AllHold (entries_checks major pool at entries) → AllHold (entries_checks major pool from more) → AllHold (entries_checks major pool at (entries ++ more))
entries_append major pool at from [] more h k = entries_kept (keeps_itself pool) major from at more k
entries_append major pool at from (None ∷ entries) more h k = entries_append major pool at from entries more h k
entries_append major pool at from (Some c ∷ entries) more h k =
    let next = at + length (constant_bytes c) in
    let first = constant_checks major pool at c in
    let rest = entries_checks major pool next entries in
    both_hold first (entries_checks major pool next (entries ++ more)) (first_holds first rest h) (entries_append major pool next from entries more (others_hold first rest h) k)

dynamics_append : (count at from : ℕ) (entries more : Constants) → AllHold (bootstrap_index_checks count at entries) → AllHold (bootstrap_index_checks count from more) → AllHold (bootstrap_index_checks count at (entries ++ more))
dynamics_append count at from [] more h k = dynamics_moved count from at more k
dynamics_append count at from (None ∷ entries) more h k = dynamics_append count at from entries more h k
dynamics_append count at from (Some (InvokeDynamic bootstrap member) ∷ entries) more h k = (h.0, dynamics_append count (at + length (constant_bytes (InvokeDynamic bootstrap member))) from entries more h.1 k)
dynamics_append count at from (Some c ∷ entries) more h k = dynamics_append count (at + length (constant_bytes c)) from entries more h k

-- ---- the class file

abbrev Asked : ClassFile → Type 0
Asked c =
    NineHold (entries_checks c.major c.pool 10 c.pool) (check (flags_place c) rules.Flags (IsTrue (fits_class c.flags)) ∷ [])
    (class_name_checks c.pool (flags_place c + 2) c.this_class) (super_checks c.pool (flags_place c + 4) c.super_class)
    (interfaces_checks c.pool (flags_place c + 8) c.interfaces) (fields_checks c.pool c.flags [] (fields_place c + 2) c.fields)
    (methods_checks (home_of c) [] (methods_place c + 2) c.methods) (attrs_checks (class_attr_checks c.pool) [] (attrs_place c + 2) c.attrs)
    (bootstrap_index_checks (bootstrap_count c.pool c.attrs) 10 c.pool)

asked : (c : ClassFile) → AllHold (class_file_checks c) → Asked c
asked c all = apart _ _ _ _ _ _ _ _ _ all

holds_of : (c : ClassFile) → Asked c → AllHold (class_file_checks c)
holds_of c a = joined _ _ _ _ _ _ _ _ _ a

module _ (c : ClassFile) (more : Constants) (at from : ℕ) (holds : AllHold (class_file_checks c)) where
  abbrev grown : Constants
  grown = c.pool ++ more

  abbrev new : ClassFile
  new = record c { pool = grown }

  parts : Asked c
  parts = asked c holds

  kept : Keeps c.pool grown
  kept = grown_keeps c.major c.pool more 10 parts.pool

  -- the class that the methods stand in
  same_home : record (home_of c) { pool = grown } ≡ home_of new
  same_home = ap (λ (name : Option (List ℕ)). record (home_of new) { name = name }) (sym (class_kept kept c.this_class parts.this_class.0))

  pub grown_holds : AllHold (entries_checks c.major grown at more) → AllHold (bootstrap_index_checks (bootstrap_count c.pool c.attrs) from more) → AllHold (class_file_checks new)
  grown_holds constants dynamics =
      let count = count_same kept c.attrs (class_attrs_known kept (attrs_place c + 2) c.attrs parts.attrs) in
      let methods = methods_kept (home_of c) grown kept [] (methods_place c + 2) (methods_place new + 2) c.methods tt parts.methods in
      holds_of new (record {
        pool = entries_append c.major grown 10 at c.pool more (entries_kept kept c.major 10 10 c.pool parts.pool) constants;
        flags = parts.flags;
        this_class = class_name_kept kept (flags_place c + 2) (flags_place new + 2) c.this_class parts.this_class;
        super_class = super_kept kept (flags_place c + 4) (flags_place new + 4) c.super_class parts.super_class;
        interfaces = interfaces_kept kept (flags_place c + 8) (flags_place new + 8) c.interfaces parts.interfaces;
        fields = fields_kept kept c.flags [] (fields_place c + 2) (fields_place new + 2) c.fields tt parts.fields;
        methods = subst (λ (home : Home). AllHold (methods_checks home [] (methods_place new + 2) c.methods)) same_home methods;
        attrs = class_attrs_kept kept (attrs_place c + 2) (attrs_place new + 2) c.attrs parts.attrs;
        dynamics = subst (λ (n : ℕ). AllHold (bootstrap_index_checks n 10 grown)) (sym count) (dynamics_append (bootstrap_count c.pool c.attrs) 10 from c.pool more parts.dynamics dynamics);
      })
