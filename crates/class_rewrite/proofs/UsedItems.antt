-- The fields that emitted items name in the pool of their host are those that the instructions of written code name in their own classes.
use Rattle.std.proofs.Common.{◌≡◌, ◌≢◌, ◌==◌, ◌++◌, ℕ, zero, suc, Bool, true, false, List, [], ◌∷◌, flat_map, map, slice_get, Option, Some, None, option_map, inl, inr, refl, sym, ap, subst, ◌∙◌}
use Rattle.std.proofs.lemmas.Bool.{false≢true}
use Rattle.std.proofs.lemmas.Bool.Decides.{Decides-eqb}
use Rattle.std.proofs.lemmas.Option.{none-some, same_Some}
use Rattle.class_model.specs.Code.{OperandFits}
use Rattle.class_model.specs.Header.{header_of}
use Rattle.class_model.specs.Pool.{Constants, constant_at}
use Rattle.class_model.specs.PoolChecks.{IsFieldConstant}
use Rattle.class_model.specs.declared.class_file.ClassFile.{ClassFile}
use Rattle.class_model.specs.declared.class_file.Method.{Method}
use Rattle.class_model.specs.declared.instr.Instr.{Instr}
use Rattle.class_model.specs.declared.instr.Instr.TheVariants.{GetField, Goto, If, If2, IfNull, IfSame, Invoke, Load, New, PutField, Store}
use Rattle.class_model.specs.declared.opcodes.TheConstants.{INVOKESPECIAL}
use Rattle.class_rewrite.proofs.MeantOps.{field_meant}
use Rattle.class_rewrite.proofs.NeededConstants.{InstrMeant}
use Rattle.class_rewrite.proofs.UsedLists.{in_either, in_left, in_right}
use Rattle.class_rewrite.proofs.WrittenOps.{NamesNone}
use Rattle.class_rewrite.proofs.WrittenPoints.{Sort}
use Rattle.class_tree.specs.Headers.{IsClassFile, Name}
use Rattle.code_layout.specs.PlainItems.{plain_item, plain_items}
use Rattle.code_layout.specs.declared.emitted.EmitItem.{EmitItem}
use Rattle.making_code.specs.Constants.{constructor_needs, index_in, needs_at, needs_class}
use Rattle.making_code.specs.IndexedItems.{IndexedItem}
use Rattle.making_code.specs.IndexedMaking.{index_of_last}
use Rattle.making_code.specs.Items.{WInstr, WItem, ahead, carried, constructs, load, makes, plain, store}
use Rattle.making_code.specs.Laws.GrownPools.{Begins}
use Rattle.making_code.specs.Opposites.{opposite_instr}
use Rattle.making_code.specs.Units.{unit_number}
use Rattle.member_link.specs.Machine.Codes.{instr_op, or_meaningless}
use Rattle.member_link.specs.Machine.Ops.{get_field, meaningless}
use Rattle.member_link.specs.Machine.Programs.{Links}
use Rattle.member_link.specs.Machine.Replaced.{map_numbered}
use Rattle.member_link.specs.References.{Reference}
use Rattle.member_link.specs.RowScope.{RowScope}
use Rattle.member_link.specs.Signatures.{reference_of}
use Rattle.plan_flow.specs.PlanScope.{PlanScope, member_of, pool_of}
use Rattle.plan_flow.specs.Written.Finish.{Finished, finished_items}
use Rattle.plan_flow.specs.Written.WrittenCode.{Form, block_items, in_form, jumping_to, short, target_number, wide, widened, written_items}
use Rattle.plan_flow.specs.Written.WrittenConstants.{carried_instr, indexed_instr, indexed_item, named_index, needs_of_index, with_index}
use Rattle.type_rules.specs.Grown.{AreSameMethods, IsGrownClass, IsGrownHeader, IsGrownOver}

-- ---- instructions that name instance fields

pub data Use : Type 0 where
  puts : ℕ → Use
  gets : ℕ → Use

abbrev pub use_of : Instr → Option Use
use_of (PutField index) = Some (puts index)
use_of (GetField index) = Some (gets index)
use_of instr = None

abbrev pub instr_of : Use → Instr
instr_of (puts index) = PutField index
instr_of (gets index) = GetField index

abbrev pub index_of : Use → ℕ
index_of (puts index) = index
index_of (gets index) = index

abbrev pub at_index : ℕ → Use → Use
at_index index (puts old) = puts index
at_index index (gets old) = gets index

pub use_is : (instr : Instr) (u : Use) → use_of instr ≡ Some u → instr ≡ instr_of u
use_is (PutField index) u is = ap instr_of (same_Some (puts index) u is)
use_is (GetField index) u is = ap instr_of (same_Some (gets index) u is)
use_is instr u is = absurd (none-some u is)

pub use_back : (u : Use) → use_of (instr_of u) ≡ Some u
use_back (puts index) = refl
use_back (gets index) = refl

use_jumps : (numbers : List ℕ) (instr : Instr) → use_of (jumping_to numbers instr) ≡ use_of instr
use_jumps [] (PutField index) = refl
use_jumps (number ∷ numbers) (PutField index) = refl
use_jumps [] instr = refl
use_jumps (number ∷ numbers) instr = refl

use_with : (index : ℕ) (instr : Instr) → use_of (with_index index instr) ≡ option_map (at_index index) (use_of instr)
use_with index (PutField old) = refl
use_with index instr = refl

opposite_none : (instr other : Instr) → opposite_instr instr ≡ Some other → use_of other ≡ None
opposite_none (If opcode to) other is = sym (ap use_of (same_Some _ other is))
opposite_none (If2 opcode to) other is = sym (ap use_of (same_Some _ other is))
opposite_none (IfSame opcode to) other is = sym (ap use_of (same_Some _ other is))
opposite_none (IfNull opcode to) other is = sym (ap use_of (same_Some _ other is))
opposite_none instr other is = absurd (none-some other is)

not_opposite : (u : Use) → opposite_instr (instr_of u) ≡ None
not_opposite (puts index) = refl
not_opposite (gets index) = refl

field_fits : (pool : Constants) (major locals : ℕ) (u : Use) → OperandFits pool major locals (instr_of u) → IsFieldConstant (constant_at pool (index_of u))
field_fits pool major locals (puts index) fits = fits
field_fits pool major locals (gets index) fits = fits

named_is : (u : Use) → named_index (instr_of u) ≡ Some (index_of u)
named_is (puts index) = refl
named_is (gets index) = refl

names_one : (u : Use) → ¬ NamesNone (instr_of u)
names_one (puts index) none = none
names_one (gets index) none = none

at_itself : (u : Use) → at_index (index_of u) u ≡ u
at_itself (puts index) = refl
at_itself (gets index) = refl

index_at : (index : ℕ) (u : Use) → index_of (at_index index u) ≡ index
index_at index (puts old) = refl
index_at index (gets old) = refl

-- ---- an index of the host's own class

same_methods : (methods : List Method) → AreSameMethods methods methods
same_methods [] = tt
same_methods (method ∷ methods) = (record { rest = refl }, same_methods methods)

nothing_behind : {A : Type 0} (xs : List A) → xs ≡ xs ++ []
nothing_behind [] = refl
nothing_behind (x ∷ xs) = ap (λ (rest : List _). x ∷ rest) (nothing_behind xs)

same_read : (one other : Option Reference) → or_meaningless (option_map get_field one) ≡ or_meaningless (option_map get_field other) → one ≡ other
same_read None None same = refl
same_read None (Some r) same = absurd (apart r same) where
  apart : (r : Reference) → meaningless ≡ get_field r → ⊥
  apart r e = cc e
same_read (Some r) None same = absurd (apart r same) where
  apart : (r : Reference) → get_field r ≡ meaningless → ⊥
  apart r e = cc e
same_read (Some one) (Some other) same = ap Some (reads one other same) where
  reads : (one other : Reference) → get_field one ≡ get_field other → one ≡ other
  reads one other e = cc

-- laws of classes that have grown
pub record GrownLaws : Type 0 where
  pub itself : (file : ClassFile) → IsGrownClass file file
  pub header : (old new : ClassFile) → IsClassFile old → IsGrownClass old new → IsGrownHeader (header_of old) (header_of new)
  pub runs : (scope now : RowScope) (old new : ClassFile) (max_locals : ℕ) (instr : Instr) (links : Links) (number : ℕ → ℕ) → IsClassFile old
      → IsGrownClass old new
      → OperandFits old.pool old.major max_locals instr
      → IsGrownOver scope now old.pool new.pool
      → instr_op links number now instr ≡ instr_op links number scope instr

module _ (laws : GrownLaws) (links : Links) (file : ClassFile) (read : IsClassFile file) (pool : Constants) (begins : Begins file.pool pool) where
  abbrev also : ClassFile
  also = record file { pool = pool }

  has_grown : IsGrownClass file also
  has_grown = record {
    more = begins.more;
    pool = begins.is;
    fields = (laws.itself file).fields;
    kept = file.methods;
    added = [];
    methods = nothing_behind file.methods;
    same = same_methods file.methods;
    initialisers = tt;
    rest = refl;
  }

  abbrev scope : RowScope
  scope = record {
    headers = record { folder = []; library = [] };
    pool = file.pool;
    major = file.major;
    own = header_of file;
    is_init = false;
    is_clinit = false;
    result = None;
    max_stack = 0;
    new_class = λ place. None;
  }

  over : IsGrownOver scope (record scope { own = header_of also; pool = pool }) file.pool pool
  over = record {
    headers = record { folder = tt; library = refl };
    own = laws.header file also read has_grown;
    of_pool = refl;
    rest = refl;
  }

  pub own_reference : (index : ℕ) → IsFieldConstant (constant_at file.pool index)
      → reference_of pool (constant_at pool index) ≡ reference_of file.pool (constant_at file.pool index)
  own_reference index fits =
      same_read (reference_of pool (constant_at pool index)) (reference_of file.pool (constant_at file.pool index))
      (laws.runs scope (record scope { own = header_of also; pool = pool }) file also 0 (GetField index) links (λ number. number) read has_grown fits over)

-- ---- an instruction of written code

module _ (s : PlanScope) (constructor : Name → List ℕ) (pool : Constants) (first : constant_at pool 0 ≡ None)
    (own_refers : (file : ClassFile) (index : ℕ) → slice_get s.classes.folder s.flat.host.class ≡ Some file → IsFieldConstant (constant_at file.pool index)
    → reference_of pool (constant_at pool index) ≡ reference_of file.pool (constant_at file.pool index)) where
  -- what it names in the host
  pub record IsNamedIn (class : ℕ) (old new : Use) : Type 0 where
    pub kind : new ≡ at_index (index_of new) old
    pub refers : reference_of pool (constant_at pool (index_of new)) ≡ member_of s class (index_of old)

  pub record IsUsed (one : WInstr) (new : Use) : Type 0 where
    pub class : ℕ
    pub old : Use
    pub is : one ≡ carried class (instr_of old)
    pub named : IsNamedIn class old new

  record Carries (class : ℕ) (old : Use) : Type 0 where
    new : Use
    is : carried_instr s pool class (instr_of old) ≡ instr_of new
    named : IsNamedIn class old new

  foreign_is : (class : ℕ) (old : Use)
      → with_index (index_of_last pool (needs_of_index (pool_of s class) (named_index (instr_of old)))) (instr_of old)
      ≡ instr_of (at_index (index_of_last pool (needs_at (pool_of s class) (index_of old))) old)
  foreign_is class (puts index) = refl
  foreign_is class (gets index) = refl

  named_new : (class index : ℕ) (old : Use) → reference_of pool (constant_at pool index) ≡ member_of s class (index_of old)
      → IsNamedIn class old (at_index index old)
  named_new class index old refers = record {
    kind = ap (λ (n : ℕ). at_index n old) (sym (index_at index old));
    refers = ap (λ (n : ℕ). reference_of pool (constant_at pool n)) (index_at index old) ∙ refers;
  }

  carries : (class : ℕ) (old : Use) → Sort s (carried class (instr_of old)) → InstrMeant s constructor pool (carried class (instr_of old)) → Carries class old
  carries class old sort meant = by (class == s.flat.host.class) refl where
    in_class : pool_of s class ≡ sort.file.pool
    in_class = rw (sort.there) refl

    fits : IsFieldConstant (constant_at sort.file.pool (index_of old))
    fits = field_fits sort.file.pool sort.file.major sort.locals old sort.fits

    by : (own : Bool) → (class == s.flat.host.class) ≡ own → Carries class old
    by true own =
        let same : class ≡ s.flat.host.class = (Decides-eqb class s.flat.host.class).0 own in
        let there : slice_get s.classes.folder s.flat.host.class ≡ Some sort.file =
        subst (λ (n : ℕ). slice_get s.classes.folder n ≡ Some sort.file) same sort.there in
        record {
          new = at_index (index_of old) old;
          is = rw (own) (ap instr_of (sym (at_itself old)));
          named = named_new class (index_of old) old
              (own_refers sort.file (index_of old) there fits
              ∙ ap (λ (p : Constants). reference_of p (constant_at p (index_of old))) (sym in_class));
        }
    by false own =
        let foreign : class ≢ s.flat.host.class = λ same. false≢true (sym own ∙ (Decides-eqb class s.flat.host.class).1 same) in
        let last : ℕ = index_of_last pool (needs_at (pool_of s class) (index_of old)) in
        record {
          new = at_index last old;
          is = rw (own) (foreign_is class old);
          named = named_new class last old
              (field_meant (pool_of s class) (index_of old) pool (meant foreign (index_of old) (named_is old)) first
              (subst (λ (p : Constants). IsFieldConstant (constant_at p (index_of old))) (sym in_class) fits));
        }

  no_use : (class : ℕ) (instr : Instr) → use_of instr ≡ None → use_of (carried_instr s pool class instr) ≡ None
  no_use class instr none = by (class == s.flat.host.class) refl where
    by : (own : Bool) → (class == s.flat.host.class) ≡ own → use_of (carried_instr s pool class instr) ≡ None
    by true own = rw (own) none
    by false own =
        rw (own) (use_with (index_of_last pool (needs_of_index (pool_of s class) (named_index instr))) instr
        ∙ ap (option_map (at_index (index_of_last pool (needs_of_index (pool_of s class) (named_index instr))))) none)

  pub uses : (numbers : List ℕ) (one : WInstr) → Sort s one → InstrMeant s constructor pool one
      → (u : Use) → use_of (jumping_to numbers (indexed_instr s constructor pool one)) ≡ Some u
      → IsUsed one u
  uses numbers (carried class instr) sort meant u is = by (use_of instr) refl where
    plainly : use_of (carried_instr s pool class instr) ≡ Some u
    plainly = sym (use_jumps numbers (carried_instr s pool class instr)) ∙ is

    by : (found : Option Use) → use_of instr ≡ found → IsUsed (carried class instr) u
    by None none = absurd (none-some u (sym (no_use class instr none) ∙ plainly))
    by (Some old) some =
        let same : instr ≡ instr_of old = use_is instr old some in
        let c = carries class old (subst (λ (i : Instr). Sort s (carried class i)) same sort)
        (subst (λ (i : Instr). InstrMeant s constructor pool (carried class i)) same meant) in
        let new : c.new ≡ u =
        same_Some c.new u (sym (use_back c.new) ∙ ap use_of (sym c.is) ∙ ap (λ (i : Instr). use_of (carried_instr s pool class i)) (sym same) ∙ plainly) in
        record { class = class; old = old; is = ap (carried class) same; named = subst (IsNamedIn class old) new c.named }
  uses numbers (plain instr) sort meant u is =
      absurd (names_one u (subst NamesNone (use_is instr u (sym (use_jumps numbers instr) ∙ is)) sort))
  uses numbers (load kind unit) sort meant u is = absurd (none-some u (sym (use_jumps numbers (Load kind (unit_number s.flat unit))) ∙ is))
  uses numbers (store kind unit) sort meant u is = absurd (none-some u (sym (use_jumps numbers (Store kind (unit_number s.flat unit))) ∙ is))
  uses numbers (makes class) sort meant u is = absurd (none-some u (sym (use_jumps numbers (New (index_in pool (needs_class class)))) ∙ is))
  uses numbers (constructs class) sort meant u is =
      absurd (none-some u (sym (use_jumps numbers (Invoke INVOKESPECIAL (index_of_last pool (constructor_needs class (constructor class))) 0)) ∙ is))

  pub record IsUsedSo (class : ℕ) (old : Use) (instr : Instr) : Type 0 where
    pub new : Use
    pub is : instr ≡ instr_of new
    pub named : IsNamedIn class old new

  pub used_so : (numbers : List ℕ) (one : WInstr) → Sort s one → InstrMeant s constructor pool one
      → (class : ℕ) (old : Use) → one ≡ carried class (instr_of old)
      → IsUsedSo class old (jumping_to numbers (indexed_instr s constructor pool one))
  used_so numbers one sort meant class old is =
      let c = carries class old (subst (Sort s) is sort) (subst (InstrMeant s constructor pool) is meant) in
      let indexed : indexed_instr s constructor pool one ≡ instr_of c.new = ap (indexed_instr s constructor pool) is ∙ c.is in
      let found : use_of (jumping_to numbers (indexed_instr s constructor pool one)) ≡ Some c.new =
      use_jumps numbers (indexed_instr s constructor pool one) ∙ ap use_of indexed ∙ use_back c.new in
      record { new = c.new; is = use_is (jumping_to numbers (indexed_instr s constructor pool one)) c.new found; named = c.named }

-- ---- items and what they are written from

module _ (s : PlanScope) (constructor : Name → List ℕ) (pool : Constants) (form : Form) (blocks : List Finished) where
  pub record IsFrom (item : EmitItem) (one : WItem) : Type 0 where
    pub numbers : List ℕ
    pub is : item.instr ≡ jumping_to numbers (indexed_instr s constructor pool one.instr)

  from : (place : ℕ) (item : EmitItem) (one : WItem) → plain_item item ≡ indexed_item s constructor pool form blocks place one → IsFrom item one
  from place item one same = record { numbers = map (target_number form blocks place) one.targets; is = ap (λ (i : IndexedItem). i.instr) same }

  nothing : {A : Type 0} {x : A} {xs : List A} → [] ≡ x ∷ xs → ⊥
  nothing e = cc e

  head_is : {A : Type 0} {x y : A} {xs ys : List A} → x ∷ xs ≡ y ∷ ys → x ≡ y
  head_is e = cc e

  tail_is : {A : Type 0} {x y : A} {xs ys : List A} → x ∷ xs ≡ y ∷ ys → xs ≡ ys
  tail_is e = cc e

  pub written_from : (place : ℕ) (items : List EmitItem) (ones : List WItem)
      → plain_items items ≡ map_numbered (indexed_item s constructor pool form blocks) place ones
      → (k : ℕ) (item : EmitItem) → slice_get items k ≡ Some item
      → (one : WItem) × (slice_get ones k ≡ Some one) × IsFrom item one
  written_from place [] ones same k item is = absurd (none-some item is)
  written_from place (first ∷ items) [] same k item is = absurd (nothing (sym same))
  written_from place (first ∷ items) (one ∷ ones) same zero item is =
      (one, refl, subst (λ (i : EmitItem). IsFrom i one) (same_Some first item is) (from place first one (head_is same)))
  written_from place (first ∷ items) (one ∷ ones) same (suc k) item is = written_from (suc place) items ones (tail_is same) k item is

  pub emitted_from : (place : ℕ) (items : List EmitItem) (ones : List WItem)
      → plain_items items ≡ map_numbered (indexed_item s constructor pool form blocks) place ones
      → (k : ℕ) (one : WItem) → slice_get ones k ≡ Some one
      → (item : EmitItem) × (slice_get items k ≡ Some item) × IsFrom item one
  emitted_from place items [] same k one is = absurd (none-some one is)
  emitted_from place [] (first ∷ ones) same k one is = absurd (nothing same)
  emitted_from place (item ∷ items) (first ∷ ones) same zero one is =
      (item, refl, subst (IsFrom item) (same_Some first one is) (from place item first (head_is same)))
  emitted_from place (item ∷ items) (first ∷ ones) same (suc k) one is = emitted_from (suc place) items ones (tail_is same) k one is

-- ---- the two forms

module _ (class : ℕ) (old : Use) where
  abbrev Is : WItem → Type 0
  Is one = one.instr ≡ carried class (instr_of old)

  pub record Has (ones : List WItem) : Type 0 where
    pub place : ℕ
    pub one : WItem
    pub there : slice_get ones place ≡ Some one
    pub is : one.instr ≡ carried class (instr_of old)

  has_left : (xs ys : List WItem) → Has xs → Has (xs ++ ys)
  has_left xs ys has = let at = in_left xs ys has.place has.one has.there in record { place = at.0; one = has.one; there = at.1; is = has.is }

  has_right : (xs ys : List WItem) → Has ys → Has (xs ++ ys)
  has_right xs ys has = let at = in_right xs ys has.place has.one has.there in record { place = at.0; one = has.one; there = at.1; is = has.is }

  has_either : {P : Type 0} (xs ys : List WItem) → (Has xs → P) → (Has ys → P) → Has (xs ++ ys) → P
  has_either xs ys left right has = elim (in_either xs ys has.place has.one has.there) [
    | inl at ↦ left (record { place = at.0; one = has.one; there = at.1; is = has.is })
    | inr at ↦ right (record { place = at.0; one = has.one; there = at.1; is = has.is })
  ]

  has_none : ¬ Has []
  has_none has = none-some has.one has.there

  alone : (one : WItem) → Is one → Has (one ∷ [])
  alone one is = record { place = 0; one = one; there = refl; is = is }

  of_alone : (one : WItem) (place : ℕ) (found : WItem) → slice_get (one ∷ []) place ≡ Some found → Is found → Is one
  of_alone one zero found there is = ap (λ (o : WItem). o.instr) (same_Some one found there) ∙ is
  of_alone one (suc place) found there is = absurd (none-some found there)

  to_wide : (one : WItem) → Is one → Has (widened one)
  to_wide one is =
      let single : widened one ≡ one ∷ [] = rw (is, not_opposite old) refl in
      subst Has (sym single) (alone one is)

  from_wide : (one : WItem) → Has (widened one) → Is one
  from_wide one has = by one.instr refl where
    single : widened one ≡ one ∷ [] → Is one
    single same = of_alone one has.place has.one (sym (ap (λ (l : List WItem). slice_get l has.place) same) ∙ has.there) has.is

    other_one : (c : ℕ) (other : Instr) → use_of other ≡ None → carried c other ≡ carried class (instr_of old) → ⊥
    other_one c other none same =
        none-some old (sym none ∙ ap use_of (inner c other (instr_of old) same) ∙ use_back old) where
          inner : (c : ℕ) (other also : Instr) → carried c other ≡ carried class also → other ≡ also
          inner c other also e = cc

    not_plain : (instr also : Instr) → plain instr ≡ carried class also → ⊥
    not_plain instr also e = cc e

    two : (c : ℕ) (other : Instr) → use_of other ≡ None → (jump far : WItem) → jump.instr ≡ carried c other → far.instr ≡ plain (Goto 0)
        → (place : ℕ) (found : WItem) → slice_get (jump ∷ far ∷ []) place ≡ Some found → Is found → ⊥
    two c other none jump far of_jump of_far zero found there same =
        other_one c other none (sym of_jump ∙ ap (λ (o : WItem). o.instr) (same_Some jump found there) ∙ same)
    two c other none jump far of_jump of_far (suc zero) found there same =
        not_plain (Goto 0) (instr_of old) (sym of_far ∙ ap (λ (o : WItem). o.instr) (same_Some far found there) ∙ same)
    two c other none jump far of_jump of_far (suc (suc place)) found there same = none-some found there

    by : (instr : WInstr) → one.instr ≡ instr → Is one
    by (carried c instr) is = opposed (opposite_instr instr) refl where
      opposed : (other : Option Instr) → opposite_instr instr ≡ other → Is one
      opposed None none = single (rw (is, none) refl)
      opposed (Some other) some =
          let jump : WItem = record { instr = carried c other; targets = ahead 2 ∷ []; catches = [] } in
          let far : WItem = record { instr = plain (Goto 0); targets = one.targets; catches = [] } in
          let wide_is : widened one ≡ jump ∷ far ∷ [] = rw (is, some) refl in
          absurd (two c other (opposite_none instr other some) jump far refl refl has.place has.one
          (sym (ap (λ (l : List WItem). slice_get l has.place) wide_is) ∙ has.there) has.is)
    by (plain instr) is = single (rw (is) refl)
    by (load kind unit) is = single (rw (is) refl)
    by (store kind unit) is = single (rw (is) refl)
    by (makes name) is = single (rw (is) refl)
    by (constructs name) is = single (rw (is) refl)

  form_to : (form : Form) (items : List WItem) → Has items → Has (in_form form items)
  form_to short items has = has
  form_to wide [] has = absurd (has_none has)
  form_to wide (one ∷ items) has =
      has_either (one ∷ []) items
      (λ single. has_left (widened one) (flat_map widened items) (to_wide one (of_alone one single.place single.one single.there single.is)))
      (λ rest. has_right (widened one) (flat_map widened items) (form_to wide items rest)) has

  form_from : (form : Form) (items : List WItem) → Has (in_form form items) → Has items
  form_from short items has = has
  form_from wide [] has = absurd (has_none has)
  form_from wide (one ∷ items) has =
      has_either (widened one) (flat_map widened items)
      (λ left. has_left (one ∷ []) items (alone one (from_wide one left)))
      (λ right. has_right (one ∷ []) items (form_from wide items right)) has

  pub to_form : (form : Form) (blocks : List Finished) → Has (written_items short blocks) → Has (written_items form blocks)
  to_form form [] has = has
  to_form form (block ∷ blocks) has =
      has_either (finished_items block) (written_items short blocks)
      (λ left. has_left (block_items form block) (written_items form blocks) (form_to form (finished_items block) left))
      (λ right. has_right (block_items form block) (written_items form blocks) (to_form form blocks right)) has

  pub from_form : (form : Form) (blocks : List Finished) → Has (written_items form blocks) → Has (written_items short blocks)
  from_form form [] has = has
  from_form form (block ∷ blocks) has =
      has_either (block_items form block) (written_items form blocks)
      (λ left. has_left (finished_items block) (written_items short blocks) (form_from form (finished_items block) left))
      (λ right. has_right (finished_items block) (written_items short blocks) (from_form form blocks right)) has
