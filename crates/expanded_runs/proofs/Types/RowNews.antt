-- Behind an instruction no uninitialised object has another number than before it, but that of the instruction itself, if it is a new.
use Rattle.std.proofs.Common.{◌≡◌, ◌≢◌, ◌+◌, ℕ, zero, suc, Bool, true, false, List, [], ◌∷◌, ◌++◌, length, map, drop, replicate, Some, None, option_map, if◌then◌else◌, refl, sym, ap, ◌∙◌, arith}
use Rattle.std.specs.Prelude.{◌==◌}
use Rattle.std.specs.List.{AllByRecursion}
use Rattle.std.proofs.lemmas.Bool.{eqb-true, eq-eqb, ne_eqb}
use Rattle.std.proofs.lemmas.List.{append_cancel_right, length-map, length-replicate}
use Rattle.std.proofs.lemmas.Option.{none-some, same_Some}
use Rattle.class_model.specs.declared.frame.Frame.{Frame}
use Rattle.class_model.specs.declared.frame.VType.{VType}
use Rattle.class_model.specs.declared.frame.VType.TheVariants as types
use Rattle.class_model.specs.declared.instr.Instr.{Instr}
use Rattle.class_model.specs.declared.instr.Instr.TheVariants.{Goto, If, If2, IfNull, IfSame, Iinc, Invoke, Load, Lookup, New, Return, Store, Table}
use Rattle.class_tree.specs.Headers.{Name}
use Rattle.expanded_code.specs.Expanded.{overlaid}
use Rattle.expanded_runs.proofs.Types.PlacedLocals.{HasBlock}
use Rattle.expanded_runs.proofs.Types.PlacedMembers.{IsNoSite, IsWithout, KeepsNews, SameMethod, of_method}
use Rattle.expanded_runs.proofs.Types.PlacedRows.{Moves, frame_moves}
use Rattle.expanded_runs.proofs.Types.PlacedTable.{Stays, placed_instr, row_moves}
use Rattle.expanded_runs.proofs.Types.PlacedTypes.{Place, flat_scope, placed_frame, placed_locals, placed_type}
use Rattle.member_link.specs.BodyTyping.{RowHolds}
use Rattle.member_link.specs.RowScope.{RowScope}
use Rattle.member_link.specs.Rows.MemberRows.{receiver}
use Rattle.member_link.specs.Rows.Row.{Row, access_aside, row_frame}
use Rattle.member_link.specs.Rows.Table.{row_of}

tops_all : (P : VType → Type 0) → P types.Top → (count : ℕ) → AllByRecursion P (replicate count types.Top)
tops_all P top zero = tt
tops_all P top (suc count) = (top, tops_all P top count)

module _ (s : RowScope) (f : Frame) (a : ℕ) (no_locals : IsWithout (types.Uninit a) f.locals) (no_stack : IsWithout (types.Uninit a) f.stack)
    (no_class : s.new_class a ≡ None) where
  -- the frame in two places, which number objects alike but for one
  abbrev earlier : ℕ → ℕ
  earlier zero = zero
  earlier (suc n) = n

  abbrev place : (ℕ → ℕ) → Place
  place number = record {
    number = number;
    site = λ at. None;
    this = None;
    unit = 0;
    below = record { locals = replicate (length f.locals) types.Top; stack = [] };
    scope = s;
    around = record {
      own = s.own;
      is_init = false;
      is_clinit = s.is_clinit;
      result = s.result;
      room = s.max_stack;
      news = λ at. s.new_class (earlier at);
    };
  }

  record Numbers (number : ℕ → ℕ) : Type 0 where
    is : (at : ℕ) → at ≢ a → number at ≡ suc at
    apart : (at : ℕ) → at ≢ a → (other : ℕ) → number other ≡ number at → other ≡ at

  abbrev next : ℕ → ℕ
  next at = suc at

  next_numbers : Numbers next
  next_numbers = record { is = λ at other. refl; apart = λ at other one same. omega (arith, same) }

  abbrev but_one : ℕ → ℕ
  but_one at = if at == a then zero else suc at

  but_one_numbers : Numbers but_one
  but_one_numbers = record { is = there; apart = apart } where
    there : (at : ℕ) → at ≢ a → but_one at ≡ suc at
    there at other = ap (λ (b : Bool). if b then zero else suc at) (ne_eqb at a other)

    apart : (at : ℕ) → at ≢ a → (one : ℕ) → but_one one ≡ but_one at → one ≡ at
    apart at other one same = by (one == a) refl where
      by : (b : Bool) → (one == a) ≡ b → one ≡ at
      by true is =
          let zero_is : but_one one ≡ zero = ap (λ (b : Bool). if b then zero else suc one) is in
          absurd (omega (arith, sym zero_is ∙ same ∙ ap (λ (b : Bool). if b then zero else suc at) (ne_eqb at a other)))
      by false is =
          let suc_is : but_one one ≡ suc one = ap (λ (b : Bool). if b then zero else suc one) is in
          omega (arith, sym suc_is ∙ same ∙ ap (λ (b : Bool). if b then zero else suc at) (ne_eqb at a other))

  no_new : (at : ℕ) (class : Name) → s.new_class at ≡ Some class → at ≢ a
  no_new at class makes same = none-some class (sym no_class ∙ ap s.new_class (sym same) ∙ makes)

  module _ (at : ℕ) (instr : Instr) (other_new : (index : ℕ) → instr ≡ New index → at ≢ a)
      (held : RowHolds s f (access_aside (row_of s f at instr))) where
    module _ (number : ℕ → ℕ) (numbers : Numbers number) where
      p : Place
      p = place number

      same_method : SameMethod (place number)
      same_method = record { own = refl; no_init = refl; result = refl; below = (tops_all _ (λ e. absurd cc) _, tt) }

      numbers_apart : (at : ℕ) → at ≢ a → (other : ℕ) → (number other == number at) ≡ (other == at)
      numbers_apart at differ other = by (other == at) refl where
        by : (b : Bool) → (other == at) ≡ b → (number other == number at) ≡ b
        by true is = eq-eqb (number other) (number at) (ap number (eqb-true other at is))
        by false is = ne_eqb (number other) (number at) (λ same. differs (numbers.apart at differ other same)) where
          differs : other ≡ at → ⊥
          differs same = let yes_is : (other == at) ≡ true = eq-eqb other at same in absurd cc

      keeps : KeepsNews (place number)
      keeps = record {
        apart = λ at class makes other. numbers_apart at (no_new at class makes) other;
        class_kept = λ at class makes none. ap (λ (n : ℕ). s.new_class (earlier n)) (numbers.is at (no_new at class makes)) ∙ makes;
        below = λ at class makes none. (tops_all _ (λ e. absurd cc) _, tt);
      }

      block : HasBlock (place number) f
      block = record {
        within = omega (arith, length-replicate (length f.locals) types.Top);
        narrow = λ before type is found. absurd (omega (arith, is));
      }

      no_site : (type : VType) → IsNoSite (place number) type
      no_site types.UninitThis = refl
      no_site (types.Uninit new) = refl
      no_site other = tt

      stays_as : (i : Instr) → instr ≡ i → Stays (place number) f at i
      stays_as (Return kind) i = same_method
      stays_as (Invoke opcode index count) i = λ special. record {
        initialiser = λ r is is_init. no_site (receiver f r.desc);
        special = λ r is not. same_method;
      }
      stays_as (New index) i = record {
        no_site = refl;
        apart = numbers_apart at (other_new index i);
        below_locals = tops_all _ (λ e. absurd cc) _;
        below_stack = tt;
      }
      stays_as other i = tt

      moved : Moves (place number) f (row_of s f at instr)
          (row_of (flat_scope (place number)) (placed_frame (place number) f) (number at) (placed_instr (place number) instr))
      moved =
          row_moves (place number) f block (of_method same_method refl) keeps at instr (stays_as instr refl) held.local held.further held.operands

      behind_moved : (g : Frame) → row_frame f (row_of s f at instr) ≡ Some g
          → row_frame (placed_frame (place number) f)
          (row_of (flat_scope (place number)) (placed_frame (place number) f) (number at) (placed_instr (place number) instr))
          ≡ Some (placed_frame (place number) g)
      behind_moved g is =
          frame_moves (place number) f (row_of s f at instr)
          (row_of (flat_scope (place number)) (placed_frame (place number) f) (number at) (placed_instr (place number) instr))
          held.operands moved held.local
          ∙ ap (option_map (placed_frame (place number))) is

    -- ---- both places

    same_type : (type : VType) → type ≢ types.Uninit a → placed_type (place next) type ≡ placed_type (place but_one) type
    same_type (types.Uninit at) differ = ap types.Uninit (sym (but_one_numbers.is at (λ same. differ (ap types.Uninit same))))
    same_type other differ = refl

    same_entries : (entries : List VType) → IsWithout (types.Uninit a) entries
        → map (placed_type (place next)) entries ≡ map (placed_type (place but_one)) entries
    same_entries [] none = refl
    same_entries (type ∷ entries) none = rw (same_type type none.0, same_entries entries none.1) refl

    same_frame : placed_frame (place next) f ≡ placed_frame (place but_one) f
    same_frame = λ i. record {
      locals = overlaid 0 (same_entries f.locals no_locals i) (replicate (length f.locals) types.Top);
      stack = same_entries f.stack no_stack i;
    }

    same_row : (h : Frame) (i : Instr) → instr ≡ i
        → row_of (flat_scope (place next)) h (next at) (placed_instr (place next) i)
        ≡ row_of (flat_scope (place but_one)) h (but_one at) (placed_instr (place but_one) i)
    same_row h (New index) i =
        ap (λ (n : ℕ). row_of (flat_scope (place next)) h n (New index)) (sym (but_one_numbers.is at (other_new index i)))
    same_row h (If opcode to) i = refl
    same_row h (If2 opcode to) i = refl
    same_row h (IfSame opcode to) i = refl
    same_row h (IfNull opcode to) i = refl
    same_row h (Goto to) i = refl
    same_row h (Table low other to) i = refl
    same_row h (Lookup other pairs) i = refl
    same_row h (Load kind unit) i = refl
    same_row h (Store kind unit) i = refl
    same_row h (Iinc unit by) i = refl
    same_row h other i = refl

    differs_at : types.Uninit (suc a) ≢ types.Uninit (but_one a)
    differs_at same =
        let numbers : suc a ≡ but_one a = cc in
        omega (arith, numbers ∙ ap (λ (b : Bool). if b then zero else suc a) (eq-eqb a a refl))

    abbrev first_type : List VType → VType
    first_type [] = types.Top
    first_type (type ∷ entries) = type

    abbrev without_rest : List VType → List VType
    without_rest [] = []
    without_rest (type ∷ entries) = entries

    without_if : (entries : List VType) → map (placed_type (place next)) entries ≡ map (placed_type (place but_one)) entries
        → IsWithout (types.Uninit a) entries
    without_if [] same = tt
    without_if (type ∷ entries) same = (
      λ is. differs_at (ap (placed_type (place next)) (sym is) ∙ ap first_type same ∙ ap (placed_type (place but_one)) is),
      without_if entries (ap without_rest same),
    )

    many : (own : List VType) → 0 + length (map (placed_type (place next)) own) ≡ 0 + length (map (placed_type (place but_one)) own)
    many own = ap (λ (n : ℕ). 0 + n) (length-map own (placed_type (place next)) ∙ sym (length-map own (placed_type (place but_one))))

    locals_without : (own : List VType) → placed_locals (place next) own ≡ placed_locals (place but_one) own → IsWithout (types.Uninit a) own
    locals_without own same =
        let below : List VType = replicate (length f.locals) types.Top in
        let rest : List VType = drop (0 + length (map (placed_type (place but_one)) own)) below in
        let one : map (placed_type (place next)) own ++ rest ≡ map (placed_type (place but_one)) own ++ rest =
        ap (λ (n : ℕ). map (placed_type (place next)) own ++ drop n below) (sym (many own)) ∙ same in
        without_if own (append_cancel_right (map (placed_type (place next)) own) (map (placed_type (place but_one)) own) rest one)

    pub row_without : (g : Frame) → row_frame f (row_of s f at instr) ≡ Some g
        → IsWithout (types.Uninit a) g.locals × IsWithout (types.Uninit a) g.stack
    row_without g is =
        let one = behind_moved next next_numbers g is in
        let two = behind_moved but_one but_one_numbers g is in
        let same : placed_frame (place next) g ≡ placed_frame (place but_one) g =
        same_Some (placed_frame (place next) g) (placed_frame (place but_one) g)
        (sym one
        ∙ ap (λ (row : Row). row_frame (placed_frame (place next) f) row) (same_row (placed_frame (place next) f) instr refl)
        ∙ ap (λ (h : Frame). row_frame h (row_of (flat_scope (place but_one)) h (but_one at) (placed_instr (place but_one) instr))) same_frame
        ∙ two) in
        (locals_without g.locals (ap (λ (h : Frame). h.locals) same), without_if g.stack (ap (λ (h : Frame). h.stack) same))
