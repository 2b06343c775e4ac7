-- The uninitialised objects of a method that stands in flat code: those of its callers have other numbers than what it makes.
use Rattle.std.proofs.Common.{◌≡◌, ◌≢◌, ◌+◌, ◌-◌, ◌≤◌, ◌<◌, ℕ, zero, suc, false, List, [], ◌∷◌, ◌++◌, length, map, take, drop, replicate, slice_get, Some, refl, sym, ap, subst, ◌∙◌, arith, ◌⊎◌, inl, inr}
use Rattle.std.specs.List.{AllByRecursion}
use Rattle.std.proofs.lemmas.Option.{same_Some, slice_get_within}
use Rattle.class_model.specs.declared.class_file.MethodAt.{MethodAt}
use Rattle.class_model.specs.declared.frame.Frame.{Frame}
use Rattle.class_model.specs.declared.frame.VType.{VType}
use Rattle.class_model.specs.declared.frame.VType.TheVariants as types
use Rattle.class_model.specs.declared.instr.Instr.TheVariants.{Invoke, New}
use Rattle.class_model.specs.declared.instr.Placed.{Placed}
use Rattle.class_tree.specs.Headers.{Classes}
use Rattle.expanded_code.specs.Expanded.{arguments, callee_of, host_setting, overlaid, points_before, points_of_callee, set_frame, set_type}
use Rattle.expanded_code.specs.Expansions.{Coded, Expansion}
use Rattle.expanded_code.specs.Sites.{HasFrames}
use Rattle.expanded_runs.proofs.Runs.PositionLaws.{last_start, next_start, start_least, start_most, width}
use Rattle.expanded_runs.proofs.Runs.Positions.{Becomes, IsReplacedAt, Standing, block_of, frames_of, inner_standing, instrs_of, scope_of, start_of}
use Rattle.expanded_runs.proofs.Runs.Standings.{IsStanding, Stands, callee_stands, host_stands}
use Rattle.expanded_runs.proofs.Types.FlatPlaces.{IsHostSetting, tops_without}
use Rattle.expanded_runs.proofs.Types.InstrStarts.{Order, before, behind, order_of, same, start_less}
use Rattle.expanded_runs.proofs.Types.OwnPoints.{TypingLaws}
use Rattle.expanded_runs.proofs.Types.PlacedMembers.{IsWithout}
use Rattle.expanded_runs.proofs.Types.StandingPlaces.{callee_here, host_scope_is, replaced_is_call, start_number}
use Rattle.flow_code.specs.TypedFrames.{FolderFrames}
use Rattle.member_link.specs.Rows.Operands.{lowest_of, topmost, under}
use Rattle.member_link.specs.Scope.{Scope, instructions, is_init, scope_at}

-- ---- news

-- a new stands at an offset
pub record MadeAt (s : Scope) (at : ℕ) : Type 0 where
  pub number : ℕ
  pub placed : Placed
  pub is : slice_get (instructions s) number ≡ Some placed
  pub offset : placed.at ≡ at
  pub index : ℕ
  pub instr : placed.instr ≡ New index

abbrev pub IsMadeIn : Scope → VType → Type 0
IsMadeIn s type = (at : ℕ) → type ≡ types.Uninit at → MadeAt s at

-- The uninitialised objects of frames are those of news.
abbrev pub NamesNews : Classes → FolderFrames → Type 0
NamesNews classes typed =
    (at : MethodAt) (s : Scope) (frames : List Frame)
    → HasFrames classes typed at s frames
    → (k : ℕ) (frame : Frame)
    → slice_get frames k ≡ Some frame
    → AllByRecursion (IsMadeIn s) frame.locals × AllByRecursion (IsMadeIn s) frame.stack

-- ---- lists

module _ (P : VType → Type 0) where
  pub all_joined : (ones others : List VType) → AllByRecursion P ones → AllByRecursion P others → AllByRecursion P (ones ++ others)
  all_joined [] others all also = also
  all_joined (one ∷ ones) others all also = (all.0, all_joined ones others all.1 also)

  pub all_taken : (count : ℕ) (entries : List VType) → AllByRecursion P entries → AllByRecursion P (take count entries)
  all_taken zero entries all = tt
  all_taken (suc count) [] all = tt
  all_taken (suc count) (entry ∷ entries) all = (all.0, all_taken count entries all.1)

  pub all_dropped : (count : ℕ) (entries : List VType) → AllByRecursion P entries → AllByRecursion P (drop count entries)
  all_dropped zero entries all = all
  all_dropped (suc count) [] all = tt
  all_dropped (suc count) (entry ∷ entries) all = all_dropped count entries all.1

  pub all_laid : (unit : ℕ) (own entries : List VType) → AllByRecursion P own → AllByRecursion P entries → AllByRecursion P (overlaid unit own entries)
  all_laid unit own entries all also =
      all_joined (take unit entries ++ own) (drop (unit + length own) entries)
      (all_joined (take unit entries) own (all_taken unit entries also) all) (all_dropped (unit + length own) entries also)

  pub of_lowest : P types.Top → (count : ℕ) (entries : List VType) → AllByRecursion P entries → P (lowest_of count entries)
  of_lowest top count entries all = by (topmost count entries) refl where
    by : (found : List VType) → topmost count entries ≡ found → P (lowest_of count entries)
    by [] is = rw (is) top
    by (first ∷ rest) is =
        let own = subst (AllByRecursion P) is (all_dropped (length entries - count) entries all) in
        rw (is) own.0

  pub all_same : (count : ℕ) (type : VType) → P type → AllByRecursion P (replicate count type)
  all_same zero type is = tt
  all_same (suc count) type is = (is, all_same count type is)

all_mapped : (P Q : VType → Type 0) (f : VType → VType) → ((type : VType) → P type → Q (f type)) → (entries : List VType)
    → AllByRecursion P entries → AllByRecursion Q (map f entries)
all_mapped P Q f goes [] all = tt
all_mapped P Q f goes (entry ∷ entries) all = (goes entry all.0, all_mapped P Q f goes entries all.1)

all_any : (P Q : VType → Type 0) → ((type : VType) → P type → Q type) → (entries : List VType) → AllByRecursion P entries → AllByRecursion Q entries
all_any P Q goes [] all = tt
all_any P Q goes (entry ∷ entries) all = (goes entry all.0, all_any P Q goes entries all.1)

-- ---- the host, and numbers

module _ (laws : TypingLaws) {classes : Classes} {typed : FolderFrames} (host : Coded) (e : Expansion)
    (stands : (chain : List MethodAt) (p : Standing) → IsStanding host e chain p → Stands classes typed host e chain p)
    (s : Scope) (is_host : scope_at classes host.at ≡ Some s) (no_init : is_init s ≡ false) where
  -- the host's setting
  pub host_setting_is : IsHostSetting s (host_setting host e)
  host_setting_is = record {
    scope_is = host_scope_is laws host e stands s is_host;
    no_init = no_init;
    this = refl;
    below_locals = tops_without _;
    below_stack = tt;
  }

  -- ---- numbers

  -- a type names no object of a number in a range
  abbrev IsOutside : ℕ → ℕ → VType → Type 0
  IsOutside low high type = (n : ℕ) → type ≡ types.Uninit n → (n < low) ⊎ (high ≤ n)

  abbrev end_of : Standing → ℕ
  end_of p = start_of p (length (instrs_of p))

  record IsApart (p : Standing) : Type 0 where
    locals : AllByRecursion (IsOutside p.first (start_of p (length (instrs_of p)))) p.setting.below.locals
    stack : AllByRecursion (IsOutside p.first (start_of p (length (instrs_of p)))) p.setting.below.stack
    this : IsOutside p.first (start_of p (length (instrs_of p))) p.setting.this

  narrower : (low high least most : ℕ) → low ≤ least → most ≤ high → (type : VType) → IsOutside low high type → IsOutside least most type
  narrower low high least most one other type is n named = elim (is n named) [
    | inl less ↦ inl (omega (arith, less, one))
    | inr more ↦ inr (omega (arith, more, other))
  ]

  module _ (made : NamesNews classes typed) where
    module _ {chain : List MethodAt} {p : Standing} (standing : IsStanding host e chain p) (k : ℕ) (placed : Placed) (frame : Frame)
        (g : Coded) (inner : Expansion) (here : IsReplacedAt p k placed frame g inner) (earlier : IsApart p) where
      abbrev low : ℕ
      low = start_of p k + points_before g.scope

      abbrev high : ℕ
      high = start_of p (suc k)

      least : p.first ≤ low
      least = omega (arith, start_least (callee_of p.setting) p.first (instrs_of p) p.expansion k)

      most : high ≤ end_of p
      most =
          omega (
            arith,
            start_most (callee_of p.setting) p.first (instrs_of p) p.expansion (suc k),
            last_start (callee_of p.setting) p.first (instrs_of p) p.expansion,
          )

      within_here : (type : VType) → IsOutside p.first (end_of p) type → IsOutside low high type
      within_here type = narrower p.first (end_of p) low high least most type

      no_new : (index : ℕ) → placed.instr ≢ New index
      no_new index new =
          let call = callee_here laws host e stands s is_host standing here in
          let invoke = replaced_is_call laws host e stands s is_host standing k placed here.is g.at call.replaced in
          let same : New index ≡ Invoke invoke.0 invoke.1 invoke.2 = sym new ∙ invoke.3 in
          absurd cc

      new_outside : (at : ℕ) → MadeAt (scope_of p) at → (p.setting.number at < low) ⊎ (high ≤ p.setting.number at)
      new_outside at new = by (order_of new.number k) where
        number : p.setting.number at ≡ start_of p new.number
        number = ap p.setting.number (sym new.offset) ∙ start_number laws host e stands s is_host standing new.number new.placed new.is

        fits : new.number ≤ length (instrs_of p)
        fits = omega (arith, slice_get_within (instrs_of p) new.number new.placed new.is)

        fits_k : k ≤ length (instrs_of p)
        fits_k = omega (arith, slice_get_within (instrs_of p) k placed here.is)

        by : Order new.number k → (p.setting.number at < low) ⊎ (high ≤ p.setting.number at)
        by (before less) =
            inl (omega (arith, number, start_less (callee_of p.setting) p.first (stands chain p standing).fits new.number k less fits_k))
        by (same is) =
            let equal : new.placed ≡ placed =
            same_Some new.placed placed (sym new.is ∙ ap (slice_get (instrs_of p)) is ∙ here.is) in
            absurd (no_new new.index (sym (ap (λ (x : Placed). x.instr) equal) ∙ new.instr))
        by (behind more) = later (order_of (suc k) new.number) where
          later : Order (suc k) new.number → (p.setting.number at < low) ⊎ (high ≤ p.setting.number at)
          later (before less) =
              inr (omega (
                arith,
                number,
                start_less (callee_of p.setting) p.first (stands chain p standing).fits (suc k) new.number less fits,
              ))
          later (same is) = inr (omega (arith, number, ap (start_of p) is))
          later (behind much) = absurd (omega (arith, more, much))

      set_outside : (type : VType) → IsMadeIn (scope_of p) type → IsOutside low high (set_type p.setting type)
      set_outside types.UninitThis new n is = within_here p.setting.this earlier.this n is
      set_outside (types.Uninit at) new n is =
          let number : p.setting.number at ≡ n = cc in
          subst (λ (m : ℕ). (m < low) ⊎ (high ≤ m)) number (new_outside at (new at refl))
      set_outside types.Top new n is = absurd cc
      set_outside types.Int new n is = absurd cc
      set_outside types.Float new n is = absurd cc
      set_outside types.Long new n is = absurd cc
      set_outside types.Double new n is = absurd cc
      set_outside types.Null new n is = absurd cc
      set_outside (types.Object name) new n is = absurd cc

      news : AllByRecursion (IsMadeIn (scope_of p)) frame.locals × AllByRecursion (IsMadeIn (scope_of p)) frame.stack
      news = made p.setting.coded.at (scope_of p) (frames_of p) (stands chain p standing).has k frame here.has_frame

      locals_outside : AllByRecursion (IsOutside low high) (set_frame p.setting frame).locals
      locals_outside =
          all_laid (IsOutside low high) p.setting.unit (map (set_type p.setting) frame.locals) p.setting.below.locals
          (all_mapped (IsMadeIn (scope_of p)) (IsOutside low high) (set_type p.setting) set_outside frame.locals news.0)
          (all_any (IsOutside p.first (end_of p)) (IsOutside low high) within_here p.setting.below.locals earlier.locals)

      stack_outside : AllByRecursion (IsOutside low high) (set_frame p.setting frame).stack
      stack_outside =
          all_joined (IsOutside low high) p.setting.below.stack (map (set_type p.setting) frame.stack)
          (all_any (IsOutside p.first (end_of p)) (IsOutside low high) within_here p.setting.below.stack earlier.stack)
          (all_mapped (IsMadeIn (scope_of p)) (IsOutside low high) (set_type p.setting) set_outside frame.stack news.1)

      inner_end : start_of (inner_standing p k placed frame g inner) (length (instructions g.scope)) ≡ start_of p (suc k)
      inner_end =
          let last = last_start (Some g.scope) (start_of p k + points_before g.scope) (instructions g.scope) inner in
          let next : start_of p (suc k) ≡ start_of p k + points_of_callee g inner =
          next_start (callee_of p.setting) p.first (instrs_of p) p.expansion k placed here.is
          ∙ ap (λ (b : Becomes). start_of p k + width (callee_of p.setting) placed b) here.becomes in
          omega (arith, last, next)

      inner_apart : IsApart (inner_standing p k placed frame g inner)
      inner_apart = record {
        locals =
            subst (λ (m : ℕ). AllByRecursion (IsOutside low m) (set_frame p.setting frame).locals) (sym inner_end) locals_outside;
        stack =
            subst (λ (m : ℕ). AllByRecursion (IsOutside low m)
            (under (length (arguments g.scope (block_of p k))) (set_frame p.setting frame).stack)) (sym inner_end)
            (all_taken (IsOutside low high) _ (set_frame p.setting frame).stack stack_outside);
        this =
            subst (λ (m : ℕ). IsOutside low m
            (lowest_of (length (arguments g.scope (block_of p k))) (set_frame p.setting frame).stack)) (sym inner_end)
            (of_lowest (IsOutside low high) (λ n is. absurd cc) (length (arguments g.scope (block_of p k)))
            (set_frame p.setting frame).stack stack_outside);
      }

    apart : {chain : List MethodAt} {p : Standing} → IsStanding host e chain p → IsApart p
    apart host_stands = record {
      locals = all_same (IsOutside _ _) _ types.Top (λ n is. absurd cc);
      stack = tt;
      this = λ n is. absurd cc;
    }
    apart (callee_stands k placed frame g inner below at) = inner_apart below k placed frame g inner at (apart below)

    -- Callers have no object of the number of an instruction.
    pub callers_without : {chain : List MethodAt} {p : Standing} → IsStanding host e chain p → (k : ℕ) (placed : Placed)
        → slice_get (instrs_of p) k ≡ Some placed
        → IsWithout (types.Uninit (start_of p k)) p.setting.below.locals × IsWithout (types.Uninit (start_of p k)) p.setting.below.stack
    callers_without {chain} {p} standing k placed is =
        let far = apart standing in (
          all_any (IsOutside p.first (end_of p)) (λ (type : VType). type ≢ types.Uninit (start_of p k)) differ p.setting.below.locals far.locals,
          all_any (IsOutside p.first (end_of p)) (λ (type : VType). type ≢ types.Uninit (start_of p k)) differ p.setting.below.stack far.stack,
        ) where
          differ : (type : VType) → IsOutside p.first (start_of p (length (instrs_of p))) type → type ≢ types.Uninit (start_of p k)
          differ type far named = elim (far (start_of p k) named) [
            | inl less ↦ absurd (omega (arith, less, start_least (callee_of p.setting) p.first (instrs_of p) p.expansion k))
            | inr more ↦ absurd (omega (
              arith,
              more,
              start_less (callee_of p.setting) p.first (stands chain p standing).fits k (length (instrs_of p))
                  (slice_get_within (instrs_of p) k placed is) (omega arith),
            ))
          ]
