-- Each point of flat code is one of an instruction of a method that stands in it, or of the entry of a callee.
use Rattle.std.proofs.Common.{◌≡◌, ◌+◌, ℕ, zero, suc, List, [], ◌∷◌, ◌++◌, ◌⊎◌, length, slice_get, Some, refl, sym, ap, subst, ◌∙◌, arith, inl, inr}
use Rattle.std.proofs.lemmas.List.{length-append}
use Rattle.class_model.specs.declared.class_file.MethodAt.{MethodAt}
use Rattle.class_model.specs.declared.frame.Frame.{Frame}
use Rattle.class_model.specs.declared.instr.Placed.{Placed}
use Rattle.class_tree.specs.Headers.{Name}
use Rattle.expanded_code.specs.Expanded.{callee_of, expanded, instr_points, own_points, points_before, points_from, points_of_callee, points_of_entry, set_frame, units_in}
use Rattle.expanded_code.specs.Expansions.{Coded, Expansion, no_more, replaced, site, stays}
use Rattle.expanded_runs.proofs.Runs.PositionLaws.{Fits, fits_none, fits_replaced, fits_site, fits_stays, length_entry, length_instr, length_points, next_start, units_by, width}
use Rattle.expanded_runs.proofs.Runs.Positions.{Becomes, IsReplacedAt, Standing, becomes, block_from, block_of, frames_of, host_standing, inner_setting, inner_standing, instrs_of, makes_site, remains, start_of}
use Rattle.expanded_runs.proofs.Runs.Standings.{IsStanding, callee_stands, host_stands}
use Rattle.flow_code.specs.declared.point.Point.{Point}
use Rattle.member_link.specs.Scope.{instructions}

-- ---- parts

-- an instruction that stays, or makes the object of a site
pub data IsOwn : Becomes → Type 0 where
  own_remains : IsOwn remains
  own_site : {class : Name} → IsOwn (makes_site class)

-- a point of an instruction of a method that stands there
pub record OwnPart (host : Coded) (e : Expansion) (number : ℕ) (point : Point) : Type 0 where
  pub chain : List MethodAt
  pub p : Standing
  pub standing : IsStanding host e chain p
  pub k : ℕ
  pub placed : Placed
  pub frame : Frame
  pub is : slice_get (instrs_of p) k ≡ Some placed
  pub has_frame : slice_get (frames_of p) k ≡ Some frame
  pub own : IsOwn (becomes p.expansion k)
  pub behind : ℕ
  pub number_is : number ≡ start_of p k + behind
  pub there : slice_get (instr_points p.setting placed frame) behind ≡ Some point

-- a point before the instructions of a callee
pub record EntryPart (host : Coded) (e : Expansion) (number : ℕ) (point : Point) : Type 0 where
  pub chain : List MethodAt
  pub p : Standing
  pub standing : IsStanding host e chain p
  pub k : ℕ
  pub placed : Placed
  pub frame : Frame
  pub g : Coded
  pub inner : Expansion
  pub here : IsReplacedAt p k placed frame g inner
  pub behind : ℕ
  pub number_is : number ≡ start_of p k + behind
  pub there : slice_get (points_of_entry p.setting placed.at (set_frame p.setting frame) g.scope (block_of p k)) behind ≡ Some point

abbrev pub Part : Coded → Expansion → ℕ → Point → Type 0
Part host e number point = OwnPart host e number point ⊎ EntryPart host e number point

-- ---- lists joined

pub record InSecond {A : Type 0} (count n : ℕ) (others : List A) (item : A) : Type 0 where
  pub behind : ℕ
  pub number_is : n ≡ count + behind
  pub there : slice_get others behind ≡ Some item

pub slice_either : {A : Type 0} (ones others : List A) (n : ℕ) (item : A) → slice_get (ones ++ others) n ≡ Some item
    → (slice_get ones n ≡ Some item) ⊎ InSecond (length ones) n others item
slice_either [] others n item is = inr (record { behind = n; number_is = omega arith; there = is })
slice_either (one ∷ ones) others zero item is = inl is
slice_either (one ∷ ones) others (suc n) item is = elim (slice_either ones others n item is) [
  | inl here ↦ inl here
  | inr later ↦ inr (record { behind = later.behind; number_is = omega (arith, later.number_is); there = later.there })
]

pub next_block : (unit : ℕ) (e : Expansion) (k : ℕ) → block_from unit e (suc k) ≡ block_from unit e k + units_by (becomes e k)
next_block unit no_more zero = omega arith
next_block unit (stays more) zero = omega arith
next_block unit (site class more) zero = omega arith
next_block unit (replaced g inner more) zero = omega arith
next_block unit no_more (suc k) = omega arith
next_block unit (stays more) (suc k) = next_block unit more k
next_block unit (site class more) (suc k) = next_block unit more k
next_block unit (replaced g inner more) (suc k) = next_block (unit + g.scope.part.max_locals + units_in inner) more k

-- ---- the instructions that are left of a method

pub record IsTail (p : Standing) (done : ℕ) (instrs : List Placed) (frames : List Frame) (e : Expansion) : Type 0 where
  pub is : (k : ℕ) → slice_get instrs k ≡ slice_get (instrs_of p) (done + k)
  pub has : (k : ℕ) → slice_get frames k ≡ slice_get (frames_of p) (done + k)
  pub becomes_is : (k : ℕ) → becomes e k ≡ becomes p.expansion (done + k)

module _ (p : Standing) (done : ℕ) (placed : Placed) (frame : Frame) (instrs : List Placed) (frames : List Frame) (e more : Expansion)
    (tail : IsTail p done (placed ∷ instrs) (frame ∷ frames) e) (step : (k : ℕ) → becomes e (suc k) ≡ becomes more k) where
  at_done : done + 0 ≡ done
  at_done = omega arith

  pub first_is : slice_get (instrs_of p) done ≡ Some placed
  first_is = ap (slice_get (instrs_of p)) (sym at_done) ∙ sym (tail.is 0)

  pub first_has : slice_get (frames_of p) done ≡ Some frame
  first_has = ap (slice_get (frames_of p)) (sym at_done) ∙ sym (tail.has 0)

  pub first_becomes : becomes p.expansion done ≡ becomes e 0
  first_becomes = ap (becomes p.expansion) (sym at_done) ∙ sym (tail.becomes_is 0)

  later : (k : ℕ) → done + suc k ≡ suc done + k
  later k = omega arith

  pub next_tail : IsTail p (suc done) instrs frames more
  next_tail = record {
    is = λ k. tail.is (suc k) ∙ ap (slice_get (instrs_of p)) (later k);
    has = λ k. tail.has (suc k) ∙ ap (slice_get (frames_of p)) (later k);
    becomes_is = λ k. sym (step k) ∙ tail.becomes_is (suc k) ∙ ap (becomes p.expansion) (later k);
  }

  pub next_number : start_of p (suc done) ≡ start_of p done + width (callee_of p.setting) placed (becomes e 0)
  next_number =
      next_start (callee_of p.setting) p.first (instrs_of p) p.expansion done placed first_is
      ∙ ap (λ (b : Becomes). start_of p done + width (callee_of p.setting) placed b) first_becomes

  next_unit : block_of p (suc done) ≡ block_of p done + units_by (becomes e 0)
  next_unit = next_block p.block p.expansion done ∙ ap (λ (b : Becomes). block_of p done + units_by b) first_becomes

  -- a point behind those of the first
  rest_there : (count n : ℕ) (others : List Point) (point : Point) → count ≡ width (callee_of p.setting) placed (becomes e 0)
      → others ≡ points_from p.setting (start_of p (suc done)) (block_of p (suc done)) instrs frames more
      → InSecond count n others point
      → (m : ℕ) × (start_of p done + n ≡ start_of p (suc done) + m)
      × (slice_get (points_from p.setting (start_of p (suc done)) (block_of p (suc done)) instrs frames more) m ≡ Some point)
  rest_there count n others point many same there =
      let next = next_number in (
        there.behind,
        omega (arith, next, many, there.number_is),
        subst (λ (points : List Point). slice_get points there.behind ≡ Some point) same there.there,
      )

-- all of a method
pub whole_tail : (p : Standing) → IsTail p 0 (instrs_of p) (frames_of p) p.expansion
whole_tail p = record {
  is = λ k. ap (slice_get (instrs_of p)) (omega arith);
  has = λ k. ap (slice_get (frames_of p)) (omega arith);
  becomes_is = λ k. ap (becomes p.expansion) (omega arith);
}

-- a callee that stands in the place of the first
pub replaced_there : (p : Standing) (done : ℕ) (placed : Placed) (frame : Frame) (instrs : List Placed) (frames : List Frame) (g : Coded)
    (inner more : Expansion)
    → IsTail p done (placed ∷ instrs) (frame ∷ frames) (replaced g inner more)
    → IsReplacedAt p done placed frame g inner
replaced_there p done placed frame instrs frames g inner more tail = record {
  is = first_is p done placed frame instrs frames (replaced g inner more) more tail (λ k. refl);
  has_frame = first_has p done placed frame instrs frames (replaced g inner more) more tail (λ k. refl);
  becomes = first_becomes p done placed frame instrs frames (replaced g inner more) more tail (λ k. refl);
}

module _ (host : Coded) (e : Expansion) where
  own_there : {chain : List MethodAt} (p : Standing) → IsStanding host e chain p → (k : ℕ) (placed : Placed) (frame : Frame)
      → slice_get (instrs_of p) k ≡ Some placed
      → slice_get (frames_of p) k ≡ Some frame
      → IsOwn (becomes p.expansion k)
      → (n : ℕ) (point : Point) → slice_get (instr_points p.setting placed frame) n ≡ Some point
      → Part host e (start_of p k + n) point
  own_there p standing k placed frame is has own n point there = inl (record {
    chain = _;
    p = p;
    standing = standing;
    k = k;
    placed = placed;
    frame = frame;
    is = is;
    has_frame = has;
    own = own;
    behind = n;
    number_is = refl;
    there = there;
  })

  parts_from : (chain : List MethodAt) (p : Standing) → IsStanding host e chain p → (done : ℕ) {instrs : List Placed} {frames : List Frame}
      {x : Expansion}
      → Fits instrs frames x
      → IsTail p done instrs frames x
      → (n : ℕ) (point : Point)
      → slice_get (points_from p.setting (start_of p done) (block_of p done) instrs frames x) n ≡ Some point
      → Part host e (start_of p done + n) point
  parts_from chain p standing done fits_none tail n point is = absurd cc
  parts_from chain p standing done (fits_stays {instrs = instrs} {frames = frames} {more = more} placed frame fits) tail n point is =
      let t = p.setting in
      let step : (k : ℕ) → becomes (stays more) (suc k) ≡ becomes more k = λ k. refl in
      let rest = points_from t (start_of p done + own_points (callee_of t) placed.instr) (block_of p done) instrs frames more in
      elim (slice_either (instr_points t placed frame) rest n point is) [
        | inl front ↦ own_there p standing done placed frame (first_is p done placed frame instrs frames (stays more) more tail step)
            (first_has p done placed frame instrs frames (stays more) more tail step)
            (subst IsOwn (sym (first_becomes p done placed frame instrs frames (stays more) more tail step)) own_remains) n point front
        | inr back ↦
            let number = next_number p done placed frame instrs frames (stays more) more tail step in
            let unit = next_unit p done placed frame instrs frames (stays more) more tail step in
            let unit_same : block_of p (suc done) ≡ block_of p done = omega (arith, unit) in
            let found = rest_there p done placed frame instrs frames (stays more) more tail step (length (instr_points t placed frame)) n rest point
            (length_instr t placed frame)
            (ap (λ (m : ℕ). points_from t m (block_of p done) instrs frames more) (sym number)
            ∙ ap (λ (m : ℕ). points_from t (start_of p (suc done)) m instrs frames more) (sym unit_same)) back in
            subst (λ (m : ℕ). Part host e m point) (sym found.1)
            (parts_from chain p standing (suc done) fits (next_tail p done placed frame instrs frames (stays more) more tail step) found.0 point
            found.2)
      ]
  parts_from chain p standing done (fits_site {instrs = instrs} {frames = frames} {more = more} placed frame class fits) tail n point is =
      let t = p.setting in
      let step : (k : ℕ) → becomes (site class more) (suc k) ≡ becomes more k = λ k. refl in
      let rest = points_from t (start_of p done + own_points (callee_of t) placed.instr) (block_of p done) instrs frames more in
      elim (slice_either (instr_points t placed frame) rest n point is) [
        | inl front ↦ own_there p standing done placed frame (first_is p done placed frame instrs frames (site class more) more tail step)
            (first_has p done placed frame instrs frames (site class more) more tail step)
            (subst IsOwn (sym (first_becomes p done placed frame instrs frames (site class more) more tail step)) own_site) n point front
        | inr back ↦
            let number = next_number p done placed frame instrs frames (site class more) more tail step in
            let unit = next_unit p done placed frame instrs frames (site class more) more tail step in
            let unit_same : block_of p (suc done) ≡ block_of p done = omega (arith, unit) in
            let found = rest_there p done placed frame instrs frames (site class more) more tail step (length (instr_points t placed frame)) n rest
            point (length_instr t placed frame)
            (ap (λ (m : ℕ). points_from t m (block_of p done) instrs frames more) (sym number)
            ∙ ap (λ (m : ℕ). points_from t (start_of p (suc done)) m instrs frames more) (sym unit_same)) back in
            subst (λ (m : ℕ). Part host e m point) (sym found.1)
            (parts_from chain p standing (suc done) fits (next_tail p done placed frame instrs frames (site class more) more tail step) found.0
            point found.2)
      ]
  parts_from chain p standing done (fits_replaced {instrs = instrs} {frames = frames} {inner = inner} {more = more} placed frame g start starts within fits) tail n
      point is
      =
      let t = p.setting in
      let step : (k : ℕ) → becomes (replaced g inner more) (suc k) ≡ becomes more k = λ k. refl in
      let here : IsReplacedAt p done placed frame g inner = replaced_there p done placed frame instrs frames g inner more tail in
      let own = inner_setting p done placed frame g inner in
      let entry = points_of_entry t placed.at (set_frame t frame) g.scope (block_of p done) in
      let first = start_of p done + points_before g.scope in
      let block = block_of p done + g.scope.part.max_locals in
      let body = points_from own first block (instructions g.scope) g.frames inner in
      let rest = points_from t (start_of p done + points_of_callee g inner) (block + units_in inner) instrs frames more in
      let before = length_entry t placed.at (set_frame t frame) g.scope (block_of p done) in
      elim (slice_either (entry ++ body) rest n point is) [
        | inl front ↦ elim (slice_either entry body n point front) [
          | inl there ↦ inr (record {
            chain = chain;
            p = p;
            standing = standing;
            k = done;
            placed = placed;
            frame = frame;
            g = g;
            inner = inner;
            here = here;
            behind = n;
            number_is = refl;
            there = there;
          })
          | inr inside ↦
              let same : start_of p done + n ≡ start_of p done + points_before g.scope + inside.behind =
              omega (arith, inside.number_is, before) in
              subst (λ (m : ℕ). Part host e m point) (sym same)
              (parts_from (g.at ∷ chain) (inner_standing p done placed frame g inner) (callee_stands done placed frame g inner standing here) 0
              within (whole_tail (inner_standing p done placed frame g inner)) inside.behind point
              inside.there)
        ]
        | inr back ↦
            let number = next_number p done placed frame instrs frames (replaced g inner more) more tail step in
            let unit = next_unit p done placed frame instrs frames (replaced g inner more) more tail step in
            let unit_same : block_of p (suc done) ≡ block + units_in inner = omega (arith, unit) in
            let many : length (entry ++ body) ≡ points_of_callee g inner =
            let joined = length-append entry body in
            let inside = length_points own first block within in
            omega (arith, joined, inside, before) in
            let found = rest_there p done placed frame instrs frames (replaced g inner more) more tail step (length (entry ++ body)) n rest point
            many
            (ap (λ (m : ℕ). points_from t m (block + units_in inner) instrs frames more) (sym number)
            ∙ ap (λ (m : ℕ). points_from t (start_of p (suc done)) m instrs frames more) (sym unit_same)) back in
            subst (λ (m : ℕ). Part host e m point) (sym found.1)
            (parts_from chain p standing (suc done) fits
            (next_tail p done placed frame instrs frames (replaced g inner more) more tail step) found.0 point found.2)
      ]

  -- Each point is one of these.
  pub part_of : Fits (instructions host.scope) host.frames e → (number : ℕ) (point : Point)
      → slice_get (expanded host e).points number ≡ Some point
      → Part host e number point
  part_of fits number point is =
      let here : 0 + number ≡ number = omega arith in
      subst (λ (m : ℕ). Part host e m point) here
      (parts_from [] (host_standing host e) host_stands 0 fits (whole_tail (host_standing host e)) number point is)
