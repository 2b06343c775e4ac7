-- What holds of each method that stands in the flat code of a host.
use Rattle.std.proofs.Common.{◌≡◌, ◌+◌, ◌≤◌, ℕ, zero, suc, List, [], ◌∷◌, ◌++◌, length, map, slice_get, Option, Some, None, refl, ap, subst, ◌∙◌, arith}
use Rattle.std.proofs.lemmas.Option.{same_Some}
use Rattle.class_model.specs.declared.class_file.MethodAt.{MethodAt}
use Rattle.class_model.specs.declared.frame.Frame.{Frame}
use Rattle.class_model.specs.declared.instr.Placed.{Placed}
use Rattle.class_tree.specs.Headers.{Classes, Name}
use Rattle.expanded_code.specs.Expanded.{callee_of, expanded, host_setting, points_before, points_from, points_of_callee, points_of_entry, set_frame, units_in}
use Rattle.expanded_code.specs.Expansions.{Coded, Expands, Expansion, expands_none, expands_replaced, expands_site, expands_stays}
use Rattle.expanded_code.specs.Sites.{HasFrames, IsReplaced, IsSite}
use Rattle.expanded_runs.proofs.AloneProgram.{EachTyped, OneEach, frames-one-each}
use Rattle.expanded_runs.proofs.Runs.PositionLaws.{Fits, block_within, fits_none, fits_replaced, fits_site, fits_stays, last_start, length_entry, length_points, next_start, number_start, part_stands, points_at, stands_right, start_most, units_by, width}
use Rattle.expanded_runs.proofs.Runs.Positions.{Becomes, IsReplacedAt, StandsFrom, Standing, becomes, block_of, host_standing, inner_setting, inner_standing, instrs_of, is_replaced, makes_site, remains, start_of}
use Rattle.expanded_runs.proofs.Runs.Standings.{IsStanding, Stands, callee_stands, host_stands}
use Rattle.flow_code.specs.TypedFrames.{FolderFrames, typed_frames_at}
use Rattle.member_link.specs.Scope.{Scope, instructions}
use Rattle.type_rules.specs.MethodBodies.{body_of, point_of}
use Rattle.type_rules.specs.Typed.{AreTyped, Typed}
use Rattle.type_rules.specs.Verified.{TypesFolder, TypesMethod}

-- ---- what becomes of an instruction

-- of the one at an offset, behind a chain of callees
pub data BecomesAs (classes : Classes) (typed : FolderFrames) (host : MethodAt) (chain : List MethodAt) (from : MethodAt) (at : ℕ) : Becomes → Type 0 where
  it_remains : ((callee : MethodAt) → ¬ IsReplaced classes typed host chain from at callee)
      → ((class : Name) → ¬ IsSite classes typed host chain from at class)
      → BecomesAs classes typed host chain from at remains
  it_makes_site : {class : Name}
      → IsSite classes typed host chain from at class
      → BecomesAs classes typed host chain from at (makes_site class)
  it_is_replaced : {g : Coded} {inner : Expansion}
      → IsReplaced classes typed host chain from at g.at
      → HasFrames classes typed g.at g.scope g.frames
      → Expands classes typed host (g.at ∷ chain) g.at (instructions g.scope) inner
      → BecomesAs classes typed host chain from at (is_replaced g inner)

module _ {classes : Classes} {typed : FolderFrames} {host : MethodAt} where
  pub becomes_as : (chain : List MethodAt) (from : MethodAt) (instrs : List Placed) (e : Expansion)
      → Expands classes typed host chain from instrs e
      → (k : ℕ) (placed : Placed)
      → slice_get instrs k ≡ Some placed
      → BecomesAs classes typed host chain from placed.at (becomes e k)
  becomes_as chain from instrs e (expands_none _ _) k placed is = absurd cc
  becomes_as chain from instrs e (expands_stays _ _ first others more no_call no_site rest) zero placed is =
      subst (λ (p : Placed). BecomesAs classes typed host chain from p.at remains) (same_Some first placed is) (it_remains no_call no_site)
  becomes_as chain from instrs e (expands_site _ _ first others class more makes rest) zero placed is =
      subst (λ (p : Placed). BecomesAs classes typed host chain from p.at (makes_site class)) (same_Some first placed is) (it_makes_site makes)
  becomes_as chain from instrs e (expands_replaced _ _ first others g inner more call has within rest) zero placed is =
      subst (λ (p : Placed). BecomesAs classes typed host chain from p.at (is_replaced g inner)) (same_Some first placed is)
      (it_is_replaced call has within)
  becomes_as chain from instrs e (expands_stays _ _ first others more no_call no_site rest) (suc k) placed is =
      becomes_as chain from others more rest k placed is
  becomes_as chain from instrs e (expands_site _ _ first others class more makes rest) (suc k) placed is =
      becomes_as chain from others more rest k placed is
  becomes_as chain from instrs e (expands_replaced _ _ first others g inner more call has within rest) (suc k) placed is =
      becomes_as chain from others more rest k placed is

  -- a call that is replaced
  of_replaced : {chain : List MethodAt} {from : MethodAt} {at : ℕ} {g : Coded} {inner : Expansion}
      → BecomesAs classes typed host chain from at (is_replaced g inner)
      → IsReplaced classes typed host chain from at g.at
      × HasFrames classes typed g.at g.scope g.frames
      × Expands classes typed host (g.at ∷ chain) g.at (instructions g.scope) inner
  of_replaced (it_is_replaced call has within) = (call, has, within)

  pub as_replaced : {chain : List MethodAt} {from : MethodAt} {at : ℕ} {b : Becomes} {g : Coded} {inner : Expansion}
      → BecomesAs classes typed host chain from at b
      → b ≡ is_replaced g inner
      → IsReplaced classes typed host chain from at g.at
      × HasFrames classes typed g.at g.scope g.frames
      × Expands classes typed host (g.at ∷ chain) g.at (instructions g.scope) inner
  as_replaced {chain} {from} {at} known is = of_replaced (subst (BecomesAs classes typed host chain from at) is known)

-- ---- frames and what becomes of instructions are as many as these

module _ (each : EachTyped) (one : OneEach) (classes : Classes) (typed : FolderFrames) (types : TypesFolder classes typed) where
  pub as_many : {at : MethodAt} (g : Coded) → HasFrames classes typed at g.scope g.frames → length g.frames ≡ length (instructions g.scope)
  as_many {at} g has = frames-one-each each one classes typed types at g.scope g.frames has.is_scope has.are_frames

  -- a method that is typed has a first instruction
  pub has_first : {at : MethodAt} (g : Coded) → HasFrames classes typed at g.scope g.frames
      → (first : Placed) × (slice_get (instructions g.scope) 0 ≡ Some first)
  has_first {at} g has = by (instructions g.scope) refl g.frames typing.instrs where
    named : TypesMethod (Some g.scope) (typed_frames_at typed at)
    named = subst (λ (found : Option Scope). TypesMethod found (typed_frames_at typed at)) has.is_scope (each classes typed types at)

    typing : Typed g.scope g.frames
    typing = subst (λ (found : Option (List Frame)). TypesMethod (Some g.scope) found) has.are_frames named

    by : (instrs : List Placed) → instructions g.scope ≡ instrs → (frames : List Frame)
        → AreTyped (body_of g.scope) (Some (body_of g.scope).entry) (map (point_of g.scope) (instructions g.scope)) frames
        → (first : Placed) × (slice_get (instructions g.scope) 0 ≡ Some first)
    by (first ∷ instrs) is frames typed = (first, rw (is) refl)
    by [] is [] typed = let none : Some (body_of g.scope).entry ≡ None = rw (is) at typed in absurd cc
    by [] is (frame ∷ frames) typed =
        absurd (subst (λ (instrs : List Placed). AreTyped (body_of g.scope) (Some (body_of g.scope).entry) (map (point_of g.scope) instrs)
        (frame ∷ frames)) is typed)

  pub expands_fit : {host : MethodAt} {chain : List MethodAt} {from : MethodAt} {instrs : List Placed} {e : Expansion} (frames : List Frame)
      → Expands classes typed host chain from instrs e
      → length frames ≡ length instrs
      → Fits instrs frames e
  expands_fit [] (expands_none _ _) same = fits_none
  expands_fit (frame ∷ frames) (expands_none _ _) same = absurd cc
  expands_fit [] (expands_stays _ _ first others more no_call no_site rest) same = absurd cc
  expands_fit (frame ∷ frames) (expands_stays _ _ first others more no_call no_site rest) same =
      fits_stays first frame (expands_fit frames rest (omega (arith, same)))
  expands_fit [] (expands_site _ _ first others class more makes rest) same = absurd cc
  expands_fit (frame ∷ frames) (expands_site _ _ first others class more makes rest) same =
      fits_site first frame class (expands_fit frames rest (omega (arith, same)))
  expands_fit [] (expands_replaced _ _ first others g inner more call has within rest) same = absurd cc
  expands_fit (frame ∷ frames) (expands_replaced _ _ first others g inner more call has within rest) same =
      fits_replaced first frame g (has_first g has).0 (has_first g has).1 (expands_fit g.frames within (as_many g has))
      (expands_fit frames rest (omega (arith, same)))

  -- ---- all that stand

  module _ (host : Coded) (e : Expansion) (has : HasFrames classes typed host.at host.scope host.frames)
      (expands : Expands classes typed host.at [] host.at (instructions host.scope) e) where
    host_stands_so : Stands classes typed host e [] (host_standing host e)
    host_stands_so =
        let fits = expands_fit host.frames expands (as_many host has) in
        let s = host_setting host e in
        let last = last_start None 0 (instructions host.scope) e in
        let count = length_points s 0 host.scope.part.max_locals fits in
        record {
          has = has;
          expands = expands;
          fits = fits;
          points = λ behind item is. subst (λ (n : ℕ). slice_get (expanded host e).points n ≡ Some item) (omega arith) is;
          numbers = λ at. number_start None at 0 (instructions host.scope) e;
          own_units = omega arith;
          all_units = omega arith;
          ends = omega (arith, last, count);
          behind = tt;
        }

    callee_stands_so : {chain : List MethodAt} {p : Standing} (k : ℕ) (placed : Placed) (frame : Frame) (g : Coded) (inner : Expansion)
        → Stands classes typed host e chain p
        → IsReplacedAt p k placed frame g inner
        → Stands classes typed host e (g.at ∷ chain) (inner_standing p k placed frame g inner)
    callee_stands_so {chain} {p} k placed frame g inner s at =
        let known = as_replaced (becomes_as chain p.setting.coded.at (instrs_of p) p.expansion s.expands k placed at.is) at.becomes in
        let whole = (expanded host e).points in
        let t = p.setting in
        let t_inner = inner_setting p k placed frame g inner in
        let fits = expands_fit g.frames known.2 (as_many g known.1) in
        let entry = points_of_entry t placed.at (set_frame t frame) g.scope (block_of p k) in
        let body = points_from t_inner (start_of p k + points_before g.scope) (block_of p k + g.scope.part.max_locals) (instructions g.scope)
        g.frames inner in
        let part = part_stands whole t p.first p.block s.fits k placed frame at.is at.has_frame s.points in
        let both : StandsFrom whole (start_of p k) (entry ++ body) =
        subst (λ (b : Becomes). StandsFrom whole (start_of p k) (points_at t (start_of p k) (block_of p k) placed frame b)) at.becomes part in
        let block : block_of p k + (g.scope.part.max_locals + units_in inner) ≤ p.block + units_in p.expansion =
        subst (λ (b : Becomes). block_of p k + units_by b ≤ p.block + units_in p.expansion) at.becomes (block_within p.block p.expansion k) in
        let next : start_of p (suc k) ≡ start_of p k + points_of_callee g inner =
        next_start (callee_of t) p.first (instrs_of p) p.expansion k placed at.is
        ∙ ap (λ (b : Becomes). start_of p k + width (callee_of t) placed b) at.becomes in
        let most = start_most (callee_of t) p.first (instrs_of p) p.expansion (suc k) in
        let last = last_start (callee_of t) p.first (instrs_of p) p.expansion in
        let own_last = last_start (Some g.scope) (start_of p k + points_before g.scope) (instructions g.scope) inner in
        record {
          has = known.1;
          expands = known.2;
          fits = fits;
          points =
              subst (λ (n : ℕ). StandsFrom whole (start_of p k + n) body) (length_entry t placed.at (set_frame t frame) g.scope (block_of p k))
              (stands_right whole (start_of p k) entry body both);
          numbers = λ at. number_start (Some g.scope) at (start_of p k + points_before g.scope) (instructions g.scope) inner;
          own_units = omega arith;
          all_units = omega (arith, block, s.all_units);
          ends = omega (arith, next, most, last, own_last, s.ends);
          behind = omega (arith, own_last);
        }

    -- Each method that stands in the flat code has all this.
    pub stands_so : {chain : List MethodAt} {p : Standing} → IsStanding host e chain p → Stands classes typed host e chain p
    stands_so host_stands = host_stands_so
    stands_so (callee_stands k placed frame g inner below at) = callee_stands_so k placed frame g inner (stands_so below) at

    -- a chain has at most six callees
    pub chain_short : {chain : List MethodAt} {p : Standing} → IsStanding host e chain p → length chain ≤ 6
    chain_short host_stands = omega arith
    chain_short (callee_stands {chain = chain} {p = p} k placed frame g inner below at) =
        let s = stands_so below in
        let known = as_replaced (becomes_as chain p.setting.coded.at (instrs_of p) p.expansion s.expands k placed at.is) at.becomes in
        let short = known.0.follows.short in
        omega (arith, short)
