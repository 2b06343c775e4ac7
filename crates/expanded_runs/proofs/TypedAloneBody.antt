-- The typed points of the flat code of a method by itself are frames of its body at each place.
use Rattle.std.proofs.Common.{◌≡◌, ℕ, zero, List, [], ◌∷◌, length, map, Some, refl, sym, subst, ◌∙◌, arith}
use Rattle.std.proofs.lemmas.Option.{same_Some}
use Rattle.class_model.specs.Methods.{home_of}
use Rattle.class_model.specs.declared.class_file.MethodAt.{MethodAt}
use Rattle.class_model.specs.declared.frame.Frame.{Frame}
use Rattle.class_model.specs.declared.instr.Placed.{Placed}
use Rattle.class_tree.specs.Headers.{Classes}
use Rattle.expanded_code.specs.Alone.{alone_points, flat_alone, number_at, number_in}
use Rattle.expanded_runs.proofs.FlatPlaces.{each_point, frame_is_stated, one_each}
use Rattle.row_frames.specs.Laws.RenumberedEntry.{entry_same}
use Rattle.expanded_runs.proofs.TypedAloneEdges.{IsTypedMethod, counted, flows_carried}
use Rattle.expanded_runs.proofs.TypedAloneHandlers.{table_throws}
use Rattle.expanded_runs.proofs.TypedAloneNumbers.{number_here}
use Rattle.expanded_runs.proofs.TypedAlonePoints.{each_fits}
use Rattle.flow_code.specs.FlatCode.{FlatCode}
use Rattle.member_link.specs.Bodies.{Body}
use Rattle.member_link.specs.BodyTyping.{FlowsInto, HasFrames, PointFits, begins_at}
use Rattle.member_link.specs.Machine.Replaced.{map_numbered}
use Rattle.member_link.specs.Scope.{Scope, instructions}
use Rattle.same_runs.specs.FlatBodies.{body_of_flat, body_point, typed_points}
use Rattle.type_rules.specs.MethodBodies.{body_of, point_of}
use Rattle.type_rules.specs.Stated.{entry}

module _ (classes : Classes) (s : Scope) (at : MethodAt) (frames : List Frame) (m : IsTypedMethod classes s at frames) where
  abbrev flat : FlatCode
  flat = flat_alone s at frames

  abbrev body : Body
  body = body_of_flat classes s flat

  -- ---- the first of them

  first_place : (instrs : List Placed) (own : List Frame) (end : ℕ) → length own ≡ length instrs
      → number_in instrs (begins_at (map (point_of s) instrs) end) ≡ begins_at
      (map_numbered (body_point classes s flat) zero (alone_points s at.class instrs own)) (length (alone_points s at.class instrs own))
  first_place [] [] end same = refl
  first_place [] (f ∷ own) end same = refl
  first_place (placed ∷ instrs) [] end same = absurd (omega (arith, same))
  first_place (placed ∷ instrs) (f ∷ own) end same = number_here placed instrs placed.at refl

  entry_flows : FlowsInto body (typed_points flat) (begins_at body.points body.end) (Some body.entry)
  entry_flows =
      let first = first_place (instructions s) frames (body_of s).end (counted classes s at frames m) in
      let flows = flows_carried classes s at frames m (begins_at (body_of s).points (body_of s).end) (Some (entry s)) m.has.entry in
      subst (λ (place : ℕ). FlowsInto body (typed_points flat) place (Some body.entry)) first
      (subst (λ (f : Frame). FlowsInto body (typed_points flat) (number_at s (begins_at (body_of s).points (body_of s).end)) (Some f))
      (entry_same (number_at s) (home_of s.class) s.method s.part) flows)

  -- ---- the whole

  pub has_frames : HasFrames body (typed_points flat)
  has_frames = record {
    one_each = one_each classes s flat;
    catch_types = table_throws s m.has.catch_types at.class (instructions s) frames zero;
    stated = λ place frame stated is stated_is. same_Some frame stated (sym is ∙ frame_is_stated classes s flat place ∙ stated_is);
    entry = entry_flows;
    points = each_point classes s flat (PointFits body (typed_points flat)) (each_fits classes s at frames m);
  }
