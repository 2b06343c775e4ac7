use Rattle.std.specs.Prelude.{◌≡◌, refl, ℕ, true, List, [], Option, Some, None, option_map}
use Rattle.class_model.specs.Pool.{constant_at}
use Rattle.class_model.specs.declared.frame.Frame.{Frame}
use Rattle.class_model.specs.declared.instr.Instr.TheVariants as instrs
use Rattle.machine_values.specs.Frames.{MethodState}
use Rattle.machine_values.specs.declared.frame.RunFrame.{RunFrame}
use Rattle.member_link.specs.Bodies.{item_instr}
use Rattle.member_link.specs.Machine.Codes.{item_op, or_meaningless, initialises}
use Rattle.member_link.specs.Machine.Ops.{Op, get_static, put_static, get_field, put_field}
use Rattle.member_link.specs.Machine.Programs.{Program}
use Rattle.member_link.specs.Machine.Stepping.{op_step, step}
use Rattle.member_link.specs.Machine.Worlds.{World}
use Rattle.member_link.specs.References.{Reference}
use Rattle.member_link.specs.RowScope.{RowScope}
use Rattle.member_link.specs.Rows.MemberRows.{get_static_row, put_static_row, get_field_row, put_field_row}
use Rattle.member_link.specs.Rows.Row.{Row, access_aside}
use Rattle.member_link.specs.Signatures.{reference_of}
use Rattle.typed_runs.proofs.FamilySteps.{EachStays, as_it_is, family_step}
use Rattle.typed_runs.proofs.Here.{Here}
use Rattle.typed_runs.proofs.InstanceFields.{get_field_stays, put_field_stays}
use Rattle.typed_runs.proofs.LinkedFields.{FieldLaws}
use Rattle.typed_runs.proofs.OpSorts.{of_fields, sort_of_op, not_of_family}
use Rattle.typed_runs.proofs.StaticFields.{get_static_stays, put_static_stays}
use Rattle.typed_runs.specs.Families.{NextIs, NamesField}
use Rattle.typed_runs.specs.TypedPrograms.{Typings}
use Rattle.typed_runs.specs.TypedWorlds.{TypedWorld, StaysTyped}

names_field : (op : Op) → NamesField op → sort_of_op op ≡ of_fields
names_field (get_static r) is = refl
names_field (put_static r initialises) is = refl
names_field (get_field r) is = refl
names_field (put_field r initialises) is = refl
names_field op is = absurd is

module _ {P : Program} {T : Typings} {w : World} {f : MethodState} {rest : List RunFrame} {s : RowScope} {frame : Frame} {place : ℕ}
    {numbered : ℕ → ℕ} where
  -- by the reference that a constant names
  named : (o : Option Reference) (row : Option Reference → Row) (op : Reference → Op)
      → ((r : Reference) → Here P T w f rest s frame place numbered (row (Some r)) (op r) true [] → StaysTyped P T w (op_step P w f rest (op r)))
      → Here P T w f rest s frame place numbered (row o) (or_meaningless (option_map op o)) true []
      → StaysTyped P T w (op_step P w f rest (or_meaningless (option_map op o)))
  named None row op each h = absurd h.linked
  named (Some r) row op each h = each r h

pub each_field : (P : Program) (T : Typings) → FieldLaws → EachStays P T NamesField
each_field P T laws w f rest s frame place numbered (item_instr (instrs.GetStatic index)) is d h =
    named (reference_of s.pool (constant_at s.pool index)) (λ o. access_aside (get_static_row frame o)) get_static (λ r k. get_static_stays laws d r k) h
each_field P T laws w f rest s frame place numbered (item_instr (instrs.PutStatic index)) is d h =
    named (reference_of s.pool (constant_at s.pool index)) (λ o. access_aside (put_static_row frame o)) (λ r. put_static r (initialises s.is_clinit s.own))
    (λ r k. put_static_stays laws d r (initialises s.is_clinit s.own) k) h
each_field P T laws w f rest s frame place numbered (item_instr (instrs.GetField index)) is d h =
    named (reference_of s.pool (constant_at s.pool index)) (λ o. access_aside (get_field_row s frame o)) get_field (λ r k. get_field_stays laws r k) h
each_field P T laws w f rest s frame place numbered (item_instr (instrs.PutField index)) is d h =
    named (reference_of s.pool (constant_at s.pool index)) (λ o. access_aside (put_field_row s frame o)) (λ r. put_field r (initialises s.is_init s.own))
    (λ r k. put_field_stays laws r (initialises s.is_init s.own) k) h
each_field P T laws w f rest s frame place numbered item is d h =
    absurd (not_of_family P.links numbered s item of_fields (names_field (item_op P.links numbered s item) is) (λ e. cc) (λ e. cc))

pub fields_typed : FieldLaws → (P : Program) (T : Typings) (w : World) → TypedWorld P T w → NextIs NamesField P w.frames → StaysTyped P T w (step P w)
fields_typed laws P T w typed next =
    family_step P T NamesField (as_it_is P T NamesField (record { no_new = λ name no. no; no_special = λ r from no. no }) (each_field P T laws)) w typed next
