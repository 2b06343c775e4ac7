-- What the parts of a Code attribute tell, one after the other, the attribute tells.
use Rattle.std.proofs.Common.{◌≡◌, ℕ, ◌+◌, ◌*◌, ◌≤◌, ◌&&◌, false, List, [], ◌∷◌, ◌++◌, length, Result, Ok, Err, refl, sym, subst, ◌∙◌, append_assoc}
use Rattle.std.specs.Prelude.{nat_lt, IsTrue, IfSome}
use Rattle.class_model.specs.Answers.{Tells}
use Rattle.class_model.specs.Checks.{Check, check, Fault, fault, asked_of, AllHold, IsFirstFault}
use Rattle.class_model.specs.Code.{jump_checks, operand_checks, handlers_checks, inners_checks}
use Rattle.class_model.specs.Frames.{Setting}
use Rattle.class_model.specs.Instructions.{decoded}
use Rattle.class_model.specs.Laws.Answers.{goes_on, stops}
use Rattle.class_model.specs.Methods.{units_at_call, instructions_checks, part_checks, entry_of}
use Rattle.class_model.specs.PoolChecks.{utf8_at}
use Rattle.class_model.specs.declared.class_file.CodePart.{CodePart}
use Rattle.class_model.specs.declared.class_file.Handler.{Handler}
use Rattle.class_model.specs.declared.fault.ClassFault.{ClassFault}
use Rattle.class_model.specs.declared.fault.ClassFault.TheVariants.{Malformed, Version, NoMemory}
use Rattle.class_model.specs.declared.fault.FileRule.TheVariants as rules
use Rattle.class_model.specs.declared.instr.Placed.{Placed}
use Rattle.class_bytes.specs.Inner.CodeParts.{at_place, decoded_checks, setting_of_code, entry_frame_of, parts_checks}
use Rattle.class_bytes.specs.Inner.Cut.{home_seen, method_of, part_of}
use Rattle.class_bytes.specs.declared.cut.CutMember.{CutMember}
use Rattle.class_bytes.specs.declared.cut.CutPart.{CutPart}
use Rattle.class_bytes.specs.declared.home.Home.{Home}
use Rattle.class_bytes.specs.declared.method_code.MethodCode.{MethodCode}

abbrev TellsDone : List (Check Fault) → Result (Unit {0}) ClassFault → Type 0
TellsDone checks result = Tells checks (λ done. Unit {0}) result

-- ---- behind the instructions

module _ (code : MethodCode) (start : ℕ) where
  abbrev table : ℕ
  table = start + length code.part.now.code.now + 2

  abbrev operands_of : List Placed → List (Check Fault)
  operands_of instrs = operand_checks start code.home.now.pool.now code.home.now.major code.part.now.max_locals instrs

  abbrev handlers_of : List Handler → List (Check Fault)
  handlers_of handlers = handlers_checks code.home.now.pool.now code.instrs.now (length code.part.now.code.now) table handlers

  abbrev operands : List (Check Fault)
  operands = operands_of code.instrs.now

  abbrev handlers : List (Check Fault)
  handlers = handlers_of code.part.now.handlers

  abbrev inners : List (Check Fault)
  inners = inners_checks (setting_of_code code) (entry_frame_of code) false (table + 8 * length code.part.now.handlers + 2) (part_of code.part.now).attrs

  pub operands_refused : (instrs : List Placed) → instrs ≡ code.instrs.now → (e : ClassFault) → TellsDone (operands_of instrs) (Err e) → TellsDone (parts_checks code start) (Err e)
  operands_refused instrs are e told =
      stops {X = Unit {0}} {Y = Unit {0}} operands (handlers ++ inners) (λ done. Unit {0}) (λ done. Unit {0}) e (subst (λ (ps : List Placed). TellsDone (operands_of ps) (Err e)) are told)

  pub handlers_refused : (entries : List Handler) → entries ≡ code.part.now.handlers → (e : ClassFault) → AllHold operands → TellsDone (handlers_of entries) (Err e) → TellsDone (parts_checks code start) (Err e)
  handlers_refused entries are e a told =
      goes_on {X = Unit {0}} operands (handlers ++ inners) (λ done. Unit {0}) (Err e) a
      (stops {X = Unit {0}} {Y = Unit {0}} handlers inners (λ done. Unit {0}) (λ done. Unit {0}) e (subst (λ (hs : List Handler). TellsDone (handlers_of hs) (Err e)) are told))

  pub inners_told : (result : Result (Unit {0}) ClassFault) → AllHold operands → AllHold handlers → TellsDone inners result → TellsDone (parts_checks code start) result
  inners_told result a b told = goes_on {X = Unit {0}} operands (handlers ++ inners) (λ done. Unit {0}) result a (goes_on {X = Unit {0}} handlers inners (λ done. Unit {0}) result b told)

-- ---- the instructions

first_of_all : (start : ℕ) (sequence : Result (List Placed) Fault) (asks : List Placed → List (Check Fault)) (f : Fault) → ((instrs : List Placed) → IsFirstFault (jump_checks start instrs instrs) f → IsFirstFault (asks instrs) f)
    → IsFirstFault (asked_of (at_place start sequence) (λ instrs. jump_checks start instrs instrs)) f → IsFirstFault (asked_of (at_place start sequence) asks) f
first_of_all start (Ok instrs) asks f begins first = begins instrs first
first_of_all start (Err g) asks f begins first = first

four_parts : (a b c d : List (Check Fault)) → a ++ (b ++ (c ++ d)) ≡ ((a ++ b) ++ c) ++ d
four_parts a b c d = sym (append_assoc a b (c ++ d)) ∙ sym (append_assoc (a ++ b) c d)

module _ (home : Home) (method : CutMember) (cut : CutPart) (at : ℕ) where
  abbrev part : CodePart
  part = part_of cut

  abbrev begin : ℕ
  begin = at + 14

  abbrev whole : List (Check Fault)
  whole = part_checks (home_seen home) (method_of method) at part

  abbrev front : List (Check Fault)
  front =
      check (at + 10) rules.CodeLength (IsTrue (nat_lt 0 (length part.code) && nat_lt (length part.code) 65536))
      ∷ check (at + 8) rules.Locals (IfSome (utf8_at home.pool.now method.desc) (λ text. units_at_call method.flags text ≤ part.max_locals))
      ∷ []

  asks : List Placed → List (Check Fault)
  asks instrs = instructions_checks (home_seen home) (method_of method) at part instrs

  -- behind the jumps
  abbrev its_operands : List Placed → List (Check Fault)
  its_operands instrs = operand_checks begin home.pool.now home.major part.max_locals instrs

  abbrev its_handlers : List Placed → List (Check Fault)
  its_handlers instrs = handlers_checks home.pool.now instrs (length part.code) (begin + length part.code + 2) part.handlers

  abbrev its_inners : List Placed → List (Check Fault)
  its_inners instrs =
      let s : Setting = record { pool = home.pool.now; max_locals = part.max_locals; max_stack = part.max_stack; code = instrs } in
      inners_checks s (entry_of (home_seen home) (method_of method) part) false (begin + length part.code + 2 + 8 * length part.handlers + 2) part.attrs

  abbrev behind : List Placed → List (Check Fault)
  behind instrs = its_operands instrs ++ (its_handlers instrs ++ its_inners instrs)

  asks_are : (instrs : List Placed) → asks instrs ≡ jump_checks begin instrs instrs ++ behind instrs
  unfolding asks
  asks_are instrs = sym (four_parts (jump_checks begin instrs instrs) (its_operands instrs) (its_handlers instrs) (its_inners instrs))

  begins : (f : Fault) (instrs : List Placed) → IsFirstFault (jump_checks begin instrs instrs) f → IsFirstFault (asks instrs) f
  begins f instrs first =
      rw (asks_are instrs) (stops {X = Unit {0}} {Y = Unit {0}} (jump_checks begin instrs instrs) (behind instrs) (λ done. Unit {0}) (λ done. Unit {0}) (Malformed f.at f.rule) first)

  whole_is : whole ≡ front ++ asked_of (at_place begin (decoded part.code)) asks
  unfolding asks
  whole_is = refl

  -- the length and the locals are as asked
  pub record FrontHolds : Type 0 where
    pub len : IsTrue (nat_lt 0 (length part.code) && nat_lt (length part.code) 65536)
    pub locals : IfSome (utf8_at home.pool.now method.desc) (λ text. units_at_call method.flags text ≤ part.max_locals)

  told_behind : (result : Result (Unit {0}) ClassFault) → FrontHolds → TellsDone (asked_of (at_place begin (decoded part.code)) asks) result → TellsDone whole result
  told_behind result holds told =
      rw whole_is (goes_on {X = Unit {0}} front (asked_of (at_place begin (decoded part.code)) asks) (λ done. Unit {0}) result (holds.len, (holds.locals, tt)) told)

  pub instrs_refused : (e : ClassFault) → FrontHolds → Tells {X = List Placed} (decoded_checks begin part.code) (λ instrs. decoded part.code ≡ Ok instrs) (Err e) → TellsDone whole (Err e)
  instrs_refused (Malformed place rule) holds told =
      told_behind (Err (Malformed place rule)) holds (first_of_all begin (decoded part.code) asks (fault place rule) (begins (fault place rule)) told)
  instrs_refused NoMemory holds told = tt
  instrs_refused (Version major minor) holds told = told

  pub parts_told : (instrs : List Placed) (result : Result (Unit {0}) ClassFault) → FrontHolds → AllHold (decoded_checks begin part.code) → decoded part.code ≡ Ok instrs → TellsDone (behind instrs) result → TellsDone whole result
  parts_told instrs result holds all is told =
      let jumps : AllHold (jump_checks begin instrs instrs) = rw is at all in
      told_behind result holds (rw (is, asks_are instrs) (goes_on {X = Unit {0}} (jump_checks begin instrs instrs) (behind instrs) (λ done. Unit {0}) result jumps told))
