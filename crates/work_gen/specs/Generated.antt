-- Generated work: a class G with methods of four kinds, the class P whose objects they make, and a script that calls each method once (this
-- project's profile).
use Rattle.std.specs.Prelude.{◌≡◌, Bool, true, ℕ, zero, suc, ◌+◌, ◌*◌, ◌/◌, ◌%◌, ◌==◌, List, [], ◌∷◌, ◌++◌, codes, decimal, Some, None, if◌then◌else◌}
use Rattle.class_model.specs.Methods.{code}
use Rattle.class_model.specs.Names.{init}
use Rattle.class_model.specs.Pool.{Constants}
use Rattle.class_model.specs.declared.class_file.Attr.TheVariants.{Code}
use Rattle.class_model.specs.declared.class_file.ClassFile.{ClassFile}
use Rattle.class_model.specs.declared.class_file.CodePart.{CodePart}
use Rattle.class_model.specs.declared.class_file.Field.{Field}
use Rattle.class_model.specs.declared.class_file.Handler.{Handler}
use Rattle.class_model.specs.declared.class_file.InnerAttr.{InnerAttr}
use Rattle.class_model.specs.declared.class_file.Method.{Method}
use Rattle.class_model.specs.declared.pool.Const.{Const}
use Rattle.class_model.specs.declared.pool.Const.TheVariants.{Utf8, Class, NameAndType, Fieldref, Methodref}
use Rattle.class_tree.specs.Names.{object, throwable}
use Rattle.work_gen.specs.BaseLibrary.{no_parameters, takes_object}
use Rattle.work_gen.specs.Values.{method}
use Rattle.work_gen.specs.declared.choices.Choice.{Choice}
use Rattle.work_gen.specs.declared.choices.Kind.{Kind}
use Rattle.work_gen.specs.declared.choices.Kind.TheVariants.{Adds, Loops, Branches, Locks}
use Rattle.work_gen.specs.declared.generated.Work.{Work}

-- ---- draws

-- the state behind a state; a draw moves the state on and gives its highest bits
abbrev pub behind : ℕ → ℕ
behind state = (state * 1103515245 + 12345) % 2147483648

abbrev pub draw : ℕ → ℕ
draw state = behind state / 65536

-- the kind of a method by a number below 4
abbrev pub kind_of : ℕ → Kind
kind_of number =
    if number == 0 then Adds else if number == 1 then Loops else if number == 2 then Branches else Locks

-- two draws choose a kind and an argument
abbrev pub choice_at : ℕ → Choice
choice_at state =
    record { kind = kind_of (draw state % 4); argument = draw (behind state) % 10 }

-- so many choices from a state on
abbrev pub choices : ℕ → ℕ → List Choice
choices state zero = []
choices state (suc count) = choice_at state ∷ choices (behind (behind state)) count

-- what is made of each choice, by its number from the first on
abbrev pub indexed : {X : Type 0} → (ℕ → Choice → List X) → ℕ → List Choice → List X
indexed make number [] = []
indexed make number (choice ∷ others) = make number choice ++ indexed make (suc number) others

-- ---- the class P

abbrev pub point_pool : Constants
point_pool =
    None
    ∷ Some (Utf8 (codes "P")) ∷ Some (Class 1) ∷ Some (Utf8 object) ∷ Some (Class 3)
    ∷ Some (Utf8 init) ∷ Some (Utf8 (codes "(II)V")) ∷ Some (Utf8 code)
    ∷ Some (Utf8 no_parameters) ∷ Some (NameAndType 5 8) ∷ Some (Methodref 4 9)
    ∷ Some (Utf8 (codes "x")) ∷ Some (Utf8 (codes "I")) ∷ Some (NameAndType 11 12)
    ∷ Some (Fieldref 2 13)
    ∷ Some (Utf8 (codes "y")) ∷ Some (NameAndType 15 12) ∷ Some (Fieldref 2 16)
    ∷ Some (Utf8 (codes "()I")) ∷ []

abbrev pub field : ℕ → ℕ → Field
field name desc = record { flags = 0; name = name; desc = desc; attrs = [] }

abbrev pub plain_code : ℕ → ℕ → List ℕ → CodePart
plain_code max_stack max_locals bytes = record {
  max_stack = max_stack;
  max_locals = max_locals;
  code = bytes;
  handlers = [];
  attrs = [];
}

-- aload_0, invokespecial java/lang/Object.<init>, aload_0, iload_1, putfield x, aload_0, iload_2, putfield y, return
abbrev pub point_init : CodePart
point_init =
    plain_code 2 3
    (0x2A ∷ 0xB7 ∷ 0 ∷ 10 ∷ 0x2A ∷ 0x1B ∷ 0xB5 ∷ 0 ∷ 14 ∷ 0x2A ∷ 0x1C ∷ 0xB5 ∷ 0 ∷ 17 ∷ 0xB1 ∷ [])

-- aload_0, getfield y, ireturn
abbrev pub point_y : CodePart
point_y = plain_code 1 1 (0x2A ∷ 0xB4 ∷ 0 ∷ 17 ∷ 0xAC ∷ [])

-- a class file of version 52.0; its own constant is the second, and its superclass the fourth
abbrev pub class_with : Constants → ℕ → List Field → List Method → ClassFile
class_with pool flags fields methods = record {
  major = 52;
  minor = 0;
  pool = pool;
  flags = flags;
  this_class = 2;
  super_class = 4;
  interfaces = [];
  fields = fields;
  methods = methods;
  attrs = [];
}

abbrev pub point : ClassFile
point =
    class_with point_pool 0x0020 (field 11 12 ∷ field 15 12 ∷ [])
    (method 0 5 6 (Code 7 point_init ∷ []) ∷ method 0 15 18 (Code 7 point_y ∷ []) ∷ [])

-- ---- the class G

-- the constants before the names of the methods, of which the first is the thirtieth
abbrev pub work_constants : Constants
work_constants =
    None
    ∷ Some (Utf8 (codes "G")) ∷ Some (Class 1) ∷ Some (Utf8 object) ∷ Some (Class 3)
    ∷ Some (Utf8 code) ∷ Some (Utf8 (codes "(I)I"))
    ∷ Some (Utf8 (codes "P")) ∷ Some (Class 7)
    ∷ Some (Utf8 init) ∷ Some (Utf8 (codes "(II)V")) ∷ Some (NameAndType 9 10)
    ∷ Some (Methodref 8 11)
    ∷ Some (Utf8 (codes "x")) ∷ Some (Utf8 (codes "I")) ∷ Some (NameAndType 13 14)
    ∷ Some (Fieldref 8 15)
    ∷ Some (Utf8 (codes "y")) ∷ Some (Utf8 (codes "()I")) ∷ Some (NameAndType 17 18)
    ∷ Some (Methodref 8 19)
    ∷ Some (Utf8 (codes "L")) ∷ Some (Class 21) ∷ Some (Utf8 (codes "use"))
    ∷ Some (Utf8 takes_object) ∷ Some (NameAndType 23 24) ∷ Some (Methodref 22 25)
    ∷ Some (Utf8 (codes "StackMapTable")) ∷ Some (Utf8 throwable) ∷ Some (Class 28) ∷ []

abbrev pub method_name : ℕ → List ℕ
method_name number = codes "m" ++ decimal number

abbrev pub name_constant : ℕ → Const
name_constant number = Utf8 (method_name number)

abbrev pub work_pool : List Choice → Constants
work_pool chosen =
    work_constants ++ indexed (λ number choice. Some (name_constant number) ∷ []) 0 chosen

-- a StackMapTable attribute of these bytes, if there are any
abbrev pub frames_of : List ℕ → List InnerAttr
frames_of [] = []
frames_of (byte ∷ bytes) = record { name = 27; bytes = byte ∷ bytes } ∷ []

-- code of four stack entries and so many locals, with these handlers and frames
abbrev pub part_of : ℕ → List ℕ → List Handler → List ℕ → CodePart
part_of max_locals bytes handlers frames = record {
  max_stack = 4;
  max_locals = max_locals;
  code = bytes;
  handlers = handlers;
  attrs = frames_of frames;
}

-- new P, dup, iload_0, iconst_2, P.<init>, astore_1, aload_1, getfield x, aload_1, invokevirtual y, iadd, ireturn
abbrev adds_code : CodePart
adds_code =
    part_of 2
    (0xBB ∷ 0 ∷ 8 ∷ 0x59 ∷ 0x1A ∷ 0x05 ∷ 0xB7 ∷ 0 ∷ 12 ∷ 0x4C ∷ 0x2B ∷ 0xB4 ∷ 0 ∷ 16 ∷ 0x2B
    ∷ 0xB6 ∷ 0 ∷ 20 ∷ 0x60 ∷ 0xAC ∷ []) [] []

-- iconst_0, istore_1, iconst_0, istore_2, iload_2, iload_0, if_icmpge 32, new P, dup, iload_2, iload_2, P.<init>, astore_3, iload_1, aload_3,
-- getfield x, iadd, istore_1, iinc 2 1, goto 4, iload_1, ireturn; at 4 two locals more, Int and Int; at 32 one less
abbrev loops_code : CodePart
loops_code =
    part_of 4
    (0x03 ∷ 0x3C ∷ 0x03 ∷ 0x3D ∷ 0x1C ∷ 0x1A ∷ 0xA2 ∷ 0 ∷ 26 ∷ 0xBB ∷ 0 ∷ 8 ∷ 0x59 ∷ 0x1C ∷ 0x1C
    ∷ 0xB7 ∷ 0 ∷ 12 ∷ 0x4E ∷ 0x1B ∷ 0x2D ∷ 0xB4 ∷ 0 ∷ 16 ∷ 0x60 ∷ 0x3C ∷ 0x84 ∷ 2 ∷ 1 ∷ 0xA7
    ∷ 0xFF ∷ 0xE7 ∷ 0x1B ∷ 0xAC ∷ [])
    []
    (0 ∷ 2 ∷ 253 ∷ 0 ∷ 4 ∷ 1 ∷ 1 ∷ 250 ∷ 0 ∷ 27 ∷ [])

-- new P, dup, iconst_1, iconst_2, P.<init>, astore_1, iload_0, iconst_2, if_icmpne 18, bipush 9, ireturn, iload_0, iconst_1, if_icmpne 27, aload_1,
-- invokestatic L.use, aload_1, getfield x, ireturn; at 18 one local more, P; at 27 the same
abbrev branches_code : CodePart
branches_code =
    part_of 2
    (0xBB ∷ 0 ∷ 8 ∷ 0x59 ∷ 0x04 ∷ 0x05 ∷ 0xB7 ∷ 0 ∷ 12 ∷ 0x4C ∷ 0x1A ∷ 0x05 ∷ 0xA0 ∷ 0 ∷ 6 ∷ 0x10
    ∷ 9 ∷ 0xAC ∷ 0x1A ∷ 0x04 ∷ 0xA0 ∷ 0 ∷ 7 ∷ 0x2B ∷ 0xB8 ∷ 0 ∷ 26 ∷ 0x2B ∷ 0xB4 ∷ 0 ∷ 16 ∷ 0xAC
    ∷ [])
    []
    (0 ∷ 2 ∷ 252 ∷ 0 ∷ 18 ∷ 7 ∷ 0 ∷ 8 ∷ 8 ∷ [])

abbrev handler : ℕ → ℕ → Handler
handler start end = record { start = start; end = end; at = 21; catch_type = 0 }

-- new P, dup, iload_0, iconst_0, P.<init>, astore_1, aload_1, dup, astore_2, monitorenter, aload_1, getfield x, aload_2, monitorexit, ireturn,
-- astore_3, aload_2, monitorexit, aload_3, athrow; at 21 the locals Int, P and Object, and a Throwable on the stack
abbrev locks_code : CodePart
locks_code =
    part_of 4
    (0xBB ∷ 0 ∷ 8 ∷ 0x59 ∷ 0x1A ∷ 0x03 ∷ 0xB7 ∷ 0 ∷ 12 ∷ 0x4C ∷ 0x2B ∷ 0x59 ∷ 0x4D ∷ 0xC2 ∷ 0x2B
    ∷ 0xB4 ∷ 0 ∷ 16 ∷ 0x2C ∷ 0xC3 ∷ 0xAC ∷ 0x4E ∷ 0x2C ∷ 0xC3 ∷ 0x2D ∷ 0xBF ∷ [])
    (handler 14 20 ∷ handler 21 24 ∷ [])
    (0 ∷ 1 ∷ 255 ∷ 0 ∷ 21 ∷ 0 ∷ 3 ∷ 1 ∷ 7 ∷ 0 ∷ 8 ∷ 7 ∷ 0 ∷ 4 ∷ 0 ∷ 1 ∷ 7 ∷ 0 ∷ 29 ∷ [])

abbrev pub kind_code : Kind → CodePart
kind_code Adds = adds_code
kind_code Loops = loops_code
kind_code Branches = branches_code
kind_code Locks = locks_code

-- public and static
abbrev pub work_method : ℕ → Choice → Method
work_method number choice = method 0x0009 (30 + number) 6 (Code 5 (kind_code choice.kind) ∷ [])

abbrev pub work_methods : List Choice → List Method
work_methods chosen = indexed (λ number choice. work_method number choice ∷ []) 0 chosen

abbrev pub work : List Choice → ClassFile
work chosen = class_with (work_pool chosen) 0x0021 [] (work_methods chosen)

abbrev pub generated_folder : List Choice → List ClassFile
generated_folder chosen = work chosen ∷ point ∷ []

-- ---- the script

-- the answer to the call of L.use, which the kind with branches makes for 1
abbrev pub answer_text : Choice → List ℕ
answer_text choice = answer choice.kind (choice.argument == 1) where
  answer : Kind → Bool → List ℕ
  answer Branches true = codes "return\n"
  answer kind other = []

abbrev pub call_text : ℕ → Choice → List ℕ
call_text number choice =
    codes "call G " ++ method_name number ++ codes " (I)I i:" ++ decimal choice.argument
    ++ codes "\n" ++ answer_text choice

abbrev pub generated_script : List Choice → List ℕ
generated_script chosen = indexed call_text 0 chosen ++ codes "stop\n"

-- ---- the whole

-- the class files and the script of so many choices by draws from a number
pub record IsWork (number size : ℕ) (given : Work) : Type 0 where
  pub folder : given.folder ≡ generated_folder (choices number size)
  pub script : given.script ≡ generated_script (choices number size)
