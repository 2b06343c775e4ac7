-- Words for private functions, beside the definitions of the file of the same name in specs/.
use Rattle.std.specs.Prelude.{List, Option, Result, Ok, Err}
use Rattle.class_model.specs.Header.{header_of}
use Rattle.class_model.specs.declared.class_file.ClassFile.{ClassFile}
use Rattle.class_model.specs.declared.class_file.MethodAt.{MethodAt}
use Rattle.class_model.specs.declared.frame.Frame.{Frame}
use Rattle.class_tree.specs.Headers.{Classes, Headers}
use Rattle.type_rules.specs.Verified.{AreTypedMethods}
use Rattle.type_rules.specs.declared.fault.VerifyFault.{VerifyFault}
use Rattle.type_rules.specs.declared.fault.VerifyFault.TheVariants as faults
use Rattle.verify_folder.specs.Verifying.{MethodsFail, VerifiesAs, failure_of}

-- of the methods of a class
abbrev pub ClassVerifies :
    Headers → ClassFile → Result (List (Option (List Frame))) VerifyFault → Type 0
ClassVerifies headers class (Ok typed) = AreTypedMethods headers class class.methods typed
ClassVerifies headers class (Err (faults.Unverified name method offset rule)) =
    MethodsFail headers class class.methods (header_of class).methods
    (failure_of name method offset rule)
ClassVerifies headers class (Err faults.NoMemory) = Unit {0}

-- of the methods of a class, whose frames are not kept
abbrev pub ClassIsTyped : Headers → ClassFile → Result Unit VerifyFault → Type 0
ClassIsTyped headers class (Ok done) =
    (typed : List (Option (List Frame))) × AreTypedMethods headers class class.methods typed
ClassIsTyped headers class (Err (faults.Unverified name method offset rule)) =
    MethodsFail headers class class.methods (header_of class).methods
    (failure_of name method offset rule)
ClassIsTyped headers class (Err faults.NoMemory) = Unit {0}

-- of the method at its numbers, whose frames are not kept
abbrev pub MethodIsTyped : Classes → MethodAt → Result Unit VerifyFault → Type 0
MethodIsTyped classes at (Ok done) = (frames : List Frame) × VerifiesAs classes at (Ok frames)
MethodIsTyped classes at (Err fault) = VerifiesAs classes at (Err fault)
