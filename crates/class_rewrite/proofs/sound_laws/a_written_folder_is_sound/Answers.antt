use Rattle.std.proofs.Common.{arith}
use Rattle.class_rewrite.proofs.sound_laws.a_written_folder_is_sound.Goals as goal

pub returns : goal.returns
returns c = λ r files w verified.
    let well = c.rewritten_items_are_emitted_code.ensures r files w verified in
    let linked = c.written_methods_are_linked.ensures in
    record {
      class_files = c.written_classes_are_class_files.ensures r files w verified
          (λ at v is. record { emitted = well.emitted at v is; deep = omega (arith, is.is.shallow); short = is.is.short });
      methods = λ at v host now here. record {
        instrs = linked.instrs r files w at v host now verified here;
        handlers = linked.handlers r files w at v host now verified here;
        stated = c.frames_of_rewritten_methods_are_linked.ensures r files w at v host now verified here (well.emitted at v here.is);
        access = λ is. c.rewritten_items_may_use_what_they_name.ensures r files w verified at v host now here is.is.framed.state;
        whole = λ is. (c.rewritten_methods_have_sound_frames.ensures r files w at v host is verified here.is_host).whole;
      };
      constructors = λ class file above s added super. linked.constructors r files w class file above s verified added super;
    }
