-- What the reader's context says of a table.
use Rattle.class_model.specs.Frames.{Setting}
use Rattle.map_frames.specs.declared.context.Context.{Context}
use Rattle.map_frames.specs.declared.walk.Walk.{Walk}
use Rattle.map_frames.specs.Inner.Steps.{Standing}

-- the setting that a context is
abbrev pub setting_of : Context → Setting
setting_of context = record {
  pool = context.pool.now;
  max_locals = context.max_locals;
  max_stack = context.max_stack;
  code = context.code;
}

-- where a walk stands
abbrev pub standing_of : Walk → Standing
standing_of walk = record { from = walk.from; locals = walk.locals; rest = walk.rest }
