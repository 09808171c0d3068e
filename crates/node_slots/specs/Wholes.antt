-- What the holder of a whole store knows of this one.
use Rattle.std.specs.Prelude.{length, None}
use Rattle.node_store.specs.Contents.{Content}
use Rattle.node_slots.specs.Stores.{Plain, slots, content_of, count_at, generation_at, is_set}

-- No swap is half made.
abbrev pub content_view : Plain → Content
content_view p = record {
  orders = record { variables = p.variables_at; elements = p.elements_at };
  limit = length p.words;
  word = slots p;
  function = content_of p;
  count = count_at p;
  generation = generation_at p;
  marked = is_set p.marks;
  pinned = is_set p.pins;
  sweeping = p.sweeping;
  half = None;
}
