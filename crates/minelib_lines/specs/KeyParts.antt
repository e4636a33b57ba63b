-- Values of header keys.
use Rattle.std.specs.Prelude.{ℕ, List, decimal}
use Rattle.pit_units.specs.Decimal.{shortest}
use Rattle.minelib_lines.specs.HeaderTable.{key_text}
use Rattle.minelib_lines.specs.declared.header_key.HeaderKey.{HeaderKey}
use Rattle.minelib_lines.specs.declared.key_values.KeyValue.{KeyValue}
use Rattle.minelib_lines.specs.declared.key_values.KeyValue.TheVariants as value
use Rattle.minelib_lines.specs.declared.key_values.KeyValues.{KeyValues}

-- the value as text
abbrev pub value_text : KeyValue → List ℕ
value_text (value.Text text) = text.now
value_text (value.Whole n) = decimal n
value_text (value.Decimal m) = shortest m

-- the text of a key's value, from the values of all keys
abbrev pub text_in : KeyValues → HeaderKey → List ℕ
text_in v = key_text v.problem.now v.blocks (record {
  name = v.name.now;
  periods = v.periods;
  destinations = v.destinations;
  resources = v.resources;
  rate = v.rate;
})
