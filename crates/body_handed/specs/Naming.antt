-- What an image has that a call can name. Assumes nothing: these are definitions.
use Rattle.image.specs.declared.Tables.{Tables}
use Rattle.handed.specs.Handed.{Named}

-- how many variants, patterns and bindings, by the places of its tables
abbrev pub named_by : Tables → Named
named_by tables = record { variants = tables.variants.count; patterns = tables.patterns.count; bindings = tables.bindings.count }
